-- `statement::unexpected` meets its contract.
use mathlib.Core.Path.{ap, ◌∙◌}
use Rattle.counts.specs.Result.{refused_as}
use Rattle.counts.specs.Result.Result.{refused}
use Rattle.statement.proofs.unexpected.Goals as goal

pub returns : goal.returns
returns c = ap refused_as c.refused.ensures ∙ ap (λ n. refused n c.args.t.place) c.refusal_reason.ensures
