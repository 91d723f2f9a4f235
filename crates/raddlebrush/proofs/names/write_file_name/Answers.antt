-- `write_file_name` meets its contract: a kind that is neither has no name.
use mathlib.Core.Path.{sym, ◌∙◌}
use Rattle.counts.proofs.Results.{refused_plainly}
use Rattle.counts.specs.declared.Reason.TheVariants.{OutOfRange}
use Rattle.raddlebrush.proofs.NoKind.{no_name, was_neither}
use Rattle.raddlebrush.proofs.names.write_file_name.Goals as goal

pub returns-in_err-kind : goal.returns-in_err-kind
returns-in_err-kind c =
    let a = c.args in
    let neither = was_neither _ _ _ _ (sym c.try_from.ensures ∙ c.in_err-kind.was) in
    rw (refused_plainly (λ n. n) c.from_residual.result OutOfRange c.from_residual.ensures)
    (no_name a.max a.kind a.number _ a.out.now neither)
