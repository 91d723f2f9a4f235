-- `start::is_same` meets its contract.
use mathlib.Core.Path.{◌∙◌}
use Rattle.start.proofs.Steps.{by_elements}
use Rattle.start.proofs.is_same.Goals as goal

pub returns : goal.returns
returns c = rw (← c.text_at.ensures) (c.eq.ensures ∙ by_elements _ _)
