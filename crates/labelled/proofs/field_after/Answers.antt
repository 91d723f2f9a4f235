-- `labelled::field_after` meets its contract.
use mathlib.Core.Path.{sym, ◌∙◌}
use native.Mathlib.Omega.{arith}
use Rattle.field.proofs.Same.{has_room}
use Rattle.labelled.proofs.Fields.{eight, fields}
use Rattle.labelled.specs.Labelled.{field_after}
use Rattle.labelled.proofs.field_after.Goals as goal

pub overflow_add-at : goal.overflow_add-at
overflow_add-at c = omega (arith, has_room _ _ _ (omega arith) (sym c.has_at.ensures ∙ c.if-not-has_at.false))

pub returns-in_default : goal.returns-in_default
unfolding field_after
returns-in_default c = search fields depth 9

pub overflow_cast-result : goal.overflow_cast-result
overflow_cast-result c = omega (arith, eight _ _ _ (omega arith) (sym c.digits_at.ensures ∙ c.in-Some.is))

pub returns-then-not-has_at : goal.returns-then-not-has_at
unfolding field_after
returns-then-not-has_at c = search fields depth 9

pub returns : goal.returns
unfolding field_after
returns c = search fields depth 9
