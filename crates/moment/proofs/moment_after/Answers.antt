-- `moment::moment_after` meets its contract.
use native.Mathlib.Omega.{arith}
use Rattle.labelled.proofs.Fields.{read_room}
use Rattle.moment.specs.Reading.{moment_after}
use Rattle.moment.proofs.Moments.{moments}
use Rattle.moment.proofs.moment_after.Goals as goal

pub returns-in_default : goal.returns-in_default
unfolding moment_after
returns-in_default c = search moments depth 9

pub overflow_add-at : goal.overflow_add-at
overflow_add-at c = omega (arith, read_room _ _ _ 8 _ _ (omega arith) c.field_after.ensures c.in-Some.is)

pub overflow_add-at-2 : goal.overflow_add-at-2
overflow_add-at-2 c = omega (arith, read_room _ _ _ 8 _ _ (omega arith) c.field_after.ensures c.in-Some.is)

pub returns-in_default-time_after : goal.returns-in_default-time_after
unfolding moment_after
returns-in_default-time_after c = search moments depth 9

pub returns-then-is_real : goal.returns-then-is_real
unfolding moment_after
returns-then-is_real c = search moments depth 9

pub returns-else-is_real : goal.returns-else-is_real
unfolding moment_after
returns-else-is_real c = search moments depth 9
