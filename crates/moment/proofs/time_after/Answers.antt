-- `moment::time_after` meets its contract.
use native.Mathlib.Omega.{arith}
use Rattle.labelled.proofs.Fields.{read_room}
use Rattle.moment.specs.Reading.{time_after}
use Rattle.moment.proofs.Moments.{moments}
use Rattle.moment.proofs.time_after.Goals as goal

pub returns-in_default : goal.returns-in_default
unfolding time_after
returns-in_default c = search moments depth 9

pub overflow_add-after_hour : goal.overflow_add-after_hour
overflow_add-after_hour c = omega (arith, read_room _ _ _ 2 _ _ (omega arith) c.field_after.ensures c.in-Some.is)

pub overflow_add-after_hour-2 : goal.overflow_add-after_hour-2
overflow_add-after_hour-2 c = omega (arith, read_room _ _ _ 2 _ _ (omega arith) c.field_after.ensures c.in-Some.is)

pub returns-in_default-field_after : goal.returns-in_default-field_after
unfolding time_after
returns-in_default-field_after c = search moments depth 9

pub overflow_add-after_hour-3 : goal.overflow_add-after_hour-3
overflow_add-after_hour-3 c =
    let read = c.field_after.ensures in
    omega (arith, read_room _ _ _ 2 _ _ (omega arith) read c.in-Some.is)

pub returns-in_default-field_after-2 : goal.returns-in_default-field_after-2
unfolding time_after
returns-in_default-field_after-2 c = search moments depth 9

pub hhmmss-requires : goal.hhmmss-requires
hhmmss-requires c = search moments depth 9

pub returns : goal.returns
unfolding time_after
returns c = search moments depth 9
