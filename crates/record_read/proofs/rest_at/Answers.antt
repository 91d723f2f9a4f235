-- `record_read::rest_at` meets its contract.
use native.Mathlib.Omega.{arith}
use Rattle.moment.proofs.Moments.{moment_room}
use Rattle.record_read.specs.Reading.{rest_read}
use Rattle.record_read.proofs.Rules.{reads}
use Rattle.record_read.proofs.rest_at.Goals as goal

pub returns-in_default : goal.returns-in_default
unfolding rest_read
returns-in_default c = search reads depth 9

pub overflow_add-end : goal.overflow_add-end
overflow_add-end c = omega (arith, moment_room _ _ _ _ _ _ (omega arith) c.moment_after.ensures c.in-Some.is)

pub overflow_add-result : goal.overflow_add-result
overflow_add-result c =
    let read = c.moment_after.ensures in
    omega (arith, moment_room _ _ _ _ _ _ (omega arith) read c.in-Some.is)

pub returns : goal.returns
unfolding rest_read
returns c = search reads depth 9

pub returns-then-not-has_at : goal.returns-then-not-has_at
unfolding rest_read
returns-then-not-has_at c = search reads depth 9

pub returns-then-length-gt-TEXT_BYTES : goal.returns-then-length-gt-TEXT_BYTES
unfolding rest_read
returns-then-length-gt-TEXT_BYTES c = search reads depth 9
