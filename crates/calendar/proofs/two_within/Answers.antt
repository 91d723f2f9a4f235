-- `calendar::two_within` meets its contract.
use native.Mathlib.Omega.{arith}
use Rattle.calendar.proofs.Places.{two_is, width_le}
use Rattle.calendar.proofs.two_within.Goals as goal

pub overflow_mul-width : goal.overflow_mul-width
overflow_mul-width c = omega (arith, width_le _ _ _ _ 42949700 c.requires.parted (omega arith) (omega arith))

pub returns : goal.returns
returns c = two_is _ _ _ _ _ _ _ _ c.requires.small.0 c.requires.parted c.part_of-place.ensures (omega arith) (omega arith) (omega arith) (omega arith)
