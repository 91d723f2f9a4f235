-- `number::signed` meets its contract.
use native.Mathlib.Omega.{arith}
use lib.IntN.{pos, neg_ℤ}
use mir.Syntax.{w64}
use mir.ValLaws.{to_z_pos, to_z-of_z}
use Rattle.number.proofs.SignedLaws.{less, neg_fits}
use Rattle.number.proofs.signed.Goals as goal

pub overflow_sub-result : goal.overflow_sub-result
overflow_sub-result c =
    let m = c.args.m in
    rw (less m (omega arith)) (neg_fits m (omega arith))

pub returns-then-minus : goal.returns-then-minus
returns-then-minus c =
    let m = c.args.m in
    rw (c.if-minus.true, less m (omega arith)) (to_z-of_z w64 (neg_ℤ (pos m)) (neg_fits m (omega arith)))

pub returns-else-minus : goal.returns-else-minus
returns-else-minus c = rw c.if-minus.false (to_z_pos w64 c.args.m (omega arith))
