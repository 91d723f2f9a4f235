-- `field::get32` meets its contract.
use native.Mathlib.Omega.{arith}
use native.Mathlib.Nat.{add-zero}
use Rattle.field.specs.Number.{get_w}
use Rattle.field.proofs.get32.Goals as goal

pub returns : goal.returns
unfolding get_w
returns c = simp add-zero (omega (arith, c.from_le_bytes.ensures))
