-- `calendar::part_of` meets its contract: a mask of 32 ones takes the remainder by 2 to the 32nd.
use Prim.Native.Nat.{ℕ, ◌*◌, ◌^◌, ◌<◌}
use native.Mathlib.Nat.{mul-le-mul_left, le_of_lt}
use native.Mathlib.Omega.{arith}
use lib.Bits.{and_mask, mask_lt}
use Rattle.calendar.proofs.part_of.Goals as goal

product_fits : (a b : ℕ) → a < 2 ^ 32 → b < 2 ^ 32 → a * b < 2 ^ 64
product_fits a b h k = omega (arith, mul-le-mul_left a (le_of_lt k))

pub overflow_mul-result : goal.overflow_mul-result
overflow_mul-result c = record { fits = product_fits c.args.n c.args.part (omega arith) (omega arith) }

pub overflow_cast-result-3 : goal.overflow_cast-result-3
overflow_cast-result-3 c = omega (arith, mask_lt (c.args.n * c.args.part) 32)

pub returns : goal.returns
returns c = and_mask (c.args.n * c.args.part) 32
