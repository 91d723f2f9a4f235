-- A mantissa that is multiplied by ten step by step, up to where it is beyond every mantissa.
use Prim.Native.Nat.{ℕ, ◌+◌, ◌-◌, ◌*◌, ◌^◌, ◌≤◌, ◌<◌}
use mathlib.Core.Path.{◌≡◌, sym, ap, ◌∙◌}
use mathlib.Core.Bool.{Bool, true, false}
use mathlib.Core.Logic.{inr}
use native.Mathlib.Omega.{arith}
use native.Mathlib.Nat.{mul_assoc, mul-le-mul_left}
use lib.IntN.{ℤ, nat_abs}
use Rattle.decimal.proofs.Laws.{tenfold, ten_le}
use Rattle.start.specs.Decision.{negative, mantissa_limit, Grown, Levelled}

pub one_more : (m i r : ℕ) → r ≡ m * 10 ^ i → r * 10 ≡ m * 10 ^ (i + 1)
one_more m i r e = ap (λ (k : ℕ). k * 10) e ∙ mul_assoc m (10 ^ i) 10 ∙ ap (λ (k : ℕ). m * k) (sym (tenfold i))

-- what is beyond stays beyond
pub beyond : (m i by r : ℕ) → r ≡ m * 10 ^ i → i ≤ by → mantissa_limit ≤ r → r < 10 * mantissa_limit → Grown (m * 10 ^ by) r
beyond m i by r e l h s = record { as_far = inr (h, omega (arith, mul-le-mul_left m (ten_le i by l))); most = s }

-- ---- its level, by its sign. The mantissa m goes to a function as a word, and comes back as the number z, which is the same.

module _ (m z : ℤ) (same : z ≡ m) (size : ℕ) (is : size ≡ nat_abs z) where
  pub small_size : nat_abs m < mantissa_limit → size < mantissa_limit
  small_size h = rw (is ∙ ap nat_abs same) h

  module _ (by r : ℕ) (minus : Bool) (sign : minus ≡ negative z) (g : Grown (size * 10 ^ by) r) where
    its_size : Grown (nat_abs m * 10 ^ by) r
    its_size = rw (← (is ∙ ap nat_abs same)) g

    pub level_below : minus ≡ true → Levelled (negative m) (nat_abs m * 10 ^ by) (10 * mantissa_limit - r)
    level_below t = record { size = r; grown = its_size; level = rw (sym (sign ∙ ap negative same) ∙ t) (omega (arith, g.most)) }

    pub level_above : minus ≡ false → Levelled (negative m) (nat_abs m * 10 ^ by) (10 * mantissa_limit + r)
    level_above t = record { size = r; grown = its_size; level = rw (sym (sign ∙ ap negative same) ∙ t) (omega arith) }
