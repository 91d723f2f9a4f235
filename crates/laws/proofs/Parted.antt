-- A number parted by another: so many times that one, and a rest below it. What subtracting finds is what dividing gives.
use Prim.Native.Nat.{ℕ, ◌+◌, ◌*◌, ◌/◌, ◌%◌, ◌<◌}
use mathlib.Core.Path.{◌≡◌, sym, ap, ◌∙◌}
use lib.Arith.{digits_div, digits_mod}

pub parted : (q m r n : ℕ) → q * m + r ≡ n → r < m → (q ≡ n / m) × (r ≡ n % m)
parted q m r n e h = (sym (digits_div q h) ∙ ap (λ (k : ℕ). k / m) e, sym (digits_mod q h) ∙ ap (λ (k : ℕ). k % m) e)
