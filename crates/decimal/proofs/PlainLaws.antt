-- The width of a number without leading zeros is the least from 1 on that it fits, and the one that a loop over powers of ten finds.
use Prim.Native.Nat.{ℕ, zero, suc, ◌+◌, ◌-◌, ◌^◌, ◌≤◌, ◌<◌}
use mathlib.Core.Path.{◌≡◌, refl, subst}
use mathlib.Core.Bool.{Bool, true, false, cond}
use mathlib.Core.Logic.{⊎_elim}
use native.Mathlib.Nat.{pow-suc, pow-le-pow_right, eq-or-lt_of_le, lt_of_not-le}
use native.Mathlib.Omega.{arith}
use lib.Dec.{ltb}
use borrow.Author.Tests.{ltb-true, ltb-false}
use Rattle.decimal.specs.Digits.{width_from, plain_width}

-- r is the least width from w on that n fits; that n fits the last width tried is asked for where r must be wide enough
record Least (more w n r : ℕ) : Type 0 where
  pub from : w ≤ r
  pub least : (k : ℕ) → w ≤ k → n < 10 ^ k → r ≤ k
  pub holds : n < 10 ^ (w + more) → n < 10 ^ r

at_once : (more w n : ℕ) → n < 10 ^ w → Least more w n w
at_once more w n h = record { from = omega arith; least = λ k low _. low; holds = λ _. h }

last : (w n : ℕ) → Least 0 w n w
last w n = record { from = omega arith; least = λ k low _. low; holds = λ h. subst (λ (k : ℕ). n < 10 ^ k) (omega arith) h }

wider : (more w n r : ℕ) → 10 ^ w ≤ n → Least more (suc w) n r → Least (suc more) w n r
wider more w n r h f = record {
  from = omega (arith, f.from);
  least = λ k low fits.
      ⊎_elim
      (λ (e : w ≡ k). absurd (omega (arith, subst (λ (j : ℕ). 10 ^ j ≤ n) e h)))
      (λ (l : w < k). f.least k l fits)
      (eq-or-lt_of_le low);
  holds = λ g. f.holds (subst (λ (k : ℕ). n < 10 ^ k) (omega arith) g);
}

least_of : (more w n : ℕ) → Least more w n (width_from more w n)
unfolding width_from
least_of zero w n = last w n
least_of (suc more) w n = go (least_of more (suc w) n) (ltb n (10 ^ w)) refl
  where
    go : Least more (suc w) n (width_from more (suc w) n) → (b : Bool) → ltb n (10 ^ w) ≡ b → Least (suc more) w n (cond b w (width_from more (suc w) n))
    go f true t = at_once (suc more) w n (ltb-true n (10 ^ w) t)
    go f false t = wider more w n _ (ltb-false n (10 ^ w) t) f

-- a number has no more digits than it counts
short : (n : ℕ) → n < 10 ^ n
short zero = omega arith
short (suc n) = omega (arith, short n, pow-suc 10 n)

below_suc : (n : ℕ) → n < 10 ^ suc n
below_suc n = omega (arith, short n, pow-suc 10 n)

pub plain_some : (n : ℕ) → 1 ≤ plain_width n
unfolding plain_width
plain_some n = (least_of n 1 n).from

pub plain_fits : (n : ℕ) → n < 10 ^ plain_width n
unfolding plain_width
plain_fits n = (least_of n 1 n).holds (subst (λ (k : ℕ). n < 10 ^ k) (omega arith) (below_suc n))

pub plain_le : (n w : ℕ) → 1 ≤ w → n < 10 ^ w → plain_width n ≤ w
unfolding plain_width
plain_le n w some fits = (least_of n 1 n).least w some fits

-- a width that is too narrow
pub plain_more : (n w : ℕ) → 10 ^ w ≤ n → w < plain_width n
plain_more n w h =
    lt_of_not-le
    (λ (le : plain_width n ≤ w).
    let ten : 0 < 10 = omega arith in
    let p : 10 ^ plain_width n ≤ 10 ^ w = pow-le-pow_right ten le in
    omega (arith, plain_fits n))

-- no leading zero: one digit fewer is too narrow
pub plain_least : (n : ℕ) → 1 ≤ n → 10 ^ (plain_width n - 1) ≤ n
plain_least n some = go (plain_width n - 1) (omega (arith, plain_some n))
  where
    go : (k : ℕ) → plain_width n ≡ suc k → 10 ^ k ≤ n
    go zero e = some
    go (suc k) e =
        let h : 10 ^ suc k < suc n = lt_of_not-le (λ (fits : suc n ≤ 10 ^ suc k). omega (arith, plain_le n (suc k) (omega arith) fits)) in
        omega arith
