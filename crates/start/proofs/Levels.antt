-- Two levels are in the order of the numbers that they stand for: so comparing levels is comparing m · 10^t with n · 10^s.
use Prim.Native.Nat.{ℕ, zero, suc, ◌+◌, ◌*◌, ◌^◌, ◌≤◌, ◌<◌}
use mathlib.Core.Path.{◌≡◌, refl, sym, ap₂, ◌∙◌}
use mathlib.Core.Bool.{Bool, true, false, not, ◌&&◌, ◌||◌}
use mathlib.Core.Logic.{◌⊎◌, inl, inr, ⊎_swap}
use native.Mathlib.Omega.{arith}
use native.Mathlib.Nat.{mul_assoc, mul-one, suc-mul, mul-lt-mul_of_pos_right, lt_of_mul-lt-mul_right}
use lib.Dec.{eqb, leb, ltb}
use lib.Pow.{pow-add}
use lib.IntN.{ℤ, pos, negsuc, nat_abs, ◌*ℤ◌}
use lib.Signed.{lt_z}
use borrow.Author.Tests.{ltb-true, ltb-false, eqb-true, eqb-false, lt-ltb, le-ltb, lt-leb, le-leb}
use Rattle.decimal.proofs.Laws.{ten_pos}
use Rattle.start.specs.Decision.{negative, mantissa_limit, Grown, Levelled}

-- two tests that hold together
ltb_same : (a b c d : ℕ) → (a < b → c < d) → (c < d → a < b) → ltb a b ≡ ltb c d
ltb_same a b c d f g = go (ltb a b) (ltb c d) refl refl
  where
    go : (t u : Bool) → ltb a b ≡ t → ltb c d ≡ u → t ≡ u
    go true true p q = refl
    go true false p q = absurd (omega (arith, f (ltb-true a b p), ltb-false c d q))
    go false true p q = absurd (omega (arith, g (ltb-true c d q), ltb-false a b p))
    go false false p q = refl

-- what the other tests say, by this one both ways round
pub equal_by_order : (a b : ℕ) → eqb a b ≡ (not (ltb a b) && not (ltb b a))
equal_by_order a b = go (eqb a b) refl
  where
    go : (t : Bool) → eqb a b ≡ t → t ≡ (not (ltb a b) && not (ltb b a))
    go true e = let same = eqb-true a b e in rw (le-ltb a b (omega arith), le-ltb b a (omega arith))
    go false e = apart (ltb a b) (ltb b a) refl refl
      where
        apart : (t u : Bool) → ltb a b ≡ t → ltb b a ≡ u → false ≡ (not t && not u)
        apart true u p q = refl
        apart false true p q = refl
        apart false false p q = absurd (eqb-false a b e (omega (arith, ltb-false a b p, ltb-false b a q)))

pub not_equal_by_order : (a b : ℕ) → not (eqb a b) ≡ (ltb a b || ltb b a)
not_equal_by_order a b = rw (equal_by_order a b) (go (ltb a b) (ltb b a))
  where
    go : (t u : Bool) → not (not t && not u) ≡ (t || u)
    go true u = refl
    go false true = refl
    go false false = refl

pub at_most_by_order : (a b : ℕ) → leb a b ≡ not (ltb b a)
at_most_by_order a b = go (ltb b a) refl
  where
    go : (t : Bool) → ltb b a ≡ t → leb a b ≡ not t
    go true e = lt-leb a b (ltb-true b a e)
    go false e = le-leb a b (ltb-false b a e)

-- the order of two numbers, by their signs and magnitudes
abbrev below : Bool → ℕ → Bool → ℕ → Bool
below false x false y = ltb x y
below false x true y = false
below true x false y = true
below true x true y = ltb y x

-- ---- levels

-- where one of two is no larger than a mantissa may be, what they have grown to is in their order
grown_order : (x y a b : ℕ) → Grown x a → Grown y b → (x < mantissa_limit) ⊎ (y < mantissa_limit) → ltb a b ≡ ltb x y
grown_order x y a b g h = go g.as_far h.as_far
  where
    go : (a ≡ x) ⊎ ((mantissa_limit ≤ a) × (mantissa_limit ≤ x)) → (b ≡ y) ⊎ ((mantissa_limit ≤ b) × (mantissa_limit ≤ y))
        → (x < mantissa_limit) ⊎ (y < mantissa_limit) → ltb a b ≡ ltb x y
    go (inl p) (inl q) s = ap₂ ltb p q
    go (inl p) (inr q) (inl s) = lt-ltb a b (omega arith) ∙ sym (lt-ltb x y (omega arith))
    go (inl p) (inr q) (inr s) = absurd (omega arith)
    go (inr p) (inl q) (inl s) = absurd (omega arith)
    go (inr p) (inl q) (inr s) = le-ltb a b (omega arith) ∙ sym (le-ltb x y (omega arith))
    go (inr p) (inr q) (inl s) = absurd (omega arith)
    go (inr p) (inr q) (inr s) = absurd (omega arith)

-- what is not 0 does not become 0
grown_some : (x a : ℕ) → Grown x a → 0 < x → 0 < a
grown_some x a g s = go g.as_far
  where
    go : (a ≡ x) ⊎ ((mantissa_limit ≤ a) × (mantissa_limit ≤ x)) → 0 < a
    go (inl p) = omega arith
    go (inr p) = omega arith

level_order : (m n : Bool) (x y r q : ℕ) → Levelled m x r → Levelled n y q → (x < mantissa_limit) ⊎ (y < mantissa_limit) → (m ≡ true → 0 < x)
    → (n ≡ true → 0 < y) → ltb r q ≡ below m x n y
level_order false false x y r q l k s f g =
    ltb_same r q l.size k.size (λ h. omega (arith, l.level, k.level)) (λ h. omega (arith, l.level, k.level))
    ∙ grown_order x y l.size k.size l.grown k.grown s
level_order false true x y r q l k s f g = le-ltb r q (omega (arith, l.level, k.level))
level_order true false x y r q l k s f g =
    lt-ltb r q (omega (arith, l.level, k.level, l.grown.most, grown_some x l.size l.grown (f refl)))
level_order true true x y r q l k s f g =
    ltb_same r q k.size l.size (λ h. omega (arith, l.level, k.level)) (λ h. omega (arith, l.level, k.level))
    ∙ grown_order y x k.size l.size k.grown l.grown (⊎_swap s)

-- ---- the numbers that they stand for

-- a product of what is above 0 is above 0
pub product_some : (n p : ℕ) → 0 < p → (k : ℕ) × (suc n * p ≡ suc k)
product_some n (suc p) h = (n * suc p + p, suc-mul n (suc p) ∙ omega arith)
product_some n zero h = absurd (omega arith)

scaled_order : (x y : ℤ) (p q : ℕ) → 0 < p → 0 < q → lt_z (x *ℤ pos p) (y *ℤ pos q) ≡ below (negative x) (nat_abs x * p) (negative y) (nat_abs y * q)
scaled_order (pos a) (pos b) p q f g = refl
scaled_order (pos a) (negsuc b) p q f g = rw (product_some b q g).1
scaled_order (negsuc a) (pos b) p q f g = rw (product_some a p f).1
scaled_order (negsuc a) (negsuc b) p q f g =
    rw ((product_some a p f).1, (product_some b q g).1)
    (ltb_same (product_some b q g).0 (product_some a p f).0 (suc (product_some b q g).0) (suc (product_some a p f).0) (λ h. omega arith) (λ h. omega arith))

-- a factor that is not 0 changes no order
below_times : (m n : Bool) (x y p : ℕ) → 0 < p → below m (x * p) n (y * p) ≡ below m x n y
below_times false false x y p f = ltb_same (x * p) (y * p) x y (lt_of_mul-lt-mul_right p) (λ h. mul-lt-mul_of_pos_right h f)
below_times false true x y p f = refl
below_times true false x y p f = refl
below_times true true x y p f = ltb_same (y * p) (x * p) y x (lt_of_mul-lt-mul_right p) (λ h. mul-lt-mul_of_pos_right h f)

below_is : (x y : ℤ) → below (negative x) (nat_abs x) (negative y) (nat_abs y) ≡ lt_z x y
below_is (pos a) (pos b) = refl
below_is (pos a) (negsuc b) = refl
below_is (negsuc a) (pos b) = refl
below_is (negsuc a) (negsuc b) = ltb_same (suc b) (suc a) b a (λ h. omega arith) (λ h. omega arith)

pub times_order : (x y : ℤ) (p : ℕ) → 0 < p → lt_z (x *ℤ pos p) (y *ℤ pos p) ≡ lt_z x y
times_order x y p f =
    scaled_order x y p p f f ∙ below_times (negative x) (negative y) (nat_abs x) (nat_abs y) p f ∙ below_is x y

-- m · 10^(d + c) is m · 10^d, 10^c times
parted : (m t d c : ℕ) → t ≡ d + c → m * 10 ^ t ≡ (m * 10 ^ d) * 10 ^ c
parted m t d c e = rw (e, pow-add 10 d c) (sym (mul_assoc m (10 ^ d) (10 ^ c)))

magnitude_some : (x : ℤ) (p : ℕ) → 0 < p → negative x ≡ true → 0 < nat_abs x * p
magnitude_some (pos n) p f h = absurd (let z : ◌≡◌ {A = ℕ} 0 1 = cc in omega arith)
magnitude_some (negsuc n) p f h = omega (arith, (product_some n p f).1)

-- Two numbers x / 10^s and y / 10^t, and as many digits after the point as both have, c: levels with the digits that each lacks are in the order of
-- x · 10^t and y · 10^s.
module _ (x y : ℤ) (s t c d e : ℕ) (more : t ≡ d + c) (more' : s ≡ e + c) (x-small : nat_abs x < mantissa_limit) (y-small : nat_abs y < mantissa_limit) where
  no_more : (m k : ℕ) → k ≡ 0 → m < mantissa_limit → m * 10 ^ k < mantissa_limit
  no_more m k z h = rw (z, mul-one m) h

  one_small : (d ≡ 0) ⊎ (e ≡ 0) → (nat_abs x * 10 ^ d < mantissa_limit) ⊎ (nat_abs y * 10 ^ e < mantissa_limit)
  one_small (inl z) = inl (no_more (nat_abs x) d z x-small)
  one_small (inr z) = inr (no_more (nat_abs y) e z y-small)

  pub levels_order : (r q : ℕ) → (d ≡ 0) ⊎ (e ≡ 0) → Levelled (negative x) (nat_abs x * 10 ^ d) r → Levelled (negative y) (nat_abs y * 10 ^ e) q
      → ltb r q ≡ lt_z (x *ℤ pos (10 ^ t)) (y *ℤ pos (10 ^ s))
  levels_order r q z l k =
      level_order (negative x) (negative y) (nat_abs x * 10 ^ d) (nat_abs y * 10 ^ e) r q l k (one_small z)
      (magnitude_some x (10 ^ d) (ten_pos d)) (magnitude_some y (10 ^ e) (ten_pos e))
      ∙ sym (below_times (negative x) (negative y) (nat_abs x * 10 ^ d) (nat_abs y * 10 ^ e) (10 ^ c) (ten_pos c))
      ∙ ap₂ (λ (a b : ℕ). below (negative x) a (negative y) b) (sym (parted (nat_abs x) t d c more)) (sym (parted (nat_abs y) s e c more'))
      ∙ sym (scaled_order x y (10 ^ t) (10 ^ s) (ten_pos t) (ten_pos s))
