-- Laws of comparing numbers by exact value: of two exactly one of three, an order that goes on from number to number, and nothing changed by trailing zeros
-- or by taking both ten times.
use Prim.Native.Nat.{ℕ, ◌+◌, ◌*◌, ◌^◌, ◌<◌}
use mathlib.Core.Path.{◌≡◌, refl, sym, ap, ap₂, ◌∙◌}
use mathlib.Core.Bool.{Bool, true, false, not, false≢true}
use mathlib.Core.Logic.{◌⊎◌, ◌↔◌, inl, inr}
use native.Mathlib.Omega.{arith}
use native.Mathlib.Nat.{mul_assoc, mul_comm}
use lib.Pow.{pow-add}
use lib.IntN.{ℤ, pos, negsuc, ◌*ℤ◌}
use lib.Signed.{lt_z}
use borrow.Author.Tests.{not-true}
use Rattle.laws.proofs.Choose.{and_left, and_right}
use Rattle.decimal.proofs.Laws.{ten_pos}
use Rattle.grammar.specs.Statement.{Operator, Number}
use Rattle.grammar.specs.Statement.Operator.{equal, not_equal, above, below, at_least, at_most}
use Rattle.start.specs.Due.{scaled, NumberHolds, with_zeros, ten_times}
use Rattle.start.specs.Decision.{by_order, number_holds}
use Rattle.start.proofs.Levels.{product_some, times_order}
use Rattle.start.proofs.Tested.{one_way, less_then_less, not_then_not, number_exactly}

-- ---- numbers at a common scale

-- one factor after the other
times_times : (x : ℤ) (p q : ℕ) → 0 < p → (x *ℤ pos p) *ℤ pos q ≡ x *ℤ pos (p * q)
times_times (pos n) p q f = ap pos (mul_assoc n p q)
times_times (negsuc n) p q f =
    let k = product_some n p f in
    rw k.1 (rw (← k.1) (rw mul_assoc))

-- in another order
times_turned : (x : ℤ) (p q : ℕ) → 0 < p → 0 < q → (x *ℤ pos p) *ℤ pos q ≡ (x *ℤ pos q) *ℤ pos p
times_turned x p q f g = times_times x p q f ∙ ap (λ (k : ℕ). x *ℤ pos k) (mul_comm p q) ∙ sym (times_times x q p g)

-- the first number is less
abbrev less : Number → Number → Bool
less v k = lt_z (scaled v k) (scaled k v)

-- a test by a factor more on both sides
less_times : (v k : Number) (p : ℕ) → 0 < p → lt_z (scaled v k *ℤ pos p) (scaled k v *ℤ pos p) ≡ less v k
less_times v k p f = times_order (scaled v k) (scaled k v) p f

module _ (a b c : Number) where
  -- a among three numbers: with the digits after the point of both others
  abbrev among : Number → Number → Number → ℤ
  among x y z = scaled x y *ℤ pos (10 ^ z.scale)

  among_turned : (x y z : Number) → among x y z ≡ among x z y
  among_turned x y z = times_turned x.mantissa (10 ^ y.scale) (10 ^ z.scale) (ten_pos y.scale) (ten_pos z.scale)

  first_two : lt_z (among a b c) (among b a c) ≡ less a b
  first_two = less_times a b (10 ^ c.scale) (ten_pos c.scale)

  last_two : lt_z (among b a c) (among c a b) ≡ less b c
  last_two = ap₂ lt_z (among_turned b a c) (among_turned c a b) ∙ less_times b c (10 ^ a.scale) (ten_pos a.scale)

  outer_two : lt_z (among a b c) (among c a b) ≡ less a c
  outer_two = ap (λ (x : ℤ). lt_z x (among c a b)) (among_turned a b c) ∙ less_times a c (10 ^ b.scale) (ten_pos b.scale)

  less_on : less a b ≡ true → less b c ≡ true → less a c ≡ true
  less_on h k = sym outer_two ∙ less_then_less (among a b c) (among b a c) (among c a b) (first_two ∙ h) (last_two ∙ k)

  not_on : less a b ≡ false → less b c ≡ false → less a c ≡ false
  not_on h k = sym outer_two ∙ not_then_not (among a b c) (among b a c) (among c a b) (first_two ∙ h) (last_two ∙ k)

-- ---- the laws

untrue : {t : Bool} → not t ≡ true → t ≡ false
untrue {t} h = not-true t h

test : (o : Operator) (v k : Number) → NumberHolds o v k → by_order o (less v k) (less k v) ≡ true
unfolding number_holds
test o v k h = (number_exactly o v k).1 h

holding : (o : Operator) (v k : Number) → by_order o (less v k) (less k v) ≡ true → NumberHolds o v k
unfolding number_holds
holding o v k h = (number_exactly o v k).0 h

pub transitive : (o : Operator) → (o ≡ not_equal → ⊥) → (a b c : Number) → NumberHolds o a b → NumberHolds o b c → NumberHolds o a c
transitive equal f a b c h k =
    let x = test equal a b h in
    let y = test equal b c k in
    holding equal a c (rw (
      not_on a b c (untrue (and_left (not (less a b)) (not (less b a)) x)) (untrue (and_left (not (less b c)) (not (less c b)) y)),
      not_on c b a (untrue (and_right (not (less b c)) (not (less c b)) y)) (untrue (and_right (not (less a b)) (not (less b a)) x)),
    ))
transitive not_equal f a b c h k = absurd (f refl)
transitive above f a b c h k = holding above a c (less_on c b a (test above b c k) (test above a b h))
transitive below f a b c h k = holding below a c (less_on a b c (test below a b h) (test below b c k))
transitive at_least f a b c h k = holding at_least a c (rw (not_on a b c (untrue (test at_least a b h)) (untrue (test at_least b c k))))
transitive at_most f a b c h k = holding at_most a c (rw (not_on c b a (untrue (test at_most b c k)) (untrue (test at_most a b h))))

module _ (v k : Number) where
  one_of : (t u : Bool) → less v k ≡ t → less k v ≡ u → NumberHolds below v k ⊎ (NumberHolds equal v k ⊎ NumberHolds above v k)
  one_of true u p q = inl (holding below v k p)
  one_of false true p q = inr (inr (holding above v k q))
  one_of false false p q = inr (inl (holding equal v k (rw (p, q))))

  pub one_of_three : NumberHolds below v k ⊎ (NumberHolds equal v k ⊎ NumberHolds above v k)
  one_of_three = one_of (less v k) (less k v) refl refl

  pub not_below_and_equal : NumberHolds below v k → NumberHolds equal v k → ⊥
  not_below_and_equal h e =
      false≢true (sym (untrue (and_left (not (less v k)) (not (less k v)) (test equal v k e))) ∙ test below v k h)

  pub not_below_and_above : NumberHolds below v k → NumberHolds above v k → ⊥
  not_below_and_above h g = false≢true (sym (one_way (scaled v k) (scaled k v) (test below v k h)) ∙ test above v k g)

  pub not_equal_and_above : NumberHolds equal v k → NumberHolds above v k → ⊥
  not_equal_and_above e g =
      false≢true (sym (untrue (and_right (not (less v k)) (not (less k v)) (test equal v k e))) ∙ test above v k g)

  pub at_least_is : NumberHolds at_least v k ↔ (NumberHolds above v k ⊎ NumberHolds equal v k)
  at_least_is = (λ h. go (less k v) refl (untrue (test at_least v k h)), back)
    where
      go : (t : Bool) → less k v ≡ t → less v k ≡ false → NumberHolds above v k ⊎ NumberHolds equal v k
      go true e n = inl (holding above v k e)
      go false e n = inr (holding equal v k (rw (n, e)))

      back : NumberHolds above v k ⊎ NumberHolds equal v k → NumberHolds at_least v k
      back (inl h) = holding at_least v k (rw (one_way (scaled k v) (scaled v k) (test above v k h)))
      back (inr h) = holding at_least v k (and_left (not (less v k)) (not (less k v)) (test equal v k h))

  pub at_most_is : NumberHolds at_most v k ↔ (NumberHolds below v k ⊎ NumberHolds equal v k)
  at_most_is = (λ h. go (less v k) refl (untrue (test at_most v k h)), back)
    where
      go : (t : Bool) → less v k ≡ t → less k v ≡ false → NumberHolds below v k ⊎ NumberHolds equal v k
      go true e n = inl (holding below v k e)
      go false e n = inr (holding equal v k (rw (e, n)))

      back : NumberHolds below v k ⊎ NumberHolds equal v k → NumberHolds at_most v k
      back (inl h) = holding at_most v k (rw (one_way (scaled v k) (scaled k v) (test below v k h)))
      back (inr h) = holding at_most v k (and_right (not (less v k)) (not (less k v)) (test equal v k h))

-- numbers that are in the same order both ways round
same_order : (o : Operator) (v k v' k' : Number) → less v' k' ≡ less v k → less k' v' ≡ less k v → NumberHolds o v' k' ↔ NumberHolds o v k
same_order o v k v' k' p q = (
  λ h. holding o v k (sym (ap₂ (by_order o) p q) ∙ test o v' k' h),
  λ h. holding o v' k' (ap₂ (by_order o) p q ∙ test o v k h),
)

-- a number with z zeros more after the point, and y after another's
zeros_less : (z y : ℕ) (v k : Number) → less (with_zeros z v) (with_zeros y k) ≡ less v k
zeros_less z y v k =
    ap₂ lt_z (moved v.mantissa z k.scale y) (moved k.mantissa y v.scale z ∙ ap (λ (n : ℕ). scaled k v *ℤ pos n) (mul_comm (10 ^ y) (10 ^ z)))
    ∙ less_times v k (10 ^ z * 10 ^ y) (rw (← (pow-add 10 z y)) (ten_pos (z + y)))
  where
    moved : (m : ℤ) (a s b : ℕ) → (m *ℤ pos (10 ^ a)) *ℤ pos (10 ^ (s + b)) ≡ (m *ℤ pos (10 ^ s)) *ℤ pos (10 ^ a * 10 ^ b)
    moved m a s b =
        rw (pow-add 10 s b)
        (sym (times_times (m *ℤ pos (10 ^ a)) (10 ^ s) (10 ^ b) (ten_pos s))
        ∙ ap (λ (x : ℤ). x *ℤ pos (10 ^ b)) (times_turned m (10 ^ a) (10 ^ s) (ten_pos a) (ten_pos s))
        ∙ times_times (m *ℤ pos (10 ^ s)) (10 ^ a) (10 ^ b) (ten_pos a))

pub zeros_change_nothing : (o : Operator) (z y : ℕ) (v k : Number) → NumberHolds o (with_zeros z v) (with_zeros y k) ↔ NumberHolds o v k
zeros_change_nothing o z y v k = same_order o v k (with_zeros z v) (with_zeros y k) (zeros_less z y v k) (zeros_less y z k v)

ten_less : (v k : Number) → less (ten_times v) (ten_times k) ≡ less v k
ten_less v k =
    ap₂ lt_z (times_turned v.mantissa 10 (10 ^ k.scale) (omega arith) (ten_pos k.scale))
    (times_turned k.mantissa 10 (10 ^ v.scale) (omega arith) (ten_pos v.scale))
    ∙ less_times v k 10 (omega arith)

pub ten_times_both : (o : Operator) (v k : Number) → NumberHolds o (ten_times v) (ten_times k) ↔ NumberHolds o v k
ten_times_both o v k = same_order o v k (ten_times v) (ten_times k) (ten_less v k) (ten_less k v)
