-- What an operator says of two numbers, as a test: by whether the first is less, and whether the second is.
use mathlib.Core.Path.{◌≡◌, refl, sym, ap, subst}
use mathlib.Core.Bool.{Bool, true, false, not, ◌&&◌, ◌||◌, false≢true}
use mathlib.Core.Logic.{◌↔◌}
use native.Mathlib.Omega.{arith}
use native.Mathlib.Nat.{le_antisymm}
use lib.Dec.{T, leb→le}
use lib.IntN.{ℤ, pos, negsuc}
use lib.Signed.{lt_z, le_z, ◌≤ℤ◌, ◌<ℤ◌, lt_z_yes, lt_z_no, <ℤ-≤ℤ_trans, clash_ℤ}
use borrow.Author.Tests.{ltb-true, le-ltb}
use Rattle.laws.proofs.Choose.{and_left, and_right}
use Rattle.grammar.specs.Statement.{Operator, Number}
use Rattle.grammar.specs.Statement.Operator.{equal, not_equal, above, below, at_least, at_most}
use Rattle.start.specs.Due.{scaled, NumberHolds}
use Rattle.start.specs.Decision.{number_holds}

-- ---- whole numbers

passed : (b : Bool) → b ≡ true → T b
passed b e = subst T (sym e) tt

is_true : (b : Bool) → T b → b ≡ true
is_true true t = refl
is_true false t = absurd t

less_is : (a b : ℤ) → lt_z a b ≡ true ↔ (a <ℤ b)
less_is a b = (λ e. lt_z_yes (passed (lt_z a b) e), λ h. is_true (lt_z a b) h.lt)

not_less_is : (a b : ℤ) → not (lt_z a b) ≡ true ↔ (b ≤ℤ a)
not_less_is a b = (λ e. lt_z_no (passed (not (lt_z a b)) e), go (lt_z a b) refl)
  where
    go : (t : Bool) → lt_z a b ≡ t → b ≤ℤ a → not t ≡ true
    go true e h = clash_ℤ (lt_z_yes (passed (lt_z a b) e)) h
    go false e h = refl

not_less : (a b : ℤ) → lt_z a b ≡ false → b ≤ℤ a
not_less a b e = (not_less_is a b).0 (rw e)

antisymmetric : (a b : ℤ) → T (le_z a b) → T (le_z b a) → a ≡ b
antisymmetric (pos a) (pos b) h k = ap pos (le_antisymm (leb→le a b h) (leb→le b a k))
antisymmetric (pos a) (negsuc b) h k = absurd h
antisymmetric (negsuc a) (pos b) h k = absurd k
antisymmetric (negsuc a) (negsuc b) h k = ap negsuc (le_antisymm (leb→le a b k) (leb→le b a h))

never_itself : (a b : ℤ) → a ≡ b → lt_z a b ≡ false
never_itself (pos a) b e = rw (← e) (le-ltb a a (omega arith))
never_itself (negsuc a) b e = rw (← e) (le-ltb a a (omega arith))

pub one_way : (a b : ℤ) → lt_z a b ≡ true → lt_z b a ≡ false
one_way (pos a) (pos b) h = le-ltb b a (omega (arith, ltb-true a b h))
one_way (pos a) (negsuc b) h = absurd (false≢true h)
one_way (negsuc a) (pos b) h = refl
one_way (negsuc a) (negsuc b) h = le-ltb a b (omega (arith, ltb-true b a h))

pub less_then_less : (a b c : ℤ) → lt_z a b ≡ true → lt_z b c ≡ true → lt_z a c ≡ true
less_then_less a b c h k = (less_is a c).1 (<ℤ-≤ℤ_trans ((less_is a b).0 h) (not_less c b (one_way b c k)))

pub not_then_not : (a b c : ℤ) → lt_z a b ≡ false → lt_z b c ≡ false → lt_z a c ≡ false
not_then_not a b c h k = go (lt_z a c) refl
  where
    go : (t : Bool) → lt_z a c ≡ t → t ≡ false
    go true e = clash_ℤ (<ℤ-≤ℤ_trans ((less_is a c).0 e) (not_less b c k)) (not_less a b h)
    go false e = refl

-- ---- the operators

-- neither less nor greater
same_is : (a b : ℤ) → (not (lt_z a b) && not (lt_z b a)) ≡ true ↔ (a ≡ b)
same_is a b = (
  λ h. antisymmetric a b ((not_less_is b a).0 (and_right (not (lt_z a b)) (not (lt_z b a)) h)).le
      ((not_less_is a b).0 (and_left (not (lt_z a b)) (not (lt_z b a)) h)).le,
  λ e. rw (never_itself a b e, never_itself b a (sym e)),
)

differ_is : (a b : ℤ) → (lt_z a b || lt_z b a) ≡ true ↔ (a ≡ b → ⊥)
differ_is a b = (λ h e. false≢true (rw (never_itself a b e, never_itself b a (sym e)) at h), go (lt_z a b) (lt_z b a) refl refl)
  where
    go : (t u : Bool) → lt_z a b ≡ t → lt_z b a ≡ u → (a ≡ b → ⊥) → (t || u) ≡ true
    go true u p q f = refl
    go false true p q f = refl
    go false false p q f = absurd (f ((same_is a b).0 (rw (p, q))))

-- the test that code makes is what P3 says
pub number_exactly : (o : Operator) (v k : Number) → number_holds o v k ≡ true ↔ NumberHolds o v k
unfolding number_holds
number_exactly equal v k = same_is (scaled v k) (scaled k v)
number_exactly not_equal v k = differ_is (scaled v k) (scaled k v)
number_exactly above v k = less_is (scaled k v) (scaled v k)
number_exactly below v k = less_is (scaled v k) (scaled k v)
number_exactly at_least v k = not_less_is (scaled v k) (scaled k v)
number_exactly at_most v k = not_less_is (scaled k v) (scaled v k)
