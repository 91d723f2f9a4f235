-- Laws of tests (`&&`, `||`) and of choices by a test (`cond`), in the form in which a function with branches asks for them: the answer x is
-- one case's value, and the test is a callee's answer r, or an order or an equation of numbers. With these, `search choose` proves a function
-- whose word in specs/ is a nest of `cond`s with the tests of the code.
use Prim.Native.Nat.{ℕ, ◌+◌, ◌≤◌, ◌<◌}
use mathlib.Core.Path.{◌≡◌, refl, sym, ◌∙◌, ap, ap₂, subst}
use mathlib.Core.Bool.{Bool, true, false, cond, ◌&&◌, ◌||◌, false≢true}
use mathlib.Core.List.{List}
use lib.ListN.{get_or}
use lib.Dec.{eqb, leb, ltb}
use borrow.Author.Rules.{rules}
use borrow.Author.Tests.{lt-ltb, le-ltb, le-leb, lt-leb, eq-eqb, ne_eqb}

-- ---- the two halves of a test that holds

pub and_left : (a b : Bool) → (a && b) ≡ true → a ≡ true
and_left true b h = refl
and_left false b h = h

pub and_right : (a b : Bool) → (a && b) ≡ true → b ≡ true
and_right true b h = h
and_right false b h = absurd (false≢true h)

pub halves : (a b : Bool) → (a && b) ≡ true → (a ≡ true) × (b ≡ true)
halves a b h = (and_left a b h, and_right a b h)

pub and_both : {a b : Bool} → a ≡ true → b ≡ true → (a && b) ≡ true
and_both p q = rw (p, q)

-- ---- a choice, by what is known of its test

module _ (A : Type 0) (x y z : A) where
  pub yes_is : (t : Bool) → t ≡ true → x ≡ y → x ≡ cond t y z
  yes_is t p e = rw p e

  pub no_is : (t : Bool) → t ≡ false → x ≡ z → x ≡ cond t y z
  no_is t p e = rw p e

  pub yes_call : (t r : Bool) → r ≡ true → r ≡ t → x ≡ y → x ≡ cond t y z
  yes_call t r p d e = yes_is t (sym d ∙ p) e

  pub no_call : (t r : Bool) → r ≡ false → r ≡ t → x ≡ z → x ≡ cond t y z
  no_call t r p d e = no_is t (sym d ∙ p) e

  pub yes_eq : (a b : ℕ) → a ≡ b → x ≡ y → x ≡ cond (eqb a b) y z
  yes_eq a b p e = yes_is (eqb a b) (eq-eqb a b p) e

  pub no_eq : (a b : ℕ) → (a ≡ b → ⊥) → x ≡ z → x ≡ cond (eqb a b) y z
  no_eq a b p e = no_is (eqb a b) (ne_eqb a b p) e

  pub yes_lt : (a b : ℕ) → a < b → x ≡ y → x ≡ cond (ltb a b) y z
  yes_lt a b p e = yes_is (ltb a b) (lt-ltb a b p) e

  pub no_lt : (a b : ℕ) → b ≤ a → x ≡ z → x ≡ cond (ltb a b) y z
  no_lt a b p e = no_is (ltb a b) (le-ltb a b p) e

  pub yes_le : (a b : ℕ) → a ≤ b → x ≡ y → x ≡ cond (leb a b) y z
  yes_le a b p e = yes_is (leb a b) (le-leb a b p) e

  pub no_le : (a b : ℕ) → b < a → x ≡ z → x ≡ cond (leb a b) y z
  no_le a b p e = no_is (leb a b) (lt-leb a b p) e

  -- the same where the number tested is a callee's answer r
  pub yes_eq_of : (a b r : ℕ) → r ≡ a → r ≡ b → x ≡ y → x ≡ cond (eqb a b) y z
  yes_eq_of a b r d p e = yes_eq a b (sym d ∙ p) e

  pub no_eq_of : (a b r : ℕ) → r ≡ a → (r ≡ b → ⊥) → x ≡ z → x ≡ cond (eqb a b) y z
  no_eq_of a b r d p e = no_eq a b (λ q. p (d ∙ q)) e

  pub yes_le_of : (a b r : ℕ) → r ≡ a → r ≤ b → x ≡ y → x ≡ cond (leb a b) y z
  yes_le_of a b r d p e = yes_le a b (subst (λ (n : ℕ). n ≤ b) d p) e

  pub no_le_of : (a b r : ℕ) → r ≡ a → b < r → x ≡ z → x ≡ cond (leb a b) y z
  no_le_of a b r d p e = no_le a b (subst (λ (n : ℕ). b < n) d p) e

-- a fact of either way is one of the choice
pub choice : {A : Type 0} (P : A → Type 0) (b : Bool) {x y : A} → (b ≡ true → P x) → (b ≡ false → P y) → P (cond b x y)
choice P true f g = f refl
choice P false f g = g refl

-- ---- tests joined by & and |, of callees' answers

pub both : (a b a' b' : Bool) → a ≡ a' → b ≡ b' → (a && b) ≡ (a' && b')
both a b a' b' p q = ap₂ ◌&&◌ p q

pub either : (a b a' b' : Bool) → a ≡ a' → b ≡ b' → (a || b) ≡ (a' || b')
either a b a' b' p q = ap₂ ◌||◌ p q

pub same_eq : (a b a' b' : ℕ) → a ≡ a' → b ≡ b' → eqb a b ≡ eqb a' b'
same_eq a b a' b' p q = ap₂ eqb p q

pub same_le : (a b a' b' : ℕ) → a ≡ a' → b ≡ b' → leb a b ≡ leb a' b'
same_le a b a' b' p q = ap₂ leb p q

-- ---- a byte that a callee read at a place that another callee found

pub byte_of : (s : List ℕ) (r a b : ℕ) → r ≡ get_or s a 0 → a ≡ b → r ≡ get_or s b 0
byte_of s r a b p q = p ∙ ap (λ (n : ℕ). get_or s n 0) q

pub next_of : (a b : ℕ) → a ≡ b → a + 1 ≡ b + 1
next_of a b p = ap (λ (n : ℕ). n + 1) p

pub ruleset choose = (
  rules,
  yes_call,
  no_call,
  yes_eq,
  no_eq,
  yes_lt,
  no_lt,
  yes_le,
  no_le,
  yes_eq_of,
  no_eq_of,
  yes_le_of,
  no_le_of,
  byte_of,
  next_of,
  both,
  either,
  same_eq,
  same_le,
)
