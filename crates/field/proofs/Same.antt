-- Laws of `same` and `has_at`: what stands at a place, and the turn of a loop that compares.
use mathlib.Core.Path.{◌≡◌, refl, sym, ap, ap₂, ◌∙◌}
use mathlib.Core.Bool.{Bool, true, false, true≢false, ◌&&◌, and-false}
use mathlib.Core.List.{List, [], ◌∷◌, ◌++◌}
use Prim.Native.Nat.{ℕ, suc, ◌+◌, ◌≤◌, ◌<◌}
use native.Mathlib.Omega.{arith}
use lib.Dec.{eqb}
use lib.ListN.{length, drop}
use lib.Pointwise.{pointwise}
use borrow.Author.Tests.{eqb-true, eqb-false, eq-eqb, ne_eqb}
use Rattle.laws.proofs.Choose.{and_left, and_right}
use Rattle.field.specs.Bytes.{same, has_at}
use Rattle.field.specs.Part.{part}
use Rattle.field.proofs.Parts.{length_part, part_is, is_part}

pub same_refl : (xs : List ℕ) → same xs xs ≡ true
unfolding same
same_refl [] = refl
same_refl (x ∷ xs) = rw (eq-eqb x x refl, same_refl xs)

eqb_turned : (x y : ℕ) → eqb y x ≡ eqb x y
eqb_turned x y = go (eqb x y) refl
  where
    go : (b : Bool) → eqb x y ≡ b → eqb y x ≡ b
    go true e = eq-eqb y x (sym (eqb-true x y e))
    go false e = ne_eqb y x (λ p. eqb-false x y e (sym p))

-- what the library finds of two slices
pub same_is : (xs ys : List ℕ) → pointwise eqb ys xs ≡ same xs ys
unfolding same
same_is [] [] = refl
same_is [] (y ∷ ys) = refl
same_is (x ∷ xs) [] = refl
same_is (x ∷ xs) (y ∷ ys) = ap₂ ◌&&◌ (eqb_turned x y) (same_is xs ys)

pub same_true : (xs ys : List ℕ) → same xs ys ≡ true → xs ≡ ys
unfolding same
same_true [] [] h = refl
same_true [] (y ∷ ys) h = absurd (true≢false (sym h))
same_true (x ∷ xs) [] h = absurd (true≢false (sym h))
same_true (x ∷ xs) (y ∷ ys) h =
    ap₂ (λ (a : ℕ) (l : List ℕ). a ∷ l)
    (eqb-true x y (and_left (eqb x y) (same xs ys) h))
    (same_true xs ys (and_right (eqb x y) (same xs ys) h))

-- lists of different lengths differ
pub same_length : (xs ys : List ℕ) → (length xs ≡ length ys → ⊥) → same xs ys ≡ false
unfolding same
same_length [] [] h = absurd (h refl)
same_length [] (y ∷ ys) h = refl
same_length (x ∷ xs) [] h = refl
same_length (x ∷ xs) (y ∷ ys) h = rw (same_length xs ys (λ e. h (ap suc e))) (and-false (eqb x y))

-- ---- w stands at a place exactly where the bytes from there on are w and what follows it

module _ (s : List ℕ) (at : ℕ) (w : List ℕ) where
  pub has_part : has_at s at w ≡ true → part s at (length w) ≡ w
  unfolding has_at
  has_part t = same_true (part s at (length w)) w t

  pub has_then : has_at s at w ≡ true → drop at s ≡ w ++ drop (at + length w) s
  has_then t = is_part s at w (length w) refl (at + length w) refl (has_part t)

  pub then_has : (ys : List ℕ) → drop at s ≡ w ++ ys → has_at s at w ≡ true
  unfolding has_at
  then_has ys h = rw (part_is s at w (length w) refl ys h) (same_refl w)

  -- a word that stands there ends within the list
  pub has_room : 0 < length w → has_at s at w ≡ true → at + length w ≤ length s
  has_room some t = omega (arith, ap length (has_part t), length_part s at (length w))

  -- too few bytes
  pub has_short : length s < at + length w → 0 < length w → has_at s at w ≡ false
  unfolding has_at
  has_short h some = same_length (part s at (length w)) w (λ e. omega (arith, length_part s at (length w)))

-- past the end stands the empty word alone
pub has_past : (s : List ℕ) (at : ℕ) (w : List ℕ) → length s < at → has_at s at w ≡ eqb (length w) 0
unfolding has_at same part
has_past s at [] h = refl
has_past s at (x ∷ xs) h =
    has_short s at (x ∷ xs) (omega arith) (omega arith)
    ∙ sym (ne_eqb (suc (length xs)) 0 (λ e. omega arith))
