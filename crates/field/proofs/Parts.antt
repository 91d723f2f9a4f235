-- Laws of `part`.
use mathlib.Core.Path.{◌≡◌, sym, ap, ◌∙◌}
use mathlib.Core.List.{List, ◌∷◌, ◌++◌}
use Prim.Native.Nat.{ℕ, suc, ◌+◌, ◌-◌, ◌≤◌, ◌<◌, min}
use native.Mathlib.Omega.{arith}
use native.Mathlib.Numerals.{add-one}
use lib.ListN.{length, take, drop, get_or, length-take, length-drop, take-append-drop}
use lib.Seq.{drop-cons, get_or-drop, take_all, take-add, take_at, drop_at, drop-drop}
use Rattle.field.specs.Part.{part}

pub length_part : (s : List ℕ) (at w : ℕ) → length (part s at w) ≡ min w (length s - at)
unfolding part
length_part s at w = simp (length-take, length-drop)

pub length_part_in : (s : List ℕ) (at w : ℕ) → at + w ≤ length s → length (part s at w) ≡ w
length_part_in s at w h = omega (arith, length_part s at w)

-- a part that is the whole
pub part_all : (s : List ℕ) (w : ℕ) → length s ≤ w → part s 0 w ≡ s
unfolding part
part_all s w h = take_all w s h

-- the first byte of what stands at a place
pub head_at : (s : List ℕ) (at x : ℕ) (xs : List ℕ) → drop at s ≡ x ∷ xs → get_or s at 0 ≡ x
head_at s at x xs h =
    let e : at + 0 ≡ at = omega arith in
    sym (rw e at (get_or-drop at s 0 0)) ∙ ap (λ (l : List ℕ). get_or l 0 0) h

pub part_cons : (s : List ℕ) (at w : ℕ) → at < length s → part s at (suc w) ≡ get_or s at 0 ∷ part s (at + 1) w
unfolding part
part_cons s at w h = rw (add-one, drop-cons s at 0)

-- its first byte is the one at its place
pub first_byte : (s : List ℕ) (at w : ℕ) → at + w ≤ length s → 0 < w → get_or (part s at w) 0 0 ≡ get_or s at 0
first_byte s at w room l =
    let e : w ≡ suc (w - 1) = omega arith in
    rw (e, part_cons s at (w - 1) (omega arith))

-- two parts side by side are one
pub part_join : (s : List ℕ) (at v w : ℕ) → part s at (v + w) ≡ part s at v ++ part s (at + v) w
unfolding part
part_join s at v w = take-add v w (drop at s) ∙ ap (λ (l : List ℕ). take v (drop at s) ++ take w l) (drop-drop v at s)

-- ---- what stands at a place, and what follows it

module _ (s : List ℕ) (at : ℕ) (xs : List ℕ) (n : ℕ) (long : length xs ≡ n) where
  pub part_is : (ys : List ℕ) → drop at s ≡ xs ++ ys → part s at n ≡ xs
  unfolding part
  part_is ys h = rw h (take_at xs ys n long)

  pub rest_is : (ys : List ℕ) (k : ℕ) → k ≡ at + n → drop at s ≡ xs ++ ys → drop k s ≡ ys
  rest_is ys k e h = rw e (sym (drop-drop n at s) ∙ rw h (drop_at xs ys n long))

  pub is_part : (k : ℕ) → k ≡ at + n → part s at n ≡ xs → drop at s ≡ xs ++ drop k s
  unfolding part
  is_part k e h =
      sym (take-append-drop n (drop at s))
      ∙ ap (λ (l : List ℕ). l ++ drop n (drop at s)) h
      ∙ ap (λ (l : List ℕ). xs ++ l) (drop-drop n at s ∙ ap (λ (m : ℕ). drop m s) (sym e))
