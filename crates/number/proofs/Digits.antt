-- The laws of a number's loops: what one turn does.
use Prim.Native.Nat.{ℕ, suc, ◌+◌, ◌-◌, ◌*◌, ◌^◌, ◌≤◌, ◌<◌}
use mathlib.Core.Path.{◌≡◌, refl, sym, ap, ◌∙◌}
use mathlib.Core.Bool.{Bool, true, false, cond}
use mathlib.Core.List.{List, [], ◌∷◌}
use native.Mathlib.Nat.{pow-suc, pow-le-pow_right, pow-succ', mul_assoc, add-mul, add_assoc, mul-one}
use native.Mathlib.Numerals.{add-one}
use native.Mathlib.Omega.{arith}
use lib.Dec.{eqb, ltb}
use Rattle.std.proofs.lemmas.Bool.Decides.{nat_tests}
use Rattle.std.specs.List.{position_or_len}
use Rattle.std.specs.declared.option.Option.{Option}
use Rattle.std.specs.declared.option.Option.TheVariants.{Some, None}
use lib.ListN.{length, get_or, take, drop, drop_of_length-le}
use lib.Seq.{drop-cons}
use Rattle.field.specs.Part.{part}
use Rattle.field.proofs.Parts.{part_cons}
use Rattle.decimal.specs.Digits.{value, is_digit}
use lib.IntN.{ℤ}
use Rattle.number.specs.Number.{digits_of, scale_of, signed_of, number_of}
use Rattle.number.specs.declared.Number.{Number}

-- m, and the bytes still to be read
unfoldable pub read_on : ℕ → List ℕ → ℕ
read_on m xs = m * 10 ^ length (digits_of xs) + value (digits_of xs)

horner : (m x k v : ℕ) → m * 10 ^ suc k + (x * 10 ^ k + v) ≡ (m * 10 + x) * 10 ^ k + v
horner m x k v =
    sym (ap (λ (n : ℕ). n + v) (add-mul (m * 10) x (10 ^ k) ∙ ap (λ (n : ℕ). n + x * 10 ^ k)
    (mul_assoc m 10 (10 ^ k) ∙ ap (λ (n : ℕ). m * n) (sym (pow-succ' 10 k))))
    ∙ add_assoc (m * 10 ^ suc k) (x * 10 ^ k) v)

a_digit : (m x : ℕ) (xs : List ℕ) → is_digit x ≡ true → read_on m (x ∷ xs) ≡ read_on (m * 10 + (x - 48)) xs
unfolding read_on digits_of value
a_digit m x xs e = rw (digits_of, e) (horner m (x - 48) (length (digits_of xs)) (value (digits_of xs)))

no_digit : (m x : ℕ) (xs : List ℕ) → is_digit x ≡ false → read_on m (x ∷ xs) ≡ read_on m xs
unfolding read_on digits_of
no_digit m x xs e = rw (digits_of, e)

module _ (s : List ℕ) (i : ℕ) where
  turn : i < length s → drop i s ≡ get_or s i 0 ∷ drop (i + 1) s
  turn l = rw (add-one, drop-cons s i 0 l)

  module _ (m : ℕ) {e : ℕ} (inv : read_on m (drop i s) ≡ e) where
    pub digit_on : (x : ℕ) → i < length s → is_digit (get_or s i 0) ≡ true → x ≡ get_or s i 0 - 48 → read_on (m * 10 + x) (drop (i + 1) s) ≡ e
    digit_on x l d q = rw q (sym (a_digit m _ _ d) ∙ ap (read_on m) (sym (turn l)) ∙ inv)

    pub other_on : i < length s → is_digit (get_or s i 0) ≡ false → read_on m (drop (i + 1) s) ≡ e
    other_on l d = sym (no_digit m _ _ d) ∙ ap (read_on m) (sym (turn l)) ∙ inv

    pub all_read : length s ≤ i → m ≡ e
    unfolding read_on digits_of value
    all_read l = sym (omega (arith, mul-one m)) ∙ (rw (drop_of_length-le s l) at inv)

-- the place of the point
abbrev point_at : List ℕ → ℕ
point_at xs = position_or_len (λ x. eqb x 46) xs

first : (n : ℕ) → n ≡ cond (ltb 0 (suc n)) (suc n - (0 + 1)) 0
first n = grind (arith, nat_tests)

later : (k n : ℕ) → cond (ltb k n) (n - (k + 1)) 0 ≡ cond (ltb (1 + k) (suc n)) (suc n - (1 + k + 1)) 0
later k n = grind (arith, nat_tests)

after_point : (xs : List ℕ) → scale_of xs ≡ cond (ltb (point_at xs) (length xs)) (length xs - (point_at xs + 1)) 0
unfolding scale_of
after_point [] = refl
after_point (x ∷ xs) = go (eqb x 46) refl (after_point xs)
  where
    go : (t : Bool) → eqb x 46 ≡ t → scale_of xs ≡ cond (ltb (point_at xs) (length xs)) (length xs - (point_at xs + 1)) 0
        → scale_of (x ∷ xs) ≡ cond (ltb (point_at (x ∷ xs)) (length (x ∷ xs))) (length (x ∷ xs) - (point_at (x ∷ xs) + 1)) 0
    go true e h = rw (scale_of, e) (first (length xs))
    go false e h = rw (scale_of, e) (h ∙ later (point_at xs) (length xs))

pub point_found : (xs : List ℕ) (i : ℕ) → Some i ≡ cond (ltb (point_at xs) (length xs)) (Some (point_at xs)) None → length xs - (i + 1) ≡ scale_of xs
point_found xs i h = rw (after_point xs) (go (ltb (point_at xs) (length xs)) h)
  where
    go : (t : Bool) → Some i ≡ cond t (Some (point_at xs)) None → length xs - (i + 1) ≡ cond t (length xs - (point_at xs + 1)) 0
    go true e = let d : i ≡ point_at xs = cc in rw d
    go false e = cc

pub no_point : (xs : List ℕ) → ◌≡◌ {A = Option ℕ} None (cond (ltb (point_at xs) (length xs)) (Some (point_at xs)) None) → 0 ≡ scale_of xs
no_point xs h = rw (after_point xs) (go (ltb (point_at xs) (length xs)) h)
  where
    go : (t : Bool) → ◌≡◌ {A = Option ℕ} None (cond t (Some (point_at xs)) None) → 0 ≡ cond t (length xs - (point_at xs + 1)) 0
    go true e = cc
    go false e = refl

-- where the loop begins
pub starts : (s : List ℕ) → read_on 0 s ≡ value (digits_of s)
unfolding read_on
starts s = omega arith

-- one digit more
pub grows : (m i x : ℕ) → m < 10 ^ i → x < 10 → m * 10 + x < 10 ^ (i + 1)
grows m i x h l =
    let e : 10 ^ (i + 1) ≡ 10 ^ i * 10 = ap (λ (k : ℕ). 10 ^ k) (add-one i) ∙ pow-suc 10 i in
    omega arith

-- a number of fewer than eighteen digits has room for one more
pub room : (m i w : ℕ) → m < 10 ^ i → i < w → w ≤ 18 → m < 10 ^ 17
room m i w h l k =
    let ten : 0 < 10 = omega arith in
    let le : i ≤ 17 = omega arith in
    let e : 10 ^ i ≤ 10 ^ 17 = pow-le-pow_right ten le in
    omega arith

pub most : (m i : ℕ) → m < 10 ^ i → i ≤ 18 → m < 10 ^ 18
most m i h l =
    let ten : 0 < 10 = omega arith in
    let e : 10 ^ i ≤ 10 ^ 18 = pow-le-pow_right ten l in
    omega arith

abbrev the_number : ℤ → ℕ → Number
the_number v n = record { mantissa = v; scale = n }

-- the number, from what the functions found
pub first_byte : (s : List ℕ) (at w : ℕ) → at + w ≤ length s → 0 < w → get_or (part s at w) 0 0 ≡ get_or s at 0
first_byte s at w room l =
    let e : w ≡ suc (w - 1) = omega arith in
    rw (e, part_cons s at (w - 1) (omega arith))

pub is_number : (s : List ℕ) (at w : ℕ) (bytes : List ℕ) → bytes ≡ take (at + w - at) (drop at s) → (v : ℤ) (m n : ℕ)
    → v ≡ signed_of (eqb (get_or bytes 0 0) 45) m → m ≡ value (digits_of bytes) → n ≡ scale_of bytes → the_number v n ≡ number_of (part s at w)
unfolding number_of part
is_number s at w bytes e v m n p q r =
    let width : at + w - at ≡ w = omega arith in
    let is : bytes ≡ take w (drop at s) = e ∙ ap (λ (k : ℕ). take k (drop at s)) width in
    rw (p, q, r, is)
