-- What a numeral reads as: its digits as one whole number with its sign, and how many of them stand after the point.
use Prim.Native.Nat.{ℕ, zero, suc, ◌^◌, ◌≤◌, ◌<◌}
use mathlib.Core.Path.{◌≡◌, refl, sym, ap, ◌∙◌}
use mathlib.Core.Bool.{Bool, true, false}
use mathlib.Core.List.{List, [], ◌∷◌, ◌++◌}
use native.Mathlib.Nat.{pow-le-pow_right}
use native.Mathlib.Omega.{arith}
use borrow.Author.Tests.{ne_eqb}
use lib.Dec.{eqb}
use lib.IntN.{nat_abs}
use lib.ListN.{length, get_or, length-append}
use Rattle.laws.proofs.Choose.{and_left, and_right, and_both}
use Rattle.decimal.specs.Digits.{value, is_digit, all_digits}
use Rattle.decimal.proofs.Laws.{digit_low, value_lt}
use Rattle.number.specs.Number.{unsigned, spelled, Numeral, digits_of, scale_of, signed_of, number_of}
use Rattle.number.specs.declared.Number.{Number}

-- ---- digits in front of other bytes

digits_of_lem : (ds xs : List ℕ) → all_digits ds ≡ true → digits_of (ds ++ xs) ≡ ds ++ digits_of xs
unfolding digits_of all_digits
digits_of_lem [] xs h = refl
digits_of_lem (d ∷ ds) xs h =
    rw (digits_of, and_left (is_digit d) (all_digits ds) h, digits_of_lem ds xs (and_right (is_digit d) (all_digits ds) h))

all_digits_of : (ds : List ℕ) → all_digits ds ≡ true → digits_of ds ≡ ds
unfolding digits_of all_digits
all_digits_of [] h = refl
all_digits_of (d ∷ ds) h =
    rw (digits_of, and_left (is_digit d) (all_digits ds) h, all_digits_of ds (and_right (is_digit d) (all_digits ds) h))

-- a digit is neither sign nor point
digit_is_no : (b d : ℕ) → b < 48 → is_digit d ≡ true → eqb d b ≡ false
digit_is_no b d l h = ne_eqb d b (λ e. omega (arith, digit_low d h))

scale_of_lem : (ds xs : List ℕ) → all_digits ds ≡ true → scale_of (ds ++ xs) ≡ scale_of xs
unfolding scale_of all_digits
scale_of_lem [] xs h = refl
scale_of_lem (d ∷ ds) xs h =
    rw (scale_of, digit_is_no 46 d (omega arith) (and_left (is_digit d) (all_digits ds) h)) (scale_of_lem ds xs (and_right (is_digit d) (all_digits ds) h))

no_scale : (ds : List ℕ) → all_digits ds ≡ true → scale_of ds ≡ 0
unfolding scale_of all_digits
no_scale [] h = refl
no_scale (d ∷ ds) h =
    rw (scale_of, digit_is_no 46 d (omega arith) (and_left (is_digit d) (all_digits ds) h)) (no_scale ds (and_right (is_digit d) (all_digits ds) h))

append-nil : (xs : List ℕ) → xs ++ [] ≡ xs
append-nil [] = refl
append-nil (x ∷ xs) = ap (λ (l : List ℕ). x ∷ l) (append-nil xs)

-- ---- a numeral without sign

module _ (w : List ℕ) (whole : all_digits w ≡ true) where
  unsigned_digits : (f : List ℕ) → all_digits f ≡ true → digits_of (unsigned w f) ≡ w ++ f
  unfolding digits_of
  unsigned_digits [] h = all_digits_of w whole ∙ sym (append-nil w)
  unsigned_digits (x ∷ f) h = digits_of_lem w (46 ∷ (x ∷ f)) whole ∙ ap (λ (l : List ℕ). w ++ l) (all_digits_of (x ∷ f) h)

  unsigned_scale : (f : List ℕ) → scale_of (unsigned w f) ≡ length f
  unfolding scale_of
  unsigned_scale [] = no_scale w whole
  unsigned_scale (x ∷ f) = scale_of_lem w (46 ∷ (x ∷ f)) whole

no_sign : (w f : List ℕ) → all_digits w ≡ true → 1 ≤ length w → eqb (get_or (unsigned w f) 0 0) 45 ≡ false
unfolding all_digits
no_sign [] f h some = absurd (omega arith)
no_sign (d ∷ w) [] h some = digit_is_no 45 d (omega arith) (and_left (is_digit d) (all_digits w) h)
no_sign (d ∷ w) (x ∷ f) h some = digit_is_no 45 d (omega arith) (and_left (is_digit d) (all_digits w) h)

-- "A number is read as a signed whole number of at most 16 digits with the count of digits after the point."
abbrev reads_as : Bool → List ℕ → List ℕ → Number
reads_as minus w f = record { mantissa = signed_of minus (value (w ++ f)); scale = length f }

spelled_reads : (minus : Bool) (w f : List ℕ) → all_digits w ≡ true → all_digits f ≡ true → 1 ≤ length w → number_of (spelled minus w f) ≡ reads_as minus w f
unfolding number_of digits_of scale_of
spelled_reads false w f whole after some = rw (no_sign w f whole some, unsigned_digits w whole f after, unsigned_scale w whole f)
spelled_reads true w f whole after some = rw (unsigned_digits w whole f after, unsigned_scale w whole f)

pub numeral_reads : {bs : List ℕ} {minus : Bool} {w f : List ℕ} → Numeral bs minus w f
    → number_of bs ≡ record { mantissa = signed_of minus (value (w ++ f)); scale = length f }
numeral_reads {bs} {minus} {w} {f} n = ap number_of n.bytes ∙ spelled_reads minus w f n.whole n.after n.some

same_zero : (w f : List ℕ) → value (w ++ f) ≡ 0 → reads_as true w f ≡ reads_as false w f
same_zero w f z = rw z

-- "`-0` reads as 0.", with or without a point
pub minus_zero : {bs w f : List ℕ} → Numeral bs false w f → value (w ++ f) ≡ 0 → number_of (45 ∷ bs) ≡ number_of bs
minus_zero {bs} {w} {f} n z =
    let m : Numeral (45 ∷ bs) true w f = record {
      bytes = ap (λ (l : List ℕ). 45 ∷ l) n.bytes;
      whole = n.whole;
      after = n.after;
      some = n.some;
      few = n.few;
    } in
    numeral_reads m ∙ same_zero w f z ∙ sym (numeral_reads n)

-- ---- its size

join_digits : (w f : List ℕ) → all_digits w ≡ true → all_digits f ≡ true → all_digits (w ++ f) ≡ true
unfolding all_digits
join_digits [] f h k = k
join_digits (d ∷ w) f h k = and_both (and_left (is_digit d) (all_digits w) h) (join_digits w f (and_right (is_digit d) (all_digits w) h) k)

signed_size : (minus : Bool) (m : ℕ) → nat_abs (signed_of minus m) ≡ m
signed_size false m = refl
signed_size true zero = refl
signed_size true (suc m) = refl

pub numeral_small : {bs : List ℕ} {minus : Bool} {w f : List ℕ} → Numeral bs minus w f
    → (nat_abs (number_of bs).mantissa < 10 ^ 16) × ((number_of bs).scale ≤ 15)
numeral_small {bs} {minus} {w} {f} n =
    let ten : 0 < 10 = omega arith in
    let long : length (w ++ f) ≤ 16 = omega (arith, length-append w f, n.few) in
    let most : 10 ^ length (w ++ f) ≤ 10 ^ 16 = pow-le-pow_right ten long in
    rw (numeral_reads n, signed_size) (omega (arith, value_lt (w ++ f) (join_digits w f n.whole n.after)), omega (arith, n.some, n.few))
