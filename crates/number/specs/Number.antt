-- What a number's bytes read as (document 01, "Bytes and tokens"): "A number is read as a signed whole number of at most 16 digits with the
-- count of digits after the point. `-0` reads as 0."
use Rattle.std.specs.Prelude.{ℕ, ◌+◌, ◌≤◌, Bool, true, false, ◌≡◌, List, [], ◌∷◌, ◌++◌, ℤ, pos, neg_ℤ, eqb, length, get_or}
use Rattle.decimal.specs.Digits.{value, is_digit, all_digits}
use Rattle.number.specs.declared.Number.{Number}

-- "an optional `-`", digits w, and a point with digits f after it, where there are any
abbrev pub unsigned : List ℕ → List ℕ → List ℕ
unsigned w [] = w
unsigned w (x ∷ f) = w ++ (46 ∷ (x ∷ f))

abbrev pub spelled : Bool → List ℕ → List ℕ → List ℕ
spelled false w f = unsigned w f
spelled true w f = 45 ∷ unsigned w f

-- "Number: 1 to 16 digits in all, with at most one point that has a digit on each side.": the bytes bs are such a number
pub record Numeral (bs : List ℕ) (minus : Bool) (w f : List ℕ) : Type 0 where
  pub bytes : bs ≡ spelled minus w f
  pub whole : all_digits w ≡ true
  pub after : all_digits f ≡ true
  pub some : 1 ≤ length w
  pub few : length w + length f ≤ 16

-- a magnitude with its sign: zero has one sign
abbrev pub signed_of : Bool → ℕ → ℤ
signed_of false m = pos m
signed_of true m = neg_ℤ (pos m)

-- ---- Need not be believed: what the bytes are read as. `number_reads` of the page of claims ties it to `Numeral`.

-- the digits among the bytes: without the sign and the point
unfoldable pub digits_of : List ℕ → List ℕ
digits_of [] = []
digits_of (x ∷ xs) = elim (is_digit x) [ true ↦ x ∷ digits_of xs | false ↦ digits_of xs ]

-- how many bytes stand after the point; none where there is no point
unfoldable pub scale_of : List ℕ → ℕ
scale_of [] = 0
scale_of (x ∷ xs) = elim (eqb x 46) [ true ↦ length xs | false ↦ scale_of xs ]

unfoldable pub number_of : List ℕ → Number
number_of bs = record { mantissa = signed_of (eqb (get_or bs 0 0) 45) (value (digits_of bs)); scale = scale_of bs }
