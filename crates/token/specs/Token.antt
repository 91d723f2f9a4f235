-- The tokens of a job file (document 01, "Bytes and tokens"): each definition stands under its rule there. "A token is the longest run of
-- its kind". Where no token stands, `NoToken` keeps why.
use Rattle.std.specs.Prelude.{ℕ, ◌+◌, ◌-◌, ◌≤◌, ◌<◌, Bool, true, false, cond, ◌&&◌, ◌||◌, ◌≡◌, ◌⊎◌, eqb, leb, ltb, length, get_or, take, drop}
use mathlib.Core.List.{List, ◌∷◌, ◌++◌, Memᴰ}
use Rattle.counts.specs.Limits.{text_bytes, number_digits}
use Rattle.scan.specs.Kinds.{is_digit, is_letter, is_numeric_byte, is_text_byte}
use Rattle.scan.specs.Run.{run_end, blank_end}
use Rattle.word.specs.Word.{WordRead, word_read}
use Rattle.std.specs.declared.option.Option.TheVariants.{Some, None}
use Rattle.token.specs.declared.Operator.TheVariants.{Equal, NotEqual, Above, Below, AtLeast, AtMost}
use Rattle.token.specs.declared.Why.TheVariants.{Stray, OpenString, BrokenString, Misshapen}
use Rattle.token.specs.declared.Token.{Token}
use Rattle.token.specs.declared.Token.TheVariants.{End, NoToken, Word, Number, Time, Text, Sign, Semicolon}

-- "Word: [..] a longer run is no token": what is read from i on
abbrev pub word_token : ℕ → WordRead → Token
word_token i (Some (w, e)) = Word i e w
word_token i None = NoToken Misshapen i

-- what a string may hold: "bytes from 32 to 254 other than 34"
abbrev pub ContentByte : ℕ → Type 0
ContentByte b = (32 ≤ b) × (b ≤ 254) × (b ≡ 34 → ⊥)

-- "String: byte 34, then 0 to 255 bytes from 32 to 254 other than 34, then byte 34.": so stand the bytes of s from i on, with c between the
-- quotes
pub record WholeString (s : List ℕ) (i : ℕ) (c : List ℕ) : Type 0 where
  pub after : List ℕ
  pub stands : drop i s ≡ 34 ∷ (c ++ (34 ∷ after))
  pub few : length c ≤ 255
  pub each : (b : ℕ) → Memᴰ b c → ContentByte b

-- ---- Need not be believed: whole strings as they are found. `whole_string` and `string_token` of the page of claims tie them to the sentence above.

-- the place where the content of a string ends that opens at i
abbrev pub content_end : List ℕ → ℕ → ℕ
content_end s i = run_end is_text_byte s (i + 1)

-- at most 255 bytes of content
abbrev pub content_fits : List ℕ → ℕ → Bool
content_fits s i = leb (content_end s i - (i + 1)) text_bytes

-- a whole string begins at i
unfoldable pub is_text_at : List ℕ → ℕ → Bool
is_text_at s i = eqb (get_or s i 0) 34 && content_fits s i && eqb (get_or s (content_end s i) 0) 34

-- "The text of a quoted string is shown as that part of the file between its quotes."
unfoldable pub content_at : List ℕ → ℕ → List ℕ
content_at s i = take (content_end s i - (i + 1)) (drop (i + 1) s)

-- the token that opens with a quote at i: a whole string. Else it meets its 256th content byte, the end of the file or a forbidden byte
-- first.
unfoldable pub string_at : List ℕ → ℕ → Token
string_at s i =
    cond (is_text_at s i) (Text i (content_end s i + 1))
    (cond (content_fits s i && leb (length s) (content_end s i)) (NoToken OpenString i) (NoToken BrokenString i))

-- ---- times

-- two digits at i
abbrev pub pair_at : List ℕ → ℕ → Bool
pair_at s i = is_digit (get_or s i 0) && is_digit (get_or s (i + 1) 0)

-- "Time: `dd:dd:dd` without sign.": from i to e
unfoldable pub is_time_at : List ℕ → ℕ → ℕ → Bool
is_time_at s i e =
    eqb (e - i) 8 && pair_at s i && eqb (get_or s (i + 2) 0) 58 && pair_at s (i + 3) && eqb (get_or s (i + 5) 0) 58 && pair_at s (i + 6)

-- ---- Need not be believed: numbers as they are found. `number_token` of the page of claims ties them to `Numeral`.

-- "Number: 1 to 16 digits in all, with at most one point that has a digit on each side.": from its first digit d to e
unfoldable pub is_number_at : List ℕ → ℕ → ℕ → Bool
is_number_at s d e =
    cond (eqb (run_end is_digit s d) e) (leb e (d + number_digits))
    (eqb (get_or s (run_end is_digit s d) 0) 46 && is_digit (get_or s (run_end is_digit s d + 1) 0) && eqb (run_end is_digit s (run_end is_digit s d + 1)) e
    && leb e (d + number_digits + 1))

-- ---- numeric runs, signs, and which token stands where

-- "Numeric run: an optional `-`, a digit, then digits, letters, `_`, `.` and `:`.": the longest from i on ends before e
pub record NumericRun (s : List ℕ) (i e : ℕ) : Type 0 where
  pub first : ℕ
  pub sign : (first ≡ i) ⊎ ((first ≡ i + 1) × (get_or s i 0 ≡ 45))
  pub digit : is_digit (get_or s first 0) ≡ true
  pub longest : e ≡ run_end is_numeric_byte s first

-- "It must have one of two shapes.": a numeric run that starts at i and has its first digit at d
unfoldable pub shaped_at : List ℕ → ℕ → ℕ → Token
shaped_at s i d =
    cond (is_time_at s i (run_end is_numeric_byte s d)) (Time i (run_end is_numeric_byte s d))
    (cond (is_number_at s d (run_end is_numeric_byte s d)) (Number i (run_end is_numeric_byte s d)) (NoToken Misshapen i))

-- what stands at a digit or at a `-`: a lone `-` is no run
unfoldable pub numeric_at : List ℕ → ℕ → Token
numeric_at s i = cond (eqb (get_or s i 0) 45) (cond (is_digit (get_or s (i + 1) 0)) (shaped_at s i (i + 1)) (NoToken Stray i)) (shaped_at s i i)

-- "Operators `=` `!=` `>` `<` `>=` `<=`, and `;`.": of one byte b
abbrev pub one_sign : ℕ → ℕ → Token
one_sign b i =
    cond (eqb b 59) (Semicolon i (i + 1))
    (cond (eqb b 61) (Sign Equal i (i + 1))
    (cond (eqb b 62) (Sign Above i (i + 1)) (cond (eqb b 60) (Sign Below i (i + 1)) (NoToken Stray i))))

-- the same where `=` follows b
abbrev pub sign_before_equal : ℕ → ℕ → Token
sign_before_equal b i =
    cond (eqb b 33) (Sign NotEqual i (i + 2))
    (cond (eqb b 62) (Sign AtLeast i (i + 2)) (cond (eqb b 60) (Sign AtMost i (i + 2)) (one_sign b i)))

unfoldable pub sign_at : List ℕ → ℕ → Token
sign_at s i = cond (eqb (get_or s (i + 1) 0) 61) (sign_before_equal (get_or s i 0) i) (one_sign (get_or s i 0) i)

-- the token that begins at i, by its first byte
unfoldable pub token_at : List ℕ → ℕ → Token
token_at s i =
    cond (ltb i (length s))
    (cond (is_letter (get_or s i 0)) (word_token i (word_read s i))
    (cond (is_digit (get_or s i 0) || eqb (get_or s i 0) 45) (numeric_at s i) (cond (eqb (get_or s i 0) 34) (string_at s i) (sign_at s i))))
    (End i)

-- the next token from at on
unfoldable pub next_token : List ℕ → ℕ → Token
next_token s at = token_at s (blank_end false s at)

-- ---- Need not be believed: it binds functions inside alone, and no claim cites it

-- the bytes of a number from a to b, of which there are at most 18, within the file
pub record Short (s : List ℕ) (a b : ℕ) : Type 0 where
  pub ahead : a < b
  pub inside : b ≤ length s
  pub short : b ≤ a + 18
