-- Which bytes are of which kind (document 01, "Bytes and tokens").
use Rattle.std.specs.Prelude.{ℕ, Bool, not, ◌&&◌, ◌||◌, eqb, leb}
pub use Rattle.decimal.specs.Digits.{is_digit}

-- "Space, tab, CR and LF separate."
abbrev pub is_separator : ℕ → Bool
is_separator b = eqb b 32 || eqb b 9 || eqb b 13 || eqb b 10

-- "a comment that runs up to CR, LF or the end"
abbrev pub is_line_end : ℕ → Bool
is_line_end b = eqb b 13 || eqb b 10

-- "an ASCII letter"
abbrev pub is_letter : ℕ → Bool
is_letter b = (leb 65 b && leb b 90) || (leb 97 b && leb b 122)

-- "ASCII letters, digits or `_`"
abbrev pub is_word_byte : ℕ → Bool
is_word_byte b = is_letter b || is_digit b || eqb b 95

-- "digits, letters, `_`, `.` and `:`"
abbrev pub is_numeric_byte : ℕ → Bool
is_numeric_byte b = is_word_byte b || eqb b 46 || eqb b 58

-- "bytes from 32 to 254 other than 34"
abbrev pub is_text_byte : ℕ → Bool
is_text_byte b = (leb 32 b && leb b 33) || (leb 35 b && leb b 254)

-- ---- Need not be believed: they bind functions inside alone, and no claim cites them

-- what a comment runs over
abbrev pub is_comment_byte : ℕ → Bool
is_comment_byte b = not (is_line_end b)
