-- Why no token stands at a place, as the bytes stand there (document 02, P2).
use Rattle.std.specs.Prelude.{ℕ, ◌+◌, ◌≤◌, ◌<◌, ◌≡◌, true, false, ◌⊎◌, length, get_or, drop}
use mathlib.Core.List.{List, ◌∷◌, ◌++◌, Memᴰ}
use Rattle.scan.specs.Kinds.{is_digit, is_letter, is_word_byte}
use Rattle.scan.specs.Run.{run_end}
use Rattle.token.specs.Token.{ContentByte, is_time_at, NumericRun}
use Rattle.item.specs.Numbers.{NumberFrom}

-- "3 stays for a byte that starts no token, a lone `!`, `/` or `-` too.": no word, numeric run, string, operator or `;` starts with the byte at i. None
-- starts with `/`, and two of them are a comment.
pub record StartsNoToken (s : List ℕ) (i : ℕ) : Type 0 where
  pub inside : i < length s
  pub no_word : is_letter (get_or s i 0) ≡ false
  pub no_run : is_digit (get_or s i 0) ≡ false
  pub lone_minus : get_or s i 0 ≡ 45 → is_digit (get_or s (i + 1) 0) ≡ false
  pub no_string : get_or s i 0 ≡ 34 → ⊥
  pub no_operator : (get_or s i 0 ≡ 61 → ⊥) × (get_or s i 0 ≡ 62 → ⊥) × (get_or s i 0 ≡ 60 → ⊥)
  pub lone_not : get_or s i 0 ≡ 33 → get_or s (i + 1) 0 ≡ 61 → ⊥
  pub no_semicolon : get_or s i 0 ≡ 59 → ⊥

-- "15 is a string that meets the end of file first": at i an opening quote, then at most 255 content bytes, and no byte after them
pub record StringMeetsEnd (s : List ℕ) (i : ℕ) : Type 0 where
  pub content : List ℕ
  pub stands : drop i s ≡ 34 ∷ content
  pub few : length content ≤ 255
  pub each : (b : ℕ) → Memᴰ b content → ContentByte b

-- a byte that no string may hold, and that does not close it
abbrev pub Forbidden : ℕ → Type 0
Forbidden b = (b < 32) ⊎ (254 < b)

-- "16 a string that first meets a forbidden byte or its 256th content byte": at i an opening quote, then content bytes, and the byte that it meets
pub record StringBreaks (s : List ℕ) (i : ℕ) : Type 0 where
  pub content : List ℕ
  pub met : ℕ
  pub after : List ℕ
  pub stands : drop i s ≡ 34 ∷ (content ++ (met ∷ after))
  pub few : length content ≤ 255
  pub each : (b : ℕ) → Memᴰ b content → ContentByte b
  pub first : Forbidden met ⊎ (ContentByte met × (length content ≡ 255))

-- "17 an overlong word": "an ASCII letter, then ASCII letters, digits or `_`", and more than 255 of them
pub record OverlongWord (s : List ℕ) (i : ℕ) : Type 0 where
  pub letter : is_letter (get_or s i 0) ≡ true
  pub overlong : i + 255 < run_end is_word_byte s i

-- "or misshapen numeric run": "It must have one of two shapes.", and it has neither
pub record MisshapenRun (s : List ℕ) (i : ℕ) : Type 0 where
  pub end : ℕ
  pub run : NumericRun s i end
  pub no_number : NumberFrom s i end → ⊥
  pub no_time : is_time_at s i end ≡ false
