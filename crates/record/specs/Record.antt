-- Response records (document 01, "Response records"): what one says, which are permitted, and the bytes of one.
use Rattle.std.specs.Prelude.{ℕ, Bool, true, ◌&&◌, List, ◌++◌, leb, eqb, length}
use Rattle.counts.specs.Limits.{text_bytes, class_most, code_most}
use Rattle.field.specs.Bytes.{ascii}
use Rattle.decimal.specs.Digits.{digits, plain}
use Rattle.scan.specs.Kinds.{is_text_byte}
use Rattle.scan.specs.Run.{run_end}
use Rattle.moment.specs.Moment.{real_moment, moment_bytes}
use Rattle.record.specs.declared.Outcome.{Outcome}
use Rattle.record.specs.declared.Outcome.TheVariants.{Processed, Error}

-- what a record says
pub record Content : Type 0 where
  pub number : ℕ
  pub outcome : Outcome
  pub text : List ℕ
  pub date : ℕ
  pub time : ℕ

abbrev pub content : ℕ → Outcome → List ℕ → ℕ → ℕ → Content
content n outcome text date time = record { number = n; outcome = outcome; text = text; date = date; time = time }

-- ---- which are permitted

-- "text as a string's content": 0 to 255 bytes, and their run of a string's bytes is the whole
unfoldable pub is_text : List ℕ → Bool
is_text text = leb (length text) text_bytes && eqb (run_end is_text_byte text 0) (length text)

-- "cc two decimal digits, eeeeeeee eight"; PROCESSED has neither
abbrev pub is_outcome : Outcome → Bool
is_outcome Processed = true
is_outcome (Error class code) = leb class class_most && leb code code_most

-- number, class, code and text in range. "n is 1 to 64", with P6 1 to 200: the limit is a
-- parameter, so that readers with another limit can be spoken of.
unfoldable pub in_range : ℕ → ℕ → Outcome → List ℕ → Bool
in_range limit n outcome text = leb 1 n && leb n limit && is_outcome outcome && is_text text

unfoldable pub permitted : ℕ → Content → Bool
permitted limit c = in_range limit c.number c.outcome c.text && real_moment c.date c.time

-- ---- its bytes

-- "PROCESSED" or "ERROR cc eeeeeeee" between single spaces, and the quote that opens the text
abbrev pub outcome_bytes : Outcome → List ℕ
outcome_bytes Processed = ascii " PROCESSED \""
outcome_bytes (Error class code) = ascii " ERROR " ++ digits 2 class ++ ascii " " ++ digits 8 code ++ ascii " \""

-- `COMMAND n PROCESSED "text" date time;` or `COMMAND n ERROR cc eeeeeeee "text" date time;`, n "without leading zeros", "then CR LF"
unfoldable pub record_bytes : Content → List ℕ
record_bytes c =
    ascii "COMMAND "
    ++ plain c.number
    ++ outcome_bytes c.outcome
    ++ c.text
    ++ ascii "\" "
    ++ moment_bytes c.date c.time
    ++ ascii ";\r\n"

-- "Length: PROCESSED 42, ERROR 50, plus the digits of n and the bytes of text."
abbrev pub fixed_length : Outcome → ℕ
fixed_length Processed = 42
fixed_length (Error class code) = 50
