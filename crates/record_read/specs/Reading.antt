-- What reading a record answers, field by field: where a field is not there, there is no record.
use Rattle.std.specs.Prelude.{ℕ, option_map, ◌+◌, ◌-◌, cond, ◌&&◌, List, [], eqb, leb, length}
use Rattle.counts.specs.Limits.{text_bytes}
use Rattle.counts.specs.Refusals.{not_a_record}
use Rattle.counts.specs.Result.{Result, refused, done, paper}
use Rattle.counts.specs.declared.CommandNumber.{CommandNumber}
use Rattle.counts.specs.declared.Refusal.{Refusal}
use Rattle.std.specs.declared.result.Result.{Result as Returned}
use Rattle.field.specs.Bytes.{ascii, has_at}
use Rattle.field.specs.Part.{part}
use Rattle.decimal.specs.Digits.{plain_width}
use Rattle.scan.specs.Kinds.{is_digit, is_text_byte}
use Rattle.scan.specs.Run.{run_end}
use Rattle.labelled.specs.Labelled.{on_some, on_pair, field_after}
use Rattle.moment.specs.Reading.{moment_after}
use Rattle.record.specs.Record.{Content, content}
use Rattle.record.specs.declared.Outcome.{Outcome}
use Rattle.record.specs.declared.Outcome.TheVariants.{Processed, Error}
use Rattle.record_read.specs.declared.Record.{Record}
use Rattle.std.specs.declared.option.Option.{Option}
use Rattle.std.specs.declared.option.Option.TheVariants.{Some, None}

-- ---- Need not be believed: the fields. `reads_record` of the page of claims says that exactly the permitted records' bytes are taken, as those records;
-- `at_exactly` (`proofs/RoundTrip`) says the same of a record at a place.

-- a command's number is a field
abbrev pub command_field : Option CommandNumber → Option ℕ
command_field = option_map λ n. n.0

-- COMMAND and the number in the w digits after it, 1 to the limit "without leading zeros". No field of a record has more than eight digits.
unfoldable pub number_in : ℕ → List ℕ → ℕ → ℕ → Option ℕ
number_in limit s at w =
    cond (leb 1 w && leb w 8)
    (on_some (field_after s at (ascii "COMMAND ") w) None λ n.
    cond (leb 1 n && leb n limit && eqb (plain_width n) w) (Some n) None)
    None

-- ERROR with class and code, and the place after the quote that opens the text
unfoldable pub error_read : List ℕ → ℕ → Option (Outcome × ℕ)
error_read s at =
    on_some (field_after s at (ascii " ERROR ") 2) None λ class.
    on_some (field_after s (at + 9) (ascii " ") 8) None λ code.
    cond (has_at s (at + 18) (ascii " \"")) (Some (Error class code, at + 20)) None

-- PROCESSED, or that
unfoldable pub outcome_read : List ℕ → ℕ → Option (Outcome × ℕ)
outcome_read s at = cond (has_at s at (ascii " PROCESSED \"")) (Some (Processed, at + 12)) (error_read s at)

-- what follows the text, which runs from start to end; the text is given by its place and length
unfoldable pub rest_read : List ℕ → ℕ → Outcome → ℕ → ℕ → Option (Record × ℕ)
rest_read s n outcome start end =
    cond (leb (end - start) text_bytes)
    (on_pair (moment_after s end (ascii "\" ")) None λ date time.
    cond (has_at s (end + 19) (ascii ";\r\n"))
    (Some (record { number = record { 0 = n }; outcome = outcome; start = start; length = end - start; date = date; time = time }, end + 22))
    None)
    None

-- the record that the bytes from at on begin with, and the place after it: the number in all digits that stand there, the text all bytes of a string's
-- content
unfoldable pub record_at : ℕ → List ℕ → ℕ → Option (Record × ℕ)
record_at limit s at =
    on_some (number_in limit s at (run_end is_digit s (at + 8) - (at + 8))) None λ n.
    on_pair (outcome_read s (at + 8 + plain_width n)) None λ outcome start.
    rest_read s n outcome start (run_end is_text_byte s start)

-- "The reader takes one whole record and nothing beyond. Any other bytes get 7"
unfoldable pub record_read : ℕ → List ℕ → Result Record
record_read limit s =
    on_pair (record_at limit s 0) (refused not_a_record 0) λ r end.
    cond (eqb end (length s)) (done r) (refused not_a_record 0)

-- ---- what is read, and the paper's number and values of each answer

-- what the record r says that was read from s
abbrev pub content_of : List ℕ → Record → Content
content_of s r = content r.number.0 r.outcome (part s r.start r.length) r.date r.time

abbrev pub paper_record_read : Returned Record Refusal → Result Record
paper_record_read = paper λ r. r

-- the same with the text for its place
abbrev pub with_text : List ℕ → Result Record → Result Content
with_text s (done r) = done (content_of s r)
with_text s (refused n p) = refused n p

-- the text of a record, and the empty part where the bytes are none
abbrev pub text_of : List ℕ → Result Record → List ℕ
text_of s (done r) = part s r.start r.length
text_of s (refused n p) = []
