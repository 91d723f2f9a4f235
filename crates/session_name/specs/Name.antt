-- The names of session files (document 01, "Session names and table").
use Rattle.std.specs.Prelude.{ℕ, Bool, cond, ◌&&◌, List, ◌++◌, eqb, leb, ltb, length}
use Rattle.field.specs.Bytes.{ascii, has_at}
use Rattle.field.specs.Part.{part, put}
use Rattle.decimal.specs.Digits.{digits}
use Rattle.decimal.specs.Read.{digits_read}
use Rattle.counts.specs.Limits.{sessions}
use Rattle.counts.specs.Refusals.{out_of_range, too_little_room}
use Rattle.counts.specs.Result.{Result, refused, done, paper}
use Rattle.counts.specs.declared.Refusal.{Refusal}
use Rattle.counts.specs.declared.SessionNumber.{SessionNumber}
use Rattle.std.specs.declared.result.Result.{Result as Returned}
use Rattle.session_name.specs.declared.Kind.{Kind}
use Rattle.session_name.specs.declared.Kind.TheVariants.{Request, Response}
use Rattle.std.specs.declared.option.Option.{Option}
use Rattle.std.specs.declared.option.Option.TheVariants.{Some, None}

-- ".REQ or .RSP"
abbrev pub ending : Kind → List ℕ
ending Request = ascii ".REQ"
ending Response = ascii ".RSP"

-- "A file name is the four letters SESS, four digits, then .REQ or .RSP, 12 bytes in capitals"
unfoldable pub name_of : ℕ → Kind → List ℕ
name_of n kind = ascii "SESS" ++ digits 4 n ++ ending kind

-- "MaxSessions is 1 to 32"
abbrev pub is_max : ℕ → Bool
is_max max = leb 1 max && leb max sessions

-- ---- Need not be believed: writing and reading. `writes_name`, `name_written` and `reads_name` of the page of claims tie them to the rows.

-- "tests MaxSessions, then number or name (11), then room (8)"

unfoldable pub write_refusal : ℕ → ℕ → ℕ → ℕ
write_refusal max n room = cond (is_max max && ltb n max) (cond (leb 12 room) 0 too_little_room) out_of_range

-- the bytes written, or the refusal
unfoldable pub written : ℕ → ℕ → List ℕ → Result ℕ
written max n out = cond (eqb (write_refusal max n (length out)) 0) (done 12) (refused (write_refusal max n (length out)) 0)

-- what is lent: the name at its start and every other byte as it was; a refusal changes no byte
unfoldable pub written_bytes : ℕ → ℕ → Kind → List ℕ → List ℕ
written_bytes max n kind out = cond (eqb (write_refusal max n (length out)) 0) (put out 0 (name_of n kind)) out

-- a name's reading "tests MaxSessions, then number or name (11)"
abbrev pub no_name : Result (ℕ × Kind)
no_name = refused out_of_range 0

-- a name's last four bytes
unfoldable pub kind_read : ℕ → List ℕ → Result (ℕ × Kind)
kind_read n name =
    cond (has_at name 8 (ascii ".REQ")) (done (n, Request)) (cond (has_at name 8 (ascii ".RSP")) (done (n, Response)) no_name)

-- the four digits before them, "number below MaxSessions"
unfoldable pub number_read : ℕ → List ℕ → Option ℕ → Result (ℕ × Kind)
number_read max name (Some n) = cond (ltb n max) (kind_read n name) no_name
number_read max name None = no_name

-- "the four letters SESS", 12 bytes; MaxSessions first
abbrev pub is_framed : ℕ → List ℕ → Bool
is_framed max name = is_max max && eqb (length name) 12 && has_at name 0 (ascii "SESS")

unfoldable pub name_read : ℕ → List ℕ → Result (ℕ × Kind)
name_read max name = cond (is_framed max name) (number_read max name (digits_read 4 (part name 4 4))) no_name

-- ---- the paper's number and values of each answer

abbrev pub paper_name_read : Returned (SessionNumber × Kind) Refusal → Result (ℕ × Kind)
paper_name_read = paper λ named. (named.0.0, named.1)

abbrev pub paper_name_written : Returned ℕ Refusal → Result ℕ
paper_name_written = paper λ n. n
