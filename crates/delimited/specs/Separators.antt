-- What follows a field, as it is found. Need not be believed: `proofs/Found` ties it to the bytes of lines.
use Rattle.std.specs.Prelude.{◌≡◌, ℕ, ◌+◌, cond, true, false, List, eqb, get_or, Result, MatchResult}
use Rattle.counts.specs.declared.Reason.{Reason}
use Rattle.counts.specs.declared.Reason.TheVariants.{OutOfRange}
use Rattle.field.specs.Bytes.{has_at}
use Rattle.delimited.specs.Lines.{is_delimiter, separator}
use Rattle.delimited.specs.declared.Delimiter.{Delimiter}
use Rattle.delimited.specs.declared.Delimiter.TheVariants.{Tab, Comma, Semicolon, Bar}
use Rattle.delimited.specs.declared.Separator.{Separator}
use Rattle.delimited.specs.declared.Separator.TheVariants.{Field, Line, Neither}

-- the byte of a delimiter
abbrev pub byte_of : Delimiter → ℕ
byte_of Tab = 9
byte_of Comma = 44
byte_of Semicolon = 59
byte_of Bar = 124

-- what is made of a byte: the delimiter that it is, or 11
abbrev pub IsDelimiterOf : ℕ → Result Delimiter Reason → Type 0
IsDelimiterOf b r = MatchResult r (λ d. byte_of d ≡ b) (λ reason. (is_delimiter b ≡ false) × (reason ≡ OutOfRange))

-- after a field that ends before e: another field, the line's end, each with the place after what separates, or neither
unfoldable pub separator_at : ℕ → List ℕ → ℕ → Separator
separator_at d s e = cond (eqb (get_or s e 0) d) (Field (e + 1)) (cond (has_at s e (separator d true)) (Line (e + 2)) Neither)

-- what is made of it
abbrev pub on_separator : {A : Type 0} → Separator → A → (ℕ → A) → (ℕ → A) → A
on_separator (Field j) neither field line = field j
on_separator (Line j) neither field line = line j
on_separator Neither neither field line = neither
