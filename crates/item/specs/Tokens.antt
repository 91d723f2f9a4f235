-- The tokens of a job file as the grammar sees them: each with its class, its place and end, and what it says (document 01, "Bytes and tokens", "The job grammar").
use Rattle.std.specs.Prelude.{ℕ, zero, suc, ◌+◌, ◌-◌, ◌*◌, cond, ◌≡◌, List, [], ◌∷◌, eqb, length}
use Rattle.calendar.specs.Calendar.{real_date, real_time}
use Rattle.decimal.specs.Read.{digits_read}
use Rattle.field.specs.Part.{part}
use Rattle.word.specs.declared.Word.{Word}
use Rattle.word.specs.declared.Word.TheVariants.{Job, Response, Upload, Download, GetInfo, Abort, Report, Event, Start, Active, Immediate, Other, Name, TimeGe}
use Rattle.token.specs.Token.{next_token}
use Rattle.number.specs.Number.{number_of}
use Rattle.number.specs.declared.Number.{Number as NumberRead}
use Rattle.token.specs.declared.Operator.{Operator}
use Rattle.token.specs.declared.Operator.TheVariants.{Equal, NotEqual, Above, Below, AtLeast, AtMost}
use Rattle.token.specs.declared.Why.{Why}
use Rattle.token.specs.declared.Token.{Token}
use Rattle.token.specs.declared.Token.TheVariants.{End, NoToken, Word as AWord, Number, Time, Text, Sign, Semicolon}
use Rattle.grammar.specs.Grammar.{Class}
use Rattle.grammar.specs.Grammar.Class.{JOB, RESPONSE, UPLOAD, DOWNLOAD, GETINFO, ABORT, REPORT, EVENT, START, ACTIVE, IMMEDIATE, reserved, name, TIME≥, number, date, unreal_date, time, unreal_time, string, operator, semicolon}
use Rattle.grammar.specs.Statement as read
use Rattle.grammar.specs.Productions.{Said, unsaid, Placed}
use Rattle.grammar.specs.Reading.{Last}
use Rattle.grammar.specs.Reading.Last.{end, no_token_at}
use Rattle.std.specs.declared.option.Option.{Option}
use Rattle.std.specs.declared.option.Option.TheVariants.{Some, None}

-- the class of a word: STOP, TIME and NEVER stand in no production
abbrev pub word_class : Word → Class
word_class Job = JOB
word_class Response = RESPONSE
word_class Upload = UPLOAD
word_class Download = DOWNLOAD
word_class GetInfo = GETINFO
word_class Abort = ABORT
word_class Report = REPORT
word_class Event = EVENT
word_class Start = START
word_class Active = ACTIVE
word_class Immediate = IMMEDIATE
word_class Other = reserved
word_class Name = name
word_class TimeGe = TIME≥

-- the number that a field of digits is; 0 where it is none
abbrev pub value_of : Option ℕ → ℕ
value_of (Some n) = n
value_of None = 0

-- "A date is eight bare digits yyyymmdd": eight bytes of a number, as they read
abbrev pub date_class : Option ℕ → Class
date_class (Some n) = cond (real_date n) date unreal_date
date_class None = number

abbrev pub eight_at : List ℕ → ℕ → Option ℕ
eight_at s a = digits_read 8 (part s a 8)

unfoldable pub number_class : List ℕ → ℕ → ℕ → Class
number_class s a b = cond (eqb (b - a) 8) (date_class (eight_at s a)) number

unfoldable pub date_number : List ℕ → ℕ → ℕ → ℕ
date_number s a b = cond (eqb (b - a) 8) (value_of (eight_at s a)) 0

-- "`dd:dd:dd`": as the whole number hhmmss
abbrev pub two_at : List ℕ → ℕ → ℕ
two_at s a = value_of (digits_read 2 (part s a 2))

unfoldable pub time_number : List ℕ → ℕ → ℕ
time_number s a = two_at s a * 10000 + two_at s (a + 3) * 100 + two_at s (a + 6)

abbrev pub time_class : List ℕ → ℕ → Class
time_class s a = cond (real_time (time_number s a)) time unreal_time

-- the paper's value of what a number reads as, and of an operator
abbrev pub paper_number : NumberRead → read.Number
paper_number n = record { mantissa = n.mantissa; scale = n.scale }

abbrev pub paper_operator : Operator → read.Operator
paper_operator Equal = read.equal
paper_operator NotEqual = read.not_equal
paper_operator Above = read.above
paper_operator Below = read.below
paper_operator AtLeast = read.at_least
paper_operator AtMost = read.at_most

-- what a time, a number and an operator say
abbrev pub says_time : ℕ → Said
says_time n = record { moment = n; number = unsaid.number; operator = unsaid.operator }

abbrev pub says_number : ℕ → NumberRead → Said
says_number n x = record { moment = n; number = paper_number x; operator = unsaid.operator }

abbrev pub says_operator : Operator → Said
says_operator o = record { moment = unsaid.moment; number = unsaid.number; operator = paper_operator o }

-- what stands next: a token; the end of the file; no token, and why
pub data Next : Type 0 where
  item : Placed → Next
  ended : ℕ → Next
  no_token_next : Why → ℕ → Next

abbrev pub at : Class → ℕ → ℕ → Said → Next
at c a b x = item (record { class = c; place = a; end = b; said = x })

unfoldable pub item_of : List ℕ → Token → Next
item_of s (End p) = ended p
item_of s (NoToken why p) = no_token_next why p
item_of s (AWord a b w) = at (word_class w) a b unsaid
item_of s (Number a b) = at (number_class s a b) a b (says_number (date_number s a b) (number_of (part s a (b - a))))
item_of s (Time a b) = at (time_class s a) a b (says_time (time_number s a))
item_of s (Text a b) = at string a b unsaid
item_of s (Sign o a b) = at operator a b (says_operator o)
item_of s (Semicolon a b) = at semicolon a b unsaid

-- the next token from a place on
unfoldable pub next_item : List ℕ → ℕ → Next
next_item s i = item_of s (next_token s i)

-- the tokens from a place on are ts, and z ends them
pub data Tokens (s : List ℕ) : ℕ → List Placed → Last → Type 0 where
  at_end_here : {i p : ℕ} → next_item s i ≡ ended p → Tokens s i [] (end p)
  no_token_here : {i p : ℕ} {why : Why} → next_item s i ≡ no_token_next why p → Tokens s i [] (no_token_at why p)
  then : {i : ℕ} {t : Placed} {ts : List Placed} {z : Last} → next_item s i ≡ item t → Tokens s t.end ts z → Tokens s i (t ∷ ts) z

-- from the place i on the next tokens are a, and e is the place after the last of them
pub data After (s : List ℕ) : ℕ → List Placed → ℕ → Type 0 where
  here : {i : ℕ} → After s i [] i
  then : {i e : ℕ} {t : Placed} {a : List Placed} → next_item s i ≡ item t → After s t.end a e → After s i (t ∷ a) e

-- ---- Need not be believed: the tokens computed. `tokens` of the page of claims says that they are those above.

-- n bounds how many there are
pub record Line : Type 0 where
  pub tokens : List Placed
  pub last : Last

abbrev pub line_on : Next → (ℕ → Line) → Line
line_on (ended p) k = record { tokens = []; last = end p }
line_on (no_token_next why p) k = record { tokens = []; last = no_token_at why p }
line_on (item t) k = let r = k t.end in record { tokens = t ∷ r.tokens; last = r.last }

unfoldable pub line_from : ℕ → List ℕ → ℕ → Line
line_from zero s i = record { tokens = []; last = end i }
line_from (suc n) s i = line_on (next_item s i) (λ b. line_from n s b)

-- the tokens of a file from a place on, and what ends them
abbrev pub line_at : List ℕ → ℕ → Line
line_at s i = line_from (suc (length s)) s i

unfoldable pub line : List ℕ → Line
line s = line_at s 0
