-- The next token as code has it. The bytes s are those of the file from the place base on, and places are counted
-- from the file's start. Need not be believed: `proofs/Tells` shows that it tells all that the token of `Tokens` says.
use Rattle.std.specs.Prelude.{ℕ, ◌+◌, ◌-◌, ◌≤◌, ◌≡◌, cond, List, pos, eqb, leb, length}
use Rattle.counts.specs.Limits.{file_bytes}
use Rattle.field.specs.Part.{part}
use Rattle.number.specs.Number.{number_of}
use Rattle.number.specs.declared.Number.{Number as NumberRead}
use Rattle.token.specs.Token.{next_token}
use Rattle.token.specs.declared.Operator.{Operator}
use Rattle.token.specs.declared.Operator.TheVariants.{Equal}
use Rattle.token.specs.declared.Why.{Why}
use Rattle.token.specs.declared.Why.TheVariants.{Stray, OpenString, BrokenString, Misshapen}
use Rattle.token.specs.declared.Token.{Token}
use Rattle.token.specs.declared.Token.TheVariants.{End, NoToken, Word, Number, Time, Text, Sign, Semicolon}
use Rattle.counts.specs.Refusals.{unexpected}
use Rattle.grammar.specs.Grammar.{Class, class_no}
use Rattle.grammar.specs.Reading.{no_token_number, end_number}
use Rattle.grammar.specs.Grammar.Class.{JOB, RESPONSE, UPLOAD, DOWNLOAD, GETINFO, ABORT, REPORT, EVENT, START, ACTIVE, IMMEDIATE, reserved, name, TIME≥, number, date, unreal_date, time, unreal_time, string, operator, semicolon}
use Rattle.item.specs.Tokens.{word_class, number_class, date_number, time_class, time_number}
use Rattle.item.specs.declared.Class.{Class as Code}
use Rattle.item.specs.declared.Class.TheVariants as code
use Rattle.item.specs.declared.Item.{Item}

-- the numbers for the end of the file and for no token, by why it is none, which no class has
abbrev pub end_no : ℕ
end_no = 22

abbrev pub no_token_no : Why → ℕ
no_token_no Stray = 23
no_token_no OpenString = 24
no_token_no BrokenString = 25
no_token_no Misshapen = 26

-- a class as code has it
abbrev pub code_of : Class → Code
code_of JOB = code.Job
code_of RESPONSE = code.Response
code_of UPLOAD = code.Upload
code_of DOWNLOAD = code.Download
code_of GETINFO = code.GetInfo
code_of ABORT = code.Abort
code_of REPORT = code.Report
code_of EVENT = code.Event
code_of START = code.Start
code_of ACTIVE = code.Active
code_of IMMEDIATE = code.Immediate
code_of reserved = code.Reserved
code_of name = code.Name
code_of TIME≥ = code.TimeGe
code_of number = code.Number
code_of date = code.Date
code_of unreal_date = code.UnrealDate
code_of time = code.Time
code_of unreal_time = code.UnrealTime
code_of string = code.Text
code_of operator = code.Operator
code_of semicolon = code.Semicolon

-- and its number
abbrev pub code_no : Code → ℕ
code_no code.Job = class_no JOB
code_no code.Response = class_no RESPONSE
code_no code.Upload = class_no UPLOAD
code_no code.Download = class_no DOWNLOAD
code_no code.GetInfo = class_no GETINFO
code_no code.Abort = class_no ABORT
code_no code.Report = class_no REPORT
code_no code.Event = class_no EVENT
code_no code.Start = class_no START
code_no code.Active = class_no ACTIVE
code_no code.Immediate = class_no IMMEDIATE
code_no code.Reserved = class_no reserved
code_no code.Name = class_no name
code_no code.TimeGe = class_no TIME≥
code_no code.Number = class_no number
code_no code.Date = class_no date
code_no code.UnrealDate = class_no unreal_date
code_no code.Time = class_no time
code_no code.UnrealTime = class_no unreal_time
code_no code.Text = class_no string
code_no code.Operator = class_no operator
code_no code.Semicolon = class_no semicolon
code_no code.End = end_no
code_no (code.NoToken why) = no_token_no why

-- the number of the class that is made of a number: that number, or where no class has it the number of a word that no production takes
abbrev pub made_no : ℕ → ℕ
made_no n = cond (leb n (no_token_no Misshapen)) n (class_no reserved)

-- what is refused where it may not stand, by its number: the end of the file, no token, a token
abbrev pub refusal_no : ℕ → ℕ
refusal_no n =
    cond (eqb n end_no) end_number
    (cond (eqb n (no_token_no Stray)) (no_token_number Stray)
    (cond (eqb n (no_token_no OpenString)) (no_token_number OpenString)
    (cond (eqb n (no_token_no BrokenString)) (no_token_number BrokenString)
    (cond (eqb n (no_token_no Misshapen)) (no_token_number Misshapen) unexpected))))

abbrev pub zero : NumberRead
zero = record { mantissa = pos 0; scale = 0 }

-- a token of s from start to end, by its class, with a date's or a time's number, what a number reads as, and which operator it is
abbrev pub made_of : ℕ → Code → ℕ → ℕ → ℕ → NumberRead → Operator → Item
made_of base class start end value read sign =
    record { class = class; place = base + start; length = end - start; next = base + end; value = value; number = read; operator = sign }

abbrev pub made : ℕ → Code → ℕ → ℕ → ℕ → Item
made base class start end value = made_of base class start end value zero Equal

unfoldable pub numbered : ℕ → List ℕ → Token → Item
numbered base s (End p) = made base code.End p p 0
numbered base s (NoToken why p) = made base (code.NoToken why) p p 0
numbered base s (Word a b w) = made base (code_of (word_class w)) a b 0
numbered base s (Number a b) = made_of base (code_of (number_class s a b)) a b (date_number s a b) (number_of (part s a (b - a))) Equal
numbered base s (Time a b) = made base (code_of (time_class s a)) a b (time_number s a)
numbered base s (Text a b) = made base (code_of string) a b 0
numbered base s (Sign o a b) = made_of base (code_of operator) a b 0 zero o
numbered base s (Semicolon a b) = made base (code_of semicolon) a b 0

-- the next token from the place at on
unfoldable pub item_at : ℕ → List ℕ → ℕ → Item
item_at base s at = numbered base s (next_token s (at - base))

-- the place at lies in the bytes from base on, which lie in a file
pub record Seen (base : ℕ) (s : List ℕ) (at : ℕ) : Type 0 where
  pub after : base ≤ at
  pub short : base + length s ≤ file_bytes

-- what `next_item` answers: the item t, and that it ends not before at
pub record Stood (base : ℕ) (s : List ℕ) (at : ℕ) (t : Item) : Type 0 where
  pub is : t ≡ item_at base s at
  pub onward : at ≤ t.next
