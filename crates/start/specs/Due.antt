-- Whether a start clause is due (document 02, P3): what is given with the clause, when it is due, and when no decision is made. The clause is in the
-- grammar's terms.
use Rattle.std.specs.Prelude.{ℕ, ◌+◌, ◌^◌, ◌≤◌, ◌<◌, ◌≡◌, Bool, true, ◌⊎◌, ℤ, pos, nat_abs, ◌*ℤ◌, length, ◌≤ℤ◌, ◌<ℤ◌}
use mathlib.Core.List.{List, Memᴰ}
use Rattle.counts.specs.Limits.{text_bytes, number_digits}
use Rattle.calendar.specs.Calendar.{real_date, real_time}
use Rattle.moment.specs.Moment.{AtOrAfter}
use Rattle.token.specs.Token.{ContentByte, WholeString}
use Rattle.number.specs.Number.{Numeral, number_of}
use Rattle.grammar.specs.Statement as read
use Rattle.grammar.specs.Statement.{Operator, Number, Start, Statement}
use Rattle.grammar.specs.Statement.Operator.{equal, not_equal, above, below, at_least, at_most}
use Rattle.grammar.specs.Statement.Start.{immediate, at_time, at_time_on, when}
use Rattle.item.specs.Tokens.{paper_number}

-- what a condition compares: a number, or a string by its bytes
pub data Compared : Type 0 where
  number : Number → Compared
  text : List ℕ → Compared

-- what is given with a clause: the bytes that its string stands in, "the present date and time", "the date on which the command was taken up", and "the
-- parameter's present value"
pub record Given : Type 0 where
  pub bytes : List ℕ
  pub date : ℕ
  pub time : ℕ
  pub taken_up : ℕ
  pub value : Compared

-- the same at another moment
abbrev pub at : (date time : ℕ) → Given → Given
at date time g = record { bytes = g.bytes; date = date; time = time; taken_up = g.taken_up; value = g.value }

-- ---- comparing

-- "numbers by exact value, sign and trailing zeros included, so 2.50 equals 2.5": m / 10^s and n / 10^t are compared as the whole numbers m · 10^t and
-- n · 10^s. This is the first for the numbers a and b, and for b and a the second.
abbrev pub scaled : Number → Number → ℤ
scaled a b = a.mantissa *ℤ pos (10 ^ b.scale)

-- the operators, of the value v and the constant k
abbrev pub NumberHolds : Operator → Number → Number → Type 0
NumberHolds equal v k = scaled v k ≡ scaled k v
NumberHolds not_equal v k = scaled v k ≡ scaled k v → ⊥
NumberHolds above v k = scaled k v <ℤ scaled v k
NumberHolds below v k = scaled v k <ℤ scaled k v
NumberHolds at_least v k = scaled k v ≤ℤ scaled v k
NumberHolds at_most v k = scaled v k ≤ℤ scaled k v

-- a number with z zeros more after the point: the same value
abbrev pub with_zeros : ℕ → Number → Number
with_zeros z n = record { mantissa = n.mantissa *ℤ pos (10 ^ z); scale = n.scale + z }

-- ten times a number
abbrev pub ten_times : Number → Number
ten_times n = record { mantissa = n.mantissa *ℤ pos 10; scale = n.scale }

-- "strings by their bytes, with = and != only"
abbrev pub TextHolds : Operator → List ℕ → List ℕ → Type 0
TextHolds o v k = ((o ≡ equal) × (v ≡ k)) ⊎ ((o ≡ not_equal) × (v ≡ k → ⊥))

abbrev pub Holds : Operator → Compared → Compared → Type 0
Holds o (number v) (number k) = NumberHolds o v k
Holds o (text v) (text k) = TextHolds o v k
Holds o (number v) (text k) = ⊥
Holds o (text v) (number k) = ⊥

-- neither "number against string" nor "an order between strings"
abbrev pub Comparable : Operator → Compared → Compared → Type 0
Comparable o (number v) (number k) = Unit {0}
Comparable o (text v) (text k) = (o ≡ equal) ⊎ (o ≡ not_equal)
Comparable o (number v) (text k) = ⊥
Comparable o (text v) (number k) = ⊥

-- ---- what 01 permits

-- "Number: 1 to 16 digits in all, with at most one point that has a digit on each side": so one digit at least stands before the point. "String: byte 34,
-- then 0 to 255 bytes from 32 to 254 other than 34"
abbrev pub Permitted : Compared → Type 0
Permitted (number n) = (nat_abs n.mantissa < 10 ^ number_digits) × (n.scale < number_digits)
Permitted (text c) = (length c ≤ text_bytes) × ((b : ℕ) → Memᴰ b c → ContentByte b)

-- some bytes are 01's number and read as n
abbrev pub Spelled : Number → Type 0
Spelled n = (bytes : List ℕ) × (minus : Bool) × (w : List ℕ) × (f : List ℕ) × Numeral bytes minus w f × (paper_number (number_of bytes) ≡ n)

-- what the constant of a condition is: a number, or the text of the whole string at its place
abbrev pub ConstantIs : List ℕ → read.Value → Compared → Type 0
ConstantIs s (read.number n) k = k ≡ number n
ConstantIs s (read.text quote) k = (c : List ℕ) × (k ≡ text c) × WholeString s quote c

-- ---- the decision

-- the clause's own date and time, where it has them
abbrev pub OwnReal : Start → Type 0
OwnReal immediate = Unit {0}
OwnReal (at_time time) = real_time time ≡ true
OwnReal (at_time_on time date) = (real_time time ≡ true) × (real_date date ≡ true)
OwnReal (when name o c) = Unit {0}

module _ (g : Given) where
  -- "5 for an unreal date or time given, the clause's own included"
  pub record Real (x : Start) : Type 0 where
    pub present_date : real_date g.date ≡ true
    pub present_time : real_time g.time ≡ true
    pub taken_up : real_date g.taken_up ≡ true
    pub own : OwnReal x

  -- "7 for a number or string that 01 doesn't permit": of a condition, the constant and the value
  abbrev pub AllPermitted : Start → Type 0
  AllPermitted immediate = Unit {0}
  AllPermitted (at_time time) = Unit {0}
  AllPermitted (at_time_on time date) = Unit {0}
  AllPermitted (when name o c) = (k : Compared) × ConstantIs g.bytes c k × Permitted k × Permitted g.value

  -- "19 for number against string or an order between strings"
  abbrev pub AllComparable : Start → Type 0
  AllComparable immediate = Unit {0}
  AllComparable (at_time time) = Unit {0}
  AllComparable (at_time_on time date) = Unit {0}
  AllComparable (when name o c) = (k : Compared) × ConstantIs g.bytes c k × Comparable o g.value k

  abbrev pub Due : Start → Type 0
  -- "IMMEDIATE is due."
  Due immediate = Unit {0}
  -- "A time is due when the present date and time are at or after the clause's, compared date first; without a date, the date on which the command was
  -- taken up is used."
  Due (at_time time) = AtOrAfter g.date g.time g.taken_up time
  Due (at_time_on time date) = AtOrAfter g.date g.time date time
  -- "A condition compares the parameter's present value with the constant"
  Due (when name o c) = (k : Compared) × ConstantIs g.bytes c k × Holds o g.value k

-- the start clause of an UPLOAD or DOWNLOAD
abbrev pub HasClause : Statement → Start → Type 0
HasClause z y = (f : ℕ) × (x : read.Source) × ((z ≡ read.upload f x y) ⊎ (z ≡ read.download f x y))
