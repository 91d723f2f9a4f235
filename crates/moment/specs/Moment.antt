-- A date and a time (document 01, "Response records", "Session names and table"; document 02, P3): a real one, its bytes in a record, and which is later.
use Rattle.std.specs.Prelude.{ℕ, ◌/◌, ◌%◌, ◌≤◌, ◌<◌, Bool, cond, ◌&&◌, List, ◌++◌, ◌⊎◌, ◌≡◌, eqb, leb, ltb}
use Rattle.field.specs.Bytes.{ascii}
use Rattle.decimal.specs.Digits.{digits}
use Rattle.calendar.specs.Calendar.{real_date, real_time}

-- "a real date and time"
unfoldable pub real_moment : ℕ → ℕ → Bool
real_moment date time = real_date date && real_time time

-- dd:dd:dd
abbrev pub time_bytes : ℕ → List ℕ
time_bytes time = digits 2 (time / 10000) ++ ascii ":" ++ digits 2 (time / 100 % 100) ++ ascii ":" ++ digits 2 (time % 100)

-- "date time" with a single space
unfoldable pub moment_bytes : ℕ → ℕ → List ℕ
moment_bytes date time = digits 8 date ++ ascii " " ++ time_bytes time

-- P3: the first date and time "are at or after" the second, "compared date first"
abbrev pub AtOrAfter : (date time fromDate fromTime : ℕ) → Type 0
AtOrAfter date time fromDate fromTime = (fromDate < date) ⊎ ((date ≡ fromDate) × (fromTime ≤ time))

-- ---- Need not be believed: the same as code tests it. `at_or_after_lem` (`proofs/Later`) ties it to the sentence above.

unfoldable pub at_or_after : ℕ → ℕ → ℕ → ℕ → Bool
at_or_after date time fromDate fromTime = cond (eqb date fromDate) (leb fromTime time) (ltb fromDate date)
