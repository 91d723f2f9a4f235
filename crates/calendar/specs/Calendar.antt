-- Which dates and times are real ones (document 01, "Bytes and tokens", and document 02, P4): dates as whole numbers yyyymmdd, times as hhmmss.
use Rattle.std.specs.Prelude.{ℕ, ◌/◌, ◌%◌, Bool, cond, ◌&&◌, ◌||◌, not, leb, eqb}

-- "the year divides by" n
abbrev pub divides_by : ℕ → ℕ → Bool
divides_by n year = eqb (year % n) 0

-- "February has 29 days when the year divides by 4, except years that divide by 100 and not by 400; otherwise 28. Year 0000 counts as a leap year."
unfoldable pub february_length : ℕ → ℕ
february_length year = cond (divides_by 4 year && not (divides_by 100 year && not (divides_by 400 year))) 29 28

-- "the month's length: 30 for April, June, September and November, .. for February, else 31"
unfoldable pub month_length : ℕ → ℕ → ℕ
month_length year month =
    cond (eqb month 2) (february_length year) (cond (eqb month 4 || eqb month 6 || eqb month 9 || eqb month 11) 30 31)

-- "day from 01 to the month's length"
abbrev pub is_day : ℕ → ℕ → ℕ → Bool
is_day year month day = leb 1 day && leb day (month_length year month)

-- "yyyymmdd, year 0000 to 9999, month 01 to 12, day from 01 to the month's length"
unfoldable pub real_date : ℕ → Bool
real_date n =
    let year = n / 10000 in
    let month = n / 100 % 100 in
    let day = n % 100 in
    leb year 9999 && (leb 1 month && leb month 12) && is_day year month day

-- "Times run from 00:00:00 to 23:59:59."
unfoldable pub real_time : ℕ → Bool
real_time n =
    let hour = n / 10000 in
    let minute = n / 100 % 100 in
    let second = n % 100 in
    leb hour 23 && leb minute 59 && leb second 59
