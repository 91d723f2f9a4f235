-- A real date has at most eight digits, and a real time at most six: what a writer of decimal fields asks. Every month has 28 days. The
-- fields as code finds them decide whether a date or a time is real.
use mathlib.Core.Path.{◌≡◌, refl}
use mathlib.Core.Bool.{Bool, true, false, cond, ◌&&◌}
use Prim.Native.Nat.{ℕ, ◌+◌, ◌-◌, ◌*◌, ◌/◌, ◌%◌, ◌≤◌, ◌<◌}
use native.Mathlib.Omega.{arith}
use lib.Dec.{leb}
use borrow.Author.Rules.{rules}
use borrow.Author.Tests.{le-leb, leb-true}
use Rattle.laws.proofs.Choose.{and_left, and_right}
use Rattle.calendar.specs.Calendar.{february_length, month_length, is_day, real_date, real_time}

-- of three tests that hold, the first
first : (a b : ℕ) (t u : Bool) → (leb a b && t && u) ≡ true → a ≤ b
first a b t u h = leb-true a b (and_left (leb a b) t (and_left (leb a b && t) u h))

pub date_lt : (n : ℕ) → real_date n ≡ true → n < 100000000
unfolding real_date
date_lt n h = let year : n / 10000 ≤ 9999 = first (n / 10000) 9999 _ _ h in omega arith

pub time_lt : (n : ℕ) → real_time n ≡ true → n < 1000000
unfolding real_time
time_lt n h = let hour : n / 10000 ≤ 23 = first (n / 10000) 23 _ _ h in omega arith

-- every month has 28 days
long_enough : (year month : ℕ) → 28 ≤ month_length year month
unfolding month_length february_length
long_enough year month = search (rules, either_way)
  where
    either_way : (t : Bool) (a b : ℕ) → 28 ≤ a → 28 ≤ b → 28 ≤ cond t a b
    either_way true a b p q = p
    either_way false a b p q = q

early : (year month day : ℕ) → (leb 1 day && leb day 28) ≡ true → true ≡ is_day year month day
early year month day h =
    let some = and_left (leb 1 day) (leb day 28) h in
    let most : day ≤ 28 = leb-true day 28 (and_right (leb 1 day) (leb day 28) h) in
    rw (some, le-leb day (month_length year month) (omega (arith, long_enough year month)))

-- ---- a date and a time by their fields

-- n as its last two digits, the two before them, and the rest
abbrev pub Fields : ℕ → ℕ → ℕ → ℕ → Type 0
Fields n high middle low = (high ≡ n / 10000) × (middle ≡ n / 100 % 100) × (low ≡ n % 100)

-- its four low digits are split once more
pub in_fields : (n high rest middle low : ℕ) → (high ≡ n / 10000) × (rest ≡ n % 10000) → (middle ≡ rest / 100) × (low ≡ rest % 100)
    → Fields n high middle low
in_fields n high rest middle low (h, r) (m, l) =
    let hundreds : n / 100 ≡ high * 100 + rest / 100 = omega arith in
    (h, omega arith, omega arith)

-- some of the years are taken off, and the rest has the other years, the month and the day
pub dated : (n some years month day : ℕ) → some * 10000 ≤ n → Fields (n - some * 10000) years month day → Fields n (some + years) month day
dated n some years month day le (y, m, d) =
    let rest = n - some * 10000 in
    let e : n ≡ some * 10000 + rest = omega arith in
    let hundreds : n / 100 ≡ some * 100 + rest / 100 = omega arith in
    (omega arith, omega arith, omega arith)

-- the fields of what is left of a date when some of its years are taken off
pub left_fields : (n some : ℕ) → some * 10000 ≤ n
    → let rest = n - some * 10000 in Fields n (some + rest / 10000) (rest / 100 % 100) (rest % 100)
left_fields n some le = dated n some _ _ _ le (refl, refl, refl)

module _ (n year month day : ℕ) (small : n ≤ 99999999) (date : Fields n year month day) where
  pub date_is : (r : Bool) → (leb 1 month && leb month 12) ≡ true → r ≡ is_day year month day → r ≡ real_date n
  unfolding real_date
  date_is r t e = let (y, m, d) = date in rw (← y, ← m, ← d, le-leb year 9999 (omega arith), t) e

  pub early_date : (leb 1 month && leb month 12) ≡ true → (leb 1 day && leb day 28) ≡ true → true ≡ real_date n
  early_date t h = date_is true t (early year month day h)

  pub no_month : (leb 1 month && leb month 12) ≡ false → false ≡ real_date n
  unfolding real_date
  no_month t = let (y, m, d) = date in rw (← y, ← m, ← d, le-leb year 9999 (omega arith), t)

pub time_is : (n : ℕ) → n < 240000
    → let minute = n / 100 % 100 in
    let second = n % 100 in
    ((leb 0 minute && leb minute 59) && (leb 0 second && leb second 59)) ≡ real_time n
unfolding real_time
time_is n small = rw (le-leb 0 (n / 100 % 100) (omega arith), le-leb 0 (n % 100) (omega arith), le-leb (n / 10000) 23 (omega arith))
