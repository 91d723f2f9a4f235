-- Whole numbers as decimal digits: in a field of a fixed width, with leading zeros, and plain, without them.
use Rattle.std.specs.Prelude.{ℕ, zero, suc, ◌+◌, ◌-◌, ◌*◌, ◌/◌, ◌%◌, ◌^◌, Bool, true, cond, ◌&&◌, List, [], ◌∷◌, length, leb, ltb}

-- the w low decimal digits of n as bytes, the highest first, with leading zeros
unfoldable pub digits : ℕ → ℕ → List ℕ
digits zero n = []
digits (suc w) n = (48 + n / 10 ^ w % 10) ∷ digits w n

-- the number that a list of digit bytes is
unfoldable pub value : List ℕ → ℕ
value [] = 0
value (d ∷ ds) = (d - 48) * 10 ^ length ds + value ds

-- '0' to '9'
abbrev pub is_digit : ℕ → Bool
is_digit b = leb 48 b && leb b 57

unfoldable pub all_digits : List ℕ → Bool
all_digits [] = true
all_digits (d ∷ ds) = is_digit d && all_digits ds

-- the least width from w on that n fits, where at most more widths above w are tried
unfoldable pub width_from : ℕ → ℕ → ℕ → ℕ
width_from zero w n = w
width_from (suc more) w n = cond (ltb n (10 ^ w)) w (width_from more (suc w) n)

-- how many digits n has without leading zeros: the least width from 1 on that it fits. No number n has more than n + 1 digits.
unfoldable pub plain_width : ℕ → ℕ
plain_width n = width_from n 1 n

-- n without leading zeros
unfoldable pub plain : ℕ → List ℕ
plain n = digits (plain_width n) n
