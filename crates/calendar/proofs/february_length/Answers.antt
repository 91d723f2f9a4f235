-- `february_length` meets its contract: its three tests are those of the word.
use Prim.Native.Nat.{ℕ, ◌-◌, ◌*◌, ◌/◌, ◌%◌}
use mathlib.Core.Path.{◌≡◌, refl, sym, ap, ◌∙◌}
use mathlib.Core.Bool.{Bool, true, false, ◌&&◌, not}
use native.Mathlib.Omega.{arith}
use borrow.Author.Tests.{eq-eqb, ne_eqb, eqb-true, eqb-false, le-leb, lt-leb}
use lib.Bits.{bit_and, and_mask}
use lib.Dec.{eqb, leb}
use Rattle.laws.proofs.Choose.{choose}
use Rattle.calendar.specs.Calendar.{divides_by, february_length}
use Rattle.calendar.proofs.february_length.Goals as goal

-- whether the last two digits are from 00 to 00
abbrev end_in00 : ℕ → Bool
end_in00 year = leb 0 (year % 100) && leb (year % 100) 0

by_4 : (year : ℕ) → eqb (bit_and year 3) 0 ≡ divides_by 4 year
by_4 year = ap (λ (n : ℕ). eqb n 0) (and_mask year 2)

by_100 : (year : ℕ) (r : Bool) → r ≡ end_in00 year → r ≡ divides_by 100 year
by_100 year r e = e ∙ go (eqb (year % 100) 0) refl
  where
    go : (t : Bool) → eqb (year % 100) 0 ≡ t → end_in00 year ≡ t
    go true e = let z = eqb-true (year % 100) 0 e in rw (le-leb 0 (year % 100) (omega arith), le-leb (year % 100) 0 (omega arith))
    go false e = let z = eqb-false (year % 100) 0 e in rw (le-leb 0 (year % 100) (omega arith), lt-leb (year % 100) 0 (omega arith))

-- 400 is the least number that divides by 100 and by 16
by_400 : (year : ℕ) (r : Bool) → r ≡ end_in00 year → (r && eqb (bit_and year 15) 0) ≡ divides_by 400 year
by_400 year r e = rw (by_100 year r e, and_mask year 4) (go (eqb (year % 100) 0) (eqb (year % 16) 0) refl refl)
  where
    go : (t u : Bool) → eqb (year % 100) 0 ≡ t → eqb (year % 16) 0 ≡ u → (t && u) ≡ eqb (year % 400) 0
    go true true e f =
        let z = eqb-true (year % 100) 0 e in
        let y = eqb-true (year % 16) 0 f in
        let four_hundreds : year ≡ 400 * (year / 16 - 6 * (year / 100)) = omega arith in
        sym (eq-eqb (year % 400) 0 (omega arith))
    go true false e f = let y = eqb-false (year % 16) 0 f in sym (ne_eqb (year % 400) 0 (λ q. y (omega arith)))
    go false u e f = let z = eqb-false (year % 100) 0 e in sym (ne_eqb (year % 400) 0 (λ q. z (omega arith)))

unless : (a b : Bool) → a ≡ b → not a ≡ not b
unless a b e = ap not e

pub returns-then-by_4-by_100 : goal.returns-then-by_4-by_100
unfolding february_length
returns-then-by_4-by_100 c = search (choose, by_4, by_100, by_400, unless) depth 9

pub returns-else-by_4-by_100 : goal.returns-else-by_4-by_100
unfolding february_length
returns-else-by_4-by_100 c = search (choose, by_4, by_100, by_400, unless) depth 9
