-- How the session table stands in lent bytes: its rows, and the table's own row.
use Rattle.std.specs.Prelude.{ℕ, suc, ◌+◌, ◌-◌, ◌*◌, cond, eqb, List, [], ◌∷◌, Option, Some, None}
use Rattle.counts.specs.Limits.{commands, sessions}
use Rattle.field.specs.Number.{get_w, put_w}
use Rattle.counts.specs.declared.SessionNumber.{SessionNumber}
use Rattle.table_layout.specs.declared.Table.{Table}

-- ---- the layout: a row is four numbers, a number four bytes. Row 0 is the table's own; then each session has two rows for its head and one
-- for the answer to each command.

abbrev pub slot_numbers : ℕ
slot_numbers = 4 * (2 + commands)

-- the first number of a session
abbrev pub head_at : ℕ → ℕ
head_at s = 4 + slot_numbers * s

abbrev pub table_numbers : ℕ
table_numbers = head_at sessions

-- "it has a table's size (one size for every MaxSessions, at most 1,048,576 bytes)"
abbrev pub table_bytes : ℕ
table_bytes = 4 * table_numbers

-- the number at a place
unfoldable pub number : List ℕ → ℕ → ℕ
number b i = get_w 4 b (4 * i)

-- ---- the table's own row: MaxSessions, the last ticket, the turn's mark, what is in hand

abbrev pub max_at : ℕ
max_at = 0

abbrev pub last_at : ℕ
last_at = 1

abbrev pub mark_at : ℕ
mark_at = 2

abbrev pub hand_at : ℕ
hand_at = 3

-- ---- Need not be believed: the row as code has it, and what is written. `table_sound/proofs/Tells` shows that the row tells what the table without
-- bytes holds; `makes_fresh`, `place_leaves` and the others like it of the page of claims, that what is written is what a call leaves.

unfoldable pub put_number : List ℕ → ℕ → ℕ → List ℕ
put_number b i v = put_w 4 b (4 * i) v

-- numbers put one after the other, the first of them k places after at
unfoldable pub put_row : List ℕ → (at k : ℕ) → List ℕ → List ℕ
put_row b at k [] = b
put_row b at k (v ∷ vs) = put_row (put_number b (at + k) v) at (suc k) vs

-- what is in hand, by the number that stands for it: 0 for nothing, else one more than the session's
abbrev pub hand_read : ℕ → Option SessionNumber
hand_read n = cond (eqb n 0) None (Some (record { 0 = n - 1 }))

abbrev pub hand_number : Option SessionNumber → ℕ
hand_number None = 0
hand_number (Some s) = s.0 + 1

unfoldable pub table_of : List ℕ → Table
table_of b =
    record { max = number b max_at; last = record { 0 = number b last_at }; mark = record { 0 = number b mark_at }; hand = hand_read (number b hand_at) }

unfoldable pub put_table : List ℕ → Table → List ℕ
put_table b t = put_row b max_at 0 (t.max ∷ t.last.0 ∷ t.mark.0 ∷ hand_number t.hand ∷ [])

-- "A fresh table has no session, last ticket 0, nothing in hand, and 0 comes first in the turn."
abbrev pub fresh_table : ℕ → Table
fresh_table max = record { max = max; last = record { 0 = 0 }; mark = record { 0 = max - 1 }; hand = None }
