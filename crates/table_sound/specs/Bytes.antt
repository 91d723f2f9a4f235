-- What lent bytes say: the session table without bytes that they hold, and when they are sound.
use Rattle.std.specs.Prelude.{ℕ, ◌-◌, ◌≤◌, ◌<◌, ◌≡◌, Bool, false, ◌&&◌, cond, List, eqb, ltb, length, get_or}
use Rattle.sessions.specs.Find.{Found, none, at}
use Rattle.sessions.specs.Sound.{sound, hand_sound}
use Rattle.sessions.specs.Table.{State}
use Rattle.slot.specs.Fields.{slot_of}
use Rattle.table_layout.specs.Layout.{table_bytes, number, max_at, last_at, mark_at, hand_at}

-- 0: nothing in hand; else one more than the session's number
unfoldable pub hand_of : ℕ → Found
hand_of hand = cond (eqb hand 0) none (at (hand - 1))

-- the table without bytes
abbrev pub abs : List ℕ → State
abs b =
    record { max = number b max_at; last = number b last_at; mark = number b mark_at; hand = hand_of (number b hand_at); slot = slot_of b }

-- "A table is sound when: it has a table's size", and what it holds is sound
unfoldable pub sound_bytes : List ℕ → Bool
sound_bytes b = eqb (length b) table_bytes && sound (abs b)

-- ---- Need not be believed: what binds functions inside `is_sound` alone.

-- the tickets of the first s numbers, 0 where one is open
pub record Seen (b : List ℕ) (s : ℕ) (seen : List ℕ) : Type 0 where
  pub room : s ≤ length seen
  pub tickets : (i : ℕ) → i < s → get_or seen i 0 ≡ (slot_of b i).ticket

-- what is known of the hand after the first s numbers: nothing before its session is passed
abbrev pub hand_known : List ℕ → ℕ → ℕ → Bool
hand_known b hand s = cond (ltb s hand) false (hand_sound (abs b) (hand_of hand))
