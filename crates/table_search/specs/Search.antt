-- What the searches of a table's bytes find. Need not be believed: it binds only the searches, and what the calls answer is said without
-- it.
use Rattle.std.specs.Prelude.{ℕ, List}
use Rattle.sessions.specs.Find.{Found, none, at, find}
use Rattle.sessions.specs.Table.{State, is_open, is_waiting, is_ready, turn}
use Rattle.table_layout.specs.Layout.{number, max_at}
use Rattle.std.specs.declared.option.Option.{Option}
use Rattle.std.specs.declared.option.Option.TheVariants.{Some, None}
use Rattle.counts.specs.declared.SessionNumber.{SessionNumber}
use Rattle.slot.specs.Fields.{slot_of}
use Rattle.table_sound.specs.Bytes.{abs}

-- the paper's value: a session's number, or none
abbrev pub paper_found : Option SessionNumber → Found
paper_found (Some s) = at s.0
paper_found None = none

-- "the lowest open number"
abbrev pub open_in : List ℕ → Found
open_in b = find (number b max_at) (λ s. is_open (slot_of b s))

-- how many places on in the turn "the first session with an unanswered command" stands, and its number
abbrev pub next_in : List ℕ → Found
next_in b = find (number b max_at) (λ i. is_waiting (slot_of b (turn (abs b) i)))

abbrev pub turned : State → Found → Found
turned σ none = none
turned σ (at i) = at (turn σ i)

abbrev pub waiting_in : List ℕ → Found
waiting_in b = turned (abs b) (next_in b)

-- "a closed session of that program and ticket"
abbrev pub ready_found : List ℕ → ℕ → ℕ → Found
ready_found b p t = find (number b max_at) (λ s. is_ready p t (slot_of b s))
