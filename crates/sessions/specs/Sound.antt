-- When a table is sound, phrase by phrase as document 01 has it.
use Rattle.std.specs.Prelude.{ℕ, Bool, true, ◌&&◌, ◌||◌, not, List, [], ◌∷◌, eqb, leb, ltb, length}
use Rattle.counts.specs.Limits.{commands, programs, sessions, ticket_most}
use Rattle.sessions.specs.Find.{Found, none, at, all}
use Rattle.record.specs.Record.{is_outcome}
use Rattle.sessions.specs.Records.{is_dated}
use Rattle.sessions.specs.Table.{Session, State, within, is_open, is_waiting}
use Rattle.sessions.specs.declared.Answer.{Answer}

-- "MaxSessions is in range"
unfoldable pub max_in_range : State → Bool
max_in_range σ = within 1 σ.max sessions

-- "the turn's mark is below it"
unfoldable pub mark_below : State → Bool
mark_below σ = ltb σ.mark σ.max

-- "each session has a program, count and ticket in range"
unfoldable pub in_range : Session → Bool
in_range x = within 1 x.program programs && within 1 x.count commands && within 1 x.ticket ticket_most

-- "no session stands at or above it", "each session has a program, count and ticket in range", tickets "not above the last", "no more
-- answers than commands"
unfoldable pub head_sound : (max last s : ℕ) → Session → Bool
head_sound max last s x = ltb s max && in_range x && leb x.ticket last && leb (length x.answers) x.count

-- "tickets are distinct": no session below has the ticket of this one
unfoldable pub differs : Session → ℕ → Bool
differs x t = is_open x || not (eqb x.ticket t)

unfoldable pub is_new : State → ℕ → Session → Bool
is_new σ s x = all s (λ r. differs (σ.slot r) x.ticket)

-- "every stored answer in range with a real date and time"
unfoldable pub in_range_and_real : Answer → Bool
in_range_and_real a = is_dated a && is_outcome a.outcome

unfoldable pub all_real : List Answer → Bool
all_real [] = true
all_real (a ∷ l) = in_range_and_real a && all_real l

unfoldable pub slot_sound : State → ℕ → Session → Bool
slot_sound σ s x = is_open x || (head_sound σ.max σ.last s x && is_new σ s x && all_real x.answers)

-- "the command in hand is the lowest unanswered of its session": the lowest by what a hand is, so there must be one
unfoldable pub hand_sound : State → Found → Bool
hand_sound σ none = true
hand_sound σ (at s) = is_waiting (σ.slot s)

unfoldable pub sound : State → Bool
sound σ = max_in_range σ && mark_below σ && all sessions (λ s. slot_sound σ s (σ.slot s)) && hand_sound σ σ.hand
