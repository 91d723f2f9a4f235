-- Document 01's rows for the calls of the session table: one constructor for each answer, and what stands before a condition has been tested and
-- passed. b are the lent bytes, and σ is the table that they hold.
use Rattle.std.specs.Prelude.{ℕ, ◌+◌, ◌≤◌, ◌<◌, ◌≡◌, Bool, true, false, ◌&&◌, List, length}
use Rattle.counts.specs.Limits.{commands, programs, sessions, ticket_most}
use Rattle.counts.specs.Refusals.{not_real, not_a_record, too_little_room, all_taken, not_the_one, out_of_range, no_ticket_left, unsound, nothing_unanswered}
use Rattle.counts.specs.Result.{Result, refused, done}
use Rattle.record.specs.Record.{is_outcome}
use Rattle.sessions.specs.Find.{Found, none, at, find}
use Rattle.sessions.specs.Records.{is_dated}
use Rattle.sessions.specs.Table.{State, within, is_open, is_waiting, turn, lowest, names, is_ready, reply}
use Rattle.sessions.specs.declared.Answer.{Answer}
use Rattle.table_layout.specs.Layout.{table_bytes}
use Rattle.table_sound.specs.Bytes.{sound_bytes}

-- make: "making tests 11, then 13 if the lent memory has not a table's size"
pub data MakeRow (b : List ℕ) (max : ℕ) : Result (Unit {0}) → Type 0 where
  eleven : within 1 max sessions ≡ false → MakeRow b max (refused out_of_range 0)
  thirteen : within 1 max sessions ≡ true → (length b ≡ table_bytes → ⊥) → MakeRow b max (refused unsound 0)
  made : within 1 max sessions ≡ true → length b ≡ table_bytes → MakeRow b max (done tt)

-- place: "Order 13, 11, 9, 12"
abbrev pub may_place : ℕ → ℕ → Bool
may_place p n = within 1 p programs && within 1 n commands

abbrev pub open_number : State → Found
open_number σ = find σ.max (λ s. is_open (σ.slot s))

pub data PlaceRow (b : List ℕ) (σ : State) (p n : ℕ) : Result (ℕ × ℕ) → Type 0 where
  thirteen : sound_bytes b ≡ false → PlaceRow b σ p n (refused unsound 0)
  eleven : sound_bytes b ≡ true → may_place p n ≡ false → PlaceRow b σ p n (refused out_of_range 0)
  nine : sound_bytes b ≡ true → may_place p n ≡ true → open_number σ ≡ none → PlaceRow b σ p n (refused all_taken 0)
  twelve : (s : ℕ) → sound_bytes b ≡ true → may_place p n ≡ true → open_number σ ≡ at s → ticket_most ≤ σ.last → PlaceRow b σ p n (refused no_ticket_left 0)
  placed : (s : ℕ) → sound_bytes b ≡ true → may_place p n ≡ true → open_number σ ≡ at s → σ.last < ticket_most → PlaceRow b σ p n (done (s, σ.last + 1))

-- take up: "Order 13, 14"
abbrev pub next_in_turn : State → Found
next_in_turn σ = find σ.max (λ i. is_waiting (σ.slot (turn σ i)))

abbrev pub command : State → ℕ → ℕ × ℕ × ℕ
command σ s = (s, (σ.slot s).ticket, lowest (σ.slot s))

pub data TakeUpRow (b : List ℕ) (σ : State) : Result (ℕ × ℕ × ℕ) → Type 0 where
  thirteen : sound_bytes b ≡ false → TakeUpRow b σ (refused unsound 0)
  again : (s : ℕ) → sound_bytes b ≡ true → σ.hand ≡ at s → TakeUpRow b σ (done (command σ s))
  fourteen : sound_bytes b ≡ true → σ.hand ≡ none → next_in_turn σ ≡ none → TakeUpRow b σ (refused nothing_unanswered 0)
  taken_up : (i : ℕ) → sound_bytes b ≡ true → σ.hand ≡ none → next_in_turn σ ≡ at i → TakeUpRow b σ (done (command σ (turn σ i)))

-- answer: "must name the command in hand. Order 13, 10, 5, 7"
pub data AnswerRow (b : List ℕ) (σ : State) (t c : ℕ) (a : Answer) : Result (Unit {0}) → Type 0 where
  thirteen : sound_bytes b ≡ false → AnswerRow b σ t c a (refused unsound 0)
  ten_empty : sound_bytes b ≡ true → σ.hand ≡ none → AnswerRow b σ t c a (refused not_the_one 0)
  ten_other : (s : ℕ) → sound_bytes b ≡ true → σ.hand ≡ at s → names (σ.slot s) t c ≡ false → AnswerRow b σ t c a (refused not_the_one 0)
  five : (s : ℕ) → sound_bytes b ≡ true → σ.hand ≡ at s → names (σ.slot s) t c ≡ true → is_dated a ≡ false → AnswerRow b σ t c a (refused not_real 0)
  seven : (s : ℕ) → sound_bytes b ≡ true → σ.hand ≡ at s → names (σ.slot s) t c ≡ true → is_dated a ≡ true → is_outcome a.outcome ≡ false
      → AnswerRow b σ t c a (refused not_a_record 0)
  answered : (s : ℕ) → sound_bytes b ≡ true → σ.hand ≡ at s → names (σ.slot s) t c ≡ true → is_dated a ≡ true → is_outcome a.outcome ≡ true
      → AnswerRow b σ t c a (done tt)

-- collect: "needs a closed session of that program and ticket. Order 13, 11 (program), 10 (ticket 0 too), 8"
abbrev pub closed : State → ℕ → ℕ → Found
closed σ p t = find σ.max (λ s. is_ready p t (σ.slot s))

pub data CollectRow (b : List ℕ) (σ : State) (p t room : ℕ) : Result (List ℕ) → Type 0 where
  thirteen : sound_bytes b ≡ false → CollectRow b σ p t room (refused unsound 0)
  eleven : sound_bytes b ≡ true → within 1 p programs ≡ false → CollectRow b σ p t room (refused out_of_range 0)
  ten : sound_bytes b ≡ true → within 1 p programs ≡ true → closed σ p t ≡ none → CollectRow b σ p t room (refused not_the_one 0)
  eight : (s : ℕ) → sound_bytes b ≡ true → within 1 p programs ≡ true → closed σ p t ≡ at s → room < length (reply (σ.slot s))
      → CollectRow b σ p t room (refused too_little_room 0)
  collected : (s : ℕ) → sound_bytes b ≡ true → within 1 p programs ≡ true → closed σ p t ≡ at s → length (reply (σ.slot s)) ≤ room
      → CollectRow b σ p t room (done (reply (σ.slot s)))
