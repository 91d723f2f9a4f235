-- The session table as document 01 has it, with no bytes: what it holds, and what each call answers and leaves.
use Rattle.std.specs.Prelude.{ℕ, suc, ◌+◌, ◌-◌, Bool, true, false, ◌&&◌, not, cond, List, [], ◌∷◌, ◌++◌, eqb, leb, ltb, length}
use Rattle.counts.specs.Limits.{commands, programs, ticket_most}
use Rattle.counts.specs.Refusals.{not_real, not_a_record, too_little_room, all_taken, not_the_one, out_of_range, no_ticket_left, nothing_unanswered}
use Rattle.counts.specs.Result.{Result, refused, done}
use Rattle.sessions.specs.Find.{Found, none, at, find, replaced}
use Rattle.record.specs.Record.{is_outcome}
use Rattle.sessions.specs.Records.{is_dated, record_of}
use Rattle.sessions.specs.declared.Answer.{Answer}

-- What a number holds: whether it is taken, and then by a session: whose it is, how many commands, its ticket, and the answers accepted so far.
pub record Session : Type 0 where
  pub taken : Bool
  pub program : ℕ
  pub count : ℕ
  pub ticket : ℕ
  pub answers : List Answer

abbrev pub no_session : Session
no_session = record { taken = false; program = 0; count = 0; ticket = 0; answers = [] }

-- MaxSessions, the last ticket, the turn's mark (the number last taken up), the session whose command is in hand, and the sessions.
pub record State : Type 0 where
  pub max : ℕ
  pub last : ℕ
  pub mark : ℕ
  pub hand : Found
  pub slot : ℕ → Session

-- "A fresh table has no session, last ticket 0, nothing in hand, and 0 comes first in the turn."
unfoldable pub fresh : ℕ → State
fresh max = record { max = max; last = 0; mark = max - 1; hand = none; slot = λ s. no_session }

abbrev pub within : ℕ → ℕ → ℕ → Bool
within low n high = leb low n && leb n high

-- "Place (program 1 to 8, command count 1 to 64): takes the lowest open number; ticket is the last plus one. Order 13, 11, 9, 12.
-- A number is taken from its placing until its collection." P6: "200 commands in a session"
unfoldable pub is_open : Session → Bool
is_open x = not x.taken

abbrev pub new_session : ℕ → ℕ → ℕ → Session
new_session p n t = record { taken = true; program = p; count = n; ticket = t; answers = [] }

abbrev pub after_place : State → ℕ → ℕ → ℕ → State
after_place σ s p n =
    record {
      max = σ.max;
      last = σ.last + 1;
      mark = σ.mark;
      hand = σ.hand;
      slot = replaced σ.slot s (new_session p n (σ.last + 1));
    }

unfoldable pub place_in : State → ℕ → ℕ → Found → Result (ℕ × ℕ) × State
place_in σ p n none = (refused all_taken 0, σ)
place_in σ p n (at s) = cond (ltb σ.last ticket_most) (done (s, σ.last + 1), after_place σ s p n) (refused no_ticket_left 0, σ)

unfoldable pub place : State → ℕ → ℕ → Result (ℕ × ℕ) × State
place σ p n =
    cond (within 1 p programs && within 1 n commands)
    (place_in σ p n (find σ.max (λ s. is_open (σ.slot s))))
    (refused out_of_range 0, σ)

-- "Take up: if a command is in hand, that one is given again and nothing changes. Otherwise, beginning after the number last taken up
-- and going round, the first session with an unanswered command gives its lowest one: number, ticket, command. Order 13, 14."
unfoldable pub is_waiting : Session → Bool
is_waiting x = ltb (length x.answers) x.count

abbrev pub lowest : Session → ℕ
lowest x = length x.answers + 1

abbrev pub turn_from : (mark max i : ℕ) → ℕ
turn_from mark max i = let s = mark + 1 + i in cond (ltb s max) s (s - max)

abbrev pub turn : State → ℕ → ℕ
turn σ i = turn_from σ.mark σ.max i

abbrev pub given_from : State → ℕ → Result (ℕ × ℕ × ℕ)
given_from σ s = done (s, (σ.slot s).ticket, lowest (σ.slot s))

abbrev pub after_take_up : State → ℕ → State
after_take_up σ s = record { max = σ.max; last = σ.last; mark = s; hand = at s; slot = σ.slot }

unfoldable pub take_next : State → Found → Result (ℕ × ℕ × ℕ) × State
take_next σ none = (refused nothing_unanswered 0, σ)
take_next σ (at i) = (given_from σ (turn σ i), after_take_up σ (turn σ i))

unfoldable pub take_hand : State → Found → Result (ℕ × ℕ × ℕ) × State
take_hand σ none = take_next σ (find σ.max (λ i. is_waiting (σ.slot (turn σ i))))
take_hand σ (at s) = (given_from σ s, σ)

unfoldable pub take_up : State → Result (ℕ × ℕ × ℕ) × State
take_up σ = take_hand σ σ.hand

-- "Answer (ticket, command, PROCESSED or ERROR with class and code, date, time): must name the command in hand. Order 13, 10, 5, 7
-- (class over 99, code over 99,999,999). The last command's answer closes the session. Answering changes one slot's entry and the in-hand
-- mark, nothing else."
unfoldable pub names : Session → ℕ → ℕ → Bool
names x t c = eqb x.ticket t && eqb (lowest x) c

abbrev pub with_answer : Session → Answer → Session
with_answer x a =
    record { taken = x.taken; program = x.program; count = x.count; ticket = x.ticket; answers = x.answers ++ (a ∷ []) }

abbrev pub after_answer : State → ℕ → Answer → State
after_answer σ s a =
    record { max = σ.max; last = σ.last; mark = σ.mark; hand = none; slot = replaced σ.slot s (with_answer (σ.slot s) a) }

unfoldable pub answer_hand : State → ℕ → ℕ → Answer → Found → Result (Unit {0}) × State
answer_hand σ t c a none = (refused not_the_one 0, σ)
answer_hand σ t c a (at s) =
    cond (names (σ.slot s) t c)
    (cond (is_dated a) (cond (is_outcome a.outcome) (done tt, after_answer σ s a) (refused not_a_record 0, σ)) (refused not_real 0, σ))
    (refused not_the_one 0, σ)

unfoldable pub answer : State → ℕ → ℕ → Answer → Result (Unit {0}) × State
answer σ t c a = answer_hand σ t c a σ.hand

-- "Collect (program, ticket): needs a closed session of that program and ticket. Writes all records in order, text empty.
-- Order 13, 11 (program), 10 (ticket 0 too), 8."
unfoldable pub is_closed : Session → Bool
is_closed x = x.taken && eqb (length x.answers) x.count

unfoldable pub is_ready : ℕ → ℕ → Session → Bool
is_ready p t x = eqb x.program p && eqb x.ticket t && is_closed x

-- k with the first answer, k + 1 with the second, ..
unfoldable pub numbered : ℕ → List Answer → List (ℕ × Answer)
numbered k [] = []
numbered k (a ∷ l) = (k, a) ∷ numbered (suc k) l

unfoldable pub records : List (ℕ × Answer) → List ℕ
records [] = []
records (x ∷ xs) = record_of x.0 x.1 ++ records xs

abbrev pub reply : Session → List ℕ
reply x = records (numbered 1 x.answers)

abbrev pub after_collect : State → ℕ → State
after_collect σ s = record { max = σ.max; last = σ.last; mark = σ.mark; hand = σ.hand; slot = replaced σ.slot s no_session }

unfoldable pub collect_from : State → ℕ → Found → Result (List ℕ) × State
collect_from σ room none = (refused not_the_one 0, σ)
collect_from σ room (at s) =
    cond (leb (length (reply (σ.slot s))) room) (done (reply (σ.slot s)), after_collect σ s) (refused too_little_room 0, σ)

unfoldable pub collect : State → ℕ → ℕ → ℕ → Result (List ℕ) × State
collect σ p t room =
    cond (within 1 p programs)
    (collect_from σ room (find σ.max (λ s. is_ready p t (σ.slot s))))
    (refused out_of_range 0, σ)
