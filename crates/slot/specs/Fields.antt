-- Where each field of a session stands in lent bytes, and the session that the fields tell.
use Rattle.std.specs.Prelude.{ℕ, ◌+◌, ◌-◌, ◌*◌, ◌≡◌, true, not, cond, List, eqb, ltb}
use Rattle.counts.specs.Limits.{sessions}
use Rattle.record.specs.declared.Outcome.{Outcome}
use Rattle.record.specs.declared.Outcome.TheVariants.{Processed, Error}
use Rattle.sessions.specs.Find.{first}
use Rattle.sessions.specs.Table.{Session, no_session}
use Rattle.sessions.specs.declared.Answer.{Answer}
use Rattle.slot.specs.declared.Head.{Head}
use Rattle.table_layout.specs.Layout.{head_at, number}

-- ---- a session's head, two rows: whether its number is taken (0: it is open), program, command count, answers so far; the ticket, and three numbers that are spare

abbrev pub is_taken_at : ℕ → ℕ
is_taken_at s = head_at s

abbrev pub answered_at : ℕ → ℕ
answered_at s = head_at s + 3

unfoldable pub head_of : List ℕ → ℕ → Head
head_of b s =
    record {
      taken = not (eqb (number b (is_taken_at s)) 0);
      program = number b (head_at s + 1);
      count = number b (head_at s + 2);
      answered = number b (answered_at s);
      ticket = record { 0 = number b (head_at s + 4) };
    }

-- ---- the answer to a command, a row after the head's two: its outcome (0 for PROCESSED, one more than the class for ERROR), its code, date and time

abbrev pub entry_at : ℕ → ℕ → ℕ
entry_at s c = head_at s + 4 * (1 + c)

unfoldable pub outcome_of : ℕ → ℕ → Outcome
outcome_of kind code = cond (eqb kind 0) Processed (Error (kind - 1) code)

unfoldable pub entry_of : List ℕ → ℕ → ℕ → Answer
entry_of b s c =
    record {
      outcome = outcome_of (number b (entry_at s c)) (number b (entry_at s c + 1));
      date = number b (entry_at s c + 2);
      time = number b (entry_at s c + 3);
    }

-- ---- the session

-- what a head says of a number that is taken, with the answer to each command
abbrev pub session_of : Head → (ℕ → Answer) → Session
session_of h answer =
    record { taken = true; program = h.program; count = h.count; ticket = h.ticket.0; answers = first h.answered (λ i. answer (i + 1)) }

-- not taken: the number is open, whatever else stands there
unfoldable pub told : Head → (ℕ → Answer) → Session
told h answer = cond h.taken (session_of h answer) no_session

-- a question of a session, answered from its head alone: it is the same whatever its answers say
abbrev pub Tells : {A : Type 0} → Head → (Session → A) → A → Type 0
Tells h question r = (answer : ℕ → Answer) → r ≡ question (told h answer)

-- what a number holds
unfoldable pub slot_of : List ℕ → ℕ → Session
slot_of b s = cond (ltb s sessions) (told (head_of b s) (entry_of b s)) no_session
