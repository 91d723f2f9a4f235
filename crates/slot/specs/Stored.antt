-- What is written of a session: a new head, and a slot with one answer more. Need not be believed: `place_leaves`, `answer_leaves` and
-- `answer_changes` of the page of claims say what is left.
use Rattle.std.specs.Prelude.{ℕ, ◌+◌, true, cond, List, [], ◌∷◌}
use Rattle.counts.specs.declared.Ticket.{Ticket}
use Rattle.record.specs.declared.Outcome.{Outcome}
use Rattle.record.specs.declared.Outcome.TheVariants.{Processed, Error}
use Rattle.sessions.specs.declared.Answer.{Answer}
use Rattle.table_layout.specs.Layout.{head_at, put_number, put_row}
use Rattle.slot.specs.Fields.{answered_at, entry_at, head_of}
use Rattle.slot.specs.declared.Head.{Head}
use Rattle.slot.specs.declared.Slot.{Slot}

abbrev pub new_head : ℕ → ℕ → Ticket → Head
new_head p n t = record { taken = true; program = p; count = n; answered = 0; ticket = t }

unfoldable pub put_head : List ℕ → ℕ → Head → List ℕ
put_head b s h = put_row b (head_at s) 0 (cond h.taken 1 0 ∷ h.program ∷ h.count ∷ h.answered ∷ h.ticket.0 ∷ [])

-- an outcome as numbers
unfoldable pub kind_of : Outcome → ℕ
kind_of Processed = 0
kind_of (Error class code) = class + 1

unfoldable pub code_of : Outcome → ℕ
code_of Processed = 0
code_of (Error class code) = code

unfoldable pub put_entry : List ℕ → ℕ → ℕ → Answer → List ℕ
put_entry b s c a = put_row b (entry_at s c) 0 (kind_of a.outcome ∷ code_of a.outcome ∷ a.date ∷ a.time ∷ [])

abbrev pub with_entry : Slot → Answer → Slot
with_entry x a =
    record {
      head =
          record {
            taken = x.head.taken;
            program = x.head.program;
            count = x.head.count;
            answered = x.head.answered + 1;
            ticket = x.head.ticket;
          };
      entry = a;
    }

-- a session's head, and nothing stored yet
unfoldable pub taken_out : List ℕ → ℕ → Slot
taken_out b s = record { head = head_of b s; entry = record { outcome = Processed; date = 0; time = 0 } }

-- the last answer and the number of answers are all that answering changes
unfoldable pub put_slot : List ℕ → ℕ → Slot → List ℕ
put_slot b s x = put_number (put_entry b s x.head.answered x.entry) (answered_at s) x.head.answered
