-- What each call of the session table answers on lent bytes, and leaves: the step of a run over bytes.
use Rattle.std.specs.Prelude.{ℕ, List, length}
use Rattle.counts.specs.Result.{counted}
use Rattle.session_table.specs.Calls.{making, made_bytes, placing, placed_bytes, taking_up, taken_bytes, answering, answered_bytes, collecting, collected_bytes, collected_out}
use Rattle.sessions.specs.History.{itself, other, Call, to_make, to_place, to_take_up, to_answer, to_collect, Event, made, placed, took_up, answered, collected}
use Rattle.sessions.specs.Runs.{StepOf, reached}

-- What a call answers, and the table's bytes at its exit.
abbrev pub Step : Type 0
Step = StepOf (List ℕ)

-- The words of the contracts. Other memory than the table's own is a part of it, or more, or apart: where it has not a table's size its
-- making is refused, and where it is apart its making is not this table's.
unfoldable pub step_bytes : List ℕ → Call → Event × List ℕ
step_bytes b (to_make itself max) = (made itself max (making b max), made_bytes b max)
step_bytes b (to_make (other m) max) = (made (other m) max (making m max), b)
step_bytes b (to_place p n) = (placed p n (placing b p n), placed_bytes b p n)
step_bytes b to_take_up = (took_up (taking_up b), taken_bytes b)
step_bytes b (to_answer t c a) = (answered t c a (answering b t c a), answered_bytes b t c a)
step_bytes b (to_collect p t out) =
    (collected p t out (counted (collecting b p t (length out))) (collected_out b p t out), collected_bytes b p t (length out))

-- The table's bytes after the calls.
abbrev pub bytes_after : List ℕ → Step → List Call → List ℕ
bytes_after start step cs = reached start step cs
