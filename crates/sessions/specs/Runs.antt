-- Calls one after the other, over any start and any way to answer a table's calls. Lists of calls and events have the newest first.
use Rattle.std.specs.Prelude.{ℕ, ◌≡◌, Bool, true, false, not, ◌&&◌, List, [], ◌∷◌, eqb}
use Rattle.counts.specs.Limits.{programs, sessions}
use Rattle.counts.specs.Refusals.{not_the_one}
use Rattle.counts.specs.Result.{Result, refused, done}
use Rattle.sessions.specs.History.{itself, other, Call, to_make, to_place, to_take_up, to_answer, to_collect, Event, made, placed, took_up, answered, collected}
use Rattle.sessions.specs.Table.{within}
use Rattle.sessions.specs.declared.Answer.{Answer}

-- A table is kept as an S: what a call answers, and what it leaves.
abbrev pub StepOf : Type 0 → Type 0
StepOf S = S → Call → Event × S

-- "tables reached": what the calls lead to, and the calls with their answers.
unfoldable pub reached : {S : Type 0} → S → StepOf S → List Call → S
reached start step [] = start
reached start step (c ∷ cs) = (step (reached start step cs) c).1

unfoldable pub history_of : {S : Type 0} → S → StepOf S → List Call → List Event
history_of start step [] = []
history_of start step (c ∷ cs) = (step (reached start step cs) c).0 ∷ history_of start step cs

-- "tables reached from a fresh one without making it anew": the table's own memory has a table's size, so a making there is refused
-- only where MaxSessions is not in range.
abbrev pub makes_anew : Call → Bool
makes_anew (to_make itself max) = within 1 max sessions
makes_anew (to_make (other m) max) = false
makes_anew (to_place p n) = false
makes_anew to_take_up = false
makes_anew (to_answer t c a) = false
makes_anew (to_collect p t out) = false

unfoldable pub never_anew : List Call → Bool
never_anew [] = true
never_anew (c ∷ cs) = not (makes_anew c) && never_anew cs

-- Whether a call has made the table anew: what its answer says.
abbrev pub was_made : Event → Bool
was_made (made itself max (done r)) = true
was_made (made itself max (refused k i)) = false
was_made (made (other m) max r) = false
was_made (placed p n r) = false
was_made (took_up r) = false
was_made (answered t c a r) = false
was_made (collected p t out r exit) = false

-- Whether an answer is the refusal with that number. What a making of other memory is refused is not said of this table.
abbrev pub is_refused_with : {A : Type 0} → ℕ → Result A → Bool
is_refused_with k (refused number place) = eqb number k
is_refused_with k (done x) = false

abbrev pub refused_with : ℕ → Event → Bool
refused_with k (made itself max r) = is_refused_with k r
refused_with k (made (other m) max r) = false
refused_with k (placed p n r) = is_refused_with k r
refused_with k (took_up r) = is_refused_with k r
refused_with k (answered t c a r) = is_refused_with k r
refused_with k (collected p t out r exit) = is_refused_with k r

-- Every call on the table that is kept as s and names t is refused, and none gives t.
pub record Refuses {S : Type 0} (step : StepOf S) (s : S) (t : ℕ) : Type 0 where
  pub no_answer : (c : ℕ) (a : Answer) → (step s (to_answer t c a)).0 ≡ answered t c a (refused not_the_one 0)
  pub no_collect : (p : ℕ) (out : List ℕ) → within 1 p programs ≡ true → (step s (to_collect p t out)).0 ≡ collected p t out (refused not_the_one 0) out
  pub no_place : (p n number : ℕ) → (step s (to_place p n)).0 ≡ placed p n (done (number, t)) → ⊥
  pub no_take_up : (number c : ℕ) → (step s to_take_up).0 ≡ took_up (done (number, t, c)) → ⊥
