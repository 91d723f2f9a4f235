-- A session that waits is served: a command is given, and its answer is accepted.
use Prim.Native.Nat.{ℕ, ◌+◌, ◌-◌, ◌≤◌, ◌<◌}
use mathlib.Core.Path.{◌≡◌, refl, ◌∙◌, ap, sym}
use mathlib.Core.Bool.{true, false≢true}
use mathlib.Core.Logic.{⊎_elim}
use mathlib.Core.List.{List, [], ◌∷◌}
use native.Mathlib.Nat.{eq-zero-or-pos}
use native.Mathlib.Omega.{arith}
use borrow.Author.Tests.{eq-eqb, lt-ltb, le-ltb}
use lib.ListN.{length}
use Rattle.laws.proofs.Choose.{halves}
use Rattle.counts.specs.Result.{Result, done}
use Rattle.record.specs.Record.{is_outcome}
use Rattle.sessions.proofs.Agrees.{Agrees}
use Rattle.sessions.proofs.Answers.{closed_or_waits}
use Rattle.sessions.proofs.Laws.{Search, miss, search_find}
use Rattle.sessions.proofs.Did.{step_table}
use Rattle.sessions.proofs.SoundKept.{is_session}
use Rattle.sessions.proofs.Told.{told_by}
use Rattle.sessions.specs.Find.{Found, none, at}
use Rattle.sessions.specs.History.{to_take_up, to_answer, Event, took_up, answered, placings, accepted}
use Rattle.sessions.specs.Records.{is_dated}
use Rattle.sessions.specs.Sound.{in_range_and_real}
use Rattle.sessions.specs.Table.{State, is_waiting, turn, take_next, take_hand, take_up, names, answer_hand, answer}
use Rattle.sessions.specs.declared.Answer.{Answer}

-- what was taken up may be answered
pub taken_is_answered : (elsewhere : List ℕ → ℕ → Result (Unit {0})) (σ : State) (s t c : ℕ) (a : Answer)
    → (step_table elsewhere σ to_take_up).0 ≡ took_up (done (s, t, c)) → in_range_and_real a ≡ true
    → (step_table elsewhere (step_table elsewhere σ to_take_up).1 (to_answer t c a)).0 ≡ answered t c a (done tt)
unfolding step_table answer answer_hand names in_range_and_real
taken_is_answered elsewhere σ s t c a e real =
    let w = told_by elsewhere σ to_take_up e in
    let k = halves (is_dated a) (is_outcome a.outcome) real in
    ap (answered t c a)
    (ap (λ f. (answer_hand (take_up σ).1 t c a f).0) w.in_hand
    ∙ rw (w.same_slots, eq-eqb _ _ w.ticket, eq-eqb _ _ w.command, k.0, k.1))

-- every number below MaxSessions has its turn
record Turn (σ : State) (s : ℕ) : Type 0 where
  place : ℕ
  below : place < σ.max
  is_it : turn σ place ≡ s

has_turn : (σ : State) (s : ℕ) → s < σ.max → σ.mark < σ.max → Turn σ s
has_turn σ s l m =
    ⊎_elim
    (λ (z : s - σ.mark ≡ 0).
    let j = σ.max - (σ.mark + 1) + s in
    let e : σ.mark + 1 + j ≡ σ.max + s = omega arith in
    record { place = j; below = omega arith; is_it = rw (e, le-ltb (σ.max + s) σ.max (omega arith)) (omega arith) })
    (λ (z : 1 ≤ s - σ.mark).
    let j = s - (σ.mark + 1) in
    let e : σ.mark + 1 + j ≡ s = omega arith in
    record { place = j; below = omega arith; is_it = rw (e, lt-ltb s σ.max l) })
    (eq-zero-or-pos (s - σ.mark))

-- "beginning after the number last taken up and going round": that number comes last
pub mark_comes_last : (σ : State) → σ.mark < σ.max → turn σ (σ.max - 1) ≡ σ.mark
mark_comes_last σ m =
    let e : σ.mark + 1 + (σ.max - 1) ≡ σ.max + σ.mark = omega arith in
    rw (e, le-ltb (σ.max + σ.mark) σ.max (omega arith)) (omega arith)

module _ (elsewhere : List ℕ → ℕ → Result (Unit {0})) (σ : State) (h : List Event) (A : Agrees σ h) where
  waits_given : (s : ℕ) → length (σ.slot s).answers < (σ.slot s).count → (x : ℕ × ℕ × ℕ) × ((take_up σ).0 ≡ done x)
  unfolding take_up take_hand take_next is_waiting
  waits_given s w = elim σ.hand as (λ f. (x : ℕ × ℕ × ℕ) × ((take_hand σ f).0 ≡ done x)) [ none ↦ next _ (search_find _ _) | at i ↦ (_, refl) ]
    where
      next : (f : Found) → Search σ.max (λ i. is_waiting (σ.slot (turn σ i))) f → (x : ℕ × ℕ × ℕ) × ((take_next σ f).0 ≡ done x)
      next none (miss m) =
          let u = has_turn σ s (is_session σ A.sound (λ x. x.count) refl s (omega arith)).number A.sound.mark_below_lem in
          absurd (false≢true (sym (m u.place u.below) ∙ ap (λ j. is_waiting (σ.slot j)) u.is_it ∙ lt-ltb _ _ w))
      next (at i) k = (_, refl)

  pub unanswered_is_given : (t s p n : ℕ) → placings t h ≡ (s, p, n) ∷ [] → length (accepted t h) < n
      → (x : ℕ × ℕ × ℕ) × ((step_table elsewhere σ to_take_up).0 ≡ took_up (done x))
  unfolding step_table
  unanswered_is_given t s p n e l =
      ⊎_elim (λ z. absurd (omega arith)) (λ z. let x = waits_given s z.1 in (x.0, ap took_up x.1)) (closed_or_waits σ h A t s p n e)
