-- One call of the table without bytes, and what it did, in six cases. Every invariant goes by these; nothing above this file looks into a call.
use Prim.Native.Nat.{ℕ, ◌+◌, ◌≤◌, ◌<◌}
use mathlib.Core.Path.{◌≡◌, refl}
use mathlib.Core.Bool.{true, false, cond, ◌&&◌}
use mathlib.Core.List.{List}
use borrow.Author.Tests.{not-true, leb-true, ltb-true, ltb-false}
use lib.Dec.{leb, ltb}
use lib.ListN.{length}
use Rattle.laws.proofs.Choose.{halves}
use Rattle.counts.specs.Limits.{commands, programs, sessions, ticket_most}
use Rattle.counts.specs.Refusals.{not_real, not_a_record, too_little_room, all_taken, not_the_one, out_of_range, no_ticket_left, unsound, nothing_unanswered}
use Rattle.sessions.specs.Find.{Found, none, at}
use Rattle.sessions.specs.History.{Lent, itself, other, Call, to_make, to_place, to_take_up, to_answer, to_collect, Event, made, placed, took_up, answered, collected, written, collected_as}
use Rattle.sessions.specs.Runs.{makes_anew, was_made, refused_with}
use Rattle.sessions.specs.declared.Answer.{Answer}
use Rattle.record.specs.Record.{is_outcome}
use Rattle.sessions.specs.Records.{is_dated}
use Rattle.sessions.specs.Sound.{in_range_and_real}
use Rattle.counts.specs.Result.{Result, refused, done}
use Rattle.sessions.specs.Table.{State, fresh, within, is_open, after_place, place_in, place, is_waiting, lowest, turn, given_from, after_take_up, take_next, take_hand, take_up, names, after_answer, answer_hand, answer, reply, after_collect, collect_from, collect, is_ready}
use Rattle.sessions.proofs.Laws.{Search, miss, hit, search_find, if_cond, in_range_lem, are_named, is_ready_lem}

unfoldable pub make : State → ℕ → Result (Unit {0}) × State
make σ max = cond (within 1 max sessions) (done tt, fresh max) (refused out_of_range 0, σ)

-- What a making of other memory answers is not this table's to say: `elsewhere` does.
unfoldable pub step_table : (elsewhere : List ℕ → ℕ → Result (Unit {0})) → State → Call → Event × State
step_table elsewhere σ (to_make itself max) = (made itself max (make σ max).0, (make σ max).1)
step_table elsewhere σ (to_make (other m) max) = (made (other m) max (elsewhere m max), σ)
step_table elsewhere σ (to_place p n) = (placed p n (place σ p n).0, (place σ p n).1)
step_table elsewhere σ to_take_up = (took_up (take_up σ).0, (take_up σ).1)
step_table elsewhere σ (to_answer t c a) = (answered t c a (answer σ t c a).0, (answer σ t c a).1)
step_table elsewhere σ (to_collect p t out) = (collected_as p t out (collect σ p t (length out)).0, (collect σ p t (length out)).1)

-- refused, given again what is in hand, or done to other memory
pub data Idle (σ : State) : Event → Type 0 where
  not_made : (m : Lent) (max : ℕ) (r : Result (Unit {0})) → was_made (made m max r) ≡ false → Idle σ (made m max r)
  no_place : (p n k i : ℕ) → Idle σ (placed p n (refused k i))
  no_take_up : (k i : ℕ) → Idle σ (took_up (refused k i))
  again : (s : ℕ) → σ.hand ≡ at s → Idle σ (took_up (given_from σ s))
  no_answer : (t c : ℕ) (a : Answer) (k i : ℕ) → Idle σ (answered t c a (refused k i))
  no_collect : (p t : ℕ) (out : List ℕ) (k i : ℕ) → Idle σ (collected p t out (refused k i) out)

-- what is known where a call is accepted
pub record Places (σ : State) (s p n : ℕ) : Type 0 where
  pub free : (σ.slot s).taken ≡ false
  pub below : s < σ.max
  pub program_range : (1 ≤ p) × (p ≤ programs)
  pub count_range : (1 ≤ n) × (n ≤ commands)
  pub room : σ.last < ticket_most

pub record Takes (σ : State) (i : ℕ) : Type 0 where
  pub empty_hand : σ.hand ≡ none
  pub in_turn : i < σ.max
  pub waits : length (σ.slot (turn σ i)).answers < (σ.slot (turn σ i)).count
  pub first : (j : ℕ) → j < i → (σ.slot (turn σ j)).count ≤ length (σ.slot (turn σ j)).answers

pub record Answers (σ : State) (s t c : ℕ) (a : Answer) : Type 0 where
  pub in_hand : σ.hand ≡ at s
  pub ticket : (σ.slot s).ticket ≡ t
  pub command : lowest (σ.slot s) ≡ c
  pub real : in_range_and_real a ≡ true

pub record Collects (σ : State) (s p t : ℕ) (out : List ℕ) : Type 0 where
  pub program_low : 1 ≤ p
  pub program : (σ.slot s).program ≡ p
  pub ticket : (σ.slot s).ticket ≡ t
  pub closed : length (σ.slot s).answers ≡ (σ.slot s).count
  pub fits : length (reply (σ.slot s)) ≤ length out

pub data Did (σ : State) : Event → State → Type 0 where
  nothing : {e : Event} → Idle σ e → refused_with unsound e ≡ false → Did σ e σ
  makes : {max : ℕ} → (1 ≤ max) × (max ≤ sessions) → Did σ (made itself max (done tt)) (fresh max)
  places : {s p n : ℕ} → Places σ s p n → Did σ (placed p n (done (s, σ.last + 1))) (after_place σ s p n)
  takes : {i : ℕ} → Takes σ i → Did σ (took_up (given_from σ (turn σ i))) (after_take_up σ (turn σ i))
  answers : {s t c : ℕ} {a : Answer} → Answers σ s t c a → Did σ (answered t c a (done tt)) (after_answer σ s a)
  collects : {s p t : ℕ} {out : List ℕ} → Collects σ s p t out
      → Did σ (collected p t out (done (length (reply (σ.slot s)))) (written out (reply (σ.slot s)))) (after_collect σ s)

module _ (σ : State) where
  module _ (p n : ℕ) where
    abbrev DidPlace : Result (ℕ × ℕ) × State → Type 0
    DidPlace r = Did σ (placed p n r.0) r.1

    place_in_lem : (within 1 p programs && within 1 n commands) ≡ true → (f : Found) → Search σ.max (λ s. is_open (σ.slot s)) f → DidPlace (place_in σ p n f)
    unfolding place_in is_open
    place_in_lem r none (miss m) = nothing (no_place p n all_taken 0) refl
    place_in_lem r (at s) (hit l e m) =
        if_cond DidPlace (ltb σ.last ticket_most)
        (λ q.
        let b = halves (within 1 p programs) (within 1 n commands) r in
        let k = in_range_lem 1 p programs b.0 in
        places (record { free = not-true _ e; below = l; program_range = k; count_range = in_range_lem 1 n commands b.1; room = ltb-true _ _ q }))
        (λ q. nothing (no_place p n no_ticket_left 0) refl)

    did_place : DidPlace (place σ p n)
    unfolding place
    did_place =
        if_cond DidPlace (within 1 p programs && within 1 n commands)
        (λ r. place_in_lem r _ (search_find _ _)) (λ q. nothing (no_place p n out_of_range 0) refl)

  abbrev DidTakeUp : Result (ℕ × ℕ × ℕ) × State → Type 0
  DidTakeUp r = Did σ (took_up r.0) r.1

  take_next_lem : σ.hand ≡ none → (f : Found) → Search σ.max (λ i. is_waiting (σ.slot (turn σ i))) f → DidTakeUp (take_next σ f)
  unfolding take_next is_waiting
  take_next_lem e none (miss m) = nothing (no_take_up nothing_unanswered 0) refl
  take_next_lem e (at i) (hit l w m) =
      takes (record { empty_hand = e; in_turn = l; waits = ltb-true _ _ w; first = λ j k. ltb-false _ _ (m j k) })

  take_hand_lem : (f : Found) → σ.hand ≡ f → DidTakeUp (take_hand σ f)
  unfolding take_hand
  take_hand_lem none e = take_next_lem e _ (search_find _ _)
  take_hand_lem (at s) e = nothing (again s e) refl

  module _ (t c : ℕ) (a : Answer) where
    abbrev DidAnswer : Result (Unit {0}) × State → Type 0
    DidAnswer r = Did σ (answered t c a r.0) r.1

    answer_hand_lem : (f : Found) → σ.hand ≡ f → DidAnswer (answer_hand σ t c a f)
    unfolding answer_hand in_range_and_real
    answer_hand_lem none e = nothing (no_answer t c a not_the_one 0) refl
    answer_hand_lem (at s) e =
        if_cond DidAnswer (names (σ.slot s) t c)
        (λ m. if_cond DidAnswer (is_dated a)
        (λ d. if_cond DidAnswer (is_outcome a.outcome)
        (λ o.
        let k = are_named (σ.slot s) t c m in
        answers (record { in_hand = e; ticket = k.0; command = k.1; real = rw (d, o) }))
        (λ q. nothing (no_answer t c a not_a_record 0) refl))
        (λ q. nothing (no_answer t c a not_real 0) refl))
        (λ q. nothing (no_answer t c a not_the_one 0) refl)

  module _ (p t : ℕ) (out : List ℕ) where
    abbrev DidCollect : Result (List ℕ) × State → Type 0
    DidCollect r = Did σ (collected_as p t out r.0) r.1

    collect_from_lem : within 1 p programs ≡ true → (f : Found) → Search σ.max (λ s. is_ready p t (σ.slot s)) f → DidCollect (collect_from σ (length out) f)
    unfolding collect_from
    collect_from_lem r none (miss m) = nothing (no_collect p t out not_the_one 0) refl
    collect_from_lem r (at s) (hit l e m) =
        if_cond DidCollect (leb (length (reply (σ.slot s))) (length out))
        (λ q.
        let k = is_ready_lem p t (σ.slot s) e in
        collects (record { program_low = (in_range_lem 1 p programs r).0; program = k.0; ticket = k.1; closed = k.2; fits = leb-true _ _ q }))
        (λ q. nothing (no_collect p t out too_little_room 0) refl)

    did_collect : DidCollect (collect σ p t (length out))
    unfolding collect
    did_collect = if_cond DidCollect (within 1 p programs) (λ r. collect_from_lem r _ (search_find _ _)) (λ q. nothing (no_collect p t out out_of_range 0) refl)

  did_make : (max : ℕ) → Did σ (made itself max (make σ max).0) (make σ max).1
  unfolding make
  did_make max =
      if_cond (λ (x : Result (Unit {0}) × State). Did σ (made itself max x.0) x.1) (within 1 max sessions)
      (λ q. makes (in_range_lem 1 max sessions q))
      (λ q. nothing (not_made itself max (refused out_of_range 0) refl) refl)

  module _ (elsewhere : List ℕ → ℕ → Result (Unit {0})) where
    pub did : (c : Call) → Did σ (step_table elsewhere σ c).0 (step_table elsewhere σ c).1
    unfolding step_table take_up answer
    did (to_make itself max) = did_make max
    did (to_make (other m) max) = nothing (not_made (other m) max (elsewhere m max) refl) refl
    did (to_place p n) = did_place p n
    did to_take_up = take_hand_lem σ.hand refl
    did (to_answer t c a) = answer_hand_lem t c a σ.hand refl
    did (to_collect p t out) = did_collect p t out

    -- the calls that make the table anew are those that say so
    pub anew_exactly : (c : Call) → makes_anew c ≡ was_made (step_table elsewhere σ c).0
    unfolding step_table make
    anew_exactly (to_make itself max) =
        elim (within 1 max sessions)
        as (λ x. x ≡ was_made (made itself max (cond {A = Result (Unit {0}) × State} x (done tt, fresh max) (refused out_of_range 0, σ)).0))
        [ true ↦ refl | false ↦ refl ]
    anew_exactly (to_make (other m) max) = refl
    anew_exactly (to_place p n) = refl
    anew_exactly to_take_up = refl
    anew_exactly (to_answer t c a) = refl
    anew_exactly (to_collect p t out) =
        elim (collect σ p t (length out)).0 as (λ r. false ≡ was_made (collected_as p t out r)) [ refused k i ↦ refl | done x ↦ refl ]
