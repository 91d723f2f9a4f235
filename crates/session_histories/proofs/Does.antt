-- Each call on sound bytes answers and leaves what the table without bytes does, and keeps them sound.
use Prim.Native.Nat.{ℕ, ◌+◌, ◌≤◌}
use mathlib.Core.Path.{◌≡◌, refl, ◌∙◌, ap, sym}
use mathlib.Core.Bool.{true}
use mathlib.Core.Logic.{⊎_elim}
use mathlib.Core.List.{List}
use native.Mathlib.Nat.{eq-zero-or-pos, zero-add}
use native.Mathlib.Omega.{arith}
use borrow.Author.Tests.{eq-eqb, lt-ltb, le-leb}
use lib.Dec.{eqb}
use lib.ListN.{length}
use Rattle.counts.proofs.Results.{done_same}
use Rattle.laws.proofs.Choose.{halves}
use Rattle.counts.specs.Limits.{commands, programs, sessions, ticket_most}
use Rattle.counts.specs.Result.{Result, refused, done, counted}
use Rattle.field.proofs.Put.{put_eq}
use Rattle.field.specs.Part.{put}
use Rattle.sessions.proofs.Did.{make, step_table, did}
use Rattle.sessions.proofs.Laws.{in_range_lem, if_cond}
use Rattle.sessions.proofs.Owing.{answer_cond}
use Rattle.sessions.proofs.Parts.{parts_sound}
use Rattle.sessions.proofs.Runs.{Alike, SameRun, same_run}
use Rattle.sessions.proofs.SoundKept.{sound_kept}
use Rattle.sessions.proofs.Told.{told_by}
use Rattle.sessions.specs.Find.{or_none}
use Rattle.sessions.specs.History.{itself, other, Call, to_make, to_place, to_take_up, to_answer, to_collect, made, placed, took_up, answered, collected, collected_as}
use Rattle.sessions.specs.Table.{State, fresh, within, place, place_in, turn, take_up, take_hand, take_next, names, answer, answer_hand, reply, collect, collect_from, after_answer}
use Rattle.sessions.specs.declared.Answer.{Answer}
use Rattle.session_table.proofs.Answering.{Answerable, answerable, answer_hand_lem, answer_leaves as answering_leaves}
use Rattle.session_table.proofs.Collecting.{Collectable, collectable, collect_done, collect_leaves as collecting_leaves}
use Rattle.session_table.proofs.Placing.{open_in, Placeable, placeable, place_leaves as placing_leaves}
use Rattle.session_table.proofs.Turns.{next_in, next_found, next_waits, next_leaves, again_leaves}
use Rattle.session_table.specs.Calls.{only, after, making, fresh_bytes, made_bytes, placing, placed_at, placed_bytes, taking_up, taken_at, taken_bytes, answering, answered_as, answered_bytes, collecting, collected_at, collected_bytes, collected_out, ready_in, in_hand}
use Rattle.slot.specs.Fields.{slot_of}
use Rattle.slot.specs.Stored.{put_head, put_entry, put_slot}
use Rattle.table_layout.proofs.Numbers.{length_put_number, length_put_row}
use Rattle.table_layout.specs.Layout.{table_bytes, max_at, last_at, hand_at, number}
use Rattle.table_search.proofs.Sounds.{sound_size, sound_table, waits, hand_waits}
use Rattle.table_sound.proofs.Slots.{hand_empty, hand_full}
use Rattle.table_sound.specs.Bytes.{abs, sound_bytes}
use Rattle.session_histories.proofs.Fresh.{fresh_length, fresh_bytes_lem, fresh_is_sound}
use Rattle.session_histories.proofs.Leaves.{place_leaves, take_leaves, collect_leaves}
use Rattle.session_histories.proofs.Stored.{answer_leaves}
use Rattle.session_histories.specs.Steps.{step_bytes}

-- what a call leaves, by its two ways: where it is refused the bytes are kept, and so is the table without bytes
leaves_by : {A : Type 0} (b : List ℕ) (r : Result A) (f : A → List ℕ) (x : Result A × State) → r ≡ x.0
    → ((k i : ℕ) → x.0 ≡ refused k i → x.1 ≡ abs b) → (only r ≡ done tt → abs (after r b f) ≡ x.1) → abs (after r b f) ≡ x.1
leaves_by b (refused k i) f x e stays does = sym (stays k i (sym e))
leaves_by b (done y) f x e stays does = does refl

after_length : {A : Type 0} (r : Result A) (b : List ℕ) (f : A → List ℕ) → ((x : A) → length (f x) ≡ length b) → length (after r b f) ≡ length b
after_length (refused k i) b f h = refl
after_length (done x) b f h = h x

module _ (b : List ℕ) (e : sound_bytes b ≡ true) where
  placing_is : (p n : ℕ) → placing b p n ≡ (place (abs b) p n).0
  unfolding placing
  placing_is p n = rw e

  -- place
  module _ (p n : ℕ) where
    placed_done : (w : Placeable b p n) → abs (placed_bytes b p n) ≡ (place (abs b) p n).1
    unfolding place place_in
    placed_done w =
        let s = w.number_free in
        let found : s ≡ or_none (open_in b) (number b max_at) = sym (ap (λ f. or_none f (number b max_at)) w.found) in
        let r = halves (within 1 p programs) (within 1 n commands) w.range in
        let rp = in_range_lem 1 p programs r.0 in
        let rn = in_range_lem 1 n commands r.1 in
        ap abs (sym (placing_leaves b p n w s found))
        ∙ place_leaves b e s p n (number b last_at + 1) (omega (arith, w.below, (sound_table b e).max_high))
        rp.0 rp.1 rn.1 (omega (arith, w.room)) refl
        ∙ rw (w.range, w.found, lt-ltb (number b last_at) ticket_most w.room)

    pub place_does : abs (placed_bytes b p n) ≡ (place (abs b) p n).1
    unfolding placed_bytes step_table
    place_does =
        leaves_by b (placing b p n) (placed_at b p n) (place (abs b) p n) (placing_is p n)
        (λ k i q. told_by making (abs b) (to_place p n) (ap (placed p n) q))
        (λ q. placed_done (placeable b p n q))

  -- take up
  taking_is : taking_up b ≡ (take_up (abs b)).0
  unfolding taking_up
  taking_is = rw e

  taken_again : only (taking_up b) ≡ done tt → (number b hand_at ≡ 0 → ⊥) → abs (taken_bytes b) ≡ (take_up (abs b)).1
  unfolding take_up take_hand
  taken_again ok n = ap abs (sym (again_leaves b ok (number b hand_at) refl n)) ∙ rw (hand_full (number b hand_at) n)

  taken_next : only (taking_up b) ≡ done tt → number b hand_at ≡ 0 → abs (taken_bytes b) ≡ (take_up (abs b)).1
  unfolding take_up take_hand take_next
  taken_next ok z =
      let i = or_none (next_in b) (number b max_at) in
      let s = turn (abs b) i in
      let w = waits b e s (next_waits b ok z i refl s refl) in
      ap abs (sym (next_leaves b ok z i refl s refl))
      ∙ take_leaves b e s w.stands_there.below
      ∙ rw (hand_empty (number b hand_at) z, next_found b ok z i refl)

  pub take_does : abs (taken_bytes b) ≡ (take_up (abs b)).1
  unfolding taken_bytes step_table
  take_does =
      leaves_by b (taking_up b) (taken_at b) (take_up (abs b)) taking_is
      (λ k i q. told_by making (abs b) to_take_up (ap took_up q))
      (λ q. ⊎_elim (λ z. taken_next q z) (λ z. taken_again q (λ y. omega arith)) (eq-zero-or-pos (number b hand_at)))

  -- answer
  module _ (t c : ℕ) (a : Answer) where
    answering_is : answering b t c a ≡ (answer (abs b) t c a).0
    unfolding answering
    answering_is = rw e

    stored : (w : Answerable b t c a) → after_answer (abs b) (in_hand b) a ≡ (answer (abs b) t c a).1
    unfolding answer answer_hand
    stored w =
        let n = answer_hand_lem b t c a w (number b hand_at) refl in
        let f = hand_full (number b hand_at) n in
        let q : w.number_held ≡ in_hand b = cc (w.hand, f) in
        let named : names (slot_of b (in_hand b)) t c ≡ true = rw (← q) w.named in
        sym (ap (λ g. (answer_hand (abs b) t c a g).1) f ∙ rw (named, w.dated, w.in_range_lem))

    answered_done : (w : Answerable b t c a) → abs (answered_bytes b t c a) ≡ (answer (abs b) t c a).1
    answered_done w =
        let n = answer_hand_lem b t c a w (number b hand_at) refl in
        let k = waits b e (in_hand b) (hand_waits b e (in_hand b) (hand_full (number b hand_at) n)) in
        ap abs (sym (answering_leaves b t c a w (number b hand_at) refl)) ∙ answer_leaves b e (in_hand b) k a w.dated w.in_range_lem ∙ stored w

    pub answer_does : abs (answered_bytes b t c a) ≡ (answer (abs b) t c a).1
    unfolding answered_bytes step_table
    answer_does =
        leaves_by b (answering b t c a) (λ r. answered_as b a) (answer (abs b) t c a) answering_is
        (λ k i q. told_by making (abs b) (to_answer t c a) (ap (answered t c a) q))
        (λ q. answered_done (answerable b t c a q))

  -- collect
  module _ (p t : ℕ) (out : List ℕ) where
    abbrev room : ℕ
    room = length out

    pub collecting_is : collecting b p t room ≡ (collect (abs b) p t room).0
    unfolding collecting
    collecting_is = rw e

    -- a reply that is given fits, so that it is written whole
    fits : (x : List ℕ) → collecting b p t room ≡ done x → length x ≤ room
    fits x q =
        let w = collectable b p t room (rw q) in
        let found : w.number_ready ≡ ready_in b p t = sym (ap (λ f. or_none f (number b max_at)) w.found) in
        rw (← (done_same (collect_done b p t room w w.number_ready found ∙ q))) w.room_enough

    written_out : (r : Result (List ℕ)) → ((x : List ℕ) → r ≡ done x → length x ≤ room)
        → collected p t out (counted r) (after r out (λ x. put out 0 x)) ≡ collected_as p t out r
    written_out (refused k i) f = refl
    written_out (done x) f = ap (collected p t out (done (length x))) (put_eq out 0 x (omega (arith, f x refl)) ∙ rw zero-add)

    collected_is : (step_bytes b (to_collect p t out)).0 ≡ collected_as p t out (collect (abs b) p t room).0
    unfolding step_bytes collected_out
    collected_is = written_out (collecting b p t room) fits ∙ ap (collected_as p t out) collecting_is

    collected_done : (w : Collectable b p t room) → abs (collected_bytes b p t room) ≡ (collect (abs b) p t room).1
    unfolding collect collect_from
    collected_done w =
        let s = w.number_ready in
        let found : s ≡ ready_in b p t = sym (ap (λ f. or_none f (number b max_at)) w.found) in
        ap abs (sym (collecting_leaves b p t room w s found))
        ∙ collect_leaves b e s (omega (arith, w.below, (sound_table b e).max_high))
        ∙ rw (w.range, w.found, le-leb (length (reply (slot_of b s))) room w.room_enough)

    pub collect_does : abs (collected_bytes b p t room) ≡ (collect (abs b) p t room).1
    unfolding collected_bytes step_table
    collect_does =
        leaves_by b (collecting b p t room) (λ r. collected_at b (ready_in b p t)) (collect (abs b) p t room) collecting_is
        (λ k i q. told_by making (abs b) (to_collect p t out) (ap (collected_as p t out) q))
        (λ q. collected_done (collectable b p t room q))

  -- make
  module _ (max : ℕ) where
    making_is : making b max ≡ (make (abs b) max).0
    unfolding making make
    making_is = rw (eq-eqb (length b) table_bytes (sound_size b e)) (sym (answer_cond (within 1 max sessions) _ _ _ _ (λ q. refl)))

    make_does : abs (made_bytes b max) ≡ (make (abs b) max).1
    unfolding made_bytes make
    make_does =
        rw making_is
        (if_cond (λ (x : Result (Unit {0}) × State). abs (after x.0 b (λ r. fresh_bytes max)) ≡ x.1) (within 1 max sessions)
        (λ q. let r = in_range_lem 1 max sessions q in fresh_bytes_lem max r.0 r.1) (λ q. refl))

  -- every call
  answers : (c : Call) → (step_bytes b c).0 ≡ (step_table making (abs b) c).0
  unfolding step_bytes step_table
  answers (to_make itself max) = ap (made itself max) (making_is max)
  answers (to_make (other m) max) = refl
  answers (to_place p n) = ap (placed p n) (placing_is p n)
  answers to_take_up = ap took_up (taking_is)
  answers (to_answer t c a) = ap (answered t c a) (answering_is t c a)
  answers (to_collect p t out) = collected_is p t out

  leaves : (c : Call) → abs (step_bytes b c).1 ≡ (step_table making (abs b) c).1
  unfolding step_bytes step_table
  leaves (to_make itself max) = make_does max
  leaves (to_make (other m) max) = refl
  leaves (to_place p n) = place_does p n
  leaves to_take_up = take_does
  leaves (to_answer t c a) = answer_does t c a
  leaves (to_collect p t out) = collect_does p t out

  -- no call changes the length, and none leaves them unsound
  step_length : (c : Call) → length (step_bytes b c).1 ≡ length b
  unfolding step_bytes made_bytes placed_bytes taken_bytes answered_bytes collected_bytes put_head put_slot put_entry
  step_length (to_make itself max) = after_length (making b max) b (λ r. fresh_bytes max) (λ r. fresh_length max ∙ sym (sound_size b e))
  step_length (to_make (other m) max) = refl
  step_length (to_place p n) = after_length (placing b p n) b (placed_at b p n) (λ r. simp (length_put_number, length_put_row))
  step_length to_take_up = after_length (taking_up b) b (taken_at b)
      (λ r. if_cond (λ (d : List ℕ). length d ≡ length b) (eqb (number b hand_at) 0) (λ q. simp length_put_number) (λ q. refl))
  step_length (to_answer t c a) = after_length (answering b t c a) b (λ r. answered_as b a) (λ r. simp (length_put_number, length_put_row))
  step_length (to_collect p t out) =
      after_length (collecting b p t (length out)) b (λ r. collected_at b (ready_in b p t)) (λ r. simp length_put_number)

  pub keeps : (c : Call) → sound_bytes (step_bytes b c).1 ≡ true
  unfolding sound_bytes
  keeps c =
      rw (step_length c ∙ sound_size b e, leaves c, parts_sound (step_table making (abs b) c).1 (sound_kept (did (abs b) making c) (sound_table b e)))

-- the table is kept as these bytes
pub record KeptAs (b : List ℕ) (σ : State) : Type 0 where
  pub sound : sound_bytes b ≡ true
  pub table : abs b ≡ σ

pub does : (b : List ℕ) (σ : State) → KeptAs b σ → (c : Call) → Alike KeptAs step_bytes (step_table making) (step_bytes b c) (step_table making σ c)
does b σ w c =
    record {
      answers = answers b w.sound c ∙ ap (λ τ. (step_table making τ c).0) w.table;
      leaves = record { sound = keeps b w.sound c; table = leaves b w.sound c ∙ ap (λ τ. (step_table making τ c).1) w.table };
    }

-- and so does every run: the bytes stay sound, hold what the table without bytes is then, and the answers are the same
pub same_bytes : {b : List ℕ} {σ : State} → KeptAs b σ → (cs : List Call) → SameRun KeptAs step_bytes (step_table making) b σ cs
same_bytes = same_run KeptAs step_bytes (step_table making) does

pub fresh_kept : (max : ℕ) → 1 ≤ max → max ≤ sessions → KeptAs (fresh_bytes max) (fresh max)
fresh_kept max low high = record { sound = fresh_is_sound max low high; table = fresh_bytes_lem max low high }
