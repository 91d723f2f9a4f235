-- What answering writes, as what the table without bytes does: one slot's entry and what is in hand.
use Prim.Native.Nat.{ℕ, ◌+◌, ◌≤◌, ◌<◌}
use mathlib.Core.Path.{◌≡◌, refl, ◌∙◌, ap, sym}
use mathlib.Core.Bool.{true, not}
use mathlib.Core.Logic.{inl, inr, ⊎_elim}
use mathlib.Core.List.{List, [], ◌∷◌, ◌++◌}
use native.Mathlib.Omega.{arith}
use native.Mathlib.Numerals.{add-one}
use borrow.Author.Tests.{ne_eqb, leb-true}
use lib.Dec.{eqb, leb}
use lib.ListN.{length, get_or}
use Rattle.calendar.proofs.Laws.{date_lt, time_lt}
use Rattle.calendar.specs.Calendar.{real_date, real_time}
use Rattle.counts.specs.Limits.{commands, sessions, class_most, code_most}
use Rattle.laws.proofs.Choose.{and_left, and_right}
use Rattle.sessions.proofs.Loops.{first_same}
use Rattle.sessions.specs.Find.{first}
use Rattle.moment.specs.Moment.{real_moment}
use Rattle.record.specs.Record.{is_outcome}
use Rattle.sessions.specs.Records.{is_dated}
use Rattle.sessions.specs.Table.{with_answer, after_answer}
use Rattle.sessions.specs.declared.Answer.{Answer}
use Rattle.record.specs.declared.Outcome.{Outcome}
use Rattle.record.specs.declared.Outcome.TheVariants.{Processed, Error}
use Rattle.slot.proofs.Told.{slot_held}
use Rattle.slot.specs.Fields.{answered_at, entry_at, head_of, outcome_of, entry_of, session_of, slot_of}
use Rattle.slot.specs.Stored.{kind_of, code_of, put_entry, with_entry, taken_out, put_slot}
use Rattle.table_layout.proofs.Numbers.{Outside, number_same, number_other, length_put_number, length_put_row, row_same}
use Rattle.table_layout.specs.Layout.{slot_numbers, table_bytes, head_at, max_at, last_at, mark_at, hand_at, number, put_number}
use Rattle.table_search.proofs.Sounds.{sound_size, Waits}
use Rattle.table_sound.specs.Bytes.{hand_of, abs, sound_bytes}
use Rattle.session_histories.proofs.Frames.{entry_others, entry_same, slots_apart, slot_same}
use Rattle.session_histories.proofs.Leaves.{state_same, slots_replaced}

-- an outcome in range is read back
outcome_back : (o : Outcome) → outcome_of (kind_of o) (code_of o) ≡ o
unfolding outcome_of kind_of code_of
outcome_back Processed = refl
outcome_back (Error class code) = rw (ne_eqb (class + 1) 0 (λ z. omega arith)) (ap (λ k. Error k code) (omega arith))

outcome_fits : (o : Outcome) → is_outcome o ≡ true → (kind_of o < 4294967296) × (code_of o < 4294967296)
unfolding kind_of code_of
outcome_fits Processed e = (omega arith, omega arith)
outcome_fits (Error class code) e =
    let k = leb-true class class_most (and_left (leb class class_most) (leb code code_most) e) in
    let c = leb-true code code_most (and_right (leb class class_most) (leb code code_most) e) in
    (omega arith, omega arith)

date_fits : (a : Answer) → is_dated a ≡ true → (a.date < 4294967296) × (a.time < 4294967296)
unfolding real_moment
date_fits a e =
    let d = date_lt a.date (and_left (real_date a.date) (real_time a.time) e) in
    let t = time_lt a.time (and_right (real_date a.date) (real_time a.time) e) in
    (omega arith, omega arith)

module _ (b : List ℕ) (e : sound_bytes b ≡ true) (s : ℕ) (w : Waits b e s) (a : Answer) (dated : is_dated a ≡ true) (ranged : is_outcome a.outcome ≡ true) where
  abbrev n : ℕ
  n = number b (answered_at s)

  abbrev d1 : List ℕ
  d1 = put_entry b s (n + 1) a

  abbrev d2 : List ℕ
  d2 = put_number d1 (answered_at s) (n + 1)

  abbrev d : List ℕ
  d = put_number d2 hand_at 0

  size : length b ≡ table_bytes
  size = sound_size b e

  below : s < sessions
  below = w.stands_there.below

  few : n < commands
  unfolding head_of
  few = w.answers_few

  length_d1 : length d1 ≡ length b
  unfolding put_entry
  length_d1 = length_put_row b (entry_at s (n + 1)) 0 _

  length_d2 : length d2 ≡ length b
  length_d2 = length_put_number d1 (answered_at s) (n + 1) ∙ length_d1

  -- what stands elsewhere stays
  other : (j : ℕ) → Outside j (entry_at s (n + 1)) 4 → (j ≡ answered_at s → ⊥) → (j ≡ hand_at → ⊥) → number d j ≡ number b j
  other j o m h = number_other d2 hand_at 0 j h ∙ number_other d1 (answered_at s) (n + 1) j m ∙ entry_others b s (n + 1) a j o

  -- the slot's own numbers
  answered_is : number d (answered_at s) ≡ n + 1
  answered_is =
      number_other d2 hand_at 0 (answered_at s) (λ z. omega arith)
      ∙ number_same d1 (answered_at s) (n + 1) (omega (arith, size, length_d1, below)) (omega (arith, few))

  in_entry : (j : ℕ) → entry_at s (n + 1) ≤ j → number d j ≡ number d1 j
  in_entry j l = number_other d2 hand_at 0 j (λ z. omega arith) ∙ number_other d1 (answered_at s) (n + 1) j (λ z. omega arith)

  entry_is : entry_of d s (n + 1) ≡ a
  unfolding entry_of put_entry
  entry_is =
      let o = outcome_fits a.outcome ranged in
      let t = date_fits a dated in
      let vs : List ℕ = kind_of a.outcome ∷ code_of a.outcome ∷ a.date ∷ a.time ∷ [] in
      let read : (i j : ℕ) → i < 4 → j ≡ entry_at s (n + 1) + 0 + i → number d j ≡ get_or vs i 0 = λ i j l q.
      in_entry j (omega arith) ∙ row_same b (entry_at s (n + 1)) 0 vs (omega (arith, size, below, few)) (o.0, (o.1, (t.0, (t.1, tt)))) i j l q in
      let e0 = read 0 (entry_at s (n + 1)) (omega arith) (omega arith) in
      let e1 = read 1 (entry_at s (n + 1) + 1) (omega arith) (omega arith) in
      let e2 = read 2 (entry_at s (n + 1) + 2) (omega arith) (omega arith) in
      let e3 = read 3 (entry_at s (n + 1) + 3) (omega arith) (omega arith) in
      rw (e0, e1, e2, e3, outcome_back a.outcome)

  entry_before : (i : ℕ) → i < n → entry_of d s (i + 1) ≡ entry_of b s (i + 1)
  entry_before i l = entry_same b d s (i + 1) (λ j k h. other j (inl (omega arith)) (λ z. omega arith) (λ z. omega arith))

  answers_are : first (n + 1) (λ i. entry_of d s (i + 1)) ≡ first n (λ i. entry_of b s (i + 1)) ++ (a ∷ [])
  unfolding first
  answers_are =
      ap (λ k. first k (λ i. entry_of d s (i + 1))) (add-one n)
      ∙ rw (first_same n (λ i. entry_of d s (i + 1)) (λ i. entry_of b s (i + 1)) entry_before, entry_is)

  stored_head : head_of d s ≡ (with_entry (taken_out b s) a).head
  unfolding taken_out head_of
  stored_head =
      let keep : (j : ℕ) → j < head_at s + 5 → head_at s ≤ j → (j ≡ answered_at s → ⊥) → number d j ≡ number b j =
      λ j l k m. other j (inl (omega arith)) m (λ z. omega arith) in
      λ k. record {
        taken = ap (λ v. not (eqb v 0)) (keep (head_at s) (omega arith) (omega arith) (λ z. omega arith)) k;
        program = keep (head_at s + 1) (omega arith) (omega arith) (λ z. omega arith) k;
        count = keep (head_at s + 2) (omega arith) (omega arith) (λ z. omega arith) k;
        answered = answered_is k;
        ticket = record { 0 = keep (head_at s + 4) (omega arith) (omega arith) (λ z. omega arith) k };
      }

  stored_slot : slot_of d s ≡ with_answer (slot_of b s) a
  unfolding taken_out head_of
  stored_slot =
      slot_held d s below (ap (λ h. h.taken) stored_head ∙ w.stands_there.taken)
      ∙ ap (λ h. session_of h (entry_of d s)) stored_head
      ∙ ap (λ l. record { taken = true; program = (head_of b s).program; count = (head_of b s).count; ticket = (head_of b s).ticket.0; answers = l }) answers_are
      ∙ ap (λ x. with_answer x a) (sym w.stands_there.held)

  stored_leaves : abs d ≡ after_answer (abs b) s a
  unfolding hand_of
  stored_leaves =
      state_same
      (other max_at (inl (omega arith)) (λ z. omega arith) (λ z. omega arith))
      (other last_at (inl (omega arith)) (λ z. omega arith) (λ z. omega arith))
      (other mark_at (inl (omega arith)) (λ z. omega arith) (λ z. omega arith))
      (rw (number_same d2 hand_at 0 (omega (arith, size, length_d2)) (omega arith)))
      (slots_replaced (slot_of b) (slot_of d) s (with_answer (slot_of b s) a) stored_slot
      (λ i m. slot_same b e d i (λ j l h. elsewhere i m j l h)))
    where
      elsewhere : (i : ℕ) → (i ≡ s → ⊥) → (j : ℕ) → head_at i ≤ j → j < head_at i + slot_numbers → number d j ≡ number b j
      elsewhere i m j l h =
          let o = slots_apart i s j m l h in
          other j (⊎_elim (λ z. inl (omega (arith, few))) (λ z. inr (omega (arith, few))) o)
          (λ z. ⊎_elim (λ y. omega arith) (λ y. omega arith) o)
          (λ z. omega arith)

  -- the words of the contract are these writes
  pub answer_leaves : abs (put_number (put_slot b s (with_entry (taken_out b s) a)) hand_at 0) ≡ after_answer (abs b) s a
  unfolding put_slot taken_out head_of
  answer_leaves = stored_leaves
