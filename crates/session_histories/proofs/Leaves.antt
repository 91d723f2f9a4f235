-- Each call's writes, as what the table without bytes does.
use Prim.Native.Nat.{ℕ, ◌+◌, ◌≤◌, ◌<◌}
use mathlib.Core.Path.{◌≡◌, ◌∙◌, ap, sym}
use mathlib.Core.Bool.{true, not}
use mathlib.Core.Logic.{inl, inr, ⊎_elim}
use mathlib.Core.List.{List, [], ◌∷◌}
use native.Mathlib.Omega.{arith}
use borrow.Author.Tests.{ne_eqb}
use lib.Dec.{eqb}
use lib.ListN.{length, get_or}
use Rattle.counts.specs.Limits.{commands, programs, sessions, ticket_most}
use Rattle.sessions.proofs.Laws.{either, replaced_same, replaced_other}
use Rattle.sessions.specs.Find.{at, replaced, first}
use Rattle.sessions.specs.Table.{Session, no_session, State, new_session, after_place, after_take_up, after_collect}
use Rattle.session_table.specs.Calls.{placed_at, collected_at}
use Rattle.slot.proofs.Told.{open_at, slot_held}
use Rattle.slot.specs.Fields.{head_of, entry_of, session_of, slot_of}
use Rattle.slot.specs.Stored.{new_head, put_head}
use Rattle.table_layout.proofs.Numbers.{Outside, number_same, number_other, length_put_number, length_put_row, row_same}
use Rattle.table_layout.specs.Layout.{slot_numbers, table_bytes, head_at, max_at, last_at, mark_at, hand_at, number, put_number}
use Rattle.table_search.proofs.Sounds.{sound_size}
use Rattle.table_sound.specs.Bytes.{hand_of, abs, sound_bytes}
use Rattle.session_histories.proofs.Frames.{head_others, slots_apart, slot_same}

pub state_same : {σ τ : State} → σ.max ≡ τ.max → σ.last ≡ τ.last → σ.mark ≡ τ.mark → σ.hand ≡ τ.hand → ((s : ℕ) → σ.slot s ≡ τ.slot s) → σ ≡ τ
state_same e1 e2 e3 e4 e5 = λ k. record { max = e1 k; last = e2 k; mark = e3 k; hand = e4 k; slot = λ s. e5 s k }

-- one slot changed, the others not
pub slots_replaced : (f g : ℕ → Session) (s : ℕ) (x : Session) → g s ≡ x → ((i : ℕ) → (i ≡ s → ⊥) → g i ≡ f i) → (i : ℕ) → g i ≡ replaced f s x i
slots_replaced f g s x e h i =
    ⊎_elim
    (λ (q : i ≡ s). ap g q ∙ e ∙ sym (ap (replaced f s x) q ∙ replaced_same f s x))
    (λ (n : i ≡ s → ⊥). h i n ∙ sym (replaced_other f s x n))
    (either i s)

module _ (b : List ℕ) (e : sound_bytes b ≡ true) where
  size : length b ≡ table_bytes
  size = sound_size b e

  -- place: a new head, and the last ticket
  module _ (s p n t : ℕ) (below : s < sessions) (p-low : 1 ≤ p) (p-high : p ≤ programs) (n-high : n ≤ commands) (t-most : t ≤ ticket_most) where
    abbrev placed_bytes : List ℕ
    placed_bytes = placed_at b p n (s, t)

    abbrev with_head : List ℕ
    with_head = put_head b s (new_head p n (record { 0 = t }))

    placed_other : (j : ℕ) → Outside j (head_at s) 5 → (j ≡ last_at → ⊥) → number placed_bytes j ≡ number b j
    placed_other j o k = number_other _ last_at t j k ∙ head_others b s (new_head p n (record { 0 = t })) j o

    length_with_head : length with_head ≡ length b
    unfolding put_head
    length_with_head = length_put_row b (head_at s) 0 _

    placed_head : head_of placed_bytes s ≡ new_head p n (record { 0 = t })
    unfolding put_head head_of
    placed_head =
        let vs : List ℕ = 1 ∷ p ∷ n ∷ 0 ∷ t ∷ [] in
        let read : (i j : ℕ) → i < 5 → j ≡ head_at s + 0 + i → number placed_bytes j ≡ get_or vs i 0 = λ i j l q.
        number_other with_head last_at t j (λ z. omega arith)
        ∙ row_same b (head_at s) 0 vs (omega (arith, size)) (omega arith, (omega arith, (omega arith, (omega arith, (omega arith, tt))))) i j l q in
        λ k. record {
          taken = ap (λ v. not (eqb v 0)) (read 0 (head_at s) (omega arith) (omega arith)) k;
          program = read 1 (head_at s + 1) (omega arith) (omega arith) k;
          count = read 2 (head_at s + 2) (omega arith) (omega arith) k;
          answered = read 3 (head_at s + 3) (omega arith) (omega arith) k;
          ticket = record { 0 = read 4 (head_at s + 4) (omega arith) (omega arith) k };
        }

    placed_slot : slot_of placed_bytes s ≡ new_session p n t
    unfolding first
    placed_slot =
        slot_held placed_bytes s below (ap (λ h. h.taken) placed_head) ∙ ap (λ h. session_of h (entry_of placed_bytes s)) placed_head

    pub place_leaves : t ≡ number b last_at + 1 → abs (placed_at b p n (s, t)) ≡ after_place (abs b) s p n
    place_leaves q =
        state_same
        (placed_other max_at (inl (omega arith)) (λ z. omega arith))
        (number_same with_head last_at t (omega (arith, size, length_with_head)) (omega arith) ∙ q)
        (placed_other mark_at (inl (omega arith)) (λ z. omega arith))
        (ap hand_of (placed_other hand_at (inl (omega arith)) (λ z. omega arith)))
        (slots_replaced (slot_of b) (slot_of placed_bytes) s (new_session p n (number b last_at + 1)) (placed_slot ∙ ap (new_session p n) q)
        (λ i d. slot_same b e placed_bytes i (λ j l h. placed_other j (apart i j d l h) (λ z. omega arith))))
      where
        apart : (i j : ℕ) → (i ≡ s → ⊥) → head_at i ≤ j → j < head_at i + slot_numbers → Outside j (head_at s) 5
        apart i j d l h = ⊎_elim (λ z. inl z) (λ z. inr (omega arith)) (slots_apart i s j d l h)

  -- take up: the mark, and what is in hand
  pub take_leaves : (s : ℕ) → s < sessions → abs (put_number (put_number b mark_at s) hand_at (s + 1)) ≡ after_take_up (abs b) s
  unfolding hand_of
  take_leaves s l =
      let b1 = put_number b mark_at s in
      let d = put_number b1 hand_at (s + 1) in
      let other : (j : ℕ) → (j ≡ mark_at → ⊥) → (j ≡ hand_at → ⊥) → number d j ≡ number b j =
      λ j n m. number_other b1 hand_at (s + 1) j m ∙ number_other b mark_at s j n in
      let hand : number d hand_at ≡ s + 1 = number_same b1 hand_at (s + 1) (rw length_put_number (omega (arith, size))) (omega arith) in
      state_same
      (other max_at (λ z. omega arith) (λ z. omega arith))
      (other last_at (λ z. omega arith) (λ z. omega arith))
      (number_other b1 hand_at (s + 1) mark_at (λ z. omega arith) ∙ number_same b mark_at s (omega (arith, size)) (omega arith))
      (rw (hand, ne_eqb (s + 1) 0 (λ z. omega arith)) (ap at (omega arith)))
      (λ i. slot_same b e d i (λ j k h. other j (λ z. omega arith) (λ z. omega arith)))

  -- collect: the number is open
  pub collect_leaves : (s : ℕ) → s < sessions → abs (collected_at b s) ≡ after_collect (abs b) s
  unfolding head_of
  collect_leaves s l =
      let d = collected_at b s in
      let other : (j : ℕ) → (j ≡ head_at s → ⊥) → number d j ≡ number b j = λ j n. number_other b (head_at s) 0 j n in
      state_same
      (other max_at (λ z. omega arith))
      (other last_at (λ z. omega arith))
      (other mark_at (λ z. omega arith))
      (ap hand_of (other hand_at (λ z. omega arith)))
      (slots_replaced (slot_of b) (slot_of d) s no_session (open_at d s (number_same b (head_at s) 0 (omega (arith, size)) (omega arith)))
      (λ i n. slot_same b e d i (λ j k h. other j (λ z. ⊎_elim (λ y. omega arith) (λ y. omega arith) (slots_apart i s j n k h)))))
