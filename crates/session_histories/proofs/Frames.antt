-- What a write leaves as it was: numbers elsewhere, and whole slots.
use Prim.Native.Nat.{ℕ, ◌+◌, ◌-◌, ◌≤◌, ◌<◌}
use mathlib.Core.Path.{◌≡◌, refl, ◌∙◌, ap, sym}
use mathlib.Core.Bool.{true, cond}
use mathlib.Core.Logic.{inl, inr, ⊎_elim}
use mathlib.Core.List.{List}
use native.Mathlib.Nat.{eq-zero-or-pos}
use native.Mathlib.Omega.{arith}
use lib.ListN.{length}
use Rattle.counts.specs.Limits.{commands, sessions}
use Rattle.sessions.proofs.Loops.{first_same}
use Rattle.sessions.specs.Find.{first}
use Rattle.slot.proofs.Told.{told_answers, open_or_taken, slot_beyond, slot_open, slot_held}
use Rattle.slot.specs.Fields.{is_taken_at, answered_at, entry_at, head_of, entry_of, slot_of}
use Rattle.slot.specs.Stored.{put_head, put_entry}
use Rattle.slot.specs.declared.Head.{Head}
pub use Rattle.table_layout.proofs.Numbers.{Outside}
use Rattle.table_layout.proofs.Numbers.{row_other}
use Rattle.table_layout.specs.Layout.{slot_numbers, head_at, number, put_row}
use Rattle.sessions.specs.declared.Answer.{Answer}
use Rattle.table_search.proofs.Sounds.{stands}
use Rattle.table_sound.specs.Bytes.{sound_bytes}

-- a row that begins with no number before it
pub from_0 : (b : List ℕ) (at : ℕ) (vs : List ℕ) (j : ℕ) → Outside j at (length vs) → number (put_row b at 0 vs) j ≡ number b j
from_0 b at vs j o = row_other b at 0 vs j (⊎_elim (λ l. inl (omega arith)) (λ l. inr (omega arith)) o)

pub head_others : (b : List ℕ) (s : ℕ) (h : Head) (j : ℕ) → Outside j (head_at s) 5 → number (put_head b s h) j ≡ number b j
unfolding put_head
head_others b s h j o = from_0 b (head_at s) _ j o

pub entry_others : (b : List ℕ) (s c : ℕ) (a : Answer) (j : ℕ) → Outside j (entry_at s c) 4 → number (put_entry b s c a) j ≡ number b j
unfolding put_entry
entry_others b s c a j o = from_0 b (entry_at s c) _ j o

-- an entry whose four numbers are the same
pub entry_same : (b d : List ℕ) (s c : ℕ) → ((j : ℕ) → entry_at s c ≤ j → j < entry_at s c + 4 → number d j ≡ number b j) → entry_of d s c ≡ entry_of b s c
unfolding entry_of
entry_same b d s c same =
    rw (
      same (entry_at s c) (omega arith) (omega arith),
      same (entry_at s c + 1) (omega arith) (omega arith),
      same (entry_at s c + 2) (omega arith) (omega arith),
      same (entry_at s c + 3) (omega arith) (omega arith),
    )

-- two slots are apart
pub slots_apart : (i s j : ℕ) → (i ≡ s → ⊥) → head_at i ≤ j → j < head_at i + slot_numbers → Outside j (head_at s) slot_numbers
slots_apart i s j n l h =
    ⊎_elim (λ z. ⊎_elim (λ y. absurd (n (omega arith))) (λ y. inl (omega arith)) (eq-zero-or-pos (s - i))) (λ z. inr (omega arith)) (eq-zero-or-pos (i - s))

-- the numbers of a slot are the same
abbrev pub Same : List ℕ → List ℕ → ℕ → Type 0
Same b d s = (j : ℕ) → head_at s ≤ j → j < head_at s + slot_numbers → number d j ≡ number b j

module _ (b : List ℕ) (e : sound_bytes b ≡ true) (d : List ℕ) (s : ℕ) (same : Same b d s) where
  entries_same : (n : ℕ) → n ≤ commands → first n (λ i. entry_of d s (i + 1)) ≡ first n (λ i. entry_of b s (i + 1))
  entries_same n l = first_same n _ _ (λ i k. entry_same b d s (i + 1) (λ j low high. same j (omega arith) (omega arith)))

  head_same : head_of d s ≡ head_of b s
  unfolding head_of
  head_same =
      rw (
        same (is_taken_at s) (omega arith) (omega arith),
        same (head_at s + 1) (omega arith) (omega arith),
        same (head_at s + 2) (omega arith) (omega arith),
        same (answered_at s) (omega arith) (omega arith),
        same (head_at s + 4) (omega arith) (omega arith),
      )

  -- and so is what the slot holds
  pub slot_same : slot_of d s ≡ slot_of b s
  slot_same =
      ⊎_elim
      (λ z. slot_beyond d s (omega arith) ∙ sym (slot_beyond b s (omega arith)))
      (λ z. ⊎_elim (λ y. slot_open d s (ap (λ h. h.taken) head_same ∙ y) ∙ sym (slot_open b s y)) (λ y. held (omega arith) y)
      (open_or_taken (head_of b s)))
      (eq-zero-or-pos (sessions - s))
    where
      held : s < sessions → (head_of b s).taken ≡ true → slot_of d s ≡ slot_of b s
      held l n =
          let hb = slot_held b s l n in
          let w = stands b e (λ x. cond x.taken 1 0) refl s (rw hb (omega arith)) in
          let few : (head_of b s).answered ≤ commands =
          omega (arith, w.session.answers_few, w.session.count_high, ap (λ x. length x.answers) hb, told_answers (head_of b s) (entry_of b s)) in
          slot_held d s l (ap (λ h. h.taken) head_same ∙ n) ∙ rw (head_same, entries_same (head_of b s).answered few) (sym hb)
