-- Answering changes one slot's entry and what is in hand, and no other byte.
use Prim.Native.Nat.{ℕ, suc, ◌+◌, ◌*◌}
use mathlib.Core.Path.{◌≡◌, refl, ◌∙◌}
use mathlib.Core.Logic.{inl, inr, ⊎_elim}
use mathlib.Core.List.{List, [], ◌∷◌}
use native.Mathlib.Omega.{arith}
use lib.ListN.{length, get_or}
use Rattle.counts.specs.Result.{Result, refused, done}
use Rattle.field.proofs.Numbers.{get_or_put_w}
use Rattle.sessions.specs.declared.Answer.{Answer}
use Rattle.slot.specs.Fields.{entry_at, answered_at, head_of}
use Rattle.slot.specs.Stored.{put_entry, with_entry, taken_out, put_slot}
use Rattle.slot.specs.declared.Slot.{Slot}
use Rattle.table_layout.specs.Layout.{hand_at, number, put_number, put_row}
use Rattle.session_table.specs.Calls.{Beyond, after, in_hand, answering, answered_as, answered_bytes}

byte_stays : (b : List ℕ) (at v i : ℕ) → Beyond i at 1 → get_or (put_number b at v) i 0 ≡ get_or b i 0
unfolding put_number
byte_stays b at v i o = get_or_put_w 4 b (4 * at) v i (⊎_elim (λ l. inl l) (λ l. inr (omega arith)) o)

row_stays : (b : List ℕ) (at k : ℕ) (vs : List ℕ) (i : ℕ) → Beyond i (at + k) (length vs) → get_or (put_row b at k vs) i 0 ≡ get_or b i 0
unfolding put_row
row_stays b at k [] i o = refl
row_stays b at k (v ∷ vs) i o =
    row_stays (put_number b (at + k) v) at (suc k) vs i (⊎_elim (λ z. inl (omega arith)) (λ z. inr (omega arith)) o)
    ∙ byte_stays b (at + k) v i (⊎_elim (λ z. inl (omega arith)) (λ z. inr (omega arith)) o)

entry_stays : (b : List ℕ) (s c : ℕ) (a : Answer) (i : ℕ) → Beyond i (entry_at s c) 4 → get_or (put_entry b s c a) i 0 ≡ get_or b i 0
unfolding put_entry
entry_stays b s c a i o = row_stays b (entry_at s c) 0 _ i (⊎_elim (λ z. inl (omega arith)) (λ z. inr (omega arith)) o)

module _ (b : List ℕ) (t c : ℕ) (a : Answer) where
  -- the session in hand, and its lowest unanswered command
  abbrev session : ℕ
  session = in_hand b

  abbrev command : ℕ
  command = number b (answered_at session) + 1

  stored_stays : (i : ℕ) → Beyond i (entry_at session command) 4 → Beyond i (answered_at session) 1 → Beyond i hand_at 1
      → get_or (answered_as b a) i 0 ≡ get_or b i 0
  unfolding put_slot taken_out head_of
  stored_stays i o n h =
      byte_stays _ hand_at 0 i h ∙ byte_stays _ (answered_at session) command i n ∙ entry_stays b session command a i o

  -- "Answering changes one slot's entry and the in-hand mark, nothing else."
  pub answering_changes_nothing_else : (i : ℕ) → Beyond i (entry_at session command) 4 → Beyond i (answered_at session) 1 → Beyond i hand_at 1
      → get_or (answered_bytes b t c a) i 0 ≡ get_or b i 0
  unfolding answered_bytes
  answering_changes_nothing_else i o n h = go (answering b t c a)
    where
      go : (r : Result (Unit {0})) → get_or (after r b (λ x. answered_as b a)) i 0 ≡ get_or b i 0
      go (refused k p) = refl
      go (done x) = stored_stays i o n h

-- a slot with an answer stored in it is the same session's, and has one answer more
pub stored_keeps : (x : Slot) (a : Answer)
    → ((with_entry x a).head.taken ≡ x.head.taken)
    × ((with_entry x a).head.program ≡ x.head.program)
    × ((with_entry x a).head.count ≡ x.head.count)
    × ((with_entry x a).head.ticket ≡ x.head.ticket)
    × ((with_entry x a).head.answered ≡ x.head.answered + 1)
    × ((with_entry x a).entry ≡ a)
stored_keeps x a = (refl, refl, refl, refl, refl, refl)
