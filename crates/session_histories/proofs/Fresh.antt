-- The fresh table's bytes hold the fresh table without bytes.
use Prim.Native.Nat.{ℕ, zero, suc, ◌+◌, ◌-◌, ◌*◌, ◌≤◌}
use mathlib.Core.Path.{◌≡◌, refl, ◌∙◌}
use mathlib.Core.Bool.{true}
use mathlib.Core.Logic.{⊎_elim, inr}
use mathlib.Core.List.{List, [], ◌∷◌}
use native.Mathlib.Nat.{eq-zero-or-pos}
use native.Mathlib.Omega.{arith}
use lib.ListN.{length, get_or, replicate, length-replicate, get_or-replicate, get_or-eq_default}
use Rattle.counts.specs.Limits.{sessions}
use Rattle.field.specs.Number.{get_w}
use Rattle.sessions.proofs.Parts.{parts_sound}
use Rattle.sessions.proofs.SoundKept.{fresh_sound}
use Rattle.sessions.specs.Table.{fresh}
use Rattle.session_table.specs.Calls.{fresh_bytes}
use Rattle.slot.proofs.Told.{open_at}
use Rattle.slot.specs.Fields.{head_of}
use Rattle.table_layout.proofs.Numbers.{length_put_row, row_same}
use Rattle.table_layout.specs.Layout.{table_bytes, head_at, number, put_table}
use Rattle.table_sound.specs.Bytes.{hand_of, abs, sound_bytes}
use Rattle.session_histories.proofs.Frames.{from_0}
use Rattle.session_histories.proofs.Leaves.{state_same}

abbrev zeros : ℕ → List ℕ
zeros n = replicate n 0

zero_byte : (n i : ℕ) → get_or (zeros n) i 0 ≡ 0
zero_byte n i =
    ⊎_elim
    (λ (z : n - i ≡ 0). get_or-eq_default (zeros n) 0 (rw length-replicate (omega arith)))
    (λ (z : 1 ≤ n - i). get_or-replicate n i 0 0 (omega arith))
    (eq-zero-or-pos (n - i))

zero_wide : (k n at : ℕ) → get_w k (zeros n) at ≡ 0
unfolding get_w
zero_wide zero n at = refl
zero_wide (suc k) n at = rw (zero_byte n (at + k), zero_wide k n at) (omega arith)

zero_number : (n j : ℕ) → number (zeros n) j ≡ 0
unfolding number
zero_number n j = zero_wide 4 n (4 * j)

pub fresh_length : (max : ℕ) → length (fresh_bytes max) ≡ table_bytes
unfolding fresh_bytes put_table
fresh_length max = length_put_row (zeros table_bytes) 0 0 _ ∙ length-replicate {A = ℕ} table_bytes 0

module _ (max : ℕ) (low : 1 ≤ max) (high : max ≤ sessions) where
  pub fresh_bytes_lem : abs (fresh_bytes max) ≡ fresh max
  unfolding fresh_bytes put_table fresh hand_of head_of
  fresh_bytes_lem =
      let z = zeros table_bytes in
      let vs : List ℕ = max ∷ 0 ∷ (max - 1) ∷ 0 ∷ [] in
      let read = row_same z 0 0 vs (rw length-replicate (omega arith)) (omega arith, (omega arith, (omega arith, (omega arith, tt)))) in
      state_same (read 0 0 (omega arith) refl) (read 1 1 (omega arith) refl) (read 2 2 (omega arith) refl) (rw (read 3 3 (omega arith) refl))
      (λ s. open_at _ s (from_0 z 0 vs (head_at s) (inr (omega arith)) ∙ zero_number table_bytes (head_at s)))

  pub fresh_is_sound : sound_bytes (fresh_bytes max) ≡ true
  unfolding sound_bytes
  fresh_is_sound = rw (fresh_length max, fresh_bytes_lem, parts_sound (fresh max) (fresh_sound max low high))
