-- The rows that code reads tell what the table without bytes holds.
use Prim.Native.Nat.{ℕ, ◌<◌}
use mathlib.Core.Path.{◌≡◌, refl, ap}
use mathlib.Core.List.{List}
use Rattle.counts.specs.Limits.{sessions}
use Rattle.slot.proofs.Told.{slot_told}
use Rattle.slot.specs.Fields.{head_of, entry_of, told}
use Rattle.table_layout.proofs.Hands.{hand_back}
use Rattle.table_layout.specs.Layout.{number, hand_at, hand_number, table_of}
use Rattle.table_sound.specs.Bytes.{hand_of, abs}

pub table_tells : (b : List ℕ) → let t = table_of b in let σ = abs b in
    (t.max ≡ σ.max) × (t.last.0 ≡ σ.last) × (t.mark.0 ≡ σ.mark) × (hand_of (hand_number t.hand) ≡ σ.hand)
unfolding table_of
table_tells b = (refl, refl, refl, ap hand_of (hand_back (number b hand_at)))

pub head_tells : (b : List ℕ) (s : ℕ) → s < sessions → (abs b).slot s ≡ told (head_of b s) (entry_of b s)
head_tells b s l = slot_told b s l
