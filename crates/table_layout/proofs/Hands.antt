-- What is in hand, by the number that stands for it.
use Prim.Native.Nat.{ℕ, ◌-◌, ◌≤◌}
use mathlib.Core.Path.{◌≡◌, refl, ◌∙◌, ap, sym}
use mathlib.Core.Bool.{Bool, true, false, cond, false≢true}
use native.Mathlib.Nat.{eq-zero-or-pos}
use native.Mathlib.Omega.{arith}
use mathlib.Core.Logic.{⊎_elim}
use borrow.Author.Tests.{eqb-true, eq-eqb, ne_eqb}
use lib.Dec.{eqb}
use Rattle.std.specs.Prelude.{Option, Some, None}
use Rattle.counts.specs.declared.SessionNumber.{SessionNumber}
use Rattle.table_layout.specs.Layout.{hand_read, hand_number}

-- nothing is in hand
pub read_none : (n : ℕ) → hand_read n ≡ None → n ≡ 0
read_none n e = go (eqb n 0) refl e
  where
    go : (t : Bool) → eqb n 0 ≡ t → cond {A = Option SessionNumber} t None (Some (record { 0 = n - 1 })) ≡ None → n ≡ 0
    go true q e = eqb-true n 0 q
    go false q e = let z : ◌≡◌ {A = ℕ} 0 1 = cc in absurd (omega arith)

-- a session is
pub read_some : (n : ℕ) (s : SessionNumber) → hand_read n ≡ Some s → (n ≡ 0 → ⊥) × (s.0 ≡ n - 1)
read_some n s e = go (eqb n 0) refl e
  where
    go : (t : Bool) → eqb n 0 ≡ t → cond {A = Option SessionNumber} t None (Some (record { 0 = n - 1 })) ≡ Some s → (n ≡ 0 → ⊥) × (s.0 ≡ n - 1)
    go true q e = let z : ◌≡◌ {A = ℕ} 0 1 = cc in absurd (omega arith)
    go false q e =
        let d : ◌≡◌ {A = SessionNumber} (record { 0 = n - 1 }) s = cc in
        (λ z. false≢true (sym q ∙ eq-eqb n 0 z), sym (ap (λ x. x.0) d))

-- the number that was read
pub hand_back : (n : ℕ) → hand_number (hand_read n) ≡ n
hand_back n =
    ⊎_elim
    (λ (z : n ≡ 0). rw (eq-eqb n 0 z, z) refl)
    (λ (k : 1 ≤ n). rw (ne_eqb n 0 (λ z. omega arith)) (omega arith))
    (eq-zero-or-pos n)
