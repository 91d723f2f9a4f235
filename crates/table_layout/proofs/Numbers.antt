-- A number that was put is read back, and all others stay; the same of a row.
use Prim.Native.Nat.{ℕ, zero, suc, ◌+◌, ◌-◌, ◌*◌, ◌≤◌, ◌<◌}
use mathlib.Core.Path.{◌≡◌, refl, ◌∙◌}
use mathlib.Core.Logic.{◌⊎◌, inl, inr, ⊎_elim}
use mathlib.Core.List.{List, [], ◌∷◌}
use native.Mathlib.Nat.{eq-zero-or-pos, mod-eq_of_lt}
use native.Mathlib.Omega.{arith}
use lib.ListN.{length, get_or}
use Rattle.field.proofs.Numbers.{length_put_w, get_w_put_w, get_w_put_w_apart}
use Rattle.table_layout.specs.Layout.{number, put_number, put_row}

pub length_put_number : (b : List ℕ) (i v : ℕ) → length (put_number b i v) ≡ length b
unfolding put_number
length_put_number b i v = length_put_w 4 b (4 * i) v

pub number_same : (b : List ℕ) (i v : ℕ) → 4 * i + 4 ≤ length b → v < 4294967296 → number (put_number b i v) i ≡ v
unfolding number put_number
number_same b i v l h = get_w_put_w 4 b (4 * i) v l ∙ mod-eq_of_lt h

pub number_other : (b : List ℕ) (i v j : ℕ) → (j ≡ i → ⊥) → number (put_number b i v) j ≡ number b j
unfolding number put_number
number_other b i v j n =
    get_w_put_w_apart 4 4 b (4 * i) v (4 * j)
    (⊎_elim (λ z. ⊎_elim (λ y. absurd (n (omega arith))) (λ y. inl (omega arith)) (eq-zero-or-pos (i - j))) (λ z. inr (omega arith)) (eq-zero-or-pos (j - i)))

-- a place outside k numbers from at on
abbrev pub Outside : ℕ → ℕ → ℕ → Type 0
Outside j at k = (j < at) ⊎ (at + k ≤ j)

pub length_put_row : (b : List ℕ) (at k : ℕ) (vs : List ℕ) → length (put_row b at k vs) ≡ length b
unfolding put_row
length_put_row b at k [] = refl
length_put_row b at k (v ∷ vs) = length_put_row (put_number b (at + k) v) at (suc k) vs ∙ length_put_number b (at + k) v

pub row_other : (b : List ℕ) (at k : ℕ) (vs : List ℕ) (j : ℕ) → Outside j (at + k) (length vs) → number (put_row b at k vs) j ≡ number b j
unfolding put_row
row_other b at k [] j o = refl
row_other b at k (v ∷ vs) j o =
    row_other (put_number b (at + k) v) at (suc k) vs j (⊎_elim (λ l. inl (omega arith)) (λ l. inr (omega arith)) o)
    ∙ number_other b (at + k) v j (λ e. ⊎_elim (λ l. omega arith) (λ l. omega arith) o)

-- numbers of four bytes
abbrev pub Small : List ℕ → Type 0
Small [] = Unit {0}
Small (v ∷ vs) = (v < 4294967296) × Small vs

pub row_same : (b : List ℕ) (at k : ℕ) (vs : List ℕ) → 4 * (at + k + length vs) ≤ length b → Small vs
    → (i j : ℕ) → i < length vs → j ≡ at + k + i → number (put_row b at k vs) j ≡ get_or vs i 0
unfolding put_row
row_same b at k [] room s i j l e = absurd (omega arith)
row_same b at k (v ∷ vs) room s zero j l e =
    let q : j ≡ at + k = omega arith in
    row_other (put_number b (at + k) v) at (suc k) vs j (inl (omega arith)) ∙ rw q (number_same b (at + k) v (omega arith) s.0)
row_same b at k (v ∷ vs) room s (suc i) j l e =
    row_same (put_number b (at + k) v) at (suc k) vs (omega (arith, length_put_number b (at + k) v)) s.1 i j (omega arith) (omega arith)
