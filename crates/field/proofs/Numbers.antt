-- Laws of `get_w` and `put_w`, once over the width: the length stays, what stands apart stays, what was written is read.
use Prim.Native.Nat.{ℕ, zero, suc, ◌+◌, ◌/◌, ◌%◌, ◌≤◌, ◌<◌, ◌^◌}
use mathlib.Core.Path.{◌≡◌, refl, ◌∙◌}
use mathlib.Core.List.{List}
use mathlib.Core.Logic.{◌⊎◌, inl, inr, ⊎_elim}
use native.Mathlib.Omega.{arith}
use native.Mathlib.Nat.{pow-succ', one-le-pow}
use lib.ListN.{get_or, set, length, length-set}
use lib.Seq.{get_or-set_same, get_or-set_other}
use lib.Arith.{mod-mul}
use Rattle.field.specs.Number.{get_w, put_w}

-- the length stays
pub length_put_w : (k : ℕ) (b : List ℕ) (at v : ℕ) → length (put_w k b at v) ≡ length b
unfolding put_w
length_put_w zero b at v = refl
length_put_w (suc k) b at v = rw (length-set, length_put_w k)

-- a byte outside stays
pub get_or_put_w : (k : ℕ) (b : List ℕ) (at v p : ℕ) → (p < at) ⊎ (at + k ≤ p) → get_or (put_w k b at v) p 0 ≡ get_or b p 0
unfolding put_w
get_or_put_w zero b at v p o = refl
get_or_put_w (suc k) b at v p o =
    get_or-set_other (put_w k b at v) (at + k) p (v / 256 ^ k % 256) 0 (λ e. ⊎_elim (λ h. omega arith) (λ h. omega arith) o)
    ∙ get_or_put_w k b at v p (⊎_elim (λ h. inl h) (λ h. inr (omega arith)) o)

-- a number reads the same where its bytes are the same
pub get_w_same : (j : ℕ) (b d : List ℕ) (p : ℕ) → ((q : ℕ) → p ≤ q → q < p + j → get_or d q 0 ≡ get_or b q 0) → get_w j d p ≡ get_w j b p
unfolding get_w
get_w_same zero b d p h = refl
get_w_same (suc j) b d p h =
    let e = h (p + j) (omega arith) (omega arith) in
    let f = get_w_same j b d p (λ q low high. h q low (omega arith)) in
    rw (e, f)

-- a number that stands apart stays
pub get_w_put_w_apart : (j k : ℕ) (b : List ℕ) (at v p : ℕ) → (p + j ≤ at) ⊎ (at + k ≤ p) → get_w j (put_w k b at v) p ≡ get_w j b p
get_w_put_w_apart j k b at v p o =
    get_w_same j b (put_w k b at v) p
    (λ q low high. get_or_put_w k b at v q (⊎_elim (λ h. inl (omega arith)) (λ h. inr (omega arith)) o))

-- what was written is read
pub get_w_put_w : (k : ℕ) (b : List ℕ) (at v : ℕ) → at + k ≤ length b → get_w k (put_w k b at v) at ≡ v % 256 ^ k
unfolding get_w put_w
get_w_put_w zero b at v h = omega arith
get_w_put_w (suc k) b at v h =
    let low = put_w k b at v in
    let n = v / 256 ^ k % 256 in
    let e : get_or (set low (at + k) n) (at + k) 0 ≡ n = get_or-set_same low (at + k) n 0 (rw length_put_w (omega arith)) in
    let f : get_w k (set low (at + k) n) at ≡ v % 256 ^ k =
    get_w_same k low (set low (at + k) n) at (λ q _ high. get_or-set_other low (at + k) q n 0 (λ p. omega arith))
    ∙ get_w_put_w k b at v (omega arith)
    in
    rw (e, f, pow-succ', mod-mul v {m = 256} {c = 256 ^ k} (omega arith) (one-le-pow k 256 (omega arith)))
