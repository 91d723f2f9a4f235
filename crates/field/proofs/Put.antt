-- Laws of `put`: two writes side by side are one write.
use mathlib.Core.Path.{◌≡◌, refl, sym, ap, ◌∙◌, subst}
use mathlib.Core.List.{List, [], ◌∷◌, ◌++◌, append_assoc}
use Prim.Native.Nat.{ℕ, suc, ◌+◌, ◌≤◌}
use native.Mathlib.Nat.{add-zero, add-suc, suc-add}
use native.Mathlib.Omega.{arith}
use lib.ListN.{length-take, length, take, drop, set, length-append}
use borrow.Rule.Slice.PartMut.{put_mid}
use lib.Seq.{drop-drop, drop_at, sets, length-sets, sets-eq}
use Rattle.field.specs.Part.{part, put, Wrote}
use Rattle.field.proofs.Parts.{part_is}

pub put_nil : (d : List ℕ) (at : ℕ) → put d at [] ≡ d
unfolding put
put_nil d at = refl

pub put_cons : (d : List ℕ) (at x : ℕ) (xs : List ℕ) → put d at (x ∷ xs) ≡ put (set d at x) (at + 1) xs
unfolding put
put_cons d at x xs = ap (λ (k : ℕ). sets (set d at x) k xs) (omega arith)

pub length_put : (d : List ℕ) (at : ℕ) (xs : List ℕ) → length (put d at xs) ≡ length d
unfolding put
length_put d at xs = length-sets d at xs

-- in range it is the front, the bytes, and the rest
pub put_eq : (d : List ℕ) (at : ℕ) (xs : List ℕ) → at + length xs ≤ length d → put d at xs ≡ take at d ++ xs ++ drop (at + length xs) d
unfolding put
put_eq d at xs h = sets-eq xs d at h

-- the part of it between the two is what is written over it
pub copied : (d xs ys : List ℕ) (at k : ℕ) → ys ≡ xs → k ≡ length xs → at + length xs ≤ length d → put_mid at k d ys ≡ put d at xs
copied d xs ys at k e f h = rw (e, f) (ap (λ (l : List ℕ). take at d ++ (xs ++ l)) (drop-drop (length xs) at d) ∙ sym (append_assoc (take at d) xs (drop (at + length xs) d)) ∙ sym (put_eq d at xs h))

-- two writes, the second where the first ends, are one write of the two lists joined
pub put_put : (xs ys d : List ℕ) (at : ℕ) → put (put d at xs) (at + length xs) ys ≡ put d at (xs ++ ys)
unfolding put
put_put [] ys d at = ap (λ (k : ℕ). sets d k ys) (add-zero at)
put_put (x ∷ xs) ys d at =
    ap (λ (k : ℕ). sets (sets (set d at x) (suc at) xs) k ys) (add-suc at (length xs) ∙ sym (suc-add at (length xs)))
    ∙ put_put xs ys (set d at x) (suc at)

-- one byte more
pub put_snoc : (d : List ℕ) (at : ℕ) (xs : List ℕ) (b : ℕ) → set (put d at xs) (at + length xs) b ≡ put d at (xs ++ b ∷ [])
unfolding put
put_snoc d at xs b = put_put xs (b ∷ []) d at

-- one byte written
pub wrote_byte : (d : List ℕ) (at b : ℕ) → Wrote d at (b ∷ []) (set d at b) (at + 1)
unfolding put
wrote_byte d at b = record { next = refl; bytes = refl }

-- a write and then another, where the first ended
pub then : {d e f xs ys : List ℕ} {at a b : ℕ} → Wrote d at xs e a → Wrote e a ys f b → Wrote d at (xs ++ ys) f b
then {d} {e} {f} {xs} {ys} {at} {a} {b} v w = record {
  next = omega (arith, v.next, w.next, length-append xs ys);
  bytes = w.bytes ∙ ap (λ (l : List ℕ). put l a ys) v.bytes ∙ ap (λ (k : ℕ). put (put d at xs) k ys) v.next ∙ put_put xs ys d at;
}

pub wrote_length : {d e xs : List ℕ} {at r : ℕ} → Wrote d at xs e r → length e ≡ length d
wrote_length {d} {e} {xs} {at} w = ap length w.bytes ∙ length_put d at xs

-- the same bytes, said in another way
pub as_bytes : {d e xs ys : List ℕ} {at r : ℕ} → Wrote d at xs e r → xs ≡ ys → Wrote d at ys e r
as_bytes {d} {e} {xs} {ys} {at} {r} w p = subst (λ (l : List ℕ). Wrote d at l e r) p w

-- what was written stands there
pub part_put : (d : List ℕ) (at : ℕ) (xs : List ℕ) → at + length xs ≤ length d → part (put d at xs) at (length xs) ≡ xs
part_put d at xs h =
    let front : length (take at d) ≡ at = omega (arith, length-take at d) in
    let rest = drop (at + length xs) d in
    part_is (put d at xs) at xs (length xs) refl rest (rw (put_eq d at xs h, append_assoc) (drop_at (take at d) (xs ++ rest) at front))
