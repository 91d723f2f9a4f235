-- The loop that clears a table: what it has passed is 0.
use Prim.Native.Nat.{ℕ, ◌+◌, ◌<◌}
use mathlib.Core.Path.{◌≡◌, ◌∙◌, ap, sym}
use mathlib.Core.List.{List, [], ◌∷◌, ◌++◌}
use native.Mathlib.Numerals.{add-one}
use lib.ListN.{length, take, set, replicate, replicate-append-replicate}
use lib.Seq.{take-suc-set, take-length}

pub clear_more : (b : List ℕ) (i : ℕ) → i < length b → take i b ≡ replicate i 0 → take (i + 1) (set b i 0) ≡ replicate (i + 1) 0
clear_more b i l e =
    ap (λ k. take k (set b i 0)) (add-one i) ∙ take-suc-set b i 0 l ∙ ap (λ r. r ++ (0 ∷ [])) e ∙ replicate-append-replicate i 1 0

pub clear_end : (b : List ℕ) (i n : ℕ) → i ≡ n → length b ≡ n → take i b ≡ replicate i 0 → b ≡ replicate n 0
clear_end b i n p q e = sym (take-length b) ∙ ap (λ k. take k b) (q ∙ sym p) ∙ e ∙ ap (λ k. replicate k 0) p
