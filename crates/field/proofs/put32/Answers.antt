-- `field::put32` meets its contract.
use Prim.Native.Nat.{ℕ, ◌+◌, ◌/◌, ◌%◌}
use mathlib.Core.Path.{◌≡◌, refl, ap, ◌∙◌}
use mathlib.Core.List.{List, [], ◌∷◌}
use native.Mathlib.Omega.{arith}
use native.Mathlib.Nat.{add-zero, div-one}
use lib.ListN.{length}
use Rattle.field.specs.Number.{put_w}
use Rattle.field.specs.Part.{put}
use Rattle.field.proofs.Put.{copied, put_cons, put_nil}
use Rattle.field.proofs.put32.Goals as goal

-- the four bytes, one after the other
in_turn : (d : List ℕ) (at v : ℕ) → put d at (v % 256 ∷ v / 256 % 256 ∷ v / 65536 % 256 ∷ v / 16777216 % 256 ∷ []) ≡ put_w 4 d at v
unfolding put_w
in_turn d at v =
    let two : at + 1 + 1 ≡ at + 2 = omega arith in
    let three : at + 2 + 1 ≡ at + 3 = omega arith in
    simp (put_cons, put_nil, add-zero, div-one, two, three) refl

pub returns : goal.returns
returns c =
    let four : length c.to_le_bytes.result ≡ 4 = ap length c.to_le_bytes.ensures in
    copied _ _ _ _ _ c.copy_from_slice.ensures.after (omega arith) (omega arith)
    ∙ ap (λ (xs : List ℕ). put c.args.b.now c.args.at xs) c.to_le_bytes.ensures
    ∙ in_turn _ _ _
