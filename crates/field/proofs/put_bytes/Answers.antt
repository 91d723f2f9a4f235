use mathlib.Core.Path.{◌≡◌, refl, sym, ◌∙◌}
use mathlib.Core.List.{List}
use Prim.Native.Nat.{ℕ, ◌+◌, ◌<◌}
use native.Mathlib.Numerals.{add-one}
use native.Mathlib.Omega.{arith}
use lib.ListN.{length, set, get_or, drop, length-set}
use lib.Seq.{drop-cons, drop-length}
use Rattle.field.specs.Part.{put}
use Rattle.field.proofs.Put.{put_nil, put_cons}
use Rattle.field.proofs.put_bytes.Goals as goal

-- one turn
turn : (out src : List ℕ) (at j : ℕ) → j < length src
    → put (set out (at + j) (get_or src j 0)) (at + (j + 1)) (drop (j + 1) src) ≡ put out (at + j) (drop j src)
turn out src at j h =
    let f : at + (j + 1) ≡ at + j + 1 = omega arith in
    rw (f, drop-cons src j 0 h, ← add-one j, put_cons)

-- nothing is left
done : (out src : List ℕ) (at j : ℕ) → j ≡ length src → put out (at + j) (drop j src) ≡ out
done out src at j e = rw (e, drop-length src) (put_nil out (at + length src))

pub loop-j-init : goal.loop-j-init
loop-j-init c =
    let e : c.args.at + 0 ≡ c.args.at = omega arith in
    (omega arith, refl, rw e)

pub loop-j-preserved : goal.loop-j-preserved
loop-j-preserved c =
    let l = c.loop-j in
    let a = c.args in
    (omega arith, simp length-set l.invariant.1, turn l.out a.src.now a.at l.j (omega arith) ∙ l.invariant.2)

pub returns : goal.returns
returns c =
    let l = c.loop-j in
    let a = c.args in
    let e : l.j ≡ length a.src.now = omega arith in
    record { next = refl; bytes = sym (done l.out a.src.now a.at l.j e) ∙ l.invariant.2 }
