-- Laws of offsets after offsets: the answer that they give, and the table that they are entered in.
use Prim.Native.Nat.{ℕ, ◌+◌, ◌≤◌}
use mathlib.Core.Path.{◌≡◌, refl, sym, ◌∙◌, ap}
use mathlib.Core.Bool.{Bool, true, false, cond}
use mathlib.Core.List.{List, [], ◌++◌, append_assoc, append-nil}
use native.Mathlib.Omega.{arith}
use borrow.Author.Tests.{leb-true}
use lib.Dec.{leb}
use lib.ListN.{length, take, drop, length-append, take-append-drop}
use lib.Seq.{length-take-le, take-append-le, take-take, drop_at, paste}
use Rattle.counts.specs.Refusals.{too_few_places}
use Rattle.counts.specs.Result.Result.{refused, done}
use Rattle.counts.proofs.Results.{refused_not_done}
use Rattle.grammar.specs.Reading.{OffsetsRead}
use Rattle.job.specs.Loop.{after, answered, entered}

pub after_none : (v : OffsetsRead) → after [] v ≡ v
after_none (done os) = refl
after_none (refused n p) = refl

pub after_after : (os ps : List ℕ) (v : OffsetsRead) → after os (after ps v) ≡ after (os ++ ps) v
after_after os ps (done qs) = ap (λ (l : List ℕ). done l) (sym (append_assoc os ps qs))
after_after os ps (refused n p) = refl

-- the answer counts all
pub answered_after : (k room : ℕ) (os : List ℕ) (n : ℕ) (v : OffsetsRead) → length os ≡ n → answered k room (after os v) ≡ answered (k + n) room v
answered_after k room os n (done ps) e =
    let l : k + length (os ++ ps) ≡ k + n + length ps = omega (arith, length-append os ps) in
    rw l
answered_after k room os n (refused a b) e = refl

-- a file that is taken has offsets that fit
pub taken_fits : (k room : ℕ) (v : OffsetsRead) (all : ℕ) → done all ≡ answered k room v → k ≤ room
taken_fits k room (done os) all e = go (leb (k + length os) room) refl e
  where
    go : (b : Bool) → leb (k + length os) room ≡ b → done all ≡ cond b (done (k + length os)) (refused too_few_places 0) → k ≤ room
    go true l x = omega (arith, leb-true (k + length os) room l)
    go false l x = absurd (refused_not_done (sym x))
taken_fits k room (refused n p) all e = absurd (refused_not_done (sym e))

-- a refusal leaves the table
pub refused_stays : (k : ℕ) (v : OffsetsRead) (table : List ℕ) (n p : ℕ) → refused n p ≡ answered k (length table) v → table ≡ entered k v table
refused_stays k (done os) table n p e = go (leb (k + length os) (length table)) e
  where
    go : (b : Bool) → refused n p ≡ cond b (done (k + length os)) (refused too_few_places 0)
        → table ≡ cond b (take k table ++ os ++ drop (k + length os) table) table
    go true x = absurd (refused_not_done x)
    go false x = refl
refused_stays k (refused a b) table n p e = refl

-- no offsets leave it too
pub none_stay : (k : ℕ) (table : List ℕ) → entered k (done []) table ≡ table
none_stay k table = go (leb (k + 0) (length table))
  where
    same : take k table ++ [] ++ drop (k + 0) table ≡ table
    same = let z : k + 0 ≡ k = omega arith in rw (z, append-nil (take k table)) (take-append-drop k table)

    go : (b : Bool) → cond b (take k table ++ [] ++ drop (k + 0) table) table ≡ table
    go true = same
    go false = refl

-- the later offsets first, and then those before them
pub entered_after : (k : ℕ) (places : List ℕ) (n : ℕ) (v : OffsetsRead) (table : List ℕ) (all : ℕ) → n ≤ length places
    → done all ≡ answered (k + n) (length table) v
    → paste (entered (k + n) v table) k places n ≡ entered k (after (take n places) v) table
entered_after k places n (done ps) table all few e = go (leb (k + n + length ps) (length table)) refl e
  where
    front : List ℕ
    front = take (k + n) table

    rest : List ℕ
    rest = drop (k + n + length ps) table

    long : k + length (take n places ++ ps) ≡ k + n + length ps
    long = omega (arith, length-append (take n places) ps, length-take-le n places few)

    go : (b : Bool) → leb (k + n + length ps) (length table) ≡ b → done all ≡ cond b (done (k + n + length ps)) (refused too_few_places 0)
        → paste (cond b (front ++ ps ++ rest) table) k places n ≡ entered k (done (take n places ++ ps)) table
    go true l x =
        let fits : k + n + length ps ≤ length table = leb-true _ _ l in
        let up_to : length front ≡ k + n = length-take-le (k + n) table (omega arith) in
        let head : take k (front ++ ps ++ rest) ≡ take k table =
        take-append-le k (front ++ ps) rest (omega (arith, length-append front ps, up_to))
        ∙ take-append-le k front ps (omega (arith, up_to))
        ∙ take-take k (k + n) table (omega arith) in
        let tail : drop (k + n) (front ++ ps ++ rest) ≡ ps ++ rest = rw append_assoc (drop_at front (ps ++ rest) (k + n) up_to) in
        rw (long, l, head, tail) (simp append_assoc)
    go false l x = absurd (refused_not_done (sym x))
entered_after k places n (refused a b) table all few e = absurd (refused_not_done (sym e))
