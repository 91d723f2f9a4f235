-- Laws for every call.
use Prim.Native.Nat.{ℕ}
use mathlib.Core.Path.{◌≡◌, refl, sym, ◌∙◌}
use mathlib.Core.Bool.{Bool, true, false, cond}
use mathlib.Core.List.{List}
use lib.Dec.{eqb}
use Rattle.counts.specs.Result.{Result, refused, done}
use Rattle.counts.proofs.Results.{refused_not_done}
use Rattle.claims.specs.Exactly.{OneResult}

-- a writer that finds the refusal k, 0 for none, and then writes: where it is refused the lent output stays
pub refused_stays : (k n : ℕ) (bytes out : List ℕ) (number place : ℕ) → cond {A = Result ℕ} (eqb k 0) (done n) (refused k 0) ≡ refused number place
    → cond (eqb k 0) bytes out ≡ out
refused_stays k n bytes out number place = go (eqb k 0)
  where
    go : (t : Bool) → cond {A = Result ℕ} t (done n) (refused k 0) ≡ refused number place → cond t bytes out ≡ out
    go true h = absurd (refused_not_done (sym h))
    go false h = refl

-- where the paper's value loses nothing, a contract has one result
pub one_result : {A B M : Type 0} {says : A → B} → ((a b : A) → says a ≡ says b → a ≡ b) → OneResult M says
one_result all v memory a b exit exit' p q = (all a b (p.0 ∙ sym q.0), p.1 ∙ sym q.1)
