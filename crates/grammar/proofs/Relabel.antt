-- Whether tokens are a legal file depends on their classes alone, not on their places or what they say.
use mathlib.Core.Path.{◌≡◌, refl, sym, ◌∙◌, ap, ap₂, subst}
use mathlib.Core.List.{List, [], ◌∷◌, ◌++◌}
use Prim.Native.Nat.{ℕ}
use native.Mathlib.Omega.{arith}
use lib.ListN.{length}
use Rattle.grammar.specs.declared.StartClause.{StartClause}
use Rattle.grammar.specs.Grammar.{Class, Point, walk}
use Rattle.grammar.specs.Grammar.Point.{first, between, done}
use Rattle.grammar.specs.Statement.{Statement}
use Rattle.grammar.specs.Productions.{Placed, classes, Ended, Others, File, Legal}
use Rattle.grammar.specs.Productions.Others.{none, more}
use Rattle.grammar.specs.Productions.File.{file}
use Rattle.grammar.proofs.Points.{classes_append, walked_job, walked_other, job_walks, other_walks}

-- tokens of the classes c, and then tokens of the classes d
record Parted (us : List Placed) (c d : List Class) : Type 0 where
  front : List Placed
  back : List Placed
  both : us ≡ front ++ back
  front_is : classes front ≡ c
  back_is : classes back ≡ d

parted : (c d : List Class) (us : List Placed) → classes us ≡ c ++ d → Parted us c d
parted [] d us e = record { front = []; back = us; both = refl; front_is = refl; back_is = e }
parted (x ∷ c) d [] e = let z : ◌≡◌ {A = ℕ} 0 1 = cc in absurd (omega arith)
parted (x ∷ c) d (u ∷ us) e =
    let f : u.class ≡ x = cc in
    let g : classes us ≡ c ++ d = cc in
    let r : Parted us c d = parted c d us g in
    record {
      front = u ∷ r.front;
      back = r.back;
      both = ap (λ (l : List Placed). u ∷ l) r.both;
      front_is = ap₂ (λ (k : Class) (l : List Class). k ∷ l) f r.front_is;
      back_is = r.back_is;
    }

-- a statement of the same classes, and the tokens after it
again : {P : List Placed → Statement → Type 0} (q : Point) → ((k : List Placed) → walk q (classes k) ≡ done → (x : Statement) × Ended P k x)
    → (t : Placed) (a b : List Placed) → walk q (classes (t ∷ a)) ≡ done → (u : Placed) (us : List Placed) → classes (u ∷ us) ≡ classes (t ∷ (a ++ b))
    → (p : Parted us (classes a) (classes b)) × (x : Statement) × Ended P (u ∷ p.front) x
again q walked t a b w u us e =
    let c : u.class ≡ t.class = cc in
    let d : classes us ≡ classes (a ++ b) = cc in
    let p : Parted us (classes a) (classes b) = parted (classes a) (classes b) us (d ∙ classes_append a b) in
    let (x, y) = walked (u ∷ p.front) (ap₂ (λ (k : Class) (l : List Class). walk q (k ∷ l)) c p.front_is ∙ w) in
    (p, x, y)

-- as many statements
abbrev Again : (List Placed → List ℕ → List Statement → Type 0) → List Placed → List ℕ → Type 0
Again P us os = (rs : List ℕ) × (ys : List Statement) × P us rs ys × length rs ≡ length os

module _ (clause : StartClause) where
  others_again : {b : List Placed} {os : List ℕ} {xs : List Statement} → Others clause b os xs → (us : List Placed) → classes us ≡ classes b
      → Again (Others clause) us os
  others_again none [] e = ([], [], none, refl)
  others_again none (u ∷ us) e = let z : ◌≡◌ {A = ℕ} 0 1 = cc in absurd (omega arith)
  others_again (more w r) [] e = let z : ◌≡◌ {A = ℕ} 0 1 = cc in absurd (omega arith)
  others_again (more {t = t} {a = a} {b = b} w r) (u ∷ us) e =
      let (p, x, y) = again (between clause) walked_other t a b (other_walks w) u us e in
      let (rs, ys, o, l) = others_again r p.back p.back_is in
      (u.place ∷ rs, x ∷ ys, subst (λ (m : List Placed). Others clause (u ∷ m) (u.place ∷ rs) (x ∷ ys)) (sym p.both) (more y o), rw l)

  file_again : {ts : List Placed} {os : List ℕ} {xs : List Statement} → File clause ts os xs → (us : List Placed) → classes us ≡ classes ts
      → Again (File clause) us os
  file_again (file w r) [] e = let z : ◌≡◌ {A = ℕ} 0 1 = cc in absurd (omega arith)
  file_again (file {t = t} {a = a} {b = b} w r) (u ∷ us) e =
      let (p, x, y) = again first walked_job t a b (job_walks w) u us e in
      let (rs, ys, o, l) = others_again r p.back p.back_is in
      (u.place ∷ rs, x ∷ ys, subst (λ (m : List Placed). File clause (u ∷ m) (u.place ∷ rs) (x ∷ ys)) (sym p.both) (file y o), rw l)

  pub relabel : (ts us : List Placed) (os : List ℕ) → classes ts ≡ classes us → Legal clause ts os → (rs : List ℕ) × Legal clause us rs
  relabel ts us os e l = let f = file_again l.file us (sym e) in (f.0, record { reads = f.1; file = f.2; few = rw f.3 l.few })
