-- The reader takes the legal files, with their offsets, and no others.
use mathlib.Core.Path.{◌≡◌, sym, ◌∙◌, ap, subst}
use mathlib.Core.Bool.{true, false, true≢false}
use mathlib.Core.List.{List, [], ◌∷◌, ◌++◌, append_assoc, append-nil}
use Prim.Native.Nat.{ℕ, ◌≤◌, ◌<◌}
use native.Mathlib.Omega.{arith}
use borrow.Author.Tests.{lt-ltb}
use lib.Dec.{ltb}
use lib.ListN.{length, length-append}
use Rattle.counts.specs.Limits.{statements}
use Rattle.grammar.specs.declared.StartClause.{StartClause}
use Rattle.grammar.specs.Grammar.{Class, Point, step, walk, is_point}
use Rattle.grammar.specs.Grammar.Point.{first, between, done, dead}
use Rattle.grammar.specs.Statement.{Statement}
use Rattle.grammar.specs.Productions.{Placed, classes, Others, File, Legal}
use Rattle.grammar.specs.Productions.Others.{none, more}
use Rattle.grammar.specs.Productions.File.{file}
use Rattle.grammar.specs.Reading.{State, opening, move, moves}
use Rattle.grammar.specs.Reading.State.{on, refused_at}
use Rattle.grammar.proofs.Apart.{done_alone, dead_alone}
use Rattle.grammar.proofs.Points.{stays, elsewhere, walked_job, walked_other, job_walks, other_walks}
use Rattle.grammar.proofs.Moves.{Moved, moved, Fine, fine, moves_append, moves_refused, refused≢on}
use Rattle.grammar.proofs.Moves.Moved.{goes, begins}
use Rattle.grammar.proofs.Moves.Fine.{fresh, running}

-- a point that classes lead on from, to the end of a statement
not_dead : (q : Point) (k : List Class) → walk q k ≡ done → is_point q dead ≡ false
not_dead q k w = elsewhere q dead dead_alone k (stays k) (ap (λ (p : Point). is_point p dead) w)

snoc : (os : List ℕ) (p : ℕ) (rs : List ℕ) → (os ++ (p ∷ [])) ++ rs ≡ os ++ (p ∷ rs)
snoc os p rs = append_assoc os (p ∷ []) rs

-- no statement, no file
no_token_taken : (o : ℕ) (os : List ℕ) → on done [] ≡ on done (o ∷ os) → ⊥
no_token_taken o os e = let z : ◌≡◌ {A = ℕ} 0 1 = cc in omega arith

few : {q : Point} {o : ℕ} {os : List ℕ} → Fine q (o ∷ os) → length (o ∷ os) ≤ statements
few (running a f) = f

module _ (clause : StartClause) where
  -- within a statement the reader goes the way of its classes
  pub walks : (a : List Placed) (q : Point) (os : List ℕ) → walk q (classes a) ≡ done → moves clause (on q os) a ≡ on done os
  walks [] q os w = ap (λ (p : Point). on p os) w
  walks (t ∷ a) q os w =
      let d : is_point q done ≡ false = elsewhere q done done_alone (t.class ∷ classes a) (stays (classes a)) (ap (λ (p : Point). is_point p dead) w) in
      let l : is_point (step q t.class) dead ≡ false = not_dead (step q t.class) (classes a) w in
      ap (λ (s : State). moves clause s a) (rw (d, l)) ∙ walks a (step q t.class) os w

  -- a statement more
  one : (t : Placed) (a : List Placed) (os : List ℕ) → length os < statements → walk (opening clause os) (t.class ∷ classes a) ≡ done
      → moves clause (on done os) (t ∷ a) ≡ on done (os ++ (t.place ∷ []))
  one t a os l w =
      let d : is_point (step (opening clause os) t.class) dead ≡ false = not_dead (step (opening clause os) t.class) (classes a) w in
      let n : ltb (length os) statements ≡ true = lt-ltb _ _ l in
      ap (λ (s : State). moves clause s a) (rw (n, d)) ∙ walks a (step (opening clause os) t.class) (os ++ (t.place ∷ [])) w

  -- productions to reader
  others_read : {b : List Placed} {rs : List ℕ} {xs : List Statement} → Others clause b rs xs → (o : ℕ) (os : List ℕ) → length (o ∷ (os ++ rs)) ≤ statements
      → moves clause (on done (o ∷ os)) b ≡ on done (o ∷ (os ++ rs))
  others_read none o os l = rw append-nil
  others_read (more {t = t} {a = a} {b = b} {os = rs} e r) o os l =
      let f : length (o ∷ os) < statements = omega (arith, length-append os (t.place ∷ rs)) in
      moves_append clause (on done (o ∷ os)) (t ∷ a) b
      ∙ ap (λ (s : State). moves clause s b) (one t a (o ∷ os) f (other_walks e))
      ∙ others_read r o (os ++ (t.place ∷ [])) (rw (snoc os t.place rs) l)
      ∙ rw (snoc os t.place rs)

  pub file_read : {ts : List Placed} {os : List ℕ} {xs : List Statement} → File clause ts os xs → length os ≤ statements
      → moves clause (on done []) ts ≡ on done os
  file_read (file {t = t} {a = a} {b = b} {os = os} e r) l =
      moves_append clause (on done []) (t ∷ a) b
      ∙ ap (λ (s : State). moves clause s b) (one t a [] (omega arith) (job_walks e))
      ∙ others_read r t.place [] l

  -- reader to productions: the tokens from the point q on are the rest of a statement, and then statements that begin at os
  data Rest (q : Point) : List Placed → List ℕ → Type 0 where
    rest : (a : List Placed) {b : List Placed} {os : List ℕ} {xs : List Statement} → walk q (classes a) ≡ done → Others clause b os xs → Rest q (a ++ b) os

  longer : {q : Point} {t : Placed} {l : List Placed} {os : List ℕ} → Rest (step q t.class) l os → Rest q (t ∷ l) os
  longer {t = t} (rest a w r) = rest (t ∷ a) w r

  one_later : {q : Point} {t : Placed} {l : List Placed} {os : List ℕ} → q ≡ done → Rest (step (between clause) t.class) l os
      → Rest q (t ∷ l) (t.place ∷ os)
  one_later {t = t} e (rest a w r) = rest [] e (more (walked_other (t ∷ a) w).1 r)

  the_first : {t : Placed} {l : List Placed} {os : List ℕ} → Rest (step first t.class) l os → (xs : List Statement) × File clause (t ∷ l) (t.place ∷ os) xs
  the_first {t = t} (rest a w r) = (_, file (walked_job (t ∷ a) w).1 r)

  -- what is read from q on, after statements that begin at os
  abbrev Onward : Point → List ℕ → List Placed → List ℕ → Type 0
  Onward q os l all = (begun : List ℕ) × Rest q l begun × all ≡ os ++ begun

  onward : (l : List Placed) (q : Point) (o : ℕ) (os all : List ℕ) → moves clause (on q (o ∷ os)) l ≡ on done all → Onward q (o ∷ os) l all
  onward [] q o os all e =
      let d : q ≡ done = cc in
      let a : all ≡ o ∷ os = cc in
      ([], rest [] d none, rw append-nil a)
  onward (t ∷ l) q o os all e = go (λ r ps d. onward l r o ps all d) (move clause (on q (o ∷ os)) t) (moved clause q (o ∷ os) t) e
    where
      go : ((r : Point) (ps : List ℕ) → moves clause (on r (o ∷ ps)) l ≡ on done all → Onward r (o ∷ ps) l all) → (s : State) → Moved clause q (o ∷ os) t s
          → moves clause s l ≡ on done all → Onward q (o ∷ os) (t ∷ l) all
      go later (on r ps) (goes n a) d = let (b, s, f) = later (step q t.class) os d in (b, longer s, f)
      go later (on r ps) (begins n f a) d =
          let (b, s, g) = later (step (between clause) t.class) (os ++ (t.place ∷ [])) d in
          (t.place ∷ b, one_later n s, g ∙ rw snoc)
      go later (refused_at n p) m d = absurd (refused≢on (sym (moves_refused clause n p l) ∙ d))

  pub read_legal : (ts : List Placed) (o : ℕ) (os : List ℕ) → moves clause (on done []) ts ≡ on done (o ∷ os) → Legal clause ts (o ∷ os)
  read_legal [] o os e = absurd (no_token_taken o os e)
  read_legal (t ∷ l) o os e =
      let f : (xs : List Statement) × File clause (t ∷ l) (o ∷ os) xs = go (move clause (on done []) t) (moved clause done [] t) e in
      record { reads = f.0; file = f.1; few = few (fine clause (t ∷ l) done done [] (o ∷ os) fresh e) }
    where
      go : (s : State) → Moved clause done [] t s → moves clause s l ≡ on done (o ∷ os) → (xs : List Statement) × File clause (t ∷ l) (o ∷ os) xs
      go (on r ps) (goes n a) d = absurd (true≢false n)
      go (on r ps) (begins n f a) d =
          let (b, s, g) = onward l (step first t.class) t.place [] (o ∷ os) d in
          let (xs, y) = the_first s in
          (xs, subst (λ (all : List ℕ). File clause (t ∷ l) all xs) (sym g) y)
      go (refused_at n p) m d = absurd (refused≢on (sym (moves_refused clause n p l) ∙ d))
