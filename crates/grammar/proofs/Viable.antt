-- The reader has not refused exactly when some legal file goes on from the tokens read.
use mathlib.Core.Path.{◌≡◌, refl, sym, ◌∙◌, ap}
use mathlib.Core.List.{List, [], ◌∷◌, ◌++◌, append_assoc}
use mathlib.Core.Bool.{false}
use Prim.Native.Nat.{ℕ}
use Rattle.grammar.specs.declared.StartClause.{StartClause}
use Rattle.grammar.specs.Grammar.{Class, Point, is_point, walk}
use Rattle.grammar.specs.Grammar.Point.{first, done, dead}
use Rattle.grammar.specs.Productions.{unsaid, Placed, classes, Begins}
use Rattle.grammar.specs.Reading.{State, move, moves}
use Rattle.grammar.specs.Reading.State.{on, refused_at}
use Rattle.grammar.specs.Rows.{MayStand}
use Rattle.grammar.proofs.Ways.{finish, finishes}
use Rattle.grammar.proofs.Moves.{Fine, fine, moves_append, moves_refused, refused≢on}
use Rattle.grammar.proofs.Moves.Fine.{fresh, running}
use Rattle.grammar.proofs.Files.{walks, file_read, read_legal}

abbrev pub start : State
start = on done []

-- tokens of these classes
abbrev pub placed : List Class → List Placed
placed [] = []
placed (c ∷ cs) = record { class = c; place = 0; end = 0; said = unsaid } ∷ placed cs

pub its_classes : (k : List Class) → classes (placed k) ≡ k
its_classes [] = refl
its_classes (c ∷ k) = ap (λ (l : List Class). c ∷ l) (its_classes k)

module _ (clause : StartClause) where
  ends : (q : Point) (os : List ℕ) → is_point q dead ≡ false → moves clause (on q os) (placed (finish q)) ≡ on done os
  ends q os e = walks clause (placed (finish q)) q os (ap (walk q) (its_classes (finish q)) ∙ finishes q e)

  -- from a state that is on, some tokens complete the file
  completes : (a : List Placed) (q : Point) (os : List ℕ) → Fine q os → moves clause start a ≡ on q os → Begins clause a
  completes a q os fresh e = (
    placed (finish first),
    0 ∷ [],
    read_legal clause (a ++ placed (finish first)) 0 []
        (moves_append clause start a (placed (finish first)) ∙ ap (λ (s : State). moves clause s (placed (finish first))) e),
  )
  completes a q os (running {o = o} {os = ps} l f) e = (
    placed (finish q),
    o ∷ ps,
    read_legal clause (a ++ placed (finish q)) o ps
        (moves_append clause start a (placed (finish q)) ∙ ap (λ (s : State). moves clause s (placed (finish q))) e ∙ ends q (o ∷ ps) l),
  )

  pub on_begins : (a : List Placed) (q : Point) (os : List ℕ) → moves clause start a ≡ on q os → Begins clause a
  on_begins a q os e = completes a q os (fine clause a done q [] os fresh e) e

  pub refused_never : (a : List Placed) (n p : ℕ) → moves clause start a ≡ refused_at n p → ¬ Begins clause a
  refused_never a n p e b =
      refused≢on
      (sym (moves_refused clause n p b.0)
      ∙ ap (λ (s : State). moves clause s b.0) (sym e)
      ∙ sym (moves_append clause start a b.0)
      ∙ file_read clause b.2.file b.2.few)

  -- the state after tokens that are in order
  pub begins_on : (a : List Placed) → Begins clause a → (q : Point) × (os : List ℕ) × moves clause start a ≡ on q os
  begins_on a b = go (moves clause start a) refl
    where
      go : (s : State) → moves clause start a ≡ s → (q : Point) × (os : List ℕ) × moves clause start a ≡ on q os
      go (on q os) e = (q, os, e)
      go (refused_at n p) e = absurd (refused_never a n p e b)

  pub shorter : (a r : List Placed) → Begins clause (a ++ r) → Begins clause a
  shorter a r b = (r ++ b.0, b.1, rw append_assoc at b.2)

  -- one token more
  module _ (a : List Placed) (t : Placed) (q : Point) (os : List ℕ) (e : moves clause start a ≡ on q os) where
    pub one_more : moves clause start (a ++ (t ∷ [])) ≡ move clause (on q os) t
    one_more = moves_append clause start a (t ∷ []) ∙ ap (λ (s : State). move clause s t) e

    pub stands : (r : Point) (ps : List ℕ) → move clause (on q os) t ≡ on r ps → MayStand clause a t
    stands r ps m = on_begins (a ++ (t ∷ [])) r ps (one_more ∙ m)

    pub stands_not : (n p : ℕ) → move clause (on q os) t ≡ refused_at n p → ¬ MayStand clause a t
    stands_not n p m = refused_never (a ++ (t ∷ [])) n p (one_more ∙ m)
