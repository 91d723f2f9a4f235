-- What a token does to the reader, by cases; and what the reader keeps.
use mathlib.Core.Path.{◌≡◌, refl, sym, ◌∙◌}
use mathlib.Core.Bool.{Bool, true, false, true≢false, cond}
use mathlib.Core.List.{List, [], ◌∷◌, ◌++◌}
use Prim.Native.Nat.{ℕ, ◌≤◌, ◌<◌}
use native.Mathlib.Omega.{arith}
use borrow.Author.Tests.{ltb-true, ltb-false}
use lib.Dec.{ltb}
use lib.ListN.{length, length-append}
use Rattle.counts.specs.Limits.{statements}
use Rattle.counts.specs.Refusals.{unexpected, not_real, too_many_statements}
use Rattle.grammar.specs.declared.StartClause.{StartClause}
use Rattle.grammar.specs.Grammar.{Point, step, is_point, shape}
use Rattle.grammar.specs.Grammar.Point.{done, dead}
use Rattle.grammar.specs.Productions.{Placed}
use Rattle.grammar.specs.Reading.{State, step_with, opening, begin, move, moves}
use Rattle.grammar.specs.Reading.State.{on, refused_at}
use Rattle.grammar.specs.Rows.{real}
use Rattle.grammar.proofs.Apart.{done_alone, is_point_lem}

-- the token may stand at the point
abbrev pub Alive : Point → Placed → Type 0
Alive q t = is_point (step q t.class) dead ≡ false

-- what `move clause (on q os) t` is
pub data Moved (clause : StartClause) (q : Point) (os : List ℕ) (t : Placed) : State → Type 0 where
  goes : is_point q done ≡ false → Alive q t → Moved clause q os t (on (step q t.class) os)
  begins : q ≡ done → length os < statements → Alive (opening clause os) t
      → Moved clause q os t (on (step (opening clause os) t.class) (os ++ (t.place ∷ [])))
  full : q ≡ done → statements ≤ length os → Moved clause q os t (refused_at too_many_statements t.place)
  unreal : (p : Point) (rs : List ℕ) → move clause (on q os) (real t) ≡ on p rs → Moved clause q os t (refused_at not_real t.place)
  never : (n : ℕ) × move clause (on q os) (real t) ≡ refused_at n t.place → Moved clause q os t (refused_at unexpected t.place)

either : (b : Bool) (p : ℕ) → (n : ℕ) × cond b (refused_at unexpected p) (refused_at not_real p) ≡ refused_at n p
either true p = (unexpected, refl)
either false p = (not_real, refl)

-- the reader's points and offsets: nothing yet, or a living point and no more statements begun than a file may have
pub data Fine : Point → List ℕ → Type 0 where
  fresh : Fine done []
  running : {q : Point} {o : ℕ} {os : List ℕ} → is_point q dead ≡ false → length (o ∷ os) ≤ statements → Fine q (o ∷ os)

one_more : (o : ℕ) (os : List ℕ) (p : ℕ) → length (o ∷ os) < statements → length (o ∷ (os ++ (p ∷ []))) ≤ statements
one_more o os p l = simp length-append (omega arith)

pub refused≢on : {n p : ℕ} {q : Point} {os : List ℕ} → refused_at n p ≡ on q os → ⊥
refused≢on e = let z : ◌≡◌ {A = ℕ} 0 1 = cc in omega arith

module _ (clause : StartClause) where
  -- where the reader takes a token by `step_with p rs`
  module _ (q : Point) (os : List ℕ) (t : Placed) (p : Point) (rs : List ℕ)
      (by : move clause (on q os) (real t) ≡ step_with p rs (real t)) (on-it : Alive p t → Moved clause q os t (on (step p t.class) rs)) where
    by_step : (b d : Bool) → is_point (step p t.class) dead ≡ b → is_point (step p (shape t.class)) dead ≡ d
        → Moved clause q os t (cond b (cond d (refused_at unexpected t.place) (refused_at not_real t.place)) (on (step p t.class) rs))
    by_step false d i j = on-it i
    by_step true false i j = unreal (step p (shape t.class)) rs (by ∙ rw j)
    by_step true true i j =
        let e = either (is_point (step p (shape (shape t.class))) dead) t.place in
        never (e.0, by ∙ rw j e.1)

    stepped : Moved clause q os t (step_with p rs t)
    stepped = by_step _ _ refl refl

  module _ (q : Point) (os : List ℕ) (t : Placed) where
    by_begin : (b : Bool) → q ≡ done → ltb (length os) statements ≡ b
        → Moved clause q os t (cond b (step_with (opening clause os) (os ++ (t.place ∷ [])) t) (refused_at too_many_statements t.place))
    by_begin true e l = stepped q os t (opening clause os) (os ++ (t.place ∷ [])) (rw (e, l)) (begins e (ltb-true _ _ l))
    by_begin false e l = full e (ltb-false _ _ l)

    by_move : (b : Bool) → is_point q done ≡ b → Moved clause q os t (cond b (begin clause os t) (step_with q os t))
    by_move true e = by_begin _ (is_point_lem q done done_alone e) refl
    by_move false e = stepped q os t q os (rw e) (goes e)

    pub moved : Moved clause q os t (move clause (on q os) t)
    moved = by_move _ refl

  -- a point after a living one, and a statement that begins
  fine_goes : {q : Point} {os : List ℕ} → Fine q os → is_point q done ≡ false → (r : Point) → is_point r dead ≡ false → Fine r os
  fine_goes fresh e r i = absurd (true≢false e)
  fine_goes (running a f) e r i = running i f

  fine_begins : {q : Point} {os : List ℕ} → Fine q os → length os < statements → (o : ℕ) (r : Point) → is_point r dead ≡ false → Fine r (os ++ (o ∷ []))
  fine_begins fresh l o r i = running {o = o} {os = []} i (omega arith)
  fine_begins (running {o = k} {os = os} a f) l o r i = running i (one_more k os o l)

  fine_where : {q : Point} {os : List ℕ} {t : Placed} {s : State} → Fine q os → Moved clause q os t s → (p : Point) (rs : List ℕ) → s ≡ on p rs → Fine p rs
  fine_where {q} {os} {t} f (goes e i) p rs h =
      let a : step q t.class ≡ p = cc in
      let b : os ≡ rs = cc in
      rw (← a, ← b) (fine_goes f e (step q t.class) i)
  fine_where {q} {os} {t} f (begins e l i) p rs h =
      let a : step (opening clause os) t.class ≡ p = cc in
      let b : os ++ (t.place ∷ []) ≡ rs = cc in
      rw (← a, ← b) (fine_begins f l t.place (step (opening clause os) t.class) i)
  fine_where f (full e l) p rs h = absurd (refused≢on h)
  fine_where f (unreal r ps e) p rs h = absurd (refused≢on h)
  fine_where f (never e) p rs h = absurd (refused≢on h)

  fine_on : {q p : Point} {os rs : List ℕ} {t : Placed} → Fine q os → Moved clause q os t (on p rs) → Fine p rs
  fine_on {p = p} {rs = rs} f m = fine_where f m p rs refl

  pub moves_refused : (n p : ℕ) (l : List Placed) → moves clause (refused_at n p) l ≡ refused_at n p
  moves_refused n p [] = refl
  moves_refused n p (t ∷ l) = moves_refused n p l

  pub moves_append : (s : State) (a b : List Placed) → moves clause s (a ++ b) ≡ moves clause (moves clause s a) b
  moves_append s [] b = refl
  moves_append s (t ∷ a) b = moves_append (move clause s t) a b

  pub fine : (l : List Placed) (q p : Point) (os rs : List ℕ) → Fine q os → moves clause (on q os) l ≡ on p rs → Fine p rs
  fine [] q p os rs f e =
      let a : q ≡ p = cc in
      let b : os ≡ rs = cc in
      rw (← a, ← b) f
  fine (t ∷ l) q p os rs f e = go (λ r ps g d. fine l r p ps rs g d) (move clause (on q os) t) (moved q os t) e
    where
      go : ((r : Point) (ps : List ℕ) → Fine r ps → moves clause (on r ps) l ≡ on p rs → Fine p rs) → (s : State) → Moved clause q os t s
          → moves clause s l ≡ on p rs → Fine p rs
      go later (on r ps) m d = later r ps (fine_on f m) d
      go later (refused_at n r) m d = absurd (refused≢on (sym (moves_refused n r l) ∙ d))
