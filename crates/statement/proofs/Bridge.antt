-- A statement read from a file is its tokens read through the grammar's points.
use Prim.Native.Nat.{ℕ}
use mathlib.Core.Path.{◌≡◌, refl, sym, ◌∙◌, ap, subst}
use mathlib.Core.Bool.{Bool, true, false, cond}
use mathlib.Core.List.{List, [], ◌∷◌}
use Rattle.counts.specs.Refusals.{unexpected, not_real}
use Rattle.counts.specs.Result.Result.{refused, done as whole}
use Rattle.grammar.specs.declared.StartClause.{StartClause}
use Rattle.grammar.specs.Grammar.{Point, step, is_point, shape}
use Rattle.grammar.specs.Grammar.Point.{done, dead}
use Rattle.grammar.specs.Productions.{Placed}
use Rattle.token.specs.declared.Why.{Why}
use Rattle.grammar.specs.Reading.{State, Last, moves, at_end, close, no_token_number, end_number}
use Rattle.grammar.specs.Reading.State.{on}
use Rattle.grammar.specs.Reading.Last.{end, no_token_at}
use Rattle.grammar.proofs.Apart.{done_alone, is_point_lem}
use Rattle.grammar.proofs.Moves.{moves_refused}
use Rattle.item.specs.Tokens.{next_item, Tokens}
use Rattle.item.specs.Tokens.Next.{item}
use Rattle.item.specs.Tokens.Tokens.{at_end_here, no_token_here, then}
use Rattle.item.specs.Items.{item_at}
use Rattle.statement.specs.declared.Statement.{Statement}
use Rattle.statement.specs.Statement.{StatementRead, Held, read_from}
use Rattle.statement.proofs.Along.{is_whole, after, on_token, on_end, on_no_token}

-- What holds of every reading from a point q on, of the tokens ts from the place i on, ended by z: it holds of a whole statement, where no token
-- stands, where the token t is refused, and of t if it holds of what is read after it.
pub record Holds (s : List ℕ) (R : Point → ℕ → List Placed → Last → StatementRead → Type 0) : Type 0 where
  pub whole : (i : ℕ) (ts : List Placed) (z : Last) → Tokens s i ts z → (x : Statement) → R done i ts z (whole (x, i))
  pub over : (q : Point) → is_point q done ≡ false → (i p : ℕ) → R q i [] (end p) (refused end_number p)
  pub lost : (q : Point) → is_point q done ≡ false → (i : ℕ) (why : Why) (p : ℕ)
      → R q i [] (no_token_at why p) (refused (no_token_number why) p)
  pub barred : (q : Point) → is_point q done ≡ false → (i : ℕ) (t : Placed) (ts : List Placed) (z : Last) → is_point (step q t.class) dead ≡ true
      → (y : Bool) → is_point (step q (shape t.class)) dead ≡ y → R q i (t ∷ ts) z (refused (cond y unexpected not_real) t.place)
  pub along : (q : Point) → is_point q done ≡ false → (i : ℕ) (t : Placed) (ts : List Placed) (z : Last) → next_item s i ≡ item t
      → is_point (step q t.class) dead ≡ false → (v : StatementRead) → R (step q t.class) t.end ts z v → R q i (t ∷ ts) z v

module _ (s : List ℕ) (R : Point → ℕ → List Placed → Last → StatementRead → Type 0) (holds : Holds s R) where
  unless_done : {i : ℕ} {ts : List Placed} {z : Last} → Tokens s i ts z → (q : Point) (h : Held q)
      → (is_point q done ≡ false → R q i ts z (read_from 0 s q h i)) → R q i ts z (read_from 0 s q h i)
  unless_done {i} {ts} {z} d q h other = go (is_point q done) refl
    where
      go : (b : Bool) → is_point q done ≡ b → R q i ts z (read_from 0 s q h i)
      go true e =
          subst (λ (r : Point). (x : Held r) → R r i ts z (read_from 0 s r x i)) (sym (is_point_lem q done done_alone e))
          (λ x. subst (R done i ts z) (sym (is_whole 0 s x i)) (holds.whole i ts z d x)) h
      go false e = other e

  at_token : (q : Point) → is_point q done ≡ false → (i : ℕ) (t : Placed) (ts : List Placed) (z : Last) → next_item s i ≡ item t → (v : StatementRead)
      → R (step q t.class) t.end ts z v → (x y : Bool) → is_point (step q t.class) dead ≡ x → is_point (step q (shape t.class)) dead ≡ y
      → R q i (t ∷ ts) z (cond x (cond y (refused unexpected t.place) (refused not_real t.place)) v)
  at_token q o i t ts z n v r true true e f = holds.barred q o i t ts z e true f
  at_token q o i t ts z n v r true false e f = holds.barred q o i t ts z e false f
  at_token q o i t ts z n v r false y e f = holds.along q o i t ts z n e v r

  pub by_tokens : {i : ℕ} {ts : List Placed} {z : Last} → Tokens s i ts z → (q : Point) (h : Held q) → R q i ts z (read_from 0 s q h i)
  by_tokens {i} (at_end_here {p = p} n) q h = unless_done (at_end_here n) q h (λ o. subst (R q i [] (end p)) (sym (on_end s q h o i p n)) (holds.over q o i p))
  by_tokens {i} (no_token_here {p = p} {why = why} n) q h =
      unless_done (no_token_here n) q h (λ o. subst (R q i [] (no_token_at why p)) (sym (on_no_token s q h o i why p n)) (holds.lost q o i why p))
  by_tokens {i} {z = z} (then {t = t} {ts = ts} n r) q h =
      unless_done (then n r) q h
      (λ o. subst (R q i (t ∷ ts) z) (sym (on_token s q h o i t n))
      (at_token q o i t ts z n _ (by_tokens r (step q t.class) (after q t.class (item_at 0 s i) h)) _ _ refl refl))

-- What a statement's answer says of the tokens ts from there on, ended by z: where it is whole, the reader goes on with the tokens
-- after it, and where it is refused, that is the file's answer.
abbrev pub Reads : StartClause → List ℕ → Point → List ℕ → List Placed → Last → StatementRead → Type 0
Reads clause s q os ts z (whole (x, b)) = (rest : List Placed) × Tokens s b rest z × close (moves clause (on q os) ts) z ≡ close (moves clause (on done os) rest) z
Reads clause s q os ts z (refused n p) = close (moves clause (on q os) ts) z ≡ refused n p

open_end : (q : Point) (os : List ℕ) (p : ℕ) → is_point q done ≡ false → at_end q os p ≡ refused end_number p
open_end q [] p d = refl
open_end q (o ∷ os) p d = rw d

-- a token that may not stand
barred_reads : (clause : StartClause) (q : Point) → is_point q done ≡ false → (t : Placed) (ts : List Placed) (z : Last)
    → is_point (step q t.class) dead ≡ true → (y : Bool)
    → is_point (step q (shape t.class)) dead ≡ y → (os : List ℕ) → close (moves clause (on q os) (t ∷ ts)) z ≡ refused (cond y unexpected not_real) t.place
barred_reads clause q o t ts z e true f os =
    ap (λ (x : State). close x z) (ap (λ (x : State). moves clause x ts) (rw (o, e, f)) ∙ moves_refused clause unexpected t.place ts)
barred_reads clause q o t ts z e false f os =
    ap (λ (x : State). close x z) (ap (λ (x : State). moves clause x ts) (rw (o, e, f)) ∙ moves_refused clause not_real t.place ts)

carry : (clause : StartClause) (s : List ℕ) (q r : Point) (os : List ℕ) (l m : List Placed) (z : Last)
    → close (moves clause (on q os) l) z ≡ close (moves clause (on r os) m) z
    → (x : StatementRead) → Reads clause s r os m z x → Reads clause s q os l z x
carry clause s q r os l m z e (whole (x, b)) y = (y.0, y.1, e ∙ y.2)
carry clause s q r os l m z e (refused n p) y = e ∙ y

-- a statement's rest, from the point q on
pub rest_reads : (clause : StartClause) (s : List ℕ) {i : ℕ} {ts : List Placed} {z : Last} → Tokens s i ts z → (q : Point) (h : Held q) (os : List ℕ)
    → Reads clause s q os ts z (read_from 0 s q h i)
rest_reads clause s =
    by_tokens s (λ q i ts z v. (os : List ℕ) → Reads clause s q os ts z v)
    (record {
      whole = λ i ts z d x os. (ts, d, refl);
      over = λ q o i p os. open_end q os p o;
      lost = λ q o i why p os. refl;
      barred = λ q o i t ts z e y f os. barred_reads clause q o t ts z e y f os;
      along = λ q o i t ts z n e v r os.
          carry clause s q (step q t.class) os (t ∷ ts) ts z (ap (λ (x : State). close (moves clause x ts) z) (rw (o, e))) v (r os);
    })
