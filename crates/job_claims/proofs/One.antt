-- One statement, from a place on, is read and refused exactly as its rows say.
use Prim.Native.Nat.{ℕ}
use mathlib.Core.Path.{◌≡◌, refl, sym, ◌∙◌, ap, subst}
use mathlib.Core.Bool.{Bool, true, false, true≢false, cond}
use mathlib.Core.List.{List, [], ◌∷◌, ◌++◌, append_assoc, append-nil}
use native.Mathlib.Omega.{arith}
use Rattle.counts.specs.Refusals.{no_token, unexpected, not_real, open_string, broken_string, misshapen, end_of_file}
use Rattle.counts.specs.Result.{Result}
use Rattle.counts.specs.Result.Result.{refused, done as whole}
use Rattle.grammar.specs.declared.StartClause.{StartClause}
use Rattle.grammar.specs.Grammar.{Point, step, walk, is_point, shape}
use Rattle.grammar.specs.Grammar.Point.{statement, done, dead}
use Rattle.grammar.specs.Productions.{Placed, classes}
use Rattle.grammar.specs.Reading.{Last, no_token_number, end_number}
use Rattle.grammar.specs.Reading.Last.{end, no_token_at}
use Rattle.grammar.specs.Rows.{real, Stands}
use Rattle.grammar.proofs.Apart.{done_alone, dead_alone, is_point_lem}
use Rattle.grammar.proofs.Points.{classes_append, walk_append, stays, refuted, elsewhere, walked_any, any_walks}
use Rattle.grammar.proofs.Ways.{finish, finishes}
use Rattle.grammar.proofs.Viable.{placed, its_classes}
use Rattle.token.specs.declared.Why.{Why}
use Rattle.token.specs.declared.Why.TheVariants.{Stray, OpenString, BrokenString, Misshapen}
use Rattle.item.specs.Tokens.{next_item, Tokens, After}
use Rattle.item.specs.Tokens.Next.{item, ended, no_token_next}
use Rattle.item.specs.Items.{item_at}
use Rattle.item.specs.Tokens.Tokens.{at_end_here, no_token_here, then as and_then}
use Rattle.statement.specs.Statement.{StatementRead, Held, read_from}
use Rattle.statement.proofs.Along.{is_whole, after, on_token, on_end, on_no_token}
use Rattle.statement.proofs.Bridge.{Holds, by_tokens}
use Rattle.item.specs.Tokens.After.{here, then}
use Rattle.job_claims.specs.Rows.{WholeOne, Opens, OneThree, OneFifteen, OneSixteen, OneSeventeen, OneEighteen, OneFour, OneFive}

-- an answer without the statement's values: the place after its `;`, or the refusal
abbrev pub end_of : StatementRead → Result ℕ
end_of (whole (x, e)) = whole e
end_of (refused n p) = refused n p

module _ (s : List ℕ) where
  after_more : {i j : ℕ} {a : List Placed} {t : Placed} → After s i a j → next_item s j ≡ item t → After s i (a ++ (t ∷ [])) t.end
  after_more here e = then e here
  after_more (then d r) e = then d (after_more r e)

  -- the tokens of a file, cut in two
  pub record Cut (i : ℕ) (a rest : List Placed) (z : Last) : Type 0 where
    pub place : ℕ
    pub first : After s i a place
    pub then_rest : Tokens s place rest z

  pub cut : {i : ℕ} (a : List Placed) {ts rest : List Placed} {z : Last} → Tokens s i ts z → ts ≡ a ++ rest → Cut i a rest z
  cut {i} [] {z = z} d e = record { place = i; first = here; then_rest = subst (λ (l : List Placed). Tokens s i l z) e d }
  cut (t ∷ a) (at_end_here x) e = let n : ◌≡◌ {A = ℕ} 0 1 = cc in absurd (omega arith)
  cut (t ∷ a) (no_token_here x) e = let n : ◌≡◌ {A = ℕ} 0 1 = cc in absurd (omega arith)
  cut {i} (t ∷ a) {rest = rest} {z = z} (and_then {t = u} {ts = us} x r) e =
      let f : us ≡ a ++ rest = cc in
      let g : u ≡ t = cc in
      let c : Cut t.end a rest z = cut a (subst (λ (w : Placed). Tokens s w.end us z) g r) f in
      record { place = c.place; first = then (x ∙ ap item g) c.first; then_rest = c.then_rest }

  -- what stands next, where it is known how the tokens go on
  pub next_token_lem : {i : ℕ} {t : Placed} {ts : List Placed} {z : Last} → Tokens s i (t ∷ ts) z → next_item s i ≡ item t
  next_token_lem (and_then x r) = x

  pub next_end : {i p : ℕ} → Tokens s i [] (end p) → next_item s i ≡ ended p
  next_end (at_end_here x) = x

  next_no_token : {i p : ℕ} {why : Why} → Tokens s i [] (no_token_at why p) → next_item s i ≡ no_token_next why p
  next_no_token (no_token_here x) = x

module _ (clause : StartClause) where
  -- where the tokens a lead
  abbrev point : List Placed → Point
  point a = walk (statement clause) (classes a)

  point_append : (a : List Placed) (t : Placed) → point (a ++ (t ∷ [])) ≡ step (point a) t.class
  point_append a t = ap (walk (statement clause)) (classes_append a (t ∷ [])) ∙ walk_append (statement clause) (classes a) (t.class ∷ [])

  -- a statement begins with a exactly when a leads to a living point
  alive : (a : List Placed) → Opens clause a → is_point (point a) dead ≡ false
  alive a o =
      elsewhere (point a) dead dead_alone (classes o.0) (stays (classes o.0))
      (ap (λ (q : Point). is_point q dead)
      (sym (ap (walk (statement clause)) (classes_append a o.0) ∙ walk_append (statement clause) (classes a) (classes o.0)) ∙ any_walks o.1.1))

  opens : (a : List Placed) → is_point (point a) dead ≡ false → Opens clause a
  opens a e =
      let r : List Placed = placed (finish (point a)) in (
        r,
        walked_any (a ++ r)
            (ap (walk (statement clause)) (classes_append a r)
            ∙ walk_append (statement clause) (classes a) (classes r)
            ∙ ap (walk (point a)) (its_classes (finish (point a))) ∙ finishes (point a) e),
      )

  not_opens : (a : List Placed) → is_point (point a) dead ≡ true → ¬ Opens clause a
  not_opens a e o = true≢false (sym e ∙ alive a o)

  -- a is no whole statement exactly when it leads elsewhere than to `done`
  not_whole : (a : List Placed) → is_point (point a) done ≡ false → ¬ WholeOne clause a
  not_whole a e w = true≢false (sym (ap (λ (q : Point). is_point q done) (any_walks w.1)) ∙ e)

  still_open : (a : List Placed) → ¬ WholeOne clause a → is_point (point a) done ≡ false
  still_open a n = refuted (is_point (point a) done) (λ e. n (walked_any a (is_point_lem (point a) done done_alone e)))

  -- a whole statement stands at `at`, whatever it reads, and ends at e
  abbrev pub WholeAt : List ℕ → ℕ → ℕ → Type 0
  WholeAt s at e = (a : List Placed) × After s at a e × WholeOne clause a

  -- the verdict on one statement
  pub data Judged (s : List ℕ) (at : ℕ) (ts : List Placed) (z : Last) : Result ℕ → Type 0 where
    read : {e : ℕ} → WholeAt s at e → Judged s at ts z (whole e)
    three : {p : ℕ} → OneThree clause ts z p → Judged s at ts z (refused no_token p)
    fifteen : {p : ℕ} → OneFifteen clause ts z p → Judged s at ts z (refused open_string p)
    sixteen : {p : ℕ} → OneSixteen clause ts z p → Judged s at ts z (refused broken_string p)
    seventeen : {p : ℕ} → OneSeventeen clause ts z p → Judged s at ts z (refused misshapen p)
    eighteen : {p : ℕ} → OneEighteen clause ts z p → Judged s at ts z (refused end_of_file p)
    four : {p : ℕ} → OneFour clause ts p → Judged s at ts z (refused unexpected p)
    five : {p : ℕ} → OneFive clause ts p → Judged s at ts z (refused not_real p)

  dead_after : (a : List Placed) (t : Placed) → ¬ Opens clause (a ++ (t ∷ [])) → is_point (step (point a) t.class) dead ≡ true
  dead_after a t bad = go (is_point (step (point a) t.class) dead) refl
    where
      go : (b : Bool) → is_point (step (point a) t.class) dead ≡ b → b ≡ true
      go true e = refl
      go false e = absurd (bad (opens (a ++ (t ∷ [])) (ap (λ (q : Point). is_point q dead) (point_append a t) ∙ e)))

  module _ (s : List ℕ) where
    -- where the reading from a point ends
    abbrev ends : (q : Point) → Held q → ℕ → Result ℕ
    ends q h i = end_of (read_from 0 s q h i)

    ends_whole : (q : Point) (h : Held q) (i : ℕ) → q ≡ done → ends q h i ≡ whole i
    ends_whole q h i e = subst (λ (p : Point). (x : Held p) → ends p x i ≡ whole i) (sym e) (λ x. ap end_of (is_whole 0 s x i)) h

    -- reading goes along the tokens of an open statement
    along : {i j : ℕ} {a : List Placed} → After s i a j → (q : Point) (h : Held q) → is_point (walk q (classes a)) dead ≡ false
        → (x : Held (walk q (classes a))) × ends q h i ≡ ends (walk q (classes a)) x j
    along here q h l = (h, refl)
    along {i = i} (then {t = t} {a = a} e r) q h l =
        let d : is_point q done ≡ false = elsewhere q done done_alone (t.class ∷ classes a) (stays (classes a)) l in
        let n : is_point (step q t.class) dead ≡ false = elsewhere (step q t.class) dead dead_alone (classes a) (stays (classes a)) l in
        let k = along r (step q t.class) (after q t.class (item_at 0 s i) h) l in
        (k.0, ap end_of (on_token s q h d i t e) ∙ rw n k.1)

    -- the rows give the reading
    module _ (at : ℕ) (ts : List Placed) (z : Last) (d : Tokens s at ts z) where
      -- from `at` on to the end of the tokens a
      so_far : {a : List Placed} {j : ℕ} (f : After s at a j) (l : is_point (point a) dead ≡ false)
          → (x : Held (point a)) × ends (statement clause) tt at ≡ ends (point a) x j
      so_far f l = along f (statement clause) tt l

      whole_is : (e : ℕ) → WholeAt s at e → ends (statement clause) tt at ≡ whole e
      whole_is e (a, f, w) =
          let k = so_far f (ap (λ (q : Point). is_point q dead) (any_walks w.1)) in
          k.1 ∙ ends_whole (point a) k.0 e (any_walks w.1)

      no_token_is : (why : Why) (p : ℕ) → Opens clause ts × ¬ WholeOne clause ts × z ≡ no_token_at why p
          → ends (statement clause) tt at ≡ refused (no_token_number why) p
      no_token_is why p (o, n, e) =
          let c : Cut s at ts [] (no_token_at why p) = cut s ts (subst (Tokens s at ts) e d) (sym (append-nil ts)) in
          let k = so_far c.first (alive ts o) in
          k.1 ∙ ap end_of (on_no_token s (point ts) k.0 (still_open ts n) c.place why p (next_no_token s c.then_rest))

      end_is : (p : ℕ) → OneEighteen clause ts z p → ends (statement clause) tt at ≡ refused end_number p
      end_is p (o, n, e) =
          let c : Cut s at ts [] (end p) = cut s ts (subst (Tokens s at ts) e d) (sym (append-nil ts)) in
          let k = so_far c.first (alive ts o) in
          k.1 ∙ ap end_of (on_end s (point ts) k.0 (still_open ts n) c.place p (next_end s c.then_rest))

      -- refused at the token t after a
      at_token : (a : List Placed) (t : Placed) (p : ℕ) → Stands ts p a t → is_point (point a) dead ≡ false → is_point (point a) done ≡ false
          → is_point (step (point a) t.class) dead ≡ true → (y : Bool) → is_point (step (point a) (shape t.class)) dead ≡ y
          → ends (statement clause) tt at ≡ end_of (cond y (refused unexpected p) (refused not_real p))
      at_token a t p h l n e y f =
          let c : Cut s at a (t ∷ h.after) z = cut s a d h.parts in
          let k = so_far c.first l in
          k.1 ∙ ap end_of (on_token s (point a) k.0 n c.place t (next_token_lem s c.then_rest)) ∙ rw (e, f, h.place)

      four_is : (p : ℕ) → OneFour clause ts p → ends (statement clause) tt at ≡ refused unexpected p
      four_is p (a, t, h, o, n, bad, nor) = at_token a t p h (alive a o) (still_open a n) (dead_after a t bad) true (dead_after a (real t) nor)

      five_is : (p : ℕ) → OneFive clause ts p → ends (statement clause) tt at ≡ refused not_real p
      five_is p (a, t, h, may, bad) =
          let l : is_point (step (point a) (shape t.class)) dead ≡ false =
          ap (λ (q : Point). is_point q dead) (sym (point_append a (real t))) ∙ alive (a ++ (real t ∷ [])) may in
          at_token a t p h (elsewhere (point a) dead dead_alone (shape t.class ∷ []) refl l)
          (elsewhere (point a) done done_alone (shape t.class ∷ []) refl l) (dead_after a t bad) false l

      pub says_one : (x : Result ℕ) → Judged s at ts z x → end_of (read_from 0 s (statement clause) tt at) ≡ x
      says_one x (read {e = e} o) = whole_is e o
      says_one x (three {p = p} r) = no_token_is Stray p r
      says_one x (fifteen {p = p} r) = no_token_is OpenString p r
      says_one x (sixteen {p = p} r) = no_token_is BrokenString p r
      says_one x (seventeen {p = p} r) = no_token_is Misshapen p r
      says_one x (eighteen {p = p} r) = end_is p r
      says_one x (four {p = p} r) = four_is p r
      says_one x (five {p = p} r) = five_is p r

    -- every reading has its row
    module _ (at : ℕ) where
      -- a token that may not stand after a
      pub barred : (a : List Placed) (t : Placed) (us : List Placed) (z : Last) → is_point (point a) dead ≡ false → is_point (point a) done ≡ false
          → is_point (step (point a) t.class) dead ≡ true → (y : Bool) → is_point (step (point a) (shape t.class)) dead ≡ y
          → Judged s at (a ++ (t ∷ us)) z (refused (cond y unexpected not_real) t.place)
      barred a t us z l n p y q = go y q
        where
          here_stands : Stands (a ++ (t ∷ us)) t.place a t
          here_stands = record { after = us; parts = refl; place = refl }

          not_so : ¬ Opens clause (a ++ (t ∷ []))
          not_so = not_opens (a ++ (t ∷ [])) (ap (λ (r : Point). is_point r dead) (point_append a t) ∙ p)

          with_real : {b : Bool} → is_point (step (point a) (shape t.class)) dead ≡ b → is_point (point (a ++ (real t ∷ []))) dead ≡ b
          with_real e = ap (λ (r : Point). is_point r dead) (point_append a (real t)) ∙ e

          go : (y : Bool) → is_point (step (point a) (shape t.class)) dead ≡ y
              → Judged s at (a ++ (t ∷ us)) z (refused (cond y unexpected not_real) t.place)
          go true e = four (a, t, here_stands, opens a l, not_whole a n, not_so, not_opens (a ++ (real t ∷ [])) (with_real e))
          go false e = five (a, t, here_stands, opens (a ++ (real t ∷ [])) (with_real e), not_so)

      -- of the tokens ts after the tokens a, which lead to q
      abbrev Row : Point → ℕ → List Placed → Last → StatementRead → Type 0
      Row q i ts z v = (a : List Placed) → point a ≡ q → After s at a i → is_point (point a) dead ≡ false → Judged s at (a ++ ts) z (end_of v)

      still : {q : Point} (a : List Placed) → point a ≡ q → is_point q done ≡ false → is_point (point a) done ≡ false
      still a e o = ap (λ (p : Point). is_point p done) e ∙ o

      -- no token: the row that its reason has
      none_row : (why : Why) (p : ℕ) {a : List Placed} → Opens clause a → ¬ WholeOne clause a → Judged s at a (no_token_at why p) (refused (no_token_number why) p)
      none_row Stray p o n = three (o, n, refl)
      none_row OpenString p o n = fifteen (o, n, refl)
      none_row BrokenString p o n = sixteen (o, n, refl)
      none_row Misshapen p o n = seventeen (o, n, refl)

      rows : Holds s Row
      rows =
          record {
            whole = λ i ts z d x a e f l. read (a, f, walked_any a e);
            over = λ q o i p a e f l. rw (append-nil a) (eighteen (opens a l, not_whole a (still a e o), refl));
            lost = λ q o i why p a e f l. rw (append-nil a) (none_row why p (opens a l) (not_whole a (still a e o)));
            barred = λ q o i t us z d y g a e f l. barred a t us z l (still a e o) (rw e d) y (rw e g);
            along = λ q o i t us z n d v r a e f l.
                let m : point (a ++ (t ∷ [])) ≡ step q t.class = point_append a t ∙ ap (λ (p : Point). step p t.class) e in
                rw (append_assoc a (t ∷ []) us) at (r (a ++ (t ∷ [])) m (after_more s f n) (ap (λ (p : Point). is_point p dead) m ∙ d));
          }

      pub one_says : {ts : List Placed} {z : Last} → Tokens s at ts z → Judged s at ts z (end_of (read_from 0 s (statement clause) tt at))
      one_says d = by_tokens s Row rows d (statement clause) tt [] refl here refl
