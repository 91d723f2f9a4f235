-- Reading statement by statement is reading the whole list of tokens through the points.
use Prim.Native.Nat.{ℕ, zero, suc, ◌+◌, ◌≤◌, ◌<◌}
use mathlib.Core.Path.{◌≡◌, refl, sym, ◌∙◌, ap, ap₂}
use mathlib.Core.Bool.{Bool, true, false, cond}
use mathlib.Core.List.{List, [], ◌∷◌, ◌++◌, append-nil}
use native.Mathlib.Omega.{arith}
use borrow.Author.Tests.{lt-ltb, le-ltb, eq-eqb, ne_eqb}
use lib.Dec.{eqb, ltb}
use lib.ListN.{length, length-append}
use Rattle.std.specs.declared.option.Option.TheVariants.{None}
use Rattle.counts.specs.Limits.{statements}
use Rattle.counts.specs.Refusals.{unexpected, too_many_statements}
use Rattle.counts.specs.Result.Result.{refused, done as taken}
use Rattle.grammar.specs.declared.StartClause.{StartClause}
use Rattle.grammar.specs.Grammar.{Class, class_no, is_class, shape}
use Rattle.grammar.specs.Grammar.Class.{JOB, date, unreal_date, time, unreal_time}
use Rattle.grammar.specs.Grammar.Point.{statement, done}
use Rattle.grammar.specs.Productions.{Placed}
use Rattle.token.specs.declared.Why.{Why}
use Rattle.grammar.specs.Reading.{State, Last, no_token_number, OffsetsRead, step_with, opening, move, moves, at_end, close, read}
use Rattle.grammar.specs.Reading.State.{on, refused_at}
use Rattle.grammar.proofs.Moves.{moves_refused}
use Rattle.grammar.proofs.Apart.{is_class_lem, class_below}
use Rattle.item.specs.Tokens.{Tokens}
use Rattle.item.specs.Tokens.Next.{item, ended, no_token_next}
use Rattle.item.specs.Tokens.Tokens.{at_end_here, no_token_here, then}
use Rattle.item.specs.Items.{code_no, end_no, refusal_no, item_at}
use Rattle.item.specs.declared.Item.{Item}
use Rattle.item.proofs.Shows.{Shows, shows, no_token_numbers}
use Rattle.item.proofs.Shows.Shows.{a_token, the_end, no_token_here as none_there}
use Rattle.statement.specs.Statement.{StatementRead, read_from}
use Rattle.statement.proofs.Along.{any_kind}
use Rattle.statement.proofs.Bridge.{Reads, rest_reads}
use Rattle.job.specs.Loop.{Step, refuse, step_read, step_into, step_of, after, on_step, job_loop, rest_of}
use Rattle.job.proofs.Offsets.{after_none, after_after}

-- at the start only JOB may stand, and later any statement but JOB: the first where it is so, else the second
abbrev by_job : {A : Type 0} → List ℕ → Bool → A → A → A
by_job [] b x y = cond b x y
by_job (o ∷ os) b x y = cond b y x

-- what is no JOB has not its shape
not_job : (c : Class) → is_class c JOB ≡ false → is_class (shape c) JOB ≡ false
not_job c e = go (is_class c unreal_time) (is_class c unreal_date)
  where
    go : (x y : Bool) → is_class (cond x time (cond y date c)) JOB ≡ false
    go true y = refl
    go false true = refl
    go false false = e

-- the points of a first statement and of a later one, by the class
opening_is : (clause : StartClause) (os rs : List ℕ) (t : Placed)
    → step_with (opening clause os) rs t ≡ by_job os (is_class t.class JOB) (step_with (statement clause) rs t) (refused_at unexpected t.place)
opening_is clause os rs t = go os (is_class t.class JOB) refl
  where
    go : (os : List ℕ) (b : Bool) → is_class t.class JOB ≡ b
        → step_with (opening clause os) rs t ≡ by_job os (is_class t.class JOB) (step_with (statement clause) rs t) (refused_at unexpected t.place)
    go [] true e = rw (is_class_lem t.class JOB e)
    go [] false e = rw (e, not_job t.class e)
    go (o ∷ os) true e = rw (is_class_lem t.class JOB e)
    go (o ∷ os) false e = rw (e, not_job t.class e)

-- what stands between statements, by the tests
tested : (clause : StartClause) (s : List ℕ) (k : ℕ) (t : Item) (a b f z : Bool) → eqb (code_no t.class) end_no ≡ a → ltb end_no (code_no t.class) ≡ b → eqb k statements ≡ f
    → eqb k 0 ≡ z
    → step_of clause s k t ≡ cond a (cond z (refuse (refusal_no (code_no t.class)) t) (taken None))
    (cond b (refuse (refusal_no (code_no t.class)) t) (cond f (refuse too_many_statements t) (step_into clause s k t)))
unfolding step_of
tested clause s k t a b f z p q r o = rw (p, q, r, o)

module _ (clause : StartClause) (s : List ℕ) where
  at_the_end : (t : Item) (p : ℕ) (os : List ℕ) (k : ℕ → OffsetsRead) → Shows t (ended p)
      → after os (on_step (step_of clause s (length os) t) k) ≡ at_end done os p
  at_the_end t p [] k (the_end c q) =
      ap (λ (x : Step). after [] (on_step x k)) (tested clause s 0 t true _ _ true (ap (λ (n : ℕ). eqb n end_no) c) refl refl refl) ∙ rw (c, q)
  at_the_end t p (o ∷ os) k (the_end c q) =
      ap (λ (x : Step). after (o ∷ os) (on_step x k))
      (tested clause s (length (o ∷ os)) t true _ _ false (ap (λ (n : ℕ). eqb n end_no) c) refl refl (ne_eqb (length (o ∷ os)) 0 (λ e. omega arith)))
      ∙ ap (λ (l : List ℕ). taken l) (append-nil (o ∷ os))

  at_no_token : (t : Item) (why : Why) (p : ℕ) (os : List ℕ) (k : ℕ → OffsetsRead) → Shows t (no_token_next why p)
      → after os (on_step (step_of clause s (length os) t) k) ≡ refused (no_token_number why) p
  at_no_token t why p os k (none_there c q) =
      let above = (no_token_numbers why).0 in
      ap (λ (x : Step). after os (on_step x k))
      (tested clause s (length os) t false true _ _ (ne_eqb (code_no t.class) end_no (λ e. omega arith)) (lt-ltb end_no (code_no t.class) (omega arith)) refl refl)
      ∙ rw (c, q, (no_token_numbers why).1)

  not_end : (t : Item) (c : Class) → code_no t.class ≡ class_no c → eqb (code_no t.class) end_no ≡ false
  not_end t c e = ne_eqb (code_no t.class) end_no (λ x. omega (arith, class_below c))

  not_above : (t : Item) (c : Class) → code_no t.class ≡ class_no c → ltb end_no (code_no t.class) ≡ false
  not_above t c e = le-ltb end_no (code_no t.class) (omega (arith, class_below c))

  full : (t : Item) (u : Placed) (os : List ℕ) (k : ℕ → OffsetsRead) → length os ≡ statements → Shows t (item u)
      → after os (on_step (step_of clause s (length os) t) k) ≡ refused too_many_statements u.place
  full t u os k l (a_token c p n) =
      ap (λ (x : Step). after os (on_step x k))
      (tested clause s (length os) t false false true _ (not_end t u.class c) (not_above t u.class c) (eq-eqb _ _ l) refl)
      ∙ ap (refused too_many_statements) p

  into : (os : List ℕ) (i : ℕ) (u : Placed) → Shows (item_at 0 s i) (item u)
      → step_into clause s (length os) (item_at 0 s i)
      ≡ by_job os (is_class u.class JOB) (step_read (read_from 0 s (statement clause) tt i)) (refused unexpected u.place)
  unfolding step_into
  into [] i u (a_token c p n) = rw (any_kind clause s i, c, p)
  into (o ∷ os) i u (a_token c p n) = rw (ne_eqb (length (o ∷ os)) 0 (λ z. omega arith), any_kind clause s i, c, p)

  one_step : (os : List ℕ) (i : ℕ) (u : Placed) → length os < statements → Shows (item_at 0 s i) (item u)
      → step_of clause s (length os) (item_at 0 s i)
      ≡ by_job os (is_class u.class JOB) (step_read (read_from 0 s (statement clause) tt i)) (refused unexpected u.place)
  one_step os i u l (a_token c p n) =
      tested clause s (length os) (item_at 0 s i) false false false _ (not_end (item_at 0 s i) u.class c) (not_above (item_at 0 s i) u.class c)
      (ne_eqb (length os) statements (λ z. omega arith)) refl
      ∙ into os i u (a_token c p n)

  place_is : {t : Item} {u : Placed} → Shows t (item u) → t.place ≡ u.place
  place_is (a_token c p n) = p

  too_many : (os : List ℕ) (t : Placed) → statements ≤ length os → move clause (on done os) t ≡ refused_at too_many_statements t.place
  too_many os t l = rw (le-ltb (length os) statements l)

  -- after a statement that begins with t
  module _ (left : ℕ) (os : List ℕ) (t : Placed) (ts : List Placed) (z : Last) (n : length os + suc left ≡ statements)
      (later : (b : ℕ) (rest : List Placed) → Tokens s b rest z
      → after (os ++ (t.place ∷ [])) (job_loop clause s (suc left) (length os + 1) b)
      ≡ close (moves clause (on done (os ++ (t.place ∷ []))) rest) z) where
    abbrev goes : Step → OffsetsRead
    goes x = after os (on_step x λ next. after (t.place ∷ []) (job_loop clause s (suc left) (length os + 1) next))

    abbrev so : State → OffsetsRead
    so x = close (moves clause x ts) z

    any_goes : (x : StatementRead) → Reads clause s (statement clause) (os ++ (t.place ∷ [])) (t ∷ ts) z x
        → goes (step_read x) ≡ so (step_with (statement clause) (os ++ (t.place ∷ [])) t)
    any_goes (taken (x, b)) y = after_after os (t.place ∷ []) (job_loop clause s (suc left) (length os + 1) b) ∙ later b y.0 y.1 ∙ sym y.2
    any_goes (refused n p) y = sym y

    stops : goes (refused unexpected t.place) ≡ so (refused_at unexpected t.place)
    stops = sym (ap (λ (x : State). close x z) (moves_refused clause unexpected t.place ts))

    either : (rs : List ℕ) (b : Bool) (x : Step) → goes x ≡ so (step_with (statement clause) (os ++ (t.place ∷ [])) t)
        → goes (by_job rs b x (refused unexpected t.place))
        ≡ so (by_job rs b (step_with (statement clause) (os ++ (t.place ∷ [])) t) (refused_at unexpected t.place))
    either [] true x e = e
    either [] false x e = stops
    either (o ∷ rs) true x e = stops
    either (o ∷ rs) false x e = e

    goes_on : (i : ℕ) → Tokens s i (t ∷ ts) z
        → goes (by_job os (is_class t.class JOB) (step_read (read_from 0 s (statement clause) tt i)) (refused unexpected t.place))
        ≡ so (move clause (on done os) t)
    goes_on i d =
        either os (is_class t.class JOB) _
        (any_goes (read_from 0 s (statement clause) tt i) (rest_reads clause s d (statement clause) tt (os ++ (t.place ∷ []))))
        ∙ ap so (sym (rw (lt-ltb (length os) statements (omega arith)) (opening_is clause os (os ++ (t.place ∷ [])) t)))

  count : (os : List ℕ) (p left : ℕ) → length os + suc left ≡ statements → length (os ++ (p ∷ [])) + left ≡ statements
  count os p left n = simp length-append (omega arith)

  one_longer : (left : ℕ) (os : List ℕ) (p i : ℕ)
      → after (os ++ (p ∷ [])) (job_loop clause s (suc left) (length os + 1) i)
      ≡ after (os ++ (p ∷ [])) (job_loop clause s (suc left) (length (os ++ (p ∷ []))) i)
  one_longer left os p i = ap (λ (k : ℕ). after (os ++ (p ∷ [])) (job_loop clause s (suc left) k i)) (sym (length-append os (p ∷ [])))

  -- the loop over statements
  loop : (left : ℕ) {i : ℕ} {ts : List Placed} {z : Last} → Tokens s i ts z → (os : List ℕ) → length os + left ≡ statements
      → after os (job_loop clause s (suc left) (length os) i) ≡ close (moves clause (on done os) ts) z
  unfolding job_loop
  loop zero {i = i} (at_end_here {p = p} e) os n = at_the_end (item_at 0 s i) p os _ (rw e at (shows s i))
  loop zero {i = i} (no_token_here {p = p} {why = why} e) os n = at_no_token (item_at 0 s i) why p os _ (rw e at (shows s i))
  loop zero {i = i} {z = z} (then {t = t} {ts = ts} e r) os n =
      full (item_at 0 s i) t os _ (omega arith) (rw e at (shows s i))
      ∙ sym (ap (λ (x : State). close x z)
      (ap (λ (x : State). moves clause x ts) (too_many os t (omega arith)) ∙ moves_refused clause too_many_statements t.place ts))
  loop (suc left) {i = i} (at_end_here {p = p} e) os n = at_the_end (item_at 0 s i) p os _ (rw e at (shows s i))
  loop (suc left) {i = i} (no_token_here {p = p} {why = why} e) os n = at_no_token (item_at 0 s i) why p os _ (rw e at (shows s i))
  loop (suc left) {i = i} {z = z} (then {t = t} {ts = ts} e r) os n =
      let h : Shows (item_at 0 s i) (item t) = rw e at (shows s i) in
      ap₂ (λ (x : Step) (p : ℕ). after os (on_step x λ next. after (p ∷ []) (job_loop clause s (suc left) (length os + 1) next)))
      (one_step os i t (omega arith) h) (place_is h)
      ∙ goes_on left os t ts z n (λ c rest d. one_longer left os t.place c ∙ loop left d (os ++ (t.place ∷ [])) (count os t.place left n))
      i (then e r)

  -- reading statement by statement gives the answer of the whole list
  pub by_statements : {ts : List Placed} {z : Last} → Tokens s 0 ts z → rest_of clause s 0 0 ≡ read clause ts z
  unfolding read
  by_statements d = sym (after_none _) ∙ loop statements d [] refl
