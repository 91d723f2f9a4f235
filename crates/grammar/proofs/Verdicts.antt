-- The reader gives an answer exactly when document 01 says so: each list of tokens has one verdict, and it is the reader's.
use mathlib.Core.Path.{◌≡◌, refl, sym, ◌∙◌, ap}
use mathlib.Core.Bool.{Bool, true, false, true≢false, cond}
use mathlib.Core.List.{List, [], ◌∷◌, ◌++◌, append_assoc, append-nil}
use mathlib.Core.Logic.{◌⊎◌, inl, inr}
use Prim.Native.Nat.{ℕ, ◌≤◌}
use native.Mathlib.Omega.{arith}
use borrow.Author.Tests.{le-ltb}
use lib.Dec.{ltb}
use lib.ListN.{length}
use Rattle.counts.specs.Limits.{statements}
use Rattle.counts.specs.Refusals.{unexpected, not_real, too_many_statements}
use Rattle.token.specs.declared.Why.{Why}
use Rattle.token.specs.declared.Why.TheVariants.{Stray, OpenString, BrokenString, Misshapen}
use Rattle.grammar.specs.declared.StartClause.{StartClause}
use Rattle.grammar.specs.Grammar.{Point, is_class, is_point}
use Rattle.grammar.specs.Grammar.Class.{date, unreal_date, time, unreal_time}
use Rattle.grammar.specs.Grammar.Point.{done}
use Rattle.grammar.specs.Statement.{Statement}
use Rattle.grammar.specs.Productions.{Placed, File, Legal, Begins}
use Rattle.grammar.specs.Productions.File.{file}
use Rattle.grammar.specs.Reading.{State, Last, OffsetsRead, no_token_number, end_number, move, moves, at_end, close, read}
use Rattle.grammar.specs.Reading.Last.{end, no_token_at}
use Rattle.counts.specs.Result.Result.{refused, done as taken}
use Rattle.grammar.specs.Reading.State.{on, refused_at}
use Rattle.grammar.specs.Rows.{real, Full, MayStand, Stands, Eighteen, Four, Five, Six, Whole, Says}
use Rattle.grammar.specs.Rows.Says.{file as legal, three, fifteen, sixteen, seventeen, four, eighteen, five, six}
use Rattle.grammar.proofs.Apart.{done_alone, is_class_lem, is_point_lem}
use Rattle.grammar.proofs.Moves.{Moved, moved, moves_append, moves_refused}
use Rattle.grammar.proofs.Moves.Moved.{full, unreal, never}
use Rattle.grammar.proofs.Files.{file_read, read_legal}
use Rattle.grammar.proofs.Viable.{start, on_begins, begins_on, shorter, one_more, stands, stands_not}

module _ (clause : StartClause) where
  all_there : (a : List Placed) (os : List ℕ) → moves clause start a ≡ on done os → statements ≤ length os → Full clause a
  all_there a [] e l = absurd (omega arith)
  all_there a (o ∷ os) e l = let f : Legal clause a (o ∷ os) = read_legal clause a o os e in (o ∷ os, f, omega (arith, f.few))

  -- after as many statements as a file may have the reader refuses with 6
  full_refused : (a : List Placed) (t : Placed) → Full clause a → (q : Point) (os : List ℕ) → moves clause start a ≡ on q os
      → move clause (on q os) t ≡ refused_at too_many_statements t.place
  full_refused a t f q os e =
      let d : on q os ≡ on done f.0 = sym e ∙ file_read clause f.1.file f.1.few in
      let l : ltb (length f.0) statements ≡ false = le-ltb (length f.0) statements (omega arith) in
      ap (λ (s : State). move clause s t) d ∙ rw l

  six≢four : (p : ℕ) → refused_at too_many_statements p ≡ refused_at unexpected p → ⊥
  six≢four p e = let z : ◌≡◌ {A = ℕ} too_many_statements unexpected = cc in omega arith

  -- the token t after the tokens a, where the reader is at q
  module _ (a : List Placed) (t : Placed) (q : Point) (os : List ℕ) (e : moves clause start a ≡ on q os) where
    is_full : q ≡ done → statements ≤ length os → Full clause a
    is_full d l = all_there a os (e ∙ ap (λ (r : Point). on r os) d) l

    -- 01's number at t is the reader's
    real_refused : MayStand clause a (real t) → ¬ MayStand clause a t → (s : State) → Moved clause q os t s → move clause (on q os) t ≡ s
        → s ≡ refused_at not_real t.place
    real_refused may not (on r ps) m w = absurd (not (stands clause a t q os e r ps w))
    real_refused may not (refused_at n p) (full d l) w =
        absurd (stands_not clause a (real t) q os e too_many_statements t.place (full_refused a (real t) (is_full d l) q os e) may)
    real_refused may not (refused_at n p) (unreal r rs m) w = refl
    real_refused may not (refused_at n p) (never m) w = absurd (stands_not clause a (real t) q os e m.0 t.place m.1 may)

    token_refused : ¬ MayStand clause a t → ¬ MayStand clause a (real t) → ¬ Full clause a → (s : State) → Moved clause q os t s → move clause (on q os) t ≡ s
        → s ≡ refused_at unexpected t.place
    token_refused not nor few (on r ps) m w = absurd (not (stands clause a t q os e r ps w))
    token_refused not nor few (refused_at n p) (full d l) w = absurd (few (is_full d l))
    token_refused not nor few (refused_at n p) (unreal r rs m) w = absurd (nor (stands clause a (real t) q os e r rs m))
    token_refused not nor few (refused_at n p) (never m) w = refl

  -- and the tokens b after it
  module _ (a : List Placed) (t : Placed) (b : List Placed) (z : Last) (q : Point) (os : List ℕ) (e : moves clause start a ≡ on q os) where
    -- the reader's number at t is 01's
    here : Stands (a ++ (t ∷ b)) t.place a t
    here = record { after = b; parts = refl; place = refl }

    row_of : (n p : ℕ) → Moved clause q os t (refused_at n p) → move clause (on q os) t ≡ refused_at n p → Says clause (a ++ (t ∷ b)) z (refused n p)
    row_of n p (full d l) w = six (a, t, here, is_full a t q os e d l)
    row_of n p (unreal r rs m) w = five (a, t, here, stands clause a (real t) q os e r rs m, stands_not clause a t q os e not_real t.place w)
    row_of n p (never m) w =
        four (
          a,
          t,
          here,
          on_begins clause a q os e,
          stands_not clause a t q os e unexpected t.place w,
          stands_not clause a (real t) q os e m.0 t.place m.1,
          λ f. six≢four t.place (sym (full_refused a t f q os e) ∙ w),
        )

    -- a refused-there is the answer
    pub refused_read : (n p : ℕ) → move clause (on q os) t ≡ refused_at n p → read clause (a ++ (t ∷ b)) z ≡ refused n p
    unfolding read
    refused_read n p w =
        ap (λ (s : State). close s z)
        (moves_append clause start a (t ∷ b)
        ∙ ap (λ (s : State). moves clause s (t ∷ b)) e
        ∙ ap (λ (s : State). moves clause s b) w
        ∙ moves_refused clause n p b)

  -- a legal file has a statement
  pub has_one : {ts : List Placed} {os : List ℕ} {xs : List Statement} → File clause ts os xs → (o : ℕ) × (rs : List ℕ) × os ≡ o ∷ rs
  has_one (file {t = t} {os = os} e r) = (t.place, os, refl)

  not_empty : (ts : List Placed) (q : Point) → moves clause start ts ≡ on q [] → (os : List ℕ) → ¬ Legal clause ts os
  not_empty ts q e os l =
      let f : moves clause start ts ≡ on done os = file_read clause l.file l.few in
      let h : (o : ℕ) × (rs : List ℕ) × os ≡ o ∷ rs = has_one l.file in
      let z : ◌≡◌ {A = ℕ} 0 1 = cc h.2 in
      omega arith

  pub not_open : (ts : List Placed) (q : Point) (rs : List ℕ) → moves clause start ts ≡ on q rs → is_point q done ≡ false → (os : List ℕ) → ¬ Legal clause ts os
  not_open ts q rs e d os l =
      let f : moves clause start ts ≡ on done os = file_read clause l.file l.few in
      let h : q ≡ done = cc in
      true≢false (rw h at d)

  -- the end of the file
  ended : (ts : List Placed) (p : ℕ) (q : Point) (o : ℕ) (os : List ℕ) → moves clause start ts ≡ on q (o ∷ os) → (b : Bool) → is_point q done ≡ b
      → Says clause ts (end p) (cond b (taken (o ∷ os)) (refused end_number p))
  ended ts p q o os e true d = legal (p, refl, read_legal clause ts o os (e ∙ ap (λ (r : Point). on r (o ∷ os)) (is_point_lem q done done_alone d)))
  ended ts p q o os e false d = eighteen (on_begins clause ts q (o ∷ os) e, refl, not_open ts q (o ∷ os) e d)

  -- no token: the row that its reason has
  none_row : (why : Why) (p : ℕ) {ts : List Placed} → Begins clause ts → Says clause ts (no_token_at why p) (refused (no_token_number why) p)
  none_row Stray p b = three (b, refl)
  none_row OpenString p b = fifteen (b, refl)
  none_row BrokenString p b = sixteen (b, refl)
  none_row Misshapen p b = seventeen (b, refl)

  -- the tokens ts after the tokens a
  says : (ts : List Placed) (z : Last) (a : List Placed) (q : Point) (os : List ℕ) → moves clause start a ≡ on q os
      → Says clause (a ++ ts) z (close (moves clause (on q os) ts) z)
  says [] (no_token_at why p) a q os e = rw (append-nil a) (none_row why p (on_begins clause a q os e))
  says [] (end p) a q [] e = rw (append-nil a) (eighteen (on_begins clause a q [] e, refl, not_empty a q e))
  says [] (end p) a q (o ∷ os) e = rw (append-nil a) (ended a p q o os e (is_point q done) refl)
  says (t ∷ ts) z a q os e = go (λ r ps d. says ts z (a ++ (t ∷ [])) r ps d) (move clause (on q os) t) (moved clause q os t) refl
    where
      go : ((r : Point) (ps : List ℕ) → moves clause start (a ++ (t ∷ [])) ≡ on r ps
          → Says clause ((a ++ (t ∷ [])) ++ ts) z (close (moves clause (on r ps) ts) z))
          → (s : State) → Moved clause q os t s → move clause (on q os) t ≡ s → Says clause (a ++ (t ∷ ts)) z (close (moves clause s ts) z)
      go later (on r ps) m w = rw (append_assoc a (t ∷ []) ts) at (later r ps (one_more clause a t q os e ∙ w))
      go later (refused_at n p) m w = rw (moves_refused clause n p ts) (row_of a t ts z q os e n p m w)

  -- the reader's answer is what 01 says
  pub reader_says : (ts : List Placed) (z : Last) → Says clause ts z (read clause ts z)
  unfolding read
  reader_says ts z = says ts z [] done [] refl

  taken_read : (ts : List Placed) (os : List ℕ) (p : ℕ) → Legal clause ts os → close (moves clause start ts) (end p) ≡ taken os
  taken_read ts os p l =
      let h : (o : ℕ) × (rs : List ℕ) × os ≡ o ∷ rs = has_one l.file in
      ap (λ (s : State). close s (end p)) (file_read clause l.file l.few) ∙ rw h.2

  open_read : (ts : List Placed) (p : ℕ) (q : Point) (os : List ℕ) → moves clause start ts ≡ on q os → ((rs : List ℕ) → ¬ Legal clause ts rs)
      → at_end q os p ≡ refused end_number p
  open_read ts p q [] e none = refl
  open_read ts p q (o ∷ os) e none = go (is_point q done) refl
    where
      go : (b : Bool) → is_point q done ≡ b → cond b (taken (o ∷ os)) (refused end_number p) ≡ refused end_number p
      go true d = absurd (none (o ∷ os) (read_legal clause ts o os (e ∙ ap (λ (r : Point). on r (o ∷ os)) (is_point_lem q done done_alone d))))
      go false d = refl

  -- what 01 says is the reader's answer
  module _ (ts : List Placed) (z : Last) (p : ℕ) where
    file_is : (os : List ℕ) → Whole clause ts z os → read clause ts z ≡ taken os
    unfolding read
    file_is os w = rw w.1 (taken_read ts os w.0 w.2)

    none_is : (why : Why) → Begins clause ts × z ≡ no_token_at why p → read clause ts z ≡ refused (no_token_number why) p
    unfolding read
    none_is why r =
        let s : (q : Point) × (os : List ℕ) × moves clause start ts ≡ on q os = begins_on clause ts r.0 in
        rw (r.1, s.2)

    eighteen_is : Eighteen clause ts z p → read clause ts z ≡ refused end_number p
    unfolding read
    eighteen_is r =
        let s : (q : Point) × (os : List ℕ) × moves clause start ts ≡ on q os = begins_on clause ts r.0 in
        rw (r.1, s.2) (open_read ts p s.0 s.1 s.2 r.2)

    -- where the token t stands clause after a, and the reader refuses there
    refused_is : (a : List Placed) (t : Placed) → Stands ts p a t → (q : Point) (os : List ℕ) → moves clause start a ≡ on q os → (n : ℕ)
        → move clause (on q os) t ≡ refused_at n t.place → read clause ts z ≡ refused n p
    refused_is a t h q os e n w = rw (h.parts, ← h.place) (refused_read a t h.after z q os e n t.place w)

    four_is : Four clause ts p → read clause ts z ≡ refused unexpected p
    four_is (a, t, h, before, not, nor, few) =
        let s : (q : Point) × (os : List ℕ) × moves clause start a ≡ on q os = begins_on clause a before in
        refused_is a t h s.0 s.1 s.2 unexpected
        (token_refused a t s.0 s.1 s.2 not nor few (move clause (on s.0 s.1) t) (moved clause s.0 s.1 t) refl)

    five_is : Five clause ts p → read clause ts z ≡ refused not_real p
    five_is (a, t, h, may, not) =
        let s : (q : Point) × (os : List ℕ) × moves clause start a ≡ on q os = begins_on clause a (shorter clause a (real t ∷ []) may) in
        refused_is a t h s.0 s.1 s.2 not_real
        (real_refused a t s.0 s.1 s.2 may not (move clause (on s.0 s.1) t) (moved clause s.0 s.1 t) refl)

    six_is : Six clause ts p → read clause ts z ≡ refused too_many_statements p
    six_is (a, t, h, f) =
        let e : moves clause start a ≡ on done f.0 = file_read clause f.1.file f.1.few in
        refused_is a t h done f.0 e too_many_statements (full_refused a t f done f.0 e)

  pub says_reader : {ts : List Placed} {z : Last} {v : OffsetsRead} → Says clause ts z v → read clause ts z ≡ v
  says_reader {ts} {z} (legal {os = os} w) = file_is ts z 0 os w
  says_reader {ts} {z} (three {p = p} r) = none_is ts z p Stray r
  says_reader {ts} {z} (fifteen {p = p} r) = none_is ts z p OpenString r
  says_reader {ts} {z} (sixteen {p = p} r) = none_is ts z p BrokenString r
  says_reader {ts} {z} (seventeen {p = p} r) = none_is ts z p Misshapen r
  says_reader {ts} {z} (four {p = p} r) = four_is ts z p r
  says_reader {ts} {z} (eighteen {p = p} r) = eighteen_is ts z p r
  says_reader {ts} {z} (five {p = p} r) = five_is ts z p r
  says_reader {ts} {z} (six {p = p} r) = six_is ts z p r

  -- one verdict and no other
  pub one_verdict : {ts : List Placed} {z : Last} {v w : OffsetsRead} → Says clause ts z v → Says clause ts z w → v ≡ w
  one_verdict a b = sym (says_reader a) ∙ says_reader b

  -- 5 is given at a time or a date only, and one that is not real
  pub five_unreal : (a : List Placed) (t : Placed) → MayStand clause a (real t) → ¬ MayStand clause a t → (t.class ≡ unreal_time) ⊎ (t.class ≡ unreal_date)
  five_unreal a t may not = go (is_class t.class unreal_time) (is_class t.class unreal_date) refl refl may
    where
      go : (x y : Bool) → is_class t.class unreal_time ≡ x → is_class t.class unreal_date ≡ y
          → MayStand clause a (record { class = cond x time (cond y date t.class); place = t.place; end = t.end; said = t.said })
          → (t.class ≡ unreal_time) ⊎ (t.class ≡ unreal_date)
      go true y e f m = inl (is_class_lem t.class unreal_time e)
      go false true e f m = inr (is_class_lem t.class unreal_date f)
      go false false e f m = absurd (not m)
