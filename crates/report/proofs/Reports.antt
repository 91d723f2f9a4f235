-- A report is judged exactly as its lines stand: it is taken where the text is the report of some rows, and else breaks at the first line that does not fit.
use Prim.Native.Nat.{ℕ, zero, suc, ◌+◌, ◌≤◌, ◌<◌}
use mathlib.Core.Path.{◌≡◌, refl, sym, ◌∙◌, ap}
use mathlib.Core.Bool.{Bool, true, false, cond}
use mathlib.Core.List.{List, [], ◌∷◌, ◌++◌, append_assoc, append-nil}
use native.Mathlib.Omega.{arith}
use borrow.Author.Tests.{ltb-true, ltb-false, lt-ltb, le-ltb, leb-true, leb-false, le-leb, eqb-true, eqb-false, eq-eqb}
use lib.Dec.{eqb, leb, ltb}
use lib.ListN.{length, drop, length-append, length-drop, drop_of_length-le}
use Rattle.counts.specs.Limits.{columns}
use Rattle.field.proofs.Parts.{rest_is}
use Rattle.delimited.specs.Lines.{is_delimiter, line, lines, Each, none, and}
use Rattle.delimited.proofs.Lines.{line_some}
use Rattle.report.specs.Report.{NameLine, ValueLine, Rows, RowsFit, report_text, Report, Breaks, at_names, at_line}
use Rattle.report.specs.Reading.{line_at, on_line, lines_from, judged}
use Rattle.std.specs.declared.option.Option.{Option}
use Rattle.std.proofs.lemmas.Option.{none-some, some_pair_parts}
use Rattle.std.specs.declared.option.Option.TheVariants.{Some, None}
use Rattle.std.specs.declared.result.Result.{Result as Returned}
use Rattle.std.specs.declared.result.Result.TheVariants.{Ok, Err}
use Rattle.report.proofs.Fields.{Field}
use Rattle.report.proofs.Lines.{Stands, Row, row_found, row_stands}

-- what is judged of the lines of values from i on, after k of them
pub data Verdict (d : ℕ) (s : List ℕ) (many i k : ℕ) : Returned (ℕ × ℕ) ℕ → Type 0 where
  whole : (n : ℕ) (ls : List (List (List ℕ))) → Each (ValueLine many) ls → drop i s ≡ lines d ls → n ≡ k + length ls → Verdict d s many i k (Ok (many, n))
  breaks : (p : ℕ) (ls : List (List (List ℕ))) (rest : List ℕ) → Each (ValueLine many) ls → drop i s ≡ lines d ls ++ rest → (rest ≡ [] → ⊥)
      → ((row : List (List ℕ)) (after : List ℕ) → ValueLine many row → rest ≡ line d row ++ after → ⊥) → p ≡ i + length (lines d ls)
      → Verdict d s many i k (Err p)

module _ (d : ℕ) (is : is_delimiter d ≡ true) (s : List ℕ) where
  -- a line that stands at i is the one that is found there
  pub line_stands : (values : Bool) (i : ℕ) (row : List (List ℕ)) (rest : List ℕ) → 1 ≤ length row → Each (Field values) row → drop i s ≡ line d row ++ rest
      → line_at values d s i ≡ Some (length row, i + length (line d row))
  unfolding line_at
  line_stands values i [] rest some each h = absurd (omega arith)
  line_stands values i (x ∷ xs) rest some each h =
      let e : 0 + length (x ∷ xs) ≡ length (x ∷ xs) = omega arith in
      rw (← e) (row_stands values d is s (length s) i 0 x xs rest each h (omega arith))

  pub line_found : (values : Bool) (i m j : ℕ) → line_at values d s i ≡ Some (m, j) → Row values d s i 0 m j
  unfolding line_at
  line_found values i m j h = row_found values d is s (length s) i 0 m j h

  module _ (many : ℕ) (some : 1 ≤ many) where
    value_line : (i : ℕ) (row : List (List ℕ)) (rest : List ℕ) → ValueLine many row → drop i s ≡ line d row ++ rest
        → line_at true d s i ≡ Some (many, i + length (line d row))
    value_line i row rest v h =
        let e : length row ≡ many = v.as_many in
        rw (← e) (line_stands true i row rest (omega arith) v.each h)

    -- no line of as many values stands at i, where none is found or one of another number
    none_there : (i : ℕ) → line_at true d s i ≡ None → (row : List (List ℕ)) (after : List ℕ) → ValueLine many row → drop i s ≡ line d row ++ after → ⊥
    none_there i q row after v h = none-some _ (sym q ∙ value_line i row after v h)

    other_there : (i m j : ℕ) → line_at true d s i ≡ Some (m, j) → (m ≡ many → ⊥) → (row : List (List ℕ)) (after : List ℕ) → ValueLine many row
        → drop i s ≡ line d row ++ after → ⊥
    other_there i m j q n row after v h = n (some_pair_parts _ _ _ _ (sym q ∙ value_line i row after v h)).0

    more : (i k j : ℕ) (row : List (List ℕ)) → Stands true d s i row j → length row ≡ many → {x : Returned (ℕ × ℕ) ℕ} → Verdict d s many j (k + 1) x
        → Verdict d s many i k x
    unfolding lines
    more i k j row r e (whole n ls each bytes q) =
        whole n (row ∷ ls) (and (record { as_many = e; each = r.each }) each) (r.bytes ∙ rw bytes) (omega arith)
    more i k j row r e (breaks p ls rest each bytes goes_on no_line q) =
        breaks p (row ∷ ls) rest (and (record { as_many = e; each = r.each }) each)
        (r.bytes ∙ rw bytes (sym (append_assoc (line d row) (lines d ls) rest))) goes_on
        no_line (omega (arith, r.end, length-append (line d row) (lines d ls)))

    left : (i : ℕ) → i < length s → drop i s ≡ [] → ⊥
    left i l h = omega (arith, ap length h, length-drop i s)

    -- where the lines of values begin
    abbrev Judges : ℕ → ℕ → Type 0
    Judges n k = (i : ℕ) → length s < n + i → i ≤ length s → Verdict d s many i k (lines_from n d s many i k)

    module _ (n i k : ℕ) (next : Judges n (k + 1)) (bound : length s < suc n + i) (room : i ≤ length s) where
      stop : i < length s → ((row : List (List ℕ)) (after : List ℕ) → ValueLine many row → drop i s ≡ line d row ++ after → ⊥) → Verdict d s many i k
          (Err i)
      unfolding lines
      stop l no_line = breaks i [] (drop i s) none refl (left i l) no_line (omega arith)

      by_count : i < length s → (m j : ℕ) → line_at true d s i ≡ Some (m, j) → (b : Bool) → eqb m many ≡ b
          → Verdict d s many i k (cond b (lines_from n d s many j (k + 1)) (Err i))
      by_count l m j q true e =
          let r = line_found true i m j q in
          more i k j r.row r.stands (omega (arith, r.many, eqb-true m many e))
          (next j (omega (arith, r.stands.end, line_some d r.row)) r.stands.inside)
      by_count l m j q false e = stop l (other_there i m j q (eqb-false m many e))

      by_line : i < length s → (x : Option (ℕ × ℕ)) → line_at true d s i ≡ x
          → Verdict d s many i k (on_line x (Err i) (λ m j. cond (eqb m many) (lines_from n d s many j (k + 1)) (Err i)))
      by_line l None q = stop l (none_there i q)
      by_line l (Some (m, j)) q = by_count l m j q (eqb m many) refl

      by_end : (b : Bool) → ltb i (length s) ≡ b
          → Verdict d s many i k (cond b
          (on_line (line_at true d s i) (Err i) (λ m j. cond (eqb m many) (lines_from n d s many j (k + 1)) (Err i))) (Ok (many, k)))
      unfolding lines
      by_end true l = by_line (ltb-true _ _ l) (line_at true d s i) refl
      by_end false l = whole k [] none (drop_of_length-le s (ltb-false _ _ l)) (omega arith)

    pub lines_judged : (n k : ℕ) → Judges n k
    unfolding lines_from
    lines_judged zero k i bound room = absurd (omega arith)
    lines_judged (suc n) k i bound room = by_end n i k (lines_judged n (k + 1)) bound room (ltb i (length s)) refl

    -- ---- the other way

    -- after lines that stand there, the rest
    record After (n i k : ℕ) (ls : List (List (List ℕ))) : Type 0 where
      pub bound : ℕ
      pub enough : length s < bound + (i + length (lines d ls))
      pub same : lines_from n d s many i k ≡ lines_from bound d s many (i + length (lines d ls)) (k + length ls)

    lines_stand : (n i k : ℕ) (ls : List (List (List ℕ))) (rest : List ℕ) → Each (ValueLine many) ls → drop i s ≡ lines d ls ++ rest → length s < n + i
        → i ≤ length s → After n i k ls
    unfolding lines_from lines
    lines_stand n i k [] rest none h enough room =
        let e : i + 0 ≡ i = omega arith in
        let f : k + 0 ≡ k = omega arith in
        record { bound = n; enough = omega arith; same = rw (e, f) }
    lines_stand zero i k (row ∷ ls) rest (and v vs) h enough room = absurd (omega arith)
    lines_stand (suc n) i k (row ∷ ls) rest (and v vs) h enough room =
        let bytes : drop i s ≡ line d row ++ (lines d ls ++ rest) = h ∙ append_assoc (line d row) (lines d ls) rest in
        let j = i + length (line d row) in
        let on : drop j s ≡ lines d ls ++ rest = rest_is s i (line d row) (length (line d row)) refl (lines d ls ++ rest) j refl bytes in
        let inside : (i < length s) × (j ≤ length s) =
        omega (arith, ap length bytes, length-drop i s, length-append (line d row) (lines d ls ++ rest), line_some d row)
        in
        let a = lines_stand n j (k + 1) ls rest vs on (omega (arith, line_some d row)) inside.1 in
        let p : j + length (lines d ls) ≡ i + length (line d row ++ lines d ls) = omega (arith, length-append (line d row) (lines d ls)) in
        let q : k + 1 + length ls ≡ k + length (row ∷ ls) = omega arith in
        record {
          bound = a.bound;
          enough = omega (arith, a.enough);
          same = rw (lt-ltb _ _ inside.0, value_line i row (lines d ls ++ rest) v bytes, eq-eqb many many refl) (a.same ∙ rw (p, q));
        }

    at_end_here : (n i k : ℕ) → length s < n + i → i ≡ length s → lines_from n d s many i k ≡ Ok (many, k)
    unfolding lines_from
    at_end_here zero i k enough e = absurd (omega arith)
    at_end_here (suc n) i k enough e = rw (le-ltb i (length s) (omega arith))

    at_break : (n i k : ℕ) → length s < n + i → i < length s
        → ((row : List (List ℕ)) (after : List ℕ) → ValueLine many row → drop i s ≡ line d row ++ after → ⊥) → lines_from n d s many i k ≡ Err i
    unfolding lines_from
    at_break zero i k enough l no_line = absurd (omega arith)
    at_break (suc n) i k enough l no_line = rw (lt-ltb _ _ l) (by_line (line_at true d s i) refl)
      where
        by_count : (m j : ℕ) → line_at true d s i ≡ Some (m, j) → (b : Bool) → eqb m many ≡ b → cond b (lines_from n d s many j (k + 1)) (Err i) ≡ Err i
        by_count m j q true e =
            let r = line_found true i m j q in
            absurd (no_line r.row (drop j s) (record { as_many = omega (arith, r.many, eqb-true m many e); each = r.stands.each }) r.stands.bytes)
        by_count m j q false e = refl

        by_line : (x : Option (ℕ × ℕ)) → line_at true d s i ≡ x
            → on_line x (Err i) (λ m j. cond (eqb m many) (lines_from n d s many j (k + 1)) (Err i)) ≡ Err i
        by_line None q = refl
        by_line (Some (m, j)) q = by_count m j q (eqb m many) refl

    pub lines_only : (n i k : ℕ) (x : Returned (ℕ × ℕ) ℕ) → length s < n + i → i ≤ length s → Verdict d s many i k x → lines_from n d s many i k ≡ x
    lines_only n i k x enough room (whole c ls each bytes e) =
        let a = lines_stand n i k ls [] each (bytes ∙ sym (append-nil (lines d ls))) enough room in
        a.same ∙ at_end_here a.bound (i + length (lines d ls)) (k + length ls) a.enough (omega (arith, ap length bytes, length-drop i s)) ∙ rw e
    lines_only n i k x enough room (breaks p ls rest each bytes goes_on no_line e) =
        let a = lines_stand n i k ls rest each bytes enough room in
        let j = i + length (lines d ls) in
        let on : drop j s ≡ rest = rest_is s i (lines d ls) (length (lines d ls)) refl rest j refl bytes in
        a.same ∙ at_break a.bound j (k + length ls) a.enough (inside j (λ h. goes_on (sym on ∙ h)))
        (λ row after v h. no_line row after v (sym on ∙ h)) ∙ rw e
      where
        inside : (j : ℕ) → (drop j s ≡ [] → ⊥) → j < length s
        inside j some_left = go (ltb j (length s)) refl
          where
            go : (b : Bool) → ltb j (length s) ≡ b → j < length s
            go true l = ltb-true _ _ l
            go false l = absurd (some_left (drop_of_length-le s (ltb-false _ _ l)))

  -- ---- the whole report

  pub data Judgement : Returned (ℕ × ℕ) ℕ → Type 0 where
    taken : (r : Rows) → Report d r s → Judgement (Ok (length r.names, length r.values))
    broken : {p : ℕ} → Breaks d s p → Judgement (Err p)

  -- the first line as it is found, and the lines of values after it
  after_names : (m j : ℕ) → Row false d s 0 0 m j → m ≤ columns → {x : Returned (ℕ × ℕ) ℕ} → Verdict d s m j 0 x → Judgement x
  unfolding lines
  after_names m j n few (whole c ls each bytes e) =
      let rows : Rows = record { names = n.row; values = ls } in
      let as_many : m ≡ length n.row = omega (arith, n.many) in
      let f : c ≡ length ls = omega arith in
      rw (as_many, f)
      (taken rows (record {
        fits = record { first = record { some = n.stands.some; few = omega arith; each = n.stands.each }; then = rw as_many at each };
        is = n.stands.bytes ∙ rw bytes;
      }))
  after_names m j n few (breaks p ls rest each bytes goes_on no_line e) =
      let rows : Rows = record { names = n.row; values = ls } in
      let as_many : m ≡ length n.row = omega (arith, n.many) in
      let long : p ≡ length (report_text d rows) = omega (arith, n.stands.end, length-append (line d n.row) (lines d ls)) in
      rw long
      (broken (at_line rows rest
      (record { first = record { some = n.stands.some; few = omega arith; each = n.stands.each }; then = rw as_many at each })
      (n.stands.bytes ∙ rw bytes (sym (append_assoc (line d n.row) (lines d ls) rest))) goes_on (rw as_many at no_line)))

  names_found : (row : List (List ℕ)) (rest : List ℕ) → NameLine row → s ≡ line d row ++ rest → line_at false d s 0 ≡ Some (length row, length (line d row))
  names_found row rest n h = line_stands false 0 row rest n.some n.each h ∙ rw z
    where
      z : 0 + length (line d row) ≡ length (line d row)
      z = omega arith

  no_names : line_at false d s 0 ≡ None → Judgement (Err 0)
  no_names q = broken (at_names (λ row rest n h. none-some _ (sym q ∙ names_found row rest n h)))

  too_many : (m j : ℕ) → line_at false d s 0 ≡ Some (m, j) → columns < m → Judgement (Err 0)
  too_many m j q l = broken (at_names (λ row rest n h. omega (arith, n.few, (some_pair_parts _ _ _ _ (sym q ∙ names_found row rest n h)).0)))

  by_number : (m j : ℕ) → line_at false d s 0 ≡ Some (m, j) → (b : Bool) → leb m columns ≡ b
      → Judgement (cond b (lines_from (suc (length s)) d s m j 0) (Err 0))
  by_number m j q true l =
      let n = line_found false 0 m j q in
      after_names m j n (leb-true _ _ l) (lines_judged m (omega (arith, n.many, n.stands.some)) (suc (length s)) 0 j (omega arith) n.stands.inside)
  by_number m j q false l = too_many m j q (leb-false _ _ l)

  by_names : (x : Option (ℕ × ℕ)) → line_at false d s 0 ≡ x
      → Judgement (on_line x (Err 0) (λ m j. cond (leb m columns) (lines_from (suc (length s)) d s m j 0) (Err 0)))
  by_names None q = no_names q
  by_names (Some (m, j)) q = by_number m j q (leb m columns) refl

  -- it is judged so
  pub judged_so : Judgement (judged d s)
  unfolding judged
  judged_so = by_names (line_at false d s 0) refl

  -- the lines after the names of rows that fit
  on_values : (r : Rows) (rest : List ℕ) → RowsFit r → s ≡ report_text d r ++ rest → (x : Returned (ℕ × ℕ) ℕ)
      → Verdict d s (length r.names) (length (line d r.names)) 0 x → judged d s ≡ x
  unfolding judged lines
  on_values r rest f h x v =
      let bytes : s ≡ line d r.names ++ (lines d r.values ++ rest) = h ∙ append_assoc (line d r.names) (lines d r.values) rest in
      let inside : length (line d r.names) ≤ length s =
      omega (arith, ap length bytes, length-append (line d r.names) (lines d r.values ++ rest))
      in
      rw (names_found r.names (lines d r.values ++ rest) f.first bytes, le-leb _ _ f.first.few)
      (lines_only (length r.names) f.first.some (suc (length s)) (length (line d r.names)) 0 x (omega arith) inside v)

  values_at : (r : Rows) (rest : List ℕ) → s ≡ report_text d r ++ rest → drop (length (line d r.names)) s ≡ lines d r.values ++ rest
  unfolding lines
  values_at r rest h =
      rest_is s 0 (line d r.names) (length (line d r.names)) refl (lines d r.values ++ rest) (length (line d r.names)) (omega arith)
      (h ∙ append_assoc (line d r.names) (lines d r.values) rest)

  names_break : ((row : List (List ℕ)) (rest : List ℕ) → NameLine row → s ≡ line d row ++ rest → ⊥) → (x : Option (ℕ × ℕ)) → line_at false d s 0 ≡ x
      → on_line x (Err 0) (λ m j. cond (leb m columns) (lines_from (suc (length s)) d s m j 0) (Err 0)) ≡ Err 0
  names_break none_fits None q = refl
  names_break none_fits (Some (m, j)) q = go (leb m columns) refl
    where
      go : (b : Bool) → leb m columns ≡ b → cond b (lines_from (suc (length s)) d s m j 0) (Err 0) ≡ Err 0
      go true l =
          let n = line_found false 0 m j q in
          absurd (none_fits n.row (drop j s)
          (record { some = n.stands.some; few = omega (arith, n.many, leb-true m columns l); each = n.stands.each }) n.stands.bytes)
      go false l = refl

  -- and only so
  pub judged_only : (x : Returned (ℕ × ℕ) ℕ) → Judgement x → judged d s ≡ x
  unfolding judged lines
  judged_only x (taken r h) =
      let text : s ≡ report_text d r ++ [] = h.is ∙ sym (append-nil (report_text d r)) in
      on_values r [] h.fits text x
      (whole (length r.values) r.values h.fits.then (values_at r [] text ∙ append-nil (lines d r.values)) (omega arith))
  judged_only x (broken (at_names none_fits)) = names_break none_fits (line_at false d s 0) refl
  judged_only x (broken (at_line r rest f h goes_on no_line)) =
      on_values r rest f h x
      (breaks (length (report_text d r)) r.values rest f.then (values_at r rest h) goes_on no_line
      (length-append (line d r.names) (lines d r.values)))
