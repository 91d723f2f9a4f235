-- The cells of a report are told in order, and there are as many as its columns and lines say; so their number is small.
use Prim.Native.Nat.{ℕ, zero, suc, ◌+◌, ◌-◌, ◌*◌, ◌≤◌, ◌<◌}
use mathlib.Core.Path.{◌≡◌, refl, ◌∙◌, ap}
use mathlib.Core.Bool.{Bool, true, false, cond}
use mathlib.Core.List.{List, [], ◌∷◌, ◌++◌}
use native.Mathlib.Nat.{mul-le-mul_right}
use native.Mathlib.Omega.{arith}
use lib.ListN.{length, get_or, drop, length-append, length-drop, get_or-eq_default}
use Rattle.field.proofs.Parts.{rest_is}
use Rattle.scan.specs.Kinds.{is_letter}
use Rattle.delimited.specs.Lines.{is_delimiter, separator, others, line, lines, places_of, cells_of, Each, none, and}
use Rattle.delimited.proofs.Found.{at_field, at_line}
use Rattle.delimited.proofs.Lines.{line_some, line_long, each_so, length_cells, lines_long}
use Rattle.report.specs.Report.{ValueLine, Rows, Report}
use Rattle.report.specs.Reading.{name_at, value_at, field_at, cell_at, cells_from, judged}
use Rattle.std.specs.declared.option.Option.TheVariants.{Some, None}
use Rattle.std.specs.declared.result.Result.{Result as Returned}
use Rattle.std.specs.declared.result.Result.TheVariants.{Ok, Err}
use Rattle.report.proofs.Fields.{Field, field_some, field_found, field_cell, no_value_past}
use Rattle.report.proofs.Lines.{field_in_line}
use Rattle.report.proofs.Reports.{Judgement, taken, broken, judged_so}

pub no_cell_past : (s : List ℕ) (i : ℕ) → length s ≤ i → cell_at s i ≡ None
unfolding cell_at
no_cell_past s i h = rw (get_or-eq_default s 0 h) (no_value_past s i h)

pub cells_past : (n d : ℕ) (s : List ℕ) (i : ℕ) → length s ≤ i → cells_from n d s i ≡ []
unfolding cells_from
cells_past zero d s i h = refl
cells_past (suc n) d s i h = rw (no_cell_past s i h)

-- a cell is a name or a value
pub cell_found : (s : List ℕ) (i e : ℕ) → cell_at s i ≡ Some e → (i < e) × (e ≤ length s)
unfolding cell_at field_at
cell_found s i e h = go (is_letter (get_or s i 0)) h
  where
    go : (t : Bool) → cond t (name_at s i) (value_at s i) ≡ Some e → (i < e) × (e ≤ length s)
    go true x = let f = field_found false s i e x in (f.ahead, f.inside)
    go false x = let f = field_found true s i e x in (f.ahead, f.inside)

pub same_size : {m k n j : ℕ} → ◌≡◌ {A = Returned (ℕ × ℕ) ℕ} (Ok (m, k)) (Ok (n, j)) → (m ≡ n) × (k ≡ j)
same_size {m} {k} {n} {j} h = let p : ◌≡◌ {A = ℕ × ℕ} (m, k) (n, j) = cc in (ap (λ (x : ℕ × ℕ). x.0) p, ap (λ (x : ℕ × ℕ). x.1) p)

module _ (d : ℕ) (is : is_delimiter d ≡ true) (s : List ℕ) where
  -- the cells of a line that stands at i, and then those after it
  record After (n i : ℕ) (row : List (List ℕ)) : Type 0 where
    pub bound : ℕ
    pub enough : length s ≤ bound + (i + length (line d row))
    pub same : cells_from n d s i ≡ places_of i row ++ cells_from bound d s (i + length (line d row))

  row_cells : (values : Bool) (n i : ℕ) (x : List ℕ) (xs : List (List ℕ)) (rest : List ℕ) → Each (Field values) (x ∷ xs) → drop i s ≡ line d (x ∷ xs) ++ rest
      → length s ≤ n + i → After n i (x ∷ xs)
  unfolding cells_from places_of others line
  row_cells values zero i x xs rest each h bound =
      absurd (omega (arith, ap length h, length-drop i s, length-append (line d (x ∷ xs)) rest, line_some d (x ∷ xs)))
  row_cells values (suc n) i x [] rest (and f none) h bound =
      let p = field_in_line values d is s i x [] rest f h in
      let e : i + length x + 2 ≡ i + length (line d (x ∷ [])) = omega (arith, length-append x (separator d true)) in
      let w : i + length x - i ≡ length x = omega arith in
      record {
        bound = n;
        enough = omega (arith, line_some d (x ∷ []));
        same = rw (field_cell values s i (i + length x) p.0, at_line d is s (i + length x) rest p.1, w, e);
      }
  row_cells values (suc n) i x (y ∷ ys) rest (and f fs) h bound =
      let p = field_in_line values d is s i x (y ∷ ys) rest f h in
      let q : drop (i + length x + 1) s ≡ line d (y ∷ ys) ++ rest = rest_is s (i + length x) (d ∷ []) 1 refl (line d (y ∷ ys) ++ rest)
      (i + length x + 1) refl p.1 in
      let r = row_cells values n (i + length x + 1) y ys rest fs q (omega arith) in
      let e : i + length x + 1 + length (line d (y ∷ ys)) ≡ i + length (line d (x ∷ (y ∷ ys))) =
      omega (arith, length-append x (d ∷ line d (y ∷ ys)))
      in
      let w : i + length x - i ≡ length x = omega arith in
      record {
        bound = r.bound;
        enough = omega (arith, r.enough);
        same = rw (field_cell values s i (i + length x) p.0, at_field d is s (i + length x) (line d (y ∷ ys) ++ rest) p.1, w, r.same, e);
      }

  line_cells : (values : Bool) (n i : ℕ) (row : List (List ℕ)) (rest : List ℕ) → 1 ≤ length row → Each (Field values) row → drop i s ≡ line d row ++ rest
      → length s ≤ n + i → After n i row
  line_cells values n i [] rest some each h bound = absurd (omega arith)
  line_cells values n i (x ∷ xs) rest some each h bound = row_cells values n i x xs rest each h bound

  values_cells : (many : ℕ) → 1 ≤ many → (n i : ℕ) (ls : List (List (List ℕ))) → Each (ValueLine many) ls → drop i s ≡ lines d ls → length s ≤ n + i
      → cells_from n d s i ≡ cells_of d i ls
  unfolding lines cells_of
  values_cells many some n i [] none h bound = cells_past n d s i (omega (arith, ap length h, length-drop i s))
  values_cells many some n i (row ∷ ls) (and v vs) h bound =
      let a = line_cells true n i row (lines d ls) (omega (arith, v.as_many)) v.each h bound in
      let j = i + length (line d row) in
      let on : drop j s ≡ lines d ls = rest_is s i (line d row) (length (line d row)) refl (lines d ls) j refl h in
      a.same ∙ ap (λ (l : List ℕ). places_of i row ++ l) (values_cells many some a.bound j ls vs on a.enough)

  module _ (r : Rows) (report : Report d r s) where
    pub report_cells : cells_from (length s) d s 0 ≡ cells_of d 0 (r.names ∷ r.values)
    unfolding lines cells_of
    report_cells =
        let a = line_cells false (length s) 0 r.names (lines d r.values) report.fits.first.some report.fits.first.each report.is
        (omega arith) in
        let j = 0 + length (line d r.names) in
        let on : drop j s ≡ lines d r.values =
        rest_is s 0 (line d r.names) (length (line d r.names)) refl (lines d r.values) j refl report.is
        in
        a.same ∙ ap (λ (l : List ℕ). places_of 0 r.names ++ l)
        (values_cells (length r.names) report.fits.first.some a.bound j r.values report.fits.then on a.enough)

    pub report_sized : length (cells_of d 0 (r.names ∷ r.values)) ≡ 2 * (length r.names * (length r.values + 1))
    report_sized =
        length_cells (length r.names) d 0 (r.names ∷ r.values) (and refl (each_so (λ row v. v.as_many) report.fits.then))
        ∙ omega arith

    long : (values : Bool) (row : List (List ℕ)) → 1 ≤ length row → Each (Field values) row → 2 * length row ≤ length (line d row)
    long values row some each = line_long d row some (each_so (field_some values) each)

    pub report_long : 2 * (length r.names * (length r.values + 1)) ≤ length s
    report_long =
        let some = report.fits.first.some in
        omega (
          arith,
          ap length report.is,
          lines_long (length r.names) d (r.names ∷ r.values)
              (and (refl, long false r.names some report.fits.first.each)
              (each_so (λ row v. (v.as_many, long true row (omega (arith, v.as_many)) v.each)) report.fits.then)),
        )

  -- what a report's columns and lines come to is not more than its bytes
  pub record Small (m k : ℕ) : Type 0 where
    pub rows : k + 1 ≤ m * (k + 1)
    pub few : 2 * (m * (k + 1)) ≤ length s
    pub cells : length (cells_from (length s) d s 0) ≡ 2 * (m * (k + 1))

  pub whole_small : (m k : ℕ) → judged d s ≡ Ok (m, k) → Small m k
  whole_small m k e = go (judged_so d is s) e
    where
      go : {x : Returned (ℕ × ℕ) ℕ} → Judgement d is s x → x ≡ Ok (m, k) → Small m k
      go (taken r report) q =
          let (a, b) = same_size q in
          rw (← a, ← b)
          (record {
            rows = omega (arith, mul-le-mul_right (length r.values + 1) report.fits.first.some);
            few = report_long r report;
            cells = ap length (report_cells r report) ∙ report_sized r report;
          })
      go (broken {p = p} h) q = absurd (err≢ok p (m, k) q)
        where
          err≢ok : (p : ℕ) (size : ℕ × ℕ) → Err p ≡ Ok size → ⊥
          err≢ok p size h = cc
