-- Text to rows and back, and rows to text and back, once for the four delimiters; and a text is the report of one list of rows.
use Prim.Native.Nat.{ℕ, ◌+◌, ◌≤◌}
use mathlib.Core.Path.{◌≡◌, refl, sym, ◌∙◌, ap, ap₂, subst}
use mathlib.Core.Bool.{true}
use mathlib.Core.List.{List, [], ◌∷◌, ◌++◌, append_assoc}
use mathlib.Core.Logic.{◌↔◌}
use native.Mathlib.Omega.{arith}
use lib.ListN.{length, take, drop, length-append, length-drop}
use lib.Seq.{take_at, drop_at}
use Rattle.counts.specs.Result.{Result, done}
use Rattle.counts.proofs.Results.{refused_not_done}
use Rattle.field.specs.Part.{part}
use Rattle.field.proofs.Parts.{part_is, rest_is}
use Rattle.delimited.specs.Lines.{is_delimiter, others, line, lines, places_of, cells_of, fields, Each, none, and, Parts, no_more, part_and}
use Rattle.delimited.proofs.Lines.{line_some, each_so}
use Rattle.report.specs.Report.{Rows, report_text, Report, Told, told}
use Rattle.report.specs.Reading.{read_report}
use Rattle.report.proofs.Reports.{taken, judged_only}
use Rattle.report.proofs.Cells.{same_size, report_cells}
use Rattle.report_write.specs.Writing.{written}
use Rattle.report_claims.specs.Rows.{Given, ReadAs, ReadReportRow, eleven, seven, eight, report_read, report_written}
use Rattle.report_claims.proofs.Read.{read_report_exactly}
use Rattle.report_claims.proofs.Write.{write_report_exactly}

-- ---- the cells of a report are its fields

module _ (s : List ℕ) (d : ℕ) where
  -- a field in front of others
  field_part : (x : List ℕ) (row : List (List ℕ)) (p : ℕ) (rest : List ℕ) → drop p s ≡ line d (x ∷ row) ++ rest
      → (drop (p + length x) s ≡ others d row ++ rest)
      × ((cells : List ℕ) (xs : List (List ℕ)) → Parts s cells xs → Parts s (p ∷ (length x ∷ cells)) (x ∷ xs))
  unfolding line
  field_part x row p rest h =
      let stands : drop p s ≡ x ++ (others d row ++ rest) = h ∙ append_assoc x (others d row) rest in
      let here : part s p (length x) ≡ x = part_is s p x (length x) refl (others d row ++ rest) stands in
      let room : p + length x ≤ length s =
      omega (
        arith,
        ap length h,
        length-drop p s,
        length-append (x ++ others d row) rest,
        length-append x (others d row),
        line_some d (x ∷ row),
      )
      in (
        rest_is s p x (length x) refl (others d row ++ rest) (p + length x) refl stands,
        λ cells xs parts. subst (λ (y : List ℕ). Parts s (p ∷ (length x ∷ cells)) (y ∷ xs)) here (part_and room parts),
      )

  row_parts : (row : List (List ℕ)) (p : ℕ) (rest : List ℕ) → drop p s ≡ line d row ++ rest → (cells : List ℕ) (xs : List (List ℕ)) → Parts s cells xs
      → Parts s (places_of p row ++ cells) (row ++ xs)
  unfolding places_of line others
  row_parts [] p rest h cells xs parts = parts
  row_parts (x ∷ []) p rest h cells xs parts = (field_part x [] p rest h).1 cells xs parts
  row_parts (x ∷ (y ∷ ys)) p rest h cells xs parts =
      let f = field_part x (y ∷ ys) p rest h in
      let next = rest_is s (p + length x) (d ∷ []) 1 refl (line d (y ∷ ys) ++ rest) (p + length x + 1) refl f.0 in
      f.1 _ _ (row_parts (y ∷ ys) (p + length x + 1) rest next cells xs parts)

  lines_parts : (ls : List (List (List ℕ))) (p : ℕ) → drop p s ≡ lines d ls → Parts s (cells_of d p ls) (fields ls)
  unfolding cells_of fields lines
  lines_parts [] p h = no_more
  lines_parts (l ∷ ls) p h =
      row_parts l p (lines d ls) h (cells_of d (p + length (line d l)) ls) (fields ls)
      (lines_parts ls (p + length (line d l)) (rest_is s p (line d l) (length (line d l)) refl (lines d ls) (p + length (line d l)) refl h))

-- what is told of a report are the places and lengths of its names and values
pub report_parts : (d : ℕ) (r : Rows) (s : List ℕ) → Report d r s → Parts s (told d r).cells (fields (r.names ∷ r.values))
report_parts d r s h = lines_parts s d (r.names ∷ r.values) 0 h.is

-- ---- one list of rows

one_parts : {s cells : List ℕ} {xs ys : List (List ℕ)} → Parts s cells xs → Parts s cells ys → xs ≡ ys
one_parts no_more no_more = refl
one_parts {s} (part_and {p = p} {n = n} i a) (part_and j b) = ap (λ (l : List (List ℕ)). part s p n ∷ l) (one_parts a b)

rows_same : (many : ℕ) → 1 ≤ many → (ls ks : List (List (List ℕ))) → Each (λ row. length row ≡ many) ls → Each (λ row. length row ≡ many) ks
    → fields ls ≡ fields ks
    → ls ≡ ks
unfolding fields
rows_same many some [] [] none none h = refl
rows_same many some [] (k ∷ ks) none (and f fs) h = absurd (omega (arith, ap length h, length-append k (fields ks)))
rows_same many some (l ∷ ls) [] (and e es) none h = absurd (omega (arith, ap length h, length-append l (fields ls)))
rows_same many some (l ∷ ls) (k ∷ ks) (and e es) (and f fs) h =
    let first : l ≡ k = sym (take_at l (fields ls) many e) ∙ ap (λ (x : List (List ℕ)). take many x) h ∙ take_at k (fields ks) many f in
    let rest : fields ls ≡ fields ks = sym (drop_at l (fields ls) many e) ∙ ap (λ (x : List (List ℕ)). drop many x) h ∙ drop_at k (fields ks) many f in
    ap₂ (λ (x : List (List ℕ)) (y : List (List (List ℕ))). x ∷ y) first (rows_same many some ls ks es fs rest)

pub one_report : (d : ℕ) → is_delimiter d ≡ true → (s : List ℕ) (r q : Rows) → Report d r s → Report d q s → r ≡ q
one_report d is s r q h k =
    let e = judged_only d is s _ (taken r h) in
    let f = judged_only d is s _ (taken q k) in
    let many = (same_size (sym e ∙ f)).0 in
    let cells : (told d q).cells ≡ (told d r).cells = sym (report_cells d is s q k) ∙ report_cells d is s r h in
    let same : fields (r.names ∷ r.values) ≡ fields (q.names ∷ q.values) = one_parts (report_parts d r s h) (rw cells at (report_parts d q s k)) in
    let rows =
    rows_same (length r.names) h.fits.first.some (r.names ∷ r.values) (q.names ∷ q.values)
    (and refl (each_so (λ row v. v.as_many) h.fits.then)) (and (sym many) (each_so (λ row v. v.as_many ∙ sym many) k.fits.then)) same
    in
    let names : r.names ≡ q.names = cc in
    let values : r.values ≡ q.values = cc in
    ap₂ (λ (n : List (List ℕ)) (v : List (List (List ℕ))). record { names = n; values = v }) names values

-- ---- both ways round

-- the reader takes a text exactly where it is the report of some rows, and gives those rows
reads_as : (d : ℕ) (s : List ℕ) (room : ℕ) (t : Told) → read_report d s room ≡ done t → ReadAs d s room t
reads_as d s room t e = go (read_report_exactly d s room).0 e
  where
    go : {v : Result Told} → ReadReportRow d s room v → v ≡ done t → ReadAs d s room t
    go (eleven h) q = absurd (refused_not_done q)
    go (seven is h) q = absurd (refused_not_done q)
    go (eight r is h l) q = absurd (refused_not_done q)
    go (report_read r is h l) q =
        let same : told d r ≡ t = cc in
        record { delimiter = is; rows = r; is = h; gives = sym same; room_for = subst (λ (x : Told). length x.cells ≤ room) same l }

reads_back : (d : ℕ) (s : List ℕ) (room : ℕ) (t : Told) → ReadAs d s room t → read_report d s room ≡ done t
reads_back d s room t h =
    let same = h.gives in
    (read_report_exactly d s room).1 (done (told d h.rows)) (report_read h.rows h.delimiter h.is
    (subst (λ (x : Told). length x.cells ≤ room) same h.room_for))
    ∙ ap done (sym same)

pub read_exactly : (d : ℕ) (s : List ℕ) (room : ℕ) (t : Told) → read_report d s room ≡ done t ↔ ReadAs d s room t
read_exactly d s room t = (reads_as d s room t, reads_back d s room t)

-- rows that fit are written, and what is written is read as these rows: the parts of the text that are told are the parts of the source that were given
pub rows_to_text_to_rows : (d : ℕ) → is_delimiter d ≡ true → (source cells : List ℕ) (many : ℕ) (r : Rows) → Given source cells many r → (room lent : ℕ)
    → length (report_text d r) ≤ room → length (told d r).cells ≤ lent
    → (written source cells many d room ≡ done (report_text d r)) × (read_report d (report_text d r) lent ≡ done (told d r))
    × Parts (report_text d r) (told d r).cells (fields (r.names ∷ r.values))
rows_to_text_to_rows d is source cells many r g room lent enough lent-enough =
    let report : Report d r (report_text d r) = record { fits = g.fits; is = refl } in (
      (write_report_exactly source cells many d room).1 (done (report_text d r)) (report_written r is g enough),
      (read_report_exactly d (report_text d r) lent).1 (done (told d r)) (report_read r is report lent-enough),
      report_parts d r (report_text d r) report,
    )

-- a text that is read is written again as it was, from what was told of it
pub text_to_rows_to_text : (d : ℕ) (s : List ℕ) (lent : ℕ) (t : Told) → read_report d s lent ≡ done t → (room : ℕ) → length s ≤ room
    → written s t.cells t.columns d room ≡ done s
text_to_rows_to_text d s lent t e room enough =
    let h = reads_as d s lent t e in
    let r = h.rows in
    let text : report_text d r ≡ s = sym h.is.is in
    let given : Given s (told d r).cells (told d r).columns r = record { fits = h.is.fits; as_many = refl; parts = report_parts d r s h.is } in
    let fits : length (report_text d r) ≤ room = omega (arith, ap length text) in
    ap (λ (x : Told). written s x.cells x.columns d room) h.gives
    ∙ (write_report_exactly s (told d r).cells (told d r).columns d room).1 (done (report_text d r)) (report_written r h.delimiter given fits)
    ∙ ap done text
