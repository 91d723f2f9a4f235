-- The cells are whole lines exactly where they are the fields of rows that fit, and their text is the report of these rows.
use Prim.Native.Nat.{ℕ, ◌+◌, ◌-◌, ◌≤◌, ◌<◌}
use mathlib.Core.Path.{◌≡◌, refl, sym, ◌∙◌, ap}
use mathlib.Core.Bool.{Bool, true, false, false≢true, cond, ◌||◌, or-true, or-false}
use mathlib.Core.List.{List, [], ◌∷◌, ◌++◌, append_assoc}
use native.Mathlib.Omega.{arith}
use borrow.Author.Tests.{eqb-true, eqb-false, eq-eqb, ne_eqb}
use lib.Dec.{eqb}
use lib.ListN.{length}
use Rattle.laws.proofs.Choose.{and_left, and_right}
use Rattle.field.specs.Part.{part}
use Rattle.delimited.specs.Lines.{line, lines, fields, Each, none, and, Parts, no_more, part_and}
use Rattle.delimited.proofs.Lines.{line_last, line_more}
use Rattle.report.specs.Report.{ValueLine}
use Rattle.report.proofs.Fields.{Field}
use Rattle.report_write.specs.Writing.{is_cell, left_after, are_lines, text_from}
use Rattle.report_write.proofs.Fields.{IsCell, tested_cell, cell_tested}

module _ (d : ℕ) (source : List ℕ) (many : ℕ) where
  -- from a cell on, with `left` fields of its line to come: nothing, where a line of values would begin; or the rest of a line and lines after it
  pub data Rest (values : Bool) (left : ℕ) (cells : List ℕ) : Type 0 where
    over : values ≡ true → left ≡ many → Parts source cells [] → text_from d source many left cells ≡ [] → Rest values left cells
    goes_on : (row : List (List ℕ)) (ls : List (List (List ℕ))) → length row ≡ left → Each (Field values) row → Each (ValueLine many) ls
        → Parts source cells (row ++ fields ls) → text_from d source many left cells ≡ line d row ++ lines d ls → Rest values left cells

  -- a field, the delimiter and a line are a line
  join : (x l k : List ℕ) → (x ++ (d ∷ [])) ++ (l ++ k) ≡ (x ++ (d ∷ l)) ++ k
  join x l k = simp append_assoc

  -- one cell more in front: the last of its line
  last_cell : (values : Bool) (left p n : ℕ) (cells : List ℕ) → left ≡ 1 → IsCell values source p n → Rest (values || true) many cells
      → Rest values left (p ∷ (n ∷ cells))
  unfolding text_from fields lines
  last_cell values left p n cells one c (over v m parts text) =
      goes_on (part source p n ∷ []) [] (omega arith) (and c.is none) none (part_and c.inside parts)
      (rw (one, text, line_last))
  last_cell values left p n cells one c (goes_on row ls long each lines_after parts text) =
      goes_on (part source p n ∷ []) (row ∷ ls) (omega arith) (and c.is none)
      (and (record { as_many = long; each = rw (or-true values) at each }) lines_after) (part_and c.inside parts)
      (rw (one, text, line_last))

  -- or not the last
  more_cell : (values : Bool) (left p n : ℕ) (cells : List ℕ) → 1 < left → left ≤ many → IsCell values source p n → Rest values (left - 1) cells
      → Rest values left (p ∷ (n ∷ cells))
  unfolding text_from fields
  more_cell values left p n cells many-left few c (over v m parts text) = absurd (omega arith)
  more_cell values left p n cells many-left few c (goes_on [] ls long each lines_after parts text) = absurd (omega arith)
  more_cell values left p n cells many-left few c (goes_on (y ∷ ys) ls long each lines_after parts text) =
      goes_on (part source p n ∷ (y ∷ ys)) ls (omega arith) (and c.is each) lines_after (part_and c.inside parts)
      (rw (ne_eqb left 1 (λ e. omega arith), text, line_more) (join (part source p n) (line d (y ∷ ys)) (lines d ls)))

  pub lines_given : (values : Bool) (left : ℕ) (cells : List ℕ) → 1 ≤ left → left ≤ many → are_lines source many values left cells ≡ true
      → Rest values left cells
  unfolding are_lines text_from
  lines_given values left [] some few h =
      over (and_left values (eqb left many) h) (eqb-true left many (and_right values (eqb left many) h)) no_more refl
  lines_given values left (p ∷ []) some few h = absurd (false≢true h)
  lines_given values left (p ∷ (n ∷ cells)) some few h =
      by_left (eqb left 1) refl (lines_given (values || eqb left 1) (left_after many left) cells (after_some (eqb left 1) refl) (after_few (eqb left 1) refl)
      (and_right (is_cell values source p n) (are_lines source many (values || eqb left 1) (left_after many left) cells) h))
    where
      cell : IsCell values source p n
      cell = tested_cell values source p n
          (and_left (is_cell values source p n) (are_lines source many (values || eqb left 1) (left_after many left) cells) h)

      no_one : (left ≡ 1 → ⊥) → 1 < left
      no_one f = omega arith

      after_some : (b : Bool) → eqb left 1 ≡ b → 1 ≤ cond b many (left - 1)
      after_some true e = omega arith
      after_some false e = omega (arith, no_one (eqb-false left 1 e))

      after_few : (b : Bool) → eqb left 1 ≡ b → cond b many (left - 1) ≤ many
      after_few true e = omega arith
      after_few false e = omega arith

      by_left : (b : Bool) → eqb left 1 ≡ b → Rest (values || b) (cond b many (left - 1)) cells → Rest values left (p ∷ (n ∷ cells))
      by_left true e g = last_cell values left p n cells (eqb-true left 1 e) cell g
      by_left false e g = more_cell values left p n cells (no_one (eqb-false left 1 e)) few cell (rw (or-false values) at g)

  -- ---- the other way

  -- the cell in front of others
  record Front (cells x : List ℕ) (xs : List (List ℕ)) : Type 0 where
    pub place : ℕ
    pub size : ℕ
    pub rest : List ℕ
    pub is_cells : cells ≡ place ∷ (size ∷ rest)
    pub inside : place + size ≤ length source
    pub bytes : part source place size ≡ x
    pub parts : Parts source rest xs

  front : {cells : List ℕ} {ys : List (List ℕ)} (x : List ℕ) (xs : List (List ℕ)) → Parts source cells ys → ys ≡ x ∷ xs → Front cells x xs
  front x xs no_more e = absurd (omega (arith, ap length e))
  front x xs (part_and {p = p} {n = n} {cells = cells} {xs = zs} inside parts) e =
      let rest : zs ≡ xs = cc in
      record { place = p; size = n; rest = cells; is_cells = refl; inside = inside; bytes = cc; parts = rw rest at parts }

  no_cells : {cells : List ℕ} {ys : List (List ℕ)} → Parts source cells ys → ys ≡ [] → cells ≡ []
  no_cells no_more e = refl
  no_cells (part_and inside parts) e = absurd (omega (arith, ap length e))

  -- a line in front of others
  record After (values : Bool) (left : ℕ) (cells : List ℕ) (row xs : List (List ℕ)) : Type 0 where
    pub rest : List ℕ
    pub parts : Parts source rest xs
    pub tested : are_lines source many values left cells ≡ are_lines source many true many rest
    pub text : text_from d source many left cells ≡ line d row ++ text_from d source many many rest

  -- one cell: the last of its line, or not
  module _ (values : Bool) (left p n : ℕ) (rest : List ℕ) (is : is_cell values source p n ≡ true) where
    lines_last : left ≡ 1 → are_lines source many values left (p ∷ (n ∷ rest)) ≡ are_lines source many true many rest
    unfolding are_lines
    lines_last e = rw (is, e, or-true values)

    text_last : left ≡ 1 → text_from d source many left (p ∷ (n ∷ rest)) ≡ line d (part source p n ∷ []) ++ text_from d source many many rest
    unfolding text_from
    text_last e = rw (e, line_last)

    lines_more : (left ≡ 1 → ⊥) → are_lines source many values left (p ∷ (n ∷ rest)) ≡ are_lines source many values (left - 1) rest
    unfolding are_lines
    lines_more e = rw (is, ne_eqb left 1 e, or-false values)

    text_more : (left ≡ 1 → ⊥) → (y : List ℕ) (ys : List (List ℕ)) (k : List ℕ) → text_from d source many (left - 1) rest ≡ line d (y ∷ ys) ++ k
        → text_from d source many left (p ∷ (n ∷ rest)) ≡ line d (part source p n ∷ (y ∷ ys)) ++ k
    unfolding text_from
    text_more e y ys k h = rw (ne_eqb left 1 e, h, line_more) (join (part source p n) (line d (y ∷ ys)) k)

  row_given : (values : Bool) (x : List ℕ) (row xs : List (List ℕ)) (left : ℕ) (cells : List ℕ) → left ≡ length (x ∷ row) → Each (Field values) (x ∷ row)
      → Parts source cells ((x ∷ row) ++ xs) → After values left cells (x ∷ row) xs
  row_given values x [] xs left cells e (and f none) parts =
      let c = front x xs parts refl in
      let is = cell_tested values source c.place c.size (record { inside = c.inside; is = rw c.bytes f }) in
      record {
        rest = c.rest;
        parts = c.parts;
        tested = ap (are_lines source many values left) c.is_cells ∙ lines_last values left c.place c.size c.rest is e;
        text =
            ap (text_from d source many left) c.is_cells ∙ text_last values left c.place c.size c.rest is e
            ∙ ap (λ (y : List ℕ). line d (y ∷ []) ++ text_from d source many many c.rest) c.bytes;
      }
  row_given values x (y ∷ ys) xs left cells e (and f fs) parts =
      let c = front x ((y ∷ ys) ++ xs) parts refl in
      let is = cell_tested values source c.place c.size (record { inside = c.inside; is = rw c.bytes f }) in
      let a = row_given values y ys xs (left - 1) c.rest (omega arith) fs c.parts in
      let more : left ≡ 1 → ⊥ = λ q. omega arith in
      let after = text_from d source many many a.rest in
      record {
        rest = a.rest;
        parts = a.parts;
        tested = ap (are_lines source many values left) c.is_cells ∙ lines_more values left c.place c.size c.rest is more ∙ a.tested;
        text =
            ap (text_from d source many left) c.is_cells ∙ text_more values left c.place c.size c.rest is more y ys after a.text
            ∙ ap (λ (z : List ℕ). line d (z ∷ (y ∷ ys)) ++ after) c.bytes;
      }

  line_given : (values : Bool) (row xs : List (List ℕ)) (cells : List ℕ) → 1 ≤ many → length row ≡ many → Each (Field values) row → Parts source cells
      (row ++ xs)
      → After values many cells row xs
  line_given values [] xs cells some e each parts = absurd (omega arith)
  line_given values (x ∷ row) xs cells some e each parts = row_given values x row xs many cells (sym e) each parts

  values_given : (ls : List (List (List ℕ))) (cells : List ℕ) → 1 ≤ many → Each (ValueLine many) ls → Parts source cells (fields ls)
      → (are_lines source many true many cells ≡ true) × (text_from d source many many cells ≡ lines d ls)
  unfolding are_lines text_from fields lines
  values_given [] cells some none parts = let e = no_cells parts refl in (rw (e, eq-eqb many many refl), rw e)
  values_given (row ∷ ls) cells some (and v vs) parts =
      let a = line_given true row (fields ls) cells some v.as_many v.each parts in
      let next = values_given ls a.rest some vs a.parts in
      (a.tested ∙ next.0, a.text ∙ rw next.1)

  pub rows_given : (names : List (List ℕ)) (ls : List (List (List ℕ))) (cells : List ℕ) → 1 ≤ many → length names ≡ many → Each (Field false) names
      → Each (ValueLine many) ls → Parts source cells (fields (names ∷ ls))
      → (are_lines source many false many cells ≡ true) × (text_from d source many many cells ≡ lines d (names ∷ ls))
  unfolding fields lines
  rows_given names ls cells some e each vs parts =
      let a = line_given false names (fields ls) cells some e each parts in
      let next = values_given ls a.rest some vs a.parts in
      (a.tested ∙ next.0, a.text ∙ rw next.1)
