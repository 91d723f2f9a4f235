-- The laws of the reader's loops: what one turn does. What is left, done from here, gives the answer; the bound on how much is looked at is always enough.
use Prim.Native.Nat.{ℕ, zero, suc, ◌+◌, ◌-◌, ◌≤◌, ◌<◌}
use mathlib.Core.Path.{◌≡◌, refl, sym, ◌∙◌, ap}
use mathlib.Core.Bool.{Bool, true, cond}
use mathlib.Core.Logic.{◌⊎◌, inl, inr}
use mathlib.Core.List.{List, [], ◌∷◌, ◌++◌, append_assoc, append-nil}
use native.Mathlib.Omega.{arith}
use borrow.Author.Tests.{lt-ltb, le-ltb, eq-eqb, ne_eqb}
use lib.Dec.{eqb, ltb}
use lib.ListN.{length, set, length-append}
use Rattle.field.specs.Part.{put}
use Rattle.field.proofs.Put.{put_nil, put_snoc, length_put}
use Rattle.delimited.specs.Lines.{is_delimiter}
use Rattle.delimited.specs.Separators.{separator_at, on_separator}
use Rattle.delimited.specs.declared.Separator.TheVariants as after
use Rattle.delimited.proofs.Found.{next_field, next_line}
use Rattle.delimited.proofs.Lines.{line_some}
use Rattle.report.specs.Reading.{field_at, cell_at, on_field, fields_from, line_at, on_line, lines_from, cells_from}
use Rattle.std.specs.declared.option.Option.{Option}
use Rattle.std.specs.declared.option.Option.TheVariants.{Some, None}
use Rattle.std.specs.declared.result.Result.{Result as Returned}
use Rattle.std.specs.declared.result.Result.TheVariants.{Ok, Err}
use Rattle.report.proofs.Fields.{field_found, no_field_past}
use Rattle.report.proofs.Reports.{line_found}
use Rattle.report.proofs.Cells.{cells_past, cell_found}

-- ---- the fields of a line: after k of them, from the place `at` on

pub record FieldsLeft (values : Bool) (d : ℕ) (s : List ℕ) (at k : ℕ) (e : Option (ℕ × ℕ)) : Type 0 where
  pub bound : ℕ
  pub enough : length s ≤ bound + at
  pub same : fields_from bound values d s at k ≡ e
  pub few : k ≤ at

pub fields_start : (values : Bool) (d : ℕ) (s : List ℕ) (i : ℕ) → FieldsLeft values d s i 0 (line_at values d s i)
unfolding line_at
fields_start values d s i = record { bound = length s; enough = omega arith; same = refl; few = omega arith }

-- one turn: n is what the bound leaves for the next
fields_turn : (values : Bool) (d : ℕ) (s : List ℕ) (at k : ℕ) (e : Option (ℕ × ℕ)) → FieldsLeft values d s at k e → at < length s
    → (n : ℕ) × (length s ≤ n + (at + 1))
    × (on_field (field_at values s at) None
    (λ end. on_separator (separator_at d s end) None (λ j. fields_from n values d s j (k + 1)) (λ j. Some (k + 1, j))) ≡ e)
unfolding fields_from
fields_turn values d s at k e left l = go left.bound left.enough left.same
  where
    go : (b : ℕ) → length s ≤ b + at → fields_from b values d s at k ≡ e
        → (n : ℕ) × (length s ≤ n + (at + 1))
        × (on_field (field_at values s at) None
        (λ end. on_separator (separator_at d s end) None (λ j. fields_from n values d s j (k + 1)) (λ j. Some (k + 1, j))) ≡ e)
    go zero h x = absurd (omega arith)
    go (suc n) h x = (n, omega arith, x)

none_past : (n : ℕ) (values : Bool) (d : ℕ) (s : List ℕ) (at k : ℕ) → length s ≤ at → fields_from n values d s at k ≡ None
unfolding fields_from
none_past zero values d s at k h = refl
none_past (suc n) values d s at k h = rw (no_field_past values s at h)

pub fields_past : (values : Bool) (d : ℕ) (s : List ℕ) (at k : ℕ) (e : Option (ℕ × ℕ)) → FieldsLeft values d s at k e → length s ≤ at → None ≡ e
fields_past values d s at k e left h = sym (none_past left.bound values d s at k h) ∙ left.same

module _ (values : Bool) (d : ℕ) (s : List ℕ) (at k : ℕ) (e : Option (ℕ × ℕ)) (left : FieldsLeft values d s at k e) (l : at < length s) where
  pub no_field : None ≡ field_at values s at → None ≡ e
  no_field q = rw (sym q) at (fields_turn values d s at k e left l).2

  module _ (end : ℕ) (field : Some end ≡ field_at values s at) where
    pub field_room : (at < end) × (end ≤ length s)
    field_room = let f = field_found values s at end (sym field) in (f.ahead, f.inside)

    pub another_ahead : (j : ℕ) → after.Field j ≡ separator_at d s end → at + 2 ≤ j
    another_ahead j found = omega (arith, next_field d s end j (sym found), field_room)

    pub another : (j : ℕ) → after.Field j ≡ separator_at d s end → FieldsLeft values d s j (k + 1) e
    another j found =
        let t = fields_turn values d s at k e left l in
        record {
          bound = t.0;
          enough = omega (arith, t.1, another_ahead j found);
          same = rw (sym field, sym found) at t.2;
          few = omega (arith, left.few, another_ahead j found);
        }

    pub line_over : (j : ℕ) → after.Line j ≡ separator_at d s end → Some (k + 1, j) ≡ e
    line_over j found = rw (sym field, sym found) at (fields_turn values d s at k e left l).2

    pub neither : after.Neither ≡ separator_at d s end → None ≡ e
    neither found = rw (sym field, sym found) at (fields_turn values d s at k e left l).2

-- ---- the lines of values: after k of them, from the place `at` on

pub record LinesLeft (d : ℕ) (s : List ℕ) (many at k : ℕ) (e : Returned (ℕ × ℕ) ℕ) : Type 0 where
  pub bound : ℕ
  pub enough : length s < bound + at
  pub inside : at ≤ length s
  pub same : lines_from bound d s many at k ≡ e
  pub few : k ≤ at

pub lines_start : (d : ℕ) (s : List ℕ) (many i : ℕ) → i ≤ length s → LinesLeft d s many i 0 (lines_from (suc (length s)) d s many i 0)
lines_start d s many i h = record { bound = suc (length s); enough = omega arith; inside = h; same = refl; few = omega arith }

lines_turn : (d : ℕ) (s : List ℕ) (many at k : ℕ) (e : Returned (ℕ × ℕ) ℕ) → LinesLeft d s many at k e
    → (n : ℕ) × (length s < n + (at + 1))
    × (cond (ltb at (length s))
    (on_line (line_at true d s at) (Err at) (λ m j. cond (eqb m many) (lines_from n d s many j (k + 1)) (Err at))) (Ok (many, k)) ≡ e)
unfolding lines_from
lines_turn d s many at k e left = go left.bound left.enough left.same
  where
    go : (b : ℕ) → length s < b + at → lines_from b d s many at k ≡ e
        → (n : ℕ) × (length s < n + (at + 1))
        × (cond (ltb at (length s))
        (on_line (line_at true d s at) (Err at) (λ m j. cond (eqb m many) (lines_from n d s many j (k + 1)) (Err at))) (Ok (many, k)) ≡ e)
    go zero h x = absurd (omega (arith, left.inside))
    go (suc n) h x = (n, omega arith, x)

pub lines_past : (d : ℕ) (s : List ℕ) (many at k : ℕ) (e : Returned (ℕ × ℕ) ℕ) → LinesLeft d s many at k e → length s ≤ at → Ok (many, k) ≡ e
lines_past d s many at k e left h = rw (le-ltb at (length s) h) at (lines_turn d s many at k e left).2

module _ (d : ℕ) (delimiter : is_delimiter d ≡ true) (s : List ℕ) (many at k : ℕ) (e : Returned (ℕ × ℕ) ℕ) (left : LinesLeft d s many at k e)
    (l : at < length s) where
  pub no_line : None ≡ line_at true d s at → Err at ≡ e
  no_line q = rw (lt-ltb at (length s) l, sym q) at (lines_turn d s many at k e left).2

  module _ (m j : ℕ) (line : Some (m, j) ≡ line_at true d s at) where
    pub other_count : (m ≡ many → ⊥) → Err at ≡ e
    other_count n = rw (lt-ltb at (length s) l, sym line, ne_eqb m many n) at (lines_turn d s many at k e left).2

    pub line_ahead : (at + 2 ≤ j) × (j ≤ length s)
    line_ahead =
        let f = line_found d delimiter s true at m j (sym line) in
        omega (arith, f.stands.end, f.stands.inside, line_some d f.row)

    pub another_line : m ≡ many → LinesLeft d s many j (k + 1) e
    another_line q =
        let t = lines_turn d s many at k e left in
        record {
          bound = t.0;
          enough = omega (arith, t.1, line_ahead.0);
          inside = line_ahead.1;
          same = rw (lt-ltb at (length s) l, sym line, eq-eqb m many q) at t.2;
          few = omega (arith, left.few, line_ahead.0);
        }

-- ---- the cells: those in front are written, from the place `at` on they are left

pub record CellsLeft (d : ℕ) (s lent cells : List ℕ) (at k : ℕ) (all : List ℕ) : Type 0 where
  pub bound : ℕ
  pub enough : length s ≤ bound + at
  pub front : List ℕ
  pub same : front ++ cells_from bound d s at ≡ all
  pub is : cells ≡ put lent 0 front
  pub count : k ≡ length front

pub cells_start : (d : ℕ) (s lent : List ℕ) → CellsLeft d s lent lent 0 0 (cells_from (length s) d s 0)
cells_start d s lent = record { bound = length s; enough = omega arith; front = []; same = refl; is = sym (put_nil lent 0); count = refl }

pub cells_length : {d : ℕ} {s lent cells : List ℕ} {at k : ℕ} {all : List ℕ} → CellsLeft d s lent cells at k all → length cells ≡ length lent
cells_length {d} {s} {lent} left = ap length left.is ∙ length_put lent 0 left.front

pub cells_over : (d : ℕ) (s lent cells : List ℕ) (at k : ℕ) (all : List ℕ) → CellsLeft d s lent cells at k all → length s ≤ at → cells ≡ put lent 0 all
cells_over d s lent cells at k all left h =
    left.is ∙ ap (put lent 0) (sym (append-nil left.front) ∙ ap (λ (l : List ℕ). left.front ++ l) (sym (cells_past left.bound d s at h)) ∙ left.same)

cells_turn : (d : ℕ) (s lent cells : List ℕ) (at k : ℕ) (all : List ℕ) (left : CellsLeft d s lent cells at k all) → at < length s
    → (n : ℕ) × (length s ≤ n + (at + 1))
    × (left.front ++ on_field (cell_at s at) []
    (λ end. at ∷ ((end - at) ∷ on_separator (separator_at d s end) [] (λ j. cells_from n d s j) (λ j. cells_from n d s j))) ≡ all)
unfolding cells_from
cells_turn d s lent cells at k all left l = go left.bound left.enough left.same
  where
    go : (b : ℕ) → length s ≤ b + at → left.front ++ cells_from b d s at ≡ all
        → (n : ℕ) × (length s ≤ n + (at + 1))
        × (left.front ++ on_field (cell_at s at) []
        (λ end. at ∷ ((end - at) ∷ on_separator (separator_at d s end) [] (λ j. cells_from n d s j) (λ j. cells_from n d s j))) ≡ all)
    go zero h x = absurd (omega arith)
    go (suc n) h x = (n, omega arith, x)

module _ (d : ℕ) (s lent cells : List ℕ) (at k : ℕ) (all : List ℕ) (left : CellsLeft d s lent cells at k all) (l : at < length s) where
  pub no_cell : None ≡ cell_at s at → cells ≡ put lent 0 all
  no_cell q = left.is ∙ ap (put lent 0) (sym (append-nil left.front) ∙ (rw (sym q) at (cells_turn d s lent cells at k all left l).2))

  module _ (end : ℕ) (cell : Some end ≡ cell_at s at) where
    pub cell_ahead : (at < end) × (end ≤ length s)
    cell_ahead = cell_found s at end (sym cell)

    -- there is room for it
    pub cell_fits : length all ≤ length lent → (k + 2 ≤ length cells) × (length cells ≡ length lent)
    cell_fits room =
        let t = cells_turn d s lent cells at k all left l in
        let same = cells_length left in
        omega (arith, left.count, same, simp length-append at (ap length (rw (sym cell) at t.2)))

    -- two numbers more in front
    abbrev front_more : List ℕ
    front_more = (left.front ++ (at ∷ [])) ++ ((end - at) ∷ [])

    stored : set (set cells k at) (k + 1) (end - at) ≡ put lent 0 front_more
    stored =
        let first : k ≡ 0 + length left.front = omega (arith, left.count) in
        let second : k + 1 ≡ 0 + length (left.front ++ (at ∷ [])) = omega (arith, left.count, length-append left.front (at ∷ [])) in
        ap (λ (l : List ℕ). set (set l k at) (k + 1) (end - at)) left.is
        ∙ ap (λ (n : ℕ). set (set (put lent 0 left.front) n at) (k + 1) (end - at)) first
        ∙ ap (λ (l : List ℕ). set l (k + 1) (end - at)) (put_snoc lent 0 left.front at)
        ∙ ap (λ (n : ℕ). set (put lent 0 (left.front ++ (at ∷ []))) n (end - at)) second
        ∙ put_snoc lent 0 (left.front ++ (at ∷ [])) (end - at)

    more_then : (rest : List ℕ) → left.front ++ (at ∷ ((end - at) ∷ rest)) ≡ all → front_more ++ rest ≡ all
    more_then rest h = simp append_assoc h

    -- another cell stands at j, in the same line or in the next
    abbrev Next : ℕ → Type 0
    Next j = (separator_at d s end ≡ after.Field j) ⊎ (separator_at d s end ≡ after.Line j)

    pub next_ahead : (j : ℕ) → Next j → at + 2 ≤ j
    next_ahead j (inl h) = omega (arith, next_field d s end j h, cell_ahead)
    next_ahead j (inr h) = omega (arith, next_line d s end j h, cell_ahead)

    pub next_cell : (j : ℕ) → Next j → CellsLeft d s lent (set (set cells k at) (k + 1) (end - at)) j (k + 2) all
    next_cell j h =
        let t = cells_turn d s lent cells at k all left l in
        record {
          bound = t.0;
          enough = omega (arith, t.1, next_ahead j h);
          front = front_more;
          same = more_then (cells_from t.0 d s j) (rw (sym cell, goes_on t.0 h) at t.2);
          is = stored;
          count = omega (arith, left.count, length-append (left.front ++ (at ∷ [])) ((end - at) ∷ []), length-append left.front (at ∷ []));
        }
      where
        goes_on : (n : ℕ) → Next j → on_separator (separator_at d s end) [] (λ a. cells_from n d s a) (λ a. cells_from n d s a) ≡ cells_from n d s j
        goes_on n (inl q) = rw q
        goes_on n (inr q) = rw q

    pub cell_last : after.Neither ≡ separator_at d s end → set (set cells k at) (k + 1) (end - at) ≡ put lent 0 all
    cell_last found =
        let t = cells_turn d s lent cells at k all left l in
        stored ∙ ap (put lent 0) (sym (append-nil front_more) ∙ more_then [] (rw (sym cell, sym found) at t.2))
