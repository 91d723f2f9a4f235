-- The laws of the loops over cells: what one turn does. The cells from k on are left; a loop ends where fewer than two numbers are.
use Prim.Native.Nat.{ℕ, suc, ◌+◌, ◌-◌, ◌≤◌, ◌<◌}
use mathlib.Core.Path.{◌≡◌, refl, sym, ◌∙◌, ap}
use mathlib.Core.Bool.{Bool, true, false, true≢false, cond, ◌&&◌, ◌||◌}
use mathlib.Core.List.{List, [], ◌∷◌, ◌++◌, append_assoc, append-nil}
use native.Mathlib.Omega.{arith}
use borrow.Author.Tests.{eq-eqb, ne_eqb, eqb-false, le-leb, lt-leb, leb-true}
use lib.Dec.{eqb, leb}
use lib.ListN.{length, get_or, take, drop, length-append}
use Rattle.laws.proofs.Choose.{and_left, and_right}
use Rattle.field.specs.Part.{part, Wrote}
use Rattle.field.proofs.Parts.{length_part_in}
use Rattle.field.proofs.Put.{then, as_bytes, put_nil, wrote_length}
use Rattle.delimited.specs.Lines.{separator}
use Rattle.report.specs.Reading.{is_value, field_at, on_field}
use Rattle.report.specs.declared.Field.{Field}
use Rattle.report.specs.declared.Field.TheVariants.{Name, Value}
use Rattle.report.specs.contracts.Field.{the_type}
use denote.Enum.Bare.{sameb}
use Rattle.std.proofs.lemmas.List.{take_all}
use Rattle.std.specs.Option.{option_eq}
use Rattle.std.specs.declared.option.Option.{Option}
use Rattle.std.specs.declared.option.Option.TheVariants.{Some, None}
use Rattle.report_write.specs.Writing.{is_field, is_cell, left_after, are_lines, text_from}
use Rattle.report_write.proofs.Fields.{tested_cell}

-- ---- one field, as code tests it

pub is_one : (values : Bool) (x : List ℕ) (r : Option ℕ) → r ≡ field_at values x 0 → {t : Bool} → t ≡ option_eq eqb r (Some (length x))
    → t ≡ is_field values x
unfolding is_field
is_one values x r field h = h ∙ rw (← field) (go r)
  where
    go : (r : Option ℕ) → option_eq eqb r (Some (length x)) ≡ on_field r false (λ e. eqb e (length x))
    go (Some e) = refl
    go None = refl

-- the part of a slice that code hands on
pub handed_on : (source : List ℕ) (p n : ℕ) → take (p + n - p) (drop p source) ≡ part source p n
unfolding part
handed_on source p n = let w : p + n - p ≡ n = omega arith in rw w

module _ (values : Bool) (source : List ℕ) (p n : ℕ) where
  pub cell_inside : (r : Bool) → p ≤ length source → n ≤ length source - p → r ≡ is_field values (take (p + n - p) (drop p source))
      → r ≡ is_cell values source p n
  unfolding is_cell
  cell_inside r h l q = rw (le-leb (p + n) (length source) (omega arith)) (q ∙ ap (is_field values) (handed_on source p n))

  pub cell_long : p ≤ length source → length source - p < n → false ≡ is_cell values source p n
  unfolding is_cell
  cell_long h l = rw (lt-leb (p + n) (length source) (omega arith))

  pub cell_past : length source < p → false ≡ is_cell values source p n
  unfolding is_cell
  cell_past h = rw (lt-leb (p + n) (length source) (omega arith))

-- ---- the loops: `rest` are the cells that are left, of which p and n are the first

pub two : (rest : List ℕ) → 2 ≤ length rest → rest ≡ get_or rest 0 0 ∷ (get_or rest 1 0 ∷ take (length rest - 2) (drop 2 rest))
two [] h = absurd (omega arith)
two (p ∷ []) h = absurd (omega arith)
two (p ∷ (n ∷ cells)) h = ap (λ (l : List ℕ). p ∷ (n ∷ l)) (sym (take_all (suc (suc (length cells)) - 2) cells (omega arith)))

pub left_some : (many left : ℕ) → 1 ≤ many → 1 ≤ left → 1 ≤ left_after many left
left_some many left some h = go (eqb left 1) refl
  where
    go : (b : Bool) → eqb left 1 ≡ b → 1 ≤ cond b many (left - 1)
    go true e = some
    go false e = let n = eqb-false left 1 e in omega arith

module _ (source : List ℕ) (many : ℕ) (values : Bool) (left : ℕ) (rest : List ℕ) where
  -- whether the cells are lines, from here as from the start
  module _ {e : Bool} (inv : are_lines source many values left rest ≡ e) where
    module _ (p n : ℕ) (after : List ℕ) (is : rest ≡ p ∷ (n ∷ after)) where
      turn : (is_cell values source p n && are_lines source many (values || eqb left 1) (left_after many left) after) ≡ e
      unfolding are_lines
      turn = rw is at inv

      pub cell_yes : is_cell values source p n ≡ true → are_lines source many (values || eqb left 1) (left_after many left) after ≡ e
      cell_yes t = rw t at turn

      pub cell_no : is_cell values source p n ≡ false → false ≡ e
      cell_no t = rw t at turn

    pub no_cell : length rest < 2 → (eqb (length rest) 0 && values && eqb left many) ≡ e
    unfolding are_lines
    no_cell h = go rest h inv
      where
        go : (rest : List ℕ) → length rest < 2 → are_lines source many values left rest ≡ e → (eqb (length rest) 0 && values && eqb left many) ≡ e
        go [] h i = i
        go (p ∷ []) h i = i
        go (p ∷ (n ∷ cells)) h i = absurd (omega arith)

-- values follow where a line ends
pub values_follow : (g : Field) (left : ℕ) {f : Field} → left ≡ 1 → f ≡ Value → is_value f ≡ (is_value g || eqb left 1)
values_follow Name left one e = rw (e, eq-eqb left 1 one)
values_follow Value left one e = rw e

pub same_follows : (g : Field) (left : ℕ) {f : Field} → (left ≡ 1 → ⊥) → f ≡ g → is_value f ≡ (is_value g || eqb left 1)
same_follows Name left more e = rw (e, ne_eqb left 1 more)
same_follows Value left more e = rw e

pub is_the_value : (f : Field) → sameb the_type f Value ≡ is_value f
is_the_value Name = refl
is_the_value Value = refl

-- ---- the text of the cells

pub text_over : (d : ℕ) (source : List ℕ) (many left : ℕ) (rest : List ℕ) → length rest < 2 → text_from d source many left rest ≡ []
unfolding text_from
text_over d source many left [] h = refl
text_over d source many left (p ∷ []) h = refl
text_over d source many left (p ∷ (n ∷ cells)) h = absurd (omega arith)

separator_length : (d : ℕ) (b : Bool) → length (separator d b) ≡ cond b 2 1
separator_length d true = refl
separator_length d false = refl

-- ---- the cells that are left are lines

pub record Lines (source : List ℕ) (many left : ℕ) (rest : List ℕ) : Type 0 where
  pub values : Bool
  pub lines : are_lines source many values left rest ≡ true
  pub some : 1 ≤ left

pub lines_start : (source cells : List ℕ) (many : ℕ) → 1 ≤ many → are_lines source many false many cells ≡ true → Lines source many many cells
lines_start source cells many some h = record { values = false; lines = h; some = some }

module _ (source : List ℕ) (many left : ℕ) (rest : List ℕ) (some : 1 ≤ many) (here : Lines source many left rest) (p n : ℕ) (after : List ℕ)
    (is : rest ≡ p ∷ (n ∷ after)) where
  both : (is_cell here.values source p n && are_lines source many (here.values || eqb left 1) (left_after many left) after) ≡ true
  both = turn source many here.values left rest here.lines p n after is

  pub inside_source : p + n ≤ length source
  inside_source =
      (tested_cell here.values source p n
      (and_left (is_cell here.values source p n) (are_lines source many (here.values || eqb left 1) (left_after many left) after) both)).inside

  pub lines_next : (next : ℕ) → next ≡ left_after many left → Lines source many next after
  lines_next next e = record {
    values = here.values || eqb left 1;
    lines = rw e (and_right (is_cell here.values source p n) (are_lines source many (here.values || eqb left 1) (left_after many left) after) both);
    some = rw e (left_some many left some here.some);
  }

  -- what one cell takes
  pub length_turn : (d : ℕ) → length (text_from d source many left rest)
      ≡ n + cond (eqb left 1) 2 1 + length (text_from d source many (left_after many left) after)
  unfolding text_from
  length_turn d =
      let x = part source p n in
      let more = text_from d source many (left_after many left) after in
      ap (λ (l : List ℕ). length (text_from d source many left l)) is
      ∙ omega (
        arith,
        length-append (x ++ separator d (eqb left 1)) more,
        length-append x (separator d (eqb left 1)),
        length_part_in source p n inside_source,
        separator_length d (eqb left 1),
      )

-- ---- the room that is left

same_test : (a b c d : ℕ) → (a ≤ b → c ≤ d) → (c ≤ d → a ≤ b) → leb a b ≡ leb c d
same_test a b c d f g = go (leb a b) refl
  where
    go : (t : Bool) → leb a b ≡ t → leb a b ≡ leb c d
    go true e = e ∙ sym (le-leb c d (f (leb-true a b e)))
    go false e = e ∙ sym (not_less (leb c d) refl)
      where
        not_less : (u : Bool) → leb c d ≡ u → leb c d ≡ false
        not_less true q = absurd (true≢false (sym (le-leb a b (g (leb-true c d q))) ∙ e))
        not_less false q = q

pub record Room (source : List ℕ) (many d left : ℕ) (rest : List ℕ) (free : ℕ) (e : Bool) : Type 0 where
  pub here : Lines source many left rest
  pub same : leb (length (text_from d source many left rest)) free ≡ e

module _ (source : List ℕ) (many d left : ℕ) (rest : List ℕ) (free : ℕ) (e : Bool) (room : Room source many d left rest free e) where
  pub room_over : length rest < 2 → true ≡ e
  room_over h = sym (le-leb _ free (rw (text_over d source many left rest h) (omega arith))) ∙ room.same

  module _ (some : 1 ≤ many) (p n : ℕ) (after : List ℕ) (is : rest ≡ p ∷ (n ∷ after)) (width : ℕ) (wide : width ≡ cond (eqb left 1) 2 1) where
    -- what a cell takes is a number of this machine
    pub taken_fits : n + width ≤ length source + 2
    taken_fits = rw wide (go (eqb left 1))
      where
        go : (b : Bool) → n + cond b 2 1 ≤ length source + 2
        go true = omega (arith, inside_source source many left rest some room.here p n after is)
        go false = omega (arith, inside_source source many left rest some room.here p n after is)

    long : length (text_from d source many left rest) ≡ n + width + length (text_from d source many (left_after many left) after)
    long = rw wide (length_turn source many left rest some room.here p n after is d)

    pub no_room : free < n + width → false ≡ e
    no_room l = sym (lt-leb _ free (omega (arith, long))) ∙ room.same

    pub room_next : (next : ℕ) → next ≡ left_after many left → n + width ≤ free → Room source many d next after (free - (n + width)) e
    room_next next q l = record {
      here = lines_next source many left rest some room.here p n after is next q;
      same = rw q
          (same_test (length (text_from d source many (left_after many left) after)) (free - (n + width)) (length (text_from d source many left rest)) free
          (λ x. omega (arith, long)) (λ x. omega (arith, long)) ∙ room.same);
    }

-- ---- the text that is written

pub record Written (source : List ℕ) (many d left : ℕ) (rest all lent out : List ℕ) (at : ℕ) : Type 0 where
  pub here : Lines source many left rest
  pub front : List ℕ
  pub wrote : Wrote lent 0 front out at
  pub same : front ++ text_from d source many left rest ≡ all

pub written_start : (source cells : List ℕ) (many d : ℕ) (lent : List ℕ) → 1 ≤ many → are_lines source many false many cells ≡ true
    → Written source many d many cells (text_from d source many many cells) lent lent 0
written_start source cells many d lent some h =
    record { here = lines_start source cells many some h; front = []; wrote = record { next = refl; bytes = sym (put_nil lent 0) }; same = refl }

module _ (source : List ℕ) (many d left : ℕ) (rest all lent out : List ℕ) (at : ℕ) (w : Written source many d left rest all lent out at) where
  pub written_over : length rest < 2 → Wrote lent 0 all out at
  written_over h =
      as_bytes w.wrote (sym (append-nil w.front) ∙ ap (λ (l : List ℕ). w.front ++ l) (sym (text_over d source many left rest h)) ∙ w.same)

  module _ (some : 1 ≤ many) (p n : ℕ) (after : List ℕ) (is : rest ≡ p ∷ (n ∷ after)) where
    abbrev bytes : List ℕ
    bytes = part source p n ++ separator d (eqb left 1)

    text_turn : text_from d source many left rest ≡ bytes ++ text_from d source many (left_after many left) after
    unfolding text_from
    text_turn = ap (text_from d source many left) is

    pub cell_fits : length all ≤ length lent → (p + n ≤ length source) × (at + (n + length (separator d (eqb left 1))) ≤ length out)
    cell_fits room =
        let inside = inside_source source many left rest some w.here p n after is in
        let x = part source p n in
        let more = text_from d source many (left_after many left) after in (
          inside,
          omega (
            arith,
            w.wrote.next,
            wrote_length w.wrote,
            ap length w.same,
            ap length text_turn,
            length-append w.front (text_from d source many left rest),
            length-append (x ++ separator d (eqb left 1)) more,
            length-append x (separator d (eqb left 1)),
            length_part_in source p n inside,
          ),
        )

    pub written_next : (next to : ℕ) (exit : List ℕ) → next ≡ left_after many left → Wrote out at bytes exit to
        → Written source many d next after all lent exit to
    written_next next to exit q one_more = record {
      here = lines_next source many left rest some w.here p n after is next q;
      front = w.front ++ bytes;
      wrote = then w.wrote one_more;
      same = rw q (append_assoc w.front bytes (text_from d source many (left_after many left) after) ∙ ap (λ (l : List ℕ). w.front ++ l) (sym text_turn) ∙ w.same);
    }
