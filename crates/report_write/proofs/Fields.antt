-- Bytes are tested to be one name or one value exactly where they are one.
use Prim.Native.Nat.{ℕ, ◌+◌, ◌-◌, ◌≤◌}
use mathlib.Core.Path.{◌≡◌, refl, sym, subst}
use mathlib.Core.Bool.{Bool, true, false, false≢true}
use mathlib.Core.List.{List, [], append-nil}
use native.Mathlib.Omega.{arith}
use borrow.Author.Tests.{eqb-true, eq-eqb, leb-true, le-leb}
use lib.Dec.{eqb, leb}
use lib.ListN.{length, get_or, get_or-eq_default}
use Rattle.laws.proofs.Choose.{and_left, and_right, and_both}
use Rattle.field.specs.Part.{part}
use Rattle.field.proofs.Parts.{part_all}
use Rattle.report.specs.Reading.{field_at, on_field}
use Rattle.std.specs.declared.option.Option.{Option}
use Rattle.std.specs.declared.option.Option.TheVariants.{Some, None}
use Rattle.report.proofs.Fields.{nothing_stops, Field, field_found, field_stands}
use Rattle.report_write.specs.Writing.{is_field, is_cell}

module _ (values : Bool) (x : List ℕ) where
  tested_field : is_field values x ≡ true → Field values x
  unfolding is_field
  tested_field h = go (field_at values x 0) refl h
    where
      go : (f : Option ℕ) → field_at values x 0 ≡ f → on_field f false (λ e. eqb e (length x)) ≡ true → Field values x
      go None q t = absurd (false≢true t)
      go (Some e) q t =
          let all : e ≡ length x = eqb-true e (length x) t in
          let same : part x 0 (e - 0) ≡ x = part_all x (e - 0) (omega arith) in
          subst (Field values) same (field_found values x 0 e q).is

  field_tested : Field values x → is_field values x ≡ true
  unfolding is_field
  field_tested f =
      let z : 0 + length x ≡ length x = omega arith in
      let past : get_or x (0 + length x) 0 ≡ 0 = get_or-eq_default x 0 (omega arith) in
      rw (field_stands values x 0 x [] (sym (append-nil x)) (rw past nothing_stops) f) (eq-eqb (0 + length x) (length x) z)

-- a cell is a part of the source that is one
pub record IsCell (values : Bool) (source : List ℕ) (p n : ℕ) : Type 0 where
  pub inside : p + n ≤ length source
  pub is : Field values (part source p n)

pub tested_cell : (values : Bool) (source : List ℕ) (p n : ℕ) → is_cell values source p n ≡ true → IsCell values source p n
unfolding is_cell
tested_cell values source p n h = record {
  inside = leb-true _ _ (and_left (leb (p + n) (length source)) (is_field values (part source p n)) h);
  is = tested_field values (part source p n) (and_right (leb (p + n) (length source)) (is_field values (part source p n)) h);
}

pub cell_tested : (values : Bool) (source : List ℕ) (p n : ℕ) → IsCell values source p n → is_cell values source p n ≡ true
unfolding is_cell
cell_tested values source p n c = and_both (le-leb _ _ c.inside) (field_tested values (part source p n) c.is)
