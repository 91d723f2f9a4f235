-- A report is written exactly as its rows say: the rows of `write_report`.
use Prim.Native.Nat.{ℕ, ◌≤◌}
use mathlib.Core.Path.{◌≡◌, refl, sym, ◌∙◌}
use mathlib.Core.Bool.{Bool, true, false, true≢false, false≢true, cond}
use mathlib.Core.List.{List}
use native.Mathlib.Omega.{arith}
use borrow.Author.Tests.{le-leb, lt-leb, leb-true, leb-false}
use lib.Dec.{eqb, leb}
use lib.ListN.{length}
use Rattle.counts.specs.Limits.{columns}
use Rattle.counts.specs.Refusals.{out_of_range, not_a_record, too_little_room}
use Rattle.counts.specs.Result.{Result, refused, done}
use Rattle.delimited.specs.Lines.{is_delimiter, fields}
use Rattle.report.specs.Report.{Rows, report_text}
use Rattle.report_write.specs.Writing.{are_lines, text_from, may_write, write_refusal, written}
use Rattle.report_write.proofs.Given as goal
use Rattle.report_write.proofs.Given.{over, goes_on, lines_given, rows_given}
use Rattle.report_write.proofs.Writes.{May, may}
use Rattle.report_claims.specs.Rows.{Given, WriteReportRow, eleven_delimiter, eleven_columns, seven, eight, report_written}

module _ (source cells : List ℕ) (many d : ℕ) where
  -- cells that are the fields of rows are tested to be lines, and their text is the report of the rows
  given_lines : (r : Rows) → Given source cells many r → (are_lines source many false many cells ≡ true) × (text_from d source many many cells ≡ report_text d r)
  given_lines r g =
      rows_given d source many r.names r.values cells (rw (← g.as_many) g.fits.first.some) g.as_many g.fits.first.each
      (rw g.as_many at g.fits.then) g.parts

  -- and the other way
  lines_rows : 1 ≤ many → many ≤ columns → are_lines source many false many cells ≡ true → (r : Rows) × Given source cells many r
  unfolding fields
  lines_rows some few h = go (lines_given d source many false many cells some (omega arith) h)
    where
      go : goal.Rest d source many false many cells → (r : Rows) × Given source cells many r
      go (over v e parts text) = absurd (false≢true v)
      go (goes_on row ls long each after parts text) = (
        record { names = row; values = ls },
        record {
          fits = record { first = record { some = rw long some; few = rw long few; each = each }; then = rw long after };
          as_many = long;
          parts = parts;
        },
      )

  module _ (room : ℕ) where
    -- within its ranges
    written_as : may_write d many ≡ true → written source cells many d room
        ≡ cond (are_lines source many false many cells)
        (cond (leb (length (text_from d source many many cells)) room) (done (text_from d source many many cells)) (refused too_little_room 0))
        (refused not_a_record 0)
    unfolding written write_refusal
    written_as h = rw h (go (are_lines source many false many cells) (leb (length (text_from d source many many cells)) room))
      where
        go : (a b : Bool) → let no = cond a (cond b 0 too_little_room) not_a_record in
            cond (eqb no 0) (done (text_from d source many many cells)) (refused no 0)
            ≡ cond a (cond b (done (text_from d source many many cells)) (refused too_little_room 0)) (refused not_a_record 0)
        go true true = refl
        go true false = refl
        go false b = refl

    out_of_range_lem : may_write d many ≡ false → written source cells many d room ≡ refused out_of_range 0
    unfolding written write_refusal
    out_of_range_lem h = rw h

    in_range_lem : is_delimiter d ≡ true → 1 ≤ many → many ≤ columns → may_write d many ≡ true
    unfolding may_write
    in_range_lem is some few = rw (is, le-leb 1 many some, le-leb many columns few)

    given_range : (r : Rows) → is_delimiter d ≡ true → Given source cells many r → may_write d many ≡ true
    given_range r is g = in_range_lem is (rw (← g.as_many) g.fits.first.some) (rw (← g.as_many) g.fits.first.few)

    no_range : (b : Bool) → may_write d many ≡ b → (may_write d many ≡ true → ⊥) → may_write d many ≡ false
    no_range true e n = absurd (n e)
    no_range false e n = e

    no_lines : (b : Bool) → are_lines source many false many cells ≡ b → (are_lines source many false many cells ≡ true → ⊥)
        → are_lines source many false many cells ≡ false
    no_lines true e n = absurd (n e)
    no_lines false e n = e

    write_row_is : (v : Result (List ℕ)) → WriteReportRow source cells many d room v → written source cells many d room ≡ v
    write_row_is v (eleven_delimiter e) =
        out_of_range_lem (no_range (may_write d many) refl (λ t. true≢false (sym (may d many t).delimiter ∙ e)))
    write_row_is v (eleven_columns is n) = out_of_range_lem (no_range (may_write d many) refl (λ t. let m = may d many t in n m.some m.few))
    write_row_is v (seven is some few none) =
        written_as (in_range_lem is some few)
        ∙ rw (no_lines (are_lines source many false many cells) refl (λ t. let g = lines_rows some few t in none g.0 g.1))
    write_row_is v (eight r is g l) = let k = given_lines r g in written_as (given_range r is g) ∙ rw (k.0, k.1, lt-leb _ room l)
    write_row_is v (report_written r is g l) = let k = given_lines r g in written_as (given_range r is g) ∙ rw (k.0, k.1, le-leb _ room l)

    -- by the tests in their order
    by_room : (r : Rows) → is_delimiter d ≡ true → Given source cells many r → (b : Bool) → leb (length (report_text d r)) room ≡ b
        → WriteReportRow source cells many d room (cond b (done (report_text d r)) (refused too_little_room 0))
    by_room r is g true l = report_written r is g (leb-true _ room l)
    by_room r is g false l = eight r is g (leb-false _ room l)

    by_lines : May d many → (b : Bool) → are_lines source many false many cells ≡ b
        → WriteReportRow source cells many d room
        (cond b (cond (leb (length (text_from d source many many cells)) room) (done (text_from d source many many cells)) (refused too_little_room 0))
        (refused not_a_record 0))
    by_lines m true e =
        let g = lines_rows m.some m.few e in
        rw (given_lines g.0 g.1).1 (by_room g.0 m.delimiter g.1 (leb (length (report_text d g.0)) room) refl)
    by_lines m false e = seven m.delimiter m.some m.few (λ r g. true≢false (sym (given_lines r g).0 ∙ e))

    by_range : (b : Bool) → may_write d many ≡ b → WriteReportRow source cells many d room (written source cells many d room)
    by_range true e = rw (written_as e) (by_lines (may d many e) (are_lines source many false many cells) refl)
    by_range false e = rw (out_of_range_lem e) (by_delimiter (is_delimiter d) refl)
      where
        by_delimiter : (b : Bool) → is_delimiter d ≡ b → WriteReportRow source cells many d room (refused out_of_range 0)
        by_delimiter false q = eleven_delimiter q
        by_delimiter true q = eleven_columns q (λ some few. true≢false (sym (in_range_lem q some few) ∙ e))

    pub write_report_exactly : WriteReportRow source cells many d room (written source cells many d room)
        × ((v : Result (List ℕ)) → WriteReportRow source cells many d room v → written source cells many d room ≡ v)
    write_report_exactly = (by_range (may_write d many) refl, write_row_is)
