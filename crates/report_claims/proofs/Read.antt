-- A report is read exactly as its rows say: the rows of `read_report`, and that a text is the report of one list of rows.
use Prim.Native.Nat.{ℕ}
use mathlib.Core.Path.{◌≡◌, refl, sym, ◌∙◌}
use mathlib.Core.Bool.{Bool, true, false, cond}
use mathlib.Core.List.{List}
use mathlib.Core.Logic.{◌↔◌}
use native.Mathlib.Omega.{arith}
use borrow.Author.Tests.{le-leb, lt-leb, leb-true, leb-false}
use lib.Dec.{leb}
use lib.ListN.{length}
use Rattle.counts.specs.Refusals.{not_a_record, too_little_room}
use Rattle.counts.specs.Result.{Result, refused, done}
use Rattle.counts.proofs.Results.{refused_not_done}
use Rattle.delimited.specs.Lines.{is_delimiter}
use Rattle.report.specs.Report.{Rows, Report, Breaks, Told, told}
use Rattle.report.specs.Reading.{read_report}
use Rattle.std.specs.declared.result.Result.{Result as Returned}
use Rattle.report.proofs.Reports.{Judgement, taken, broken, judged_so, judged_only}
use Rattle.report.proofs.Cells.{report_cells, report_sized}
use Rattle.report_claims.specs.Rows.{ReadReportRow, eleven, seven, eight, report_read}

module _ (d : ℕ) (s : List ℕ) (room : ℕ) where
  -- what is told of a report, where there is room for it
  told_of : is_delimiter d ≡ true → (r : Rows) → Report d r s
      → read_report d s room ≡ cond (leb (length (told d r).cells) room) (done (told d r)) (refused too_little_room 0)
  unfolding read_report
  told_of is r h =
      let e = judged_only d is s _ (taken r h) in
      rw (is, e, report_cells d is s r h, report_sized d is s r h)

  broken_at : is_delimiter d ≡ true → (p : ℕ) → Breaks d s p → read_report d s room ≡ refused not_a_record p
  unfolding read_report
  broken_at is p h = rw (is, judged_only d is s _ (broken h))

  read_row_is : (v : Result Told) → ReadReportRow d s room v → read_report d s room ≡ v
  unfolding read_report
  read_row_is v (eleven e) = rw e
  read_row_is v (seven {p = p} is h) = broken_at is p h
  read_row_is v (eight r is h l) = told_of is r h ∙ rw (lt-leb _ room l)
  read_row_is v (report_read r is h l) = told_of is r h ∙ rw (le-leb _ room l)

  read_rows : (t : Bool) → is_delimiter d ≡ t → ReadReportRow d s room (read_report d s room)
  unfolding read_report
  read_rows false e = rw e (eleven e)
  read_rows true e = go (judged_so d e s)
    where
      go : {x : Returned (ℕ × ℕ) ℕ} → Judgement d e s x → ReadReportRow d s room (read_report d s room)
      go (broken {p = p} h) = rw (broken_at e p h) (seven e h)
      go (taken r h) = rw (told_of e r h) (by_room (leb (length (told d r).cells) room) refl)
        where
          by_room : (b : Bool) → leb (length (told d r).cells) room ≡ b → ReadReportRow d s room (cond b (done (told d r)) (refused too_little_room 0))
          by_room true l = report_read r e h (leb-true _ _ l)
          by_room false l = eight r e h (leb-false _ _ l)

  pub read_report_exactly : ReadReportRow d s room (read_report d s room) × ((v : Result Told) → ReadReportRow d s room v → read_report d s room ≡ v)
  read_report_exactly = (read_rows (is_delimiter d) refl, read_row_is)

  -- the place of 7 is the start of the first line that does not fit
  pub break_exactly : (p : ℕ) → read_report d s room ≡ refused not_a_record p ↔ ((is_delimiter d ≡ true) × Breaks d s p)
  break_exactly p = (λ e. to read_report_exactly.0 e, λ h. broken_at h.0 p h.1)
    where
      number : {n m q r : ℕ} → ◌≡◌ {A = Result Told} (refused n q) (refused m r) → n ≡ m
      number e = cc

      to : {v : Result Told} → ReadReportRow d s room v → v ≡ refused not_a_record p → (is_delimiter d ≡ true) × Breaks d s p
      to (eleven e) q = absurd (omega (arith, number q))
      to (seven {p = k} is h) q = let same : k ≡ p = cc in (is, rw same at h)
      to (eight r is h l) q = absurd (omega (arith, number q))
      to (report_read r is h l) q = absurd (refused_not_done (sym q))
