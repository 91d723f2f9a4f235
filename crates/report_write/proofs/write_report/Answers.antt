-- `report_write::write_report` meets its contract.
use mathlib.Core.Path.{sym, ◌∙◌}
use Rattle.counts.proofs.Results.{number_not_0, refused_plainly}
use Rattle.report_write.proofs.Writes.{no_delimiter, no_column, many_columns, range_refused, not_refused, wrote_report, refused_report}
use Rattle.report_write.proofs.write_report.Goals.{then-columns-lt1-via-then-columns-lt1, then-columns-lt1-via-else-columns-lt1+then-columns-gt-COLUMNS}
use Rattle.report_write.proofs.write_report.Goals as goal

pub returns-in_err-delimiter : goal.returns-in_err-delimiter
returns-in_err-delimiter c =
    let a = c.args in
    let e = c.in_err-delimiter.ensures in
    rw (refused_plainly (λ n. n) c.from_residual.result c.in_err-delimiter.field-0.0 c.from_residual.ensures, e.1)
    (range_refused a.source.now a.cells.now a.columns a.delimiter a.out.now (no_delimiter a.delimiter a.columns e.0))

pub returns-then-columns-lt1 : goal.returns-then-columns-lt1
returns-then-columns-lt1 c =
    let a = c.args in
    rw c.into.ensures
    (range_refused a.source.now a.cells.now a.columns a.delimiter a.out.now
    (elim c.then-columns-lt1.branch [
      | then-columns-lt1-via-then-columns-lt1 w ↦ no_column a.delimiter a.columns w.if-columns-lt1.true
      | then-columns-lt1-via-else-columns-lt1+then-columns-gt-COLUMNS w ↦ many_columns a.delimiter a.columns w.if-columns-gt-COLUMNS.true
    ]))

pub returns-in_err-check : goal.returns-in_err-check
returns-in_err-check c =
    let a = c.args in
    let reason = c.in_err-check.field-0.0 in
    let no = rw c.in_ok-delimiter.ensures at c.in_err-check.ensures in
    rw (refused_plainly (λ n. n) c.from_residual-in_err-check.result reason c.from_residual-in_err-check.ensures, no)
    (refused_report a.source.now a.cells.now a.columns a.delimiter a.out.now (λ e. number_not_0 reason (no ∙ e)))

pub put_cells-requires : goal.put_cells-requires
put_cells-requires c =
    let p = not_refused c.args.source.now c.args.cells.now c.args.columns _ _ (sym c.in_ok-check.ensures) in (p.lines, p.fits)

pub returns : goal.returns
returns c =
    let a = c.args in
    rw c.in_ok-delimiter.ensures at (wrote_report a.source.now a.cells.now a.columns _ (sym c.in_ok-check.ensures) c.put_cells.ensures)
