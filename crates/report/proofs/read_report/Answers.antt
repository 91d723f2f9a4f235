-- `report::read_report` meets its contract.
use mathlib.Core.Path.{refl, sym}
use native.Mathlib.Omega.{arith}
use Rattle.delimited.proofs.Lines.{one_of_four}
use Rattle.counts.specs.Refusals.{too_little_room}
use Rattle.counts.specs.Result.{refused}
use Rattle.counts.proofs.Results.{refused_plainly}
use Rattle.report.proofs.Cells.{whole_small}
use Rattle.report.proofs.Answers.{no_delimiter, breaks_there, has_room, little_room, both}
use Rattle.report.proofs.read_report.Goals as goal

pub returns-in_err-try_from : goal.returns-in_err-try_from
returns-in_err-try_from c =
    let e = c.in_err-try_from.ensures in
    both _ c.args.file.now c.args.cells.now _ _ _ (no_delimiter _ c.args.file.now _ e.0)
    (rw (refused_plainly (λ size. size) c.from_residual.result c.in_err-try_from.field-0.0 c.from_residual.ensures, e.1)) refl

pub overflow_add-lines : goal.overflow_add-lines
overflow_add-lines c = omega (arith, whole_small _ (one_of_four c.in_ok-try_from.field-0) _ _ _ (sym c.in-Ok.ensures))

pub overflow_mul-columns : goal.overflow_mul-columns
overflow_mul-columns c = omega (arith, whole_small _ (one_of_four c.in_ok-try_from.field-0) _ _ _ (sym c.in-Ok.ensures))

pub overflow_mul-columns-in-Ok : goal.overflow_mul-columns-in-Ok
overflow_mul-columns-in-Ok c = omega (arith, whole_small _ (one_of_four c.in_ok-try_from.field-0) _ _ _ (sym c.in-Ok.ensures))

pub returns-then-cells-columns : goal.returns-then-cells-columns
returns-then-cells-columns c =
    rw c.into.ensures
    (rw c.in_ok-try_from.ensures at (both _ c.args.file.now c.args.cells.now _ (refused too_little_room 0) _
    (little_room _ c.args.file.now _ (one_of_four c.in_ok-try_from.field-0) _ _ c.in-Ok.ensures c.if-cells-columns.true) refl refl))

pub fill-requires : goal.fill-requires
fill-requires c = let h = whole_small _ (one_of_four c.in_ok-try_from.field-0) _ _ _ (sym c.in-Ok.ensures) in omega (arith, h.cells)

pub returns-else-cells-columns : goal.returns-else-cells-columns
returns-else-cells-columns c =
    rw c.in_ok-try_from.ensures at (both _ c.args.file.now c.args.cells.now _ _ _ (has_room _ c.args.file.now _ (one_of_four c.in_ok-try_from.field-0) _ _ c.in-Ok.ensures c.if-cells-columns.false)
    refl c.fill.ensures)

pub returns-in-Err : goal.returns-in-Err
returns-in-Err c =
    rw c.in_ok-try_from.ensures at (both _ c.args.file.now c.args.cells.now _ _ _ (breaks_there _ c.args.file.now _ (one_of_four c.in_ok-try_from.field-0) _ c.in-Err.ensures)
    refl refl)
