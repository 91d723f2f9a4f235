-- `report_write::is_cell` meets its contract.
use mathlib.Core.Path.{sym, ◌∙◌}
use native.Mathlib.Omega.{arith}
use borrow.Author.Tests.{leb-true, leb-false}
use Rattle.report_write.proofs.Loops.{cell_inside, cell_long, cell_past}
use Rattle.report_write.proofs.is_cell.Goals.{then-p-source, else-p-source}
use Rattle.report_write.proofs.is_cell.Goals as goal

pub returns-then-n-source : goal.returns-then-n-source
returns-then-n-source c =
    elim c.if-p-source.branch [
      | then-p-source w ↦
          cell_inside _ _ _ _ _ w.if-p-source.true (leb-true _ _ (sym w.value-is ∙ c.if-n-source.true)) c.is_field.ensures
      | else-p-source w ↦ absurd (omega (arith, leb-true _ _ (sym w.value-is ∙ c.if-n-source.true)))
    ]

pub returns-else-n-source : goal.returns-else-n-source
returns-else-n-source c =
    elim c.if-p-source.branch [
      | then-p-source w ↦ c.if-n-source.false ∙ cell_long _ _ _ _ w.if-p-source.true (leb-false _ _ (sym w.value-is ∙ c.if-n-source.false))
      | else-p-source w ↦ c.if-n-source.false ∙ cell_past _ _ _ _ w.if-p-source.false
    ]
