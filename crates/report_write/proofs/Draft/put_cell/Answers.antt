-- `report_write::Draft::put_cell` meets its contract.
use Rattle.field.proofs.Put.{then, as_bytes}
use Rattle.report_write.proofs.Loops.{handed_on}
use Rattle.report_write.proofs.Draft.put_cell.Goals as goal

pub returns : goal.returns
returns c =
    then (as_bytes c.put_bytes-end.ensures (handed_on _ _ _))
    (rw c.byte.ensures at c.put_separator.ensures)
