-- `report_write::Draft::put_cells` meets its contract.
use lib.ListN.{length}
use Rattle.delimited.specs.Separators.{byte_of}
use Rattle.report_write.specs.Writing.{text_from}
use Rattle.report_write.proofs.Loops.{Written}
use Rattle.report_write.proofs.Draft.put_cells.Given as goal

abbrev pub invariant-loop-rest : goal.invariant-loop-rest
invariant-loop-rest l =
    Written l.self.source.now l.self.columns (byte_of l.self.delimiter) l.left l.rest
    (text_from (byte_of l.self.delimiter) l.self.source.now l.self.columns l.self.columns l.self.cells.now) l.initial.out l.out l.at

abbrev pub decreases-loop-rest : goal.decreases-loop-rest
decreases-loop-rest l = length l.rest
