-- `report_write::Draft::has_room` meets its contract.
use lib.Dec.{leb}
use lib.ListN.{length}
use Rattle.delimited.specs.Separators.{byte_of}
use Rattle.report_write.specs.Writing.{text_from}
use Rattle.report_write.proofs.Loops.{Room}
use Rattle.report_write.proofs.Draft.has_room.Given as goal

abbrev pub invariant-loop-rest : goal.invariant-loop-rest
invariant-loop-rest l =
    Room l.self.source.now l.self.columns (byte_of l.self.delimiter) l.left l.rest l.free
    (leb (length (text_from (byte_of l.self.delimiter) l.self.source.now l.self.columns l.self.columns l.self.cells.now)) l.room)

abbrev pub decreases-loop-rest : goal.decreases-loop-rest
decreases-loop-rest l = length l.rest
