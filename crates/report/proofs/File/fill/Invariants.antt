-- `report::File::fill` meets its contract.
use Prim.Native.Nat.{◌-◌}
use lib.ListN.{length}
use Rattle.delimited.specs.Separators.{byte_of}
use Rattle.report.specs.Reading.{cells_from}
use Rattle.report.proofs.Loops.{CellsLeft}
use Rattle.report.proofs.File.fill.Given as goal

abbrev pub invariant-loop-at : goal.invariant-loop-at
invariant-loop-at l = CellsLeft (byte_of l.self.delimiter) l.self.bytes.now l.initial.cells l.cells l.at l.k (cells_from (length l.self.bytes.now) (byte_of l.self.delimiter) l.self.bytes.now 0)

abbrev pub decreases-loop-at : goal.decreases-loop-at
decreases-loop-at l = length l.self.bytes.now - l.at
