-- `report::File::lines_from` meets its contract.
use Prim.Native.Nat.{suc, ◌-◌}
use lib.ListN.{length}
use Rattle.delimited.specs.Separators.{byte_of}
use Rattle.report.specs.Reading.{lines_from}
use Rattle.report.proofs.Loops.{LinesLeft}
use Rattle.report.proofs.File.lines_from.Given as goal

abbrev pub invariant-loop-at : goal.invariant-loop-at
invariant-loop-at l = LinesLeft (byte_of l.self.delimiter) l.self.bytes.now l.columns l.at l.k (lines_from (suc (length l.self.bytes.now)) (byte_of l.self.delimiter) l.self.bytes.now l.columns l.i 0)

abbrev pub decreases-loop-at : goal.decreases-loop-at
decreases-loop-at l = length l.self.bytes.now - l.at
