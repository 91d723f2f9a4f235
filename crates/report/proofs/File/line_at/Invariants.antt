-- `report::File::line_at` meets its contract.
use Prim.Native.Nat.{◌-◌}
use lib.ListN.{length}
use Rattle.delimited.specs.Separators.{byte_of}
use Rattle.report.specs.Reading.{is_value, line_at}
use Rattle.report.proofs.Loops.{FieldsLeft}
use Rattle.report.proofs.File.line_at.Given as goal

abbrev pub invariant-loop-at : goal.invariant-loop-at
invariant-loop-at l = FieldsLeft (is_value l.field) (byte_of l.self.delimiter) l.self.bytes.now l.at l.k (line_at (is_value l.field) (byte_of l.self.delimiter) l.self.bytes.now l.i)

abbrev pub decreases-loop-at : goal.decreases-loop-at
decreases-loop-at l = length l.self.bytes.now - l.at
