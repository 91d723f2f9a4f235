-- `report_write::Draft::are_lines` meets its contract.
use Prim.Native.Nat.{◌≤◌}
use mathlib.Core.Path.{◌≡◌}
use mathlib.Core.Bool.{false}
use lib.ListN.{length}
use Rattle.report.specs.Reading.{is_value}
use Rattle.report_write.specs.Writing.{are_lines}
use Rattle.report_write.proofs.Draft.are_lines.Given as goal

abbrev pub invariant-loop-rest : goal.invariant-loop-rest
invariant-loop-rest l =
    (are_lines l.self.source.now l.self.columns (is_value l.field) l.left l.rest ≡ are_lines l.self.source.now l.self.columns false l.self.columns l.self.cells.now)
    × (1 ≤ l.left)

abbrev pub decreases-loop-rest : goal.decreases-loop-rest
decreases-loop-rest l = length l.rest
