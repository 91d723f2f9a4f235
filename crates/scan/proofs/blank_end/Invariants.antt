-- `scan::blank_end` meets its contract.
use Prim.Native.Nat.{◌-◌, ◌≤◌, max}
use mathlib.Core.Path.{◌≡◌}
use mathlib.Core.Bool.{false}
use lib.ListN.{length}
use Rattle.scan.specs.Run.{blank_end}
use Rattle.scan.proofs.blank_end.Given as goal

abbrev pub invariant-loop-i : goal.invariant-loop-i
invariant-loop-i l = (blank_end false l.s l.i ≡ blank_end false l.s l.at) × (l.at ≤ l.i) × (l.i ≤ max l.at (length l.s))

abbrev pub decreases-loop-i : goal.decreases-loop-i
decreases-loop-i l = length l.s - l.i
