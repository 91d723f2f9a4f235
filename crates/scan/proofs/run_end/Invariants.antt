-- `scan::run_end` meets its contract: by every test that the bytes' test is, the run's end from i is the run's end from at.
use Prim.Native.Nat.{ℕ, ◌-◌, ◌≤◌, max}
use mathlib.Core.Path.{◌≡◌}
use mathlib.Core.Bool.{Bool}
use lib.ListN.{length}
use Rattle.scan.specs.Run.{run_end, Tests}
use Rattle.scan.proofs.run_end.Given as goal

abbrev pub invariant-loop-i : goal.invariant-loop-i
invariant-loop-i g l =
    ((p : ℕ → Bool) → Tests (goal.F-post g) l.is_of p → run_end p l.s l.i ≡ run_end p l.s l.at)
    × (l.at ≤ l.i)
    × (l.i ≤ max l.at (length l.s))

abbrev pub decreases-loop-i : goal.decreases-loop-i
decreases-loop-i g l = length l.s - l.i
