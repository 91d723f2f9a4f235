-- `job::block_of` meets its contract.
use Prim.Native.Nat.{◌+◌, ◌≤◌}
use mathlib.Core.Path.{◌≡◌}
use lib.ListN.{length, take}
use Rattle.counts.specs.Limits.{statements}
use Rattle.job.specs.Loop.{after, rest_of}
use Rattle.job.proofs.block_of.Given as goal

abbrev pub invariant-loop-count : goal.invariant-loop-count
invariant-loop-count l =
    (after (take l.count l.places) (rest_of l.clause l.file (l.k + l.count) l.next) ≡ rest_of l.clause l.file l.k l.at)
    × (l.k + l.count ≤ statements)
    × (length l.places ≡ 16)
