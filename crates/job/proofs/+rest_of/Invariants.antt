-- `job::rest_of` meets its contract. Each call of itself is after more statements, and no file has more than the limit.
use Prim.Native.Nat.{◌+◌, ◌-◌}
use Rattle.counts.specs.Limits.{statements}
use Rattle.job.proofs.+rest_of.Given as goal

abbrev pub decreases-rest_of : goal.decreases-rest_of
decreases-rest_of l = statements + 1 - l.k
