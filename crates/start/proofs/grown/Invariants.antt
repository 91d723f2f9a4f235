-- `start::grown` meets its contract.
use Prim.Native.Nat.{◌*◌, ◌^◌, ◌≤◌, ◌<◌}
use mathlib.Core.Path.{◌≡◌}
use Rattle.start.specs.Decision.{mantissa_limit}
use Rattle.start.proofs.grown.Given as goal

abbrev pub invariant-loop : goal.invariant-loop
invariant-loop l = (l.counter ≤ l.by) × (l.r ≡ l.m * 10 ^ l.counter) × (l.r < 10 * mantissa_limit)
