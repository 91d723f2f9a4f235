-- `decimal::plain_width` meets its contract. The invariant: no width below the one reached is wide enough.
use Prim.Native.Nat.{◌-◌, ◌^◌, ◌≤◌}
use mathlib.Core.Path.{◌≡◌}
use Rattle.decimal.specs.Digits.{plain_width}
use Rattle.decimal.proofs.plain_width.Given as goal

abbrev pub invariant-loop-power : goal.invariant-loop-power
invariant-loop-power l = (1 ≤ l.width) × (l.width ≤ plain_width l.n) × (l.power ≡ 10 ^ l.width)

abbrev pub decreases-loop-power : goal.decreases-loop-power
decreases-loop-power l = plain_width l.n - l.width
