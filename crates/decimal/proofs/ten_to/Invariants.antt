-- `decimal::ten_to` meets its contract. The invariant: what was reached is the power at its place.
use Prim.Native.Nat.{◌^◌}
use mathlib.Core.Path.{◌≡◌}
use Rattle.decimal.proofs.ten_to.Given as goal

abbrev pub invariant-loop-i : goal.invariant-loop-i
invariant-loop-i l = l.power ≡ 10 ^ l._i
