-- `number::magnitude` meets its contract.
use Prim.Native.Nat.{◌^◌, ◌<◌}
use mathlib.Core.Path.{◌≡◌}
use lib.ListN.{drop}
use Rattle.decimal.specs.Digits.{value}
use Rattle.number.specs.Number.{digits_of}
use Rattle.number.proofs.Digits.{read_on}
use Rattle.number.proofs.magnitude.Given as goal

abbrev pub invariant-loop-b : goal.invariant-loop-b
invariant-loop-b l = (l.m < 10 ^ l.b-index) × (read_on l.m (drop l.b-index l.bytes) ≡ value (digits_of l.bytes))
