-- `decimal::digits_at` meets its contract. The invariant: reading what is left, from acc on, gives the answer.
use mathlib.Core.Path.{◌≡◌}
use Prim.Native.Nat.{◌^◌, ◌<◌}
use lib.ListN.{drop}
use Rattle.field.specs.Part.{part}
use Rattle.decimal.specs.Read.{digits_read}
use Rattle.decimal.proofs.ReadLaws.{read_from}
use Rattle.decimal.proofs.digits_at.Given as goal

abbrev pub invariant-loop-b : goal.invariant-loop-b
invariant-loop-b l = (l.acc < 10 ^ l.b-index) × (read_from l.acc (drop l.b-index (part l.s l.at l.width)) ≡ digits_read l.width (part l.s l.at l.width))
