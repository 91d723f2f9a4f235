-- `decimal::put_digits` meets its contract. The invariant: what is left to write, written, gives what was to be written.
use mathlib.Core.Path.{◌≡◌}
use Prim.Native.Nat.{◌+◌, ◌-◌, ◌^◌, ◌<◌}
use lib.ListN.{length}
use Rattle.decimal.specs.Digits.{digits}
use Rattle.field.specs.Part.{put}
use Rattle.decimal.proofs.put_digits.Given as goal

abbrev pub invariant-loop-i : goal.invariant-loop-i
invariant-loop-i l =
    (l.rest < 10 ^ (l.width - l.i))
    × (length l.out ≡ length l.initial.out)
    × (put l.out (l.at + l.i) (digits (l.width - l.i) l.rest) ≡ put l.initial.out l.at (digits l.width l.n))
