-- `field::put_bytes` meets its contract. The invariant: what is left of src, written, gives what was to be written.
use mathlib.Core.Path.{◌≡◌}
use Prim.Native.Nat.{◌+◌, ◌≤◌}
use lib.ListN.{length, drop}
use Rattle.field.specs.Part.{put}
use Rattle.field.proofs.put_bytes.Given as goal

abbrev pub invariant-loop-j : goal.invariant-loop-j
invariant-loop-j l = (l.j ≤ length l.src) × (length l.out ≡ length l.initial.out) × (put l.out (l.at + l.j) (drop l.j l.src) ≡ put l.initial.out l.at l.src)
