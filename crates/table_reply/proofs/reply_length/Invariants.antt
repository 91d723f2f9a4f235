use Prim.Native.Nat.{◌*◌, ◌≤◌}
use mathlib.Core.Path.{◌≡◌}
use lib.ListN.{length}
use Rattle.table_reply.specs.Reply.{reply_of}
use Rattle.table_reply.proofs.reply_length.Given as goal

abbrev pub invariant-loop-i : goal.invariant-loop-i
invariant-loop-i l = (l.total ≤ 58 * l.i) × (l.total ≡ length (reply_of l.b l.s.0 l.i))
