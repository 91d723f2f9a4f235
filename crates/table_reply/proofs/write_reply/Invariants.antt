use Rattle.field.specs.Part.{Wrote}
use Rattle.table_reply.specs.Reply.{reply_of}
use Rattle.table_reply.proofs.write_reply.Given as goal

abbrev pub invariant-loop-i : goal.invariant-loop-i
invariant-loop-i l = Wrote l.initial.out 0 (reply_of l.b l.s.0 l.i) l.out l.at
