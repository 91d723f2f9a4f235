use native.Mathlib.Omega.{arith}
use Rattle.field.proofs.Put.{wrote_length}
use Rattle.table_reply.proofs.Records.{next_fits, wrote_none, wrote_more, wrote_all}
use Rattle.table_reply.proofs.write_reply.Goals as goal

pub loop-i-init : goal.loop-i-init
loop-i-init c = wrote_none _ _ _

pub put_answer-at-requires : goal.put_answer-at-requires
put_answer-at-requires c =
    next_fits _ _ _ _ _ _ _ c.get_entry.ensures (omega arith) c.requires.2
    c.requires.3 (omega (arith, c.loop-i.invariant.next))
    (omega (arith, wrote_length c.loop-i.invariant, c.requires.4))

pub loop-i-preserved : goal.loop-i-preserved
loop-i-preserved c = wrote_more _ _ _ _ _ _ c.get_entry.ensures c.loop-i.invariant c.put_answer-at.ensures

pub shape_of-out : goal.shape_of-out
shape_of-out c = wrote_length c.loop-i.invariant

pub returns : goal.returns
returns c = wrote_all _ _ (omega arith) c.loop-i.invariant
