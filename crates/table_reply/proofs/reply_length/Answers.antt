use mathlib.Core.Path.{ap, sym}
use native.Mathlib.Omega.{arith}
use lib.ListN.{length}
use Rattle.table_reply.proofs.Records.{reply_none, length_more, length_all, small}
use Rattle.table_reply.proofs.reply_length.Goals as goal

pub loop-i-init : goal.loop-i-init
loop-i-init c = (omega arith, sym (ap length (reply_none _ _)))

pub overflow_add-total : goal.overflow_add-total
overflow_add-total c = omega (arith, small c.get_entry-outcome.result.outcome c.loop-i.i _ (omega arith) c.record_length-total.ensures)

pub loop-i-preserved : goal.loop-i-preserved
loop-i-preserved c = (
  omega (
    arith,
    small c.get_entry-outcome.result.outcome c.loop-i.i _ (omega arith)
        c.record_length-total.ensures,
  ),
  length_more _ _ _ _ _ _ c.loop-i.invariant.1 (ap (λ x. x.outcome) c.get_entry-outcome.ensures)
      c.record_length-total.ensures,
)

pub returns : goal.returns
returns c = length_all _ _ (omega arith) c.loop-i.invariant.1
