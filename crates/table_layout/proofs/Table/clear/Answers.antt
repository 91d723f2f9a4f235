use mathlib.Core.Path.{refl}
use native.Mathlib.Omega.{arith}
use lib.ListN.{length, length-set}
use Rattle.table_layout.proofs.Zeros.{clear_more, clear_end}
use Rattle.table_layout.proofs.Table.clear.Goals as goal

pub loop-i-init : goal.loop-i-init
loop-i-init c = (omega arith, refl, refl)

pub loop-i-preserved : goal.loop-i-preserved
loop-i-preserved c = (omega arith, simp length-set (omega arith), clear_more c.loop-i.b c.loop-i.i (omega arith) c.loop-i.invariant.2)

pub returns : goal.returns
returns c = clear_end c.loop-i.b c.loop-i.i (length c.args.b.now) (omega arith) (omega arith) c.loop-i.invariant.2
