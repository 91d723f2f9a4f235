use native.Mathlib.Omega.{arith}
use Rattle.scan.specs.Kinds.{is_text_byte}
use Rattle.scan.proofs.Runs.{pass_none, pass_next, pass_all}
use Rattle.scan.proofs.is_all_text.Goals as goal

pub loop-b-init : goal.loop-b-init
loop-b-init c = pass_none is_text_byte _

pub loop-b-preserved : goal.loop-b-preserved
loop-b-preserved c = pass_next is_text_byte _ _ _ (omega arith) c.loop-b.invariant

pub returns : goal.returns
returns c = pass_all is_text_byte _ _ _ (omega arith) (omega arith) c.loop-b.invariant
