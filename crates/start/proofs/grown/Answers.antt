use native.Mathlib.Omega.{arith}
use Rattle.start.proofs.Growing.{beyond, one_more}
use Rattle.start.proofs.grown.Goals as goal

pub returns-then-r-ge-MANTISSA_LIMIT : goal.returns-then-r-ge-MANTISSA_LIMIT
returns-then-r-ge-MANTISSA_LIMIT c = beyond _ _ _ _ c.loop.invariant.1 c.loop.invariant.0 c.if-r-ge-MANTISSA_LIMIT.true c.loop.invariant.2

pub loop-preserved : goal.loop-preserved
loop-preserved c = (omega arith, one_more _ _ _ c.loop.invariant.1, omega arith)
