use native.Mathlib.Omega.{arith}
use borrow.Author.Rules.{rules}
use Rattle.scan.proofs.Runs.{again, stop, past}
use Rattle.scan.proofs.run_end.Goals as goal

pub returns-then-not-is_of : goal.returns-then-not-is_of
returns-then-not-is_of g c =
    λ p t.
    record {
      is = stop p _ _ (t _ _ (search rules) c.is_of.ensures) c.if-not-is_of.true c.loop-i-test.true (c.loop-i.invariant.0 p t);
      from = omega arith;
      to = omega arith;
    }

pub loop-i-preserved : goal.loop-i-preserved
loop-i-preserved g c = (
  λ p t. again p _ _ (t _ _ (search rules) c.is_of.ensures) c.if-not-is_of.false c.loop-i-test.true (c.loop-i.invariant.0 p t),
  omega arith,
  omega arith,
)

pub returns : goal.returns
returns g c = λ p t. record { is = past p _ _ c.loop-i-test.false (c.loop-i.invariant.0 p t); from = omega arith; to = omega arith }
