-- `job::step_of` meets its contract.
use native.Mathlib.Omega.{arith}
use Rattle.item.proofs.Classes.{by_class}
use Rattle.statement.proofs.Passed.{handed_on}
use Rattle.job.proofs.Steps.{later, at_none, at_token}
use Rattle.job.proofs.step_of.Goals as goal

pub returns-in-End : goal.returns-in-End
returns-in-End c = rw (← later c.args.clause c.args.file.now c.args.t c.args.k (omega arith)) (search by_class depth 9)

pub returns-in-NoToken : goal.returns-in-NoToken
returns-in-NoToken c =
    rw (c.refused.ensures, c.refusal_reason.ensures) (at_none c.args.clause c.args.file.now c.args.t c.args.k c.in-NoToken.field-0 c.in-NoToken.is)

pub returns-then-k : goal.returns-then-k
returns-then-k c =
    rw (← at_token c.args.clause c.args.file.now c.args.t c.args.k (omega arith) c.in_default.not-End c.in_default.not-NoToken) (search by_class depth 9)

pub returns-in-Job : goal.returns-in-Job
returns-in-Job c =
    rw (← at_token c.args.clause c.args.file.now c.args.t c.args.k (omega arith) c.in_default.not-End c.in_default.not-NoToken) (search by_class depth 9)

pub returns-in_err-next-in_default-class : goal.returns-in_err-next-in_default-class
returns-in_err-next-in_default-class c =
    let no = c.in_err-next-in_default-class.field-0.0 in
    rw (
      handed_on (λ n. n) c.from_residual.result no c.from_residual.ensures,
      ← at_token c.args.clause c.args.file.now c.args.t c.args.k (omega arith) c.in_default.not-End c.in_default.not-NoToken,
      ← c.in_err-next-in_default-class.ensures,
    )
    (search by_class depth 9)

pub returns-in_ok-next-in_default-class : goal.returns-in_ok-next-in_default-class
returns-in_ok-next-in_default-class c =
    rw (
      ← at_token c.args.clause c.args.file.now c.args.t c.args.k (omega arith) c.in_default.not-End c.in_default.not-NoToken,
      ← c.in_ok-next-in_default-class.ensures,
    )
    (search by_class depth 9)
