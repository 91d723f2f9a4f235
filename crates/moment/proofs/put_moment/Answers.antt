-- `moment::put_moment` meets its contract.
use native.Mathlib.Omega.{arith}
use Rattle.moment.proofs.Moments.{real_lt, wrote_moment}
use borrow.Author.Rules.{rules}
use Rattle.moment.proofs.put_moment.Goals as goal

pub put_after-after_date-requires : goal.put_after-after_date-requires
put_after-after_date-requires c = (omega arith, (real_lt _ _ c.requires.0).0, omega arith)

pub put_time-requires : goal.put_time-requires
put_time-requires c = ((real_lt _ _ c.requires.0).1, search rules)

pub returns : goal.returns
returns c = search wrote_moment
