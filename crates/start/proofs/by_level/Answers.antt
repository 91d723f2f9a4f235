-- `start::by_level` meets its contract.
use Rattle.start.proofs.Levels.{equal_by_order, not_equal_by_order, at_most_by_order}
use Rattle.start.proofs.by_level.Goals as goal

pub returns-in-Equal : goal.returns-in-Equal
returns-in-Equal c = rw c.in-Equal.is (equal_by_order c.args.v c.args.k)

pub returns-in-NotEqual : goal.returns-in-NotEqual
returns-in-NotEqual c = rw c.in-NotEqual.is (not_equal_by_order c.args.v c.args.k)

pub returns-in-Above : goal.returns-in-Above
returns-in-Above c = rw c.in-Above.is

pub returns-in-Below : goal.returns-in-Below
returns-in-Below c = rw c.in-Below.is

pub returns-in-AtLeast : goal.returns-in-AtLeast
returns-in-AtLeast c = rw c.in-AtLeast.is (at_most_by_order c.args.k c.args.v)

pub returns-in-AtMost : goal.returns-in-AtMost
returns-in-AtMost c = rw c.in-AtMost.is (at_most_by_order c.args.v c.args.k)
