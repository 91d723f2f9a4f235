-- `moment::is_at_or_after` meets its contract.
use Rattle.laws.proofs.Choose.{choose}
use Rattle.moment.specs.Moment.{at_or_after}
use Rattle.moment.proofs.is_at_or_after.Goals as goal

pub returns-then-date-from_date : goal.returns-then-date-from_date
unfolding at_or_after
returns-then-date-from_date c = search choose depth 9

pub returns : goal.returns
unfolding at_or_after
returns c = search choose depth 9
