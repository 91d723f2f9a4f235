-- `month_length` meets its contract: the tests that led to each return pick the case.
use Rattle.laws.proofs.Choose.{choose}
use Rattle.calendar.specs.Calendar.{month_length}
use Rattle.calendar.proofs.month_length.Goals as goal

pub returns-then-month-eq2 : goal.returns-then-month-eq2
unfolding month_length
returns-then-month-eq2 c = search choose depth 9

pub returns-then-month : goal.returns-then-month
unfolding month_length
returns-then-month c = search choose depth 9

pub returns-else-month : goal.returns-else-month
unfolding month_length
returns-else-month c = search choose depth 9
