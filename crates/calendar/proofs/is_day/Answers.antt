-- `is_day` meets its contract.
use Rattle.laws.proofs.Choose.{choose}
use Rattle.calendar.proofs.is_day.Goals as goal

pub returns : goal.returns
returns c = search choose depth 9
