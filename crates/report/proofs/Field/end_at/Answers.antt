-- `report::Field::end_at` meets its contract.
use Rattle.report.specs.Reading.{field_at}
use Rattle.report.proofs.Field.end_at.Goals as goal

pub returns-in-Name : goal.returns-in-Name
unfolding field_at
returns-in-Name c = rw c.in-Name.is c.name_at.ensures

pub returns-in-Value : goal.returns-in-Value
unfolding field_at
returns-in-Value c = rw c.in-Value.is c.value_at.ensures
