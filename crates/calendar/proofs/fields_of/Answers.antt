-- `calendar::fields_of` meets its contract: of the ten thousands and of the hundreds at most one is not counted.
use Rattle.calendar.proofs.Laws.{in_fields}
use Rattle.calendar.proofs.fields_of.Goals as goal

pub returns : goal.returns
returns c = in_fields _ _ _ _ _ c.split_by-above.ensures c.split_by-below.ensures
