-- `report_write::is_field` meets its contract.
use Rattle.report_write.proofs.Loops.{is_one}
use Rattle.report_write.proofs.is_field.Goals as goal

pub returns : goal.returns
returns c = is_one _ _ _ c.end_at.ensures c.eq.ensures
