-- `report::string_at` meets its contract.
use Rattle.report.proofs.Stood.{string_stood}
use Rattle.report.proofs.string_at.Goals as goal

pub returns : goal.returns
returns c = string_stood _ _ _ _ c.requires.1 c.text_end-end.ensures.is c.byte_at.ensures c.then_some.ensures
