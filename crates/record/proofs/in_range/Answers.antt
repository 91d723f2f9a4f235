-- `record::in_range` meets its contract.
use Rattle.laws.proofs.Choose.{choose}
use Rattle.record.specs.Record.{is_text, in_range}
use Rattle.record.proofs.in_range.Goals as goal

pub returns : goal.returns
unfolding in_range is_text
returns c = search choose depth 9
