-- `labelled::put_after` meets its contract.
use Rattle.labelled.proofs.Fields.{wrote_after}
use Rattle.labelled.proofs.put_after.Goals as goal

pub returns : goal.returns
returns c = search wrote_after
