use Rattle.slot.proofs.Told.{open_is}
use Rattle.slot.proofs.Head.is_open.Goals as goal

pub returns : goal.returns
returns c = open_is _
