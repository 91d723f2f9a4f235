use Rattle.slot.proofs.Told.{closed_is}
use Rattle.slot.proofs.Head.is_closed.Goals as goal

pub returns : goal.returns
returns c = closed_is _
