use Rattle.slot.proofs.Told.{waiting_is}
use Rattle.slot.proofs.Head.is_waiting.Goals as goal

pub returns : goal.returns
returns c = waiting_is _
