use Rattle.slot.proofs.Told.{ready_is}
use Rattle.slot.proofs.Head.is_ready.Goals as goal

pub returns : goal.returns
returns c = λ answer. ready_is _ answer _ _ _ (c.is_closed-closed.ensures answer)
