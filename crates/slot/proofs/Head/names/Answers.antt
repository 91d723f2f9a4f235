use Rattle.slot.proofs.Told.{names_is}
use Rattle.slot.proofs.Head.names.Goals as goal

pub returns : goal.returns
returns c = λ answer. names_is _ answer c.requires.0 _ _ _ (c.lowest-low.ensures answer)
