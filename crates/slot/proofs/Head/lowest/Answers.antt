use Rattle.slot.proofs.Told.{lowest_is}
use Rattle.slot.proofs.Head.lowest.Goals as goal

pub returns : goal.returns
returns c = λ answer. lowest_is _ answer c.requires.0
