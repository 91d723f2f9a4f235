use Rattle.slot.specs.Stored.{taken_out}
use Rattle.slot.proofs.get_slot.Goals as goal

pub returns : goal.returns
unfolding taken_out
returns c = cc
