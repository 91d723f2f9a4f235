use Rattle.slot.specs.Fields.{head_of}
use Rattle.slot.proofs.get_head.Goals as goal

pub returns : goal.returns
unfolding head_of
returns c = cc
