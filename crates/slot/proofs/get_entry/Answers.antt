use Rattle.slot.specs.Fields.{entry_of}
use Rattle.slot.proofs.get_entry.Goals as goal

pub returns : goal.returns
unfolding entry_of
returns c = cc
