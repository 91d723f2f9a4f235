use Rattle.slot.specs.Stored.{put_slot}
use Rattle.slot.proofs.put_slot.Goals as goal

pub returns : goal.returns
unfolding put_slot
returns c = cc
