use Rattle.table_sound.proofs.Slots.{head_is}
use Rattle.table_sound.proofs.head_is_sound.Goals as goal

pub returns : goal.returns
returns c = head_is _ _ _ _ c.requires
