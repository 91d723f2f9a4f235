use Rattle.table_sound.proofs.Tests.{new_is}
use Rattle.table_sound.proofs.is_new.Goals as goal

pub returns : goal.returns
returns c = new_is _ _ _ c.contains.ensures.cases
