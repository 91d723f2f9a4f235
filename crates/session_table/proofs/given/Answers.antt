use Rattle.table_search.proofs.Sounds.{sound_size, waits, waiting_head}
use Rattle.session_table.proofs.Turns.{given_is}
use Rattle.session_table.proofs.given.Goals as goal

pub get_head-head-requires : goal.get_head-head-requires
get_head-head-requires c = (sound_size _ c.requires.0, (waits _ c.requires.0 _ c.requires.1).stands_there.below)

pub lowest-requires : goal.lowest-requires
lowest-requires c = waiting_head _ _ _ (waits _ c.requires.0 _ c.requires.1) c.get_head-head.ensures

pub returns : goal.returns
returns c = given_is _ _ _ (waits _ c.requires.0 _ c.requires.1) c.get_head-head.ensures _ c.lowest.ensures
