use Rattle.table_layout.specs.Layout.{put_number}
use Rattle.table_layout.proofs.put_number.Goals as goal

pub returns : goal.returns
unfolding put_number
returns c = cc
