use Rattle.table_layout.specs.Layout.{put_table, put_row}
use Rattle.table_layout.proofs.put_table.Goals as goal

pub returns : goal.returns
unfolding put_table put_row
returns c = cc
