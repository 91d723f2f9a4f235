use Rattle.table_layout.specs.Layout.{table_of}
use Rattle.table_layout.proofs.get_table.Goals as goal

pub returns : goal.returns
unfolding table_of
returns c = cc
