use Rattle.table_layout.specs.Layout.{number}
use Rattle.table_layout.proofs.number_at.Goals as goal

pub returns : goal.returns
unfolding number
returns c = c.get32.ensures
