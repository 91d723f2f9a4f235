-- `kind_read` meets its contract: the comparison that led to each return picks the case.
use Rattle.session_name.proofs.Says.{names}
use Rattle.session_name.specs.Name.{kind_read}
use Rattle.session_name.proofs.kind_read.Goals as goal

pub returns-then-has_at : goal.returns-then-has_at
unfolding kind_read
returns-then-has_at c = search names depth 9

pub returns-then-has_at-2 : goal.returns-then-has_at-2
unfolding kind_read
returns-then-has_at-2 c = search names depth 9

pub returns : goal.returns
unfolding kind_read
returns c = rw c.into.ensures (search names depth 9)
