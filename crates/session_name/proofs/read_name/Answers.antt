-- `read_name` meets its contract: its callees read the parts of the name in the order of the word.
use Rattle.session_name.proofs.Says.{names}
use Rattle.session_name.specs.Name.{name_read}
use Rattle.session_name.proofs.read_name.Goals as goal

pub returns-then-is_framed : goal.returns-then-is_framed
unfolding name_read
returns-then-is_framed c = search names depth 9

pub returns-else-is_framed : goal.returns-else-is_framed
unfolding name_read
returns-else-is_framed c = rw c.into.ensures (search names depth 9)
