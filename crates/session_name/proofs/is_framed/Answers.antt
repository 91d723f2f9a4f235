-- `is_framed` meets its contract: one test in the code, the same test in the word.
use Rattle.session_name.proofs.Says.{names}
use Rattle.session_name.proofs.is_framed.Goals as goal

pub returns : goal.returns
returns c = search names depth 9
