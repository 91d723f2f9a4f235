-- `start::all_real` meets its contract.
use Rattle.laws.proofs.Choose.{choose}
use Rattle.start.specs.Decision.{all_real}
use Rattle.start.proofs.all_real.Goals as goal

pub returns : goal.returns
unfolding all_real
returns c = search choose depth 9
