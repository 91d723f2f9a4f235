-- `token::pair_at` meets its contract.
use Rattle.laws.proofs.Choose.{choose}
use Rattle.token.proofs.pair_at.Goals as goal

pub returns : goal.returns
returns c = search choose depth 9
