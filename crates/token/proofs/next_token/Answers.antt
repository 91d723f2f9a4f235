-- `token::next_token` meets its contract.
use Rattle.laws.proofs.Choose.{choose}
use Rattle.token.specs.Token.{next_token}
use Rattle.token.proofs.next_token.Goals as goal

pub returns : goal.returns
unfolding next_token
returns c = rw (← c.blank_end.ensures.is) (search choose depth 9)
