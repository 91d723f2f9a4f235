-- `token::sign_token` meets its contract.
use Rattle.laws.proofs.Choose.{choose}
use Rattle.token.specs.Token.{sign_at}
use Rattle.token.proofs.sign_token.Goals as goal

pub returns-then-byte_at-eq61 : goal.returns-then-byte_at-eq61
unfolding sign_at
returns-then-byte_at-eq61 c = search choose depth 9

pub returns : goal.returns
unfolding sign_at
returns c = search choose depth 9
