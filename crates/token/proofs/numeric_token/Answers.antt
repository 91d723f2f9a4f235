-- `token::numeric_token` meets its contract.
use Rattle.laws.proofs.Choose.{choose}
use Rattle.token.specs.Token.{numeric_at}
use Rattle.token.proofs.numeric_token.Goals as goal

pub returns-then-digit_at : goal.returns-then-digit_at
unfolding numeric_at
returns-then-digit_at c = search choose depth 9

pub returns-then-s-i-eq45 : goal.returns-then-s-i-eq45
unfolding numeric_at
returns-then-s-i-eq45 c = search choose depth 9

pub returns : goal.returns
unfolding numeric_at
returns c = search choose depth 9
