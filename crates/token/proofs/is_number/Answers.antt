-- `token::is_number` meets its contract.
use Rattle.laws.proofs.Choose.{choose}
use Rattle.token.specs.Token.{is_number_at}
use Rattle.token.proofs.is_number.Goals as goal

pub returns-then-m-e : goal.returns-then-m-e
unfolding is_number_at
returns-then-m-e c = search choose depth 9

pub returns : goal.returns
unfolding is_number_at
returns c = rw (← c.digits_end-m.ensures.is) (search choose depth 9)
