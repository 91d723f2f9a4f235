-- `token::shaped_token` meets its contract.
use Rattle.laws.proofs.Choose.{choose}
use Rattle.token.specs.Token.{shaped_at}
use Rattle.token.proofs.shaped_token.Goals as goal

pub returns-then-is_time : goal.returns-then-is_time
unfolding shaped_at
returns-then-is_time c = rw (← c.numeric_end-end.ensures.is) (search choose depth 9)

pub returns-then-is_number : goal.returns-then-is_number
unfolding shaped_at
returns-then-is_number c = rw (← c.numeric_end-end.ensures.is) (search choose depth 9)

pub returns : goal.returns
unfolding shaped_at
returns c = rw (← c.numeric_end-end.ensures.is) (search choose depth 9)
