-- `token::is_text` meets its contract.
use lib.ListN.{get_or-eq_default}
use borrow.Author.Tests.{eq-eqb, ne_eqb}
use Rattle.laws.proofs.Choose.{choose}
use Rattle.token.specs.Token.{is_text_at}
use Rattle.token.proofs.is_text.Goals as goal

pub returns-then-s-i-eq34 : goal.returns-then-s-i-eq34
unfolding is_text_at
returns-then-s-i-eq34 c = rw (← c.text_end-end.ensures.is, eq-eqb _ _ c.if-s-i-eq34.true) (search choose depth 9)

pub returns-else-s-i-eq34 : goal.returns-else-s-i-eq34
unfolding is_text_at
returns-else-s-i-eq34 c = rw (ne_eqb _ _ c.if-s-i-eq34.false)

pub returns-else-i-s : goal.returns-else-i-s
unfolding is_text_at
returns-else-i-s c = rw (get_or-eq_default c.args.s.now 0 c.if-i-s.false)
