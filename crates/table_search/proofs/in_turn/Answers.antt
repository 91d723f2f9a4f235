use Rattle.laws.proofs.Choose.{choose}
use borrow.Author.Rules.{rules}
use Rattle.table_search.proofs.in_turn.Goals as goal

pub returns-then-s-t : goal.returns-then-s-t
returns-then-s-t c = (search choose depth 9, search rules)

pub returns-else-s-t : goal.returns-else-s-t
returns-else-s-t c = (search choose depth 9, search rules)
