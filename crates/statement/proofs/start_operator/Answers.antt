-- `statement::start_operator` meets its contract.
use Rattle.grammar.specs.Grammar.Point.{start_operator}
use Rattle.item.proofs.Classes.{by_class}
use Rattle.statement.proofs.Along.{reads}
use Rattle.statement.proofs.start_operator.Goals as goal

pub returns-in-Operator : goal.returns-in-Operator
returns-in-Operator c = reads start_operator _ _ _ _ c.next_item-t.ensures.is (search by_class depth 9)

pub returns-in_default : goal.returns-in_default
returns-in_default c = reads start_operator _ _ _ _ c.next_item-t.ensures.is (search by_class depth 9)
