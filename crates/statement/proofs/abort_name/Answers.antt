-- `statement::abort_name` meets its contract.
use Rattle.grammar.specs.Grammar.Point.{abort_name}
use Rattle.item.proofs.Classes.{by_class}
use Rattle.statement.proofs.Along.{reads}
use Rattle.statement.proofs.abort_name.Goals as goal

pub returns-in-Name : goal.returns-in-Name
returns-in-Name c = reads abort_name _ _ _ _ c.next_item-t.ensures.is (rw (← c.part_of.ensures) (search by_class depth 9))

pub returns-in_default : goal.returns-in_default
returns-in_default c = reads abort_name _ _ _ _ c.next_item-t.ensures.is (search by_class depth 9)
