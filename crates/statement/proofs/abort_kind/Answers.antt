-- `statement::abort_kind` meets its contract.
use Rattle.grammar.specs.Grammar.Point.{abort_kind}
use Rattle.item.proofs.Classes.{by_class}
use Rattle.statement.proofs.Along.{reads}
use Rattle.statement.proofs.abort_kind.Goals as goal

pub returns-in-Report : goal.returns-in-Report
returns-in-Report c = reads abort_kind _ _ _ _ c.next_item-t.ensures.is (search by_class depth 9)

pub returns-in-Event : goal.returns-in-Event
returns-in-Event c = reads abort_kind _ _ _ _ c.next_item-t.ensures.is (search by_class depth 9)

pub returns-in_default : goal.returns-in_default
returns-in_default c = reads abort_kind _ _ _ _ c.next_item-t.ensures.is (search by_class depth 9)
