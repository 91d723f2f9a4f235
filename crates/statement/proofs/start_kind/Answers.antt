-- `statement::start_kind` meets its contract.
use Rattle.grammar.specs.Grammar.Point.{start_kind}
use Rattle.item.proofs.Classes.{by_class}
use Rattle.statement.proofs.Along.{reads}
use Rattle.statement.proofs.start_kind.Goals as goal

pub returns-in-Immediate : goal.returns-in-Immediate
returns-in-Immediate c = reads start_kind _ _ _ _ c.next_item-t.ensures.is (rw (← c.transferred.ensures) (search by_class depth 9))

pub returns-in-TimeGe : goal.returns-in-TimeGe
returns-in-TimeGe c = reads start_kind _ _ _ _ c.next_item-t.ensures.is (search by_class depth 9)

pub returns-in-Name : goal.returns-in-Name
returns-in-Name c =
    reads start_kind _ _ _ _ c.next_item-t.ensures.is
    (rw (← c.part_of.ensures) (search by_class depth 9))

pub returns-in_default : goal.returns-in_default
returns-in_default c = reads start_kind _ _ _ _ c.next_item-t.ensures.is (search by_class depth 9)
