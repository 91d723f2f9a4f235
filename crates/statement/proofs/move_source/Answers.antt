-- `statement::move_source` meets its contract.
use Rattle.grammar.specs.Grammar.Point.{move_source}
use Rattle.item.proofs.Classes.{by_class}
use Rattle.statement.proofs.Along.{reads}
use Rattle.statement.proofs.move_source.Goals as goal

pub returns-in-Active : goal.returns-in-Active
returns-in-Active c =
    reads (move_source _) _ _ _ _ c.next_item-t.ensures.is
    (rw (← c.transfer_of.ensures) (search by_class depth 9))

pub returns-in-Text : goal.returns-in-Text
returns-in-Text c =
    reads (move_source _) _ _ _ _ c.next_item-t.ensures.is
    (rw (← c.transfer_of-in-Text.ensures) (search by_class depth 9))

pub returns-in-Name : goal.returns-in-Name
returns-in-Name c =
    reads (move_source _) _ _ _ _ c.next_item-t.ensures.is
    (rw (← c.part_of.ensures, ← c.transfer_of-in-Name.ensures) (search by_class depth 9))

pub returns-in_default : goal.returns-in_default
returns-in_default c = reads (move_source _) _ _ _ _ c.next_item-t.ensures.is (search by_class depth 9)
