-- `statement::start_value` meets its contract.
use Rattle.statement.proofs.Values.{values}
use Rattle.grammar.specs.Grammar.Point.{start_value}
use Rattle.statement.proofs.Along.{reads}
use Rattle.statement.proofs.start_value.Goals as goal

pub returns-then-is_number : goal.returns-then-is_number
returns-then-is_number c =
    reads start_value _ _ _ _ c.next_item-t.ensures.is
    (rw (← c.start_when-start.ensures, ← c.transferred.ensures) (search values depth 9))

pub returns-in-Text : goal.returns-in-Text
returns-in-Text c =
    reads start_value _ _ _ _ c.next_item-t.ensures.is
    (rw (← c.start_when-start-in-Text.ensures, ← c.transferred-in-Text.ensures) (search values depth 9))

pub returns-in_default : goal.returns-in_default
returns-in_default c = reads start_value _ _ _ _ c.next_item-t.ensures.is (search values depth 9)
