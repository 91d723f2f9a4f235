-- `statement::start_date` meets its contract.
use Rattle.grammar.specs.Grammar.Point.{start_date}
use Rattle.statement.proofs.Along.{reads, along}
use Rattle.statement.proofs.start_date.Goals as goal

pub returns-in-Date : goal.returns-in-Date
returns-in-Date c = reads start_date _ _ _ _ c.next_item-t.ensures.is (rw (← c.transferred.ensures) (search along depth 9))

pub returns-in-Semicolon : goal.returns-in-Semicolon
returns-in-Semicolon c =
    reads start_date _ _ _ _ c.next_item-t.ensures.is
    (rw (← c.transferred-in-Semicolon.ensures) (search along depth 9))

pub returns-in-UnrealDate : goal.returns-in-UnrealDate
returns-in-UnrealDate c = reads start_date _ _ _ _ c.next_item-t.ensures.is (search along depth 9)

pub returns-in_default : goal.returns-in_default
returns-in_default c = reads start_date _ _ _ _ c.next_item-t.ensures.is (search along depth 9)
