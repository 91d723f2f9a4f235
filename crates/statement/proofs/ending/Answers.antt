-- `statement::ending` meets its contract.
use Rattle.grammar.specs.Grammar.Point.{ending}
use Rattle.statement.proofs.Along.{reads, along}
use Rattle.statement.proofs.ending.Goals as goal

pub returns-in-Semicolon : goal.returns-in-Semicolon
returns-in-Semicolon c = reads ending _ _ _ _ c.next_item-t.ensures.is (search along depth 9)

pub returns-in_default : goal.returns-in_default
returns-in_default c = reads ending _ _ _ _ c.next_item-t.ensures.is (search along depth 9)
