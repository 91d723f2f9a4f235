-- `statement::start_time` meets its contract.
use Rattle.grammar.specs.Grammar.Point.{start_time}
use Rattle.item.proofs.Classes.{by_class}
use Rattle.statement.proofs.Along.{reads}
use Rattle.statement.proofs.start_time.Goals as goal

pub returns-in-Time : goal.returns-in-Time
returns-in-Time c = reads start_time _ _ _ _ c.next_item-t.ensures.is (search by_class depth 9)

pub returns-in-UnrealTime : goal.returns-in-UnrealTime
returns-in-UnrealTime c = reads start_time _ _ _ _ c.next_item-t.ensures.is (search by_class depth 9)

pub returns-in_default : goal.returns-in_default
returns-in_default c = reads start_time _ _ _ _ c.next_item-t.ensures.is (search by_class depth 9)
