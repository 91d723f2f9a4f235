-- `start::value_permitted` meets its contract.
use Rattle.laws.proofs.Choose.{choose}
use Rattle.record.specs.Record.{is_text}
use Rattle.start.proofs.value_permitted.Goals as goal

pub returns-in-Number : goal.returns-in-Number
returns-in-Number c = rw c.in-Number.is c.is_permitted.ensures

pub returns-in-Text : goal.returns-in-Text
unfolding is_text
returns-in-Text c = rw c.in-Text.is (search choose depth 9)
