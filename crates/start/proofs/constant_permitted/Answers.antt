-- `start::constant_permitted` meets its contract.
use Rattle.start.proofs.constant_permitted.Goals as goal

pub returns-in-Number : goal.returns-in-Number
returns-in-Number c = rw c.in-Number.is c.is_permitted.ensures

pub returns-in-Text : goal.returns-in-Text
returns-in-Text c = rw c.in-Text.is c.is_text.ensures
