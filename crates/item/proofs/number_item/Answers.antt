-- `item::number_item` meets its contract.
use Rattle.item.proofs.number_item.Goals as goal

pub returns : goal.returns
returns c = rw (← c.dated-class.ensures.0, ← c.dated-class.ensures.1, ← c.number_at-number.ensures) c.item_with.ensures
