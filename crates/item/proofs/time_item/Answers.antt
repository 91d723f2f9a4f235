-- `item::time_item` meets its contract.
use Rattle.item.proofs.Classes.{timed}
use mathlib.Core.Path.{sym, ◌∙◌}
use Rattle.item.proofs.time_item.Goals as goal
use Rattle.item.proofs.time_item.Goals.{then-is_real_time, else-is_real_time}

pub returns : goal.returns
returns c =
    let e = timed _ _ _ _ _ c.two_at.ensures.0 c.two_at-2.ensures.0 c.two_at-3.ensures.0 in
    elim c.if-is_real_time.branch [
      | then-is_real_time w ↦ rw (← e, sym c.is_real_time.ensures ∙ w.if-is_real_time.true) (rw w.class-is at c.item_of.ensures)
      | else-is_real_time w ↦ rw (← e, sym c.is_real_time.ensures ∙ w.if-is_real_time.false) (rw w.class-is at c.item_of.ensures)
    ]
