-- `statement::move_start` meets its contract.
use mathlib.Core.Path.{◌≡◌, ◌∙◌}
use Rattle.grammar.specs.declared.StartClause.{StartClause}
use Rattle.grammar.specs.declared.StartClause.TheVariants.{Required, Optional}
use Rattle.grammar.specs.Grammar.{Point}
use Rattle.grammar.specs.Grammar.Point.{move_start}
use Rattle.item.specs.declared.Class.TheVariants.{Start, Semicolon}
use Rattle.item.specs.declared.Item.{Item}
use Rattle.item.proofs.Classes.{by_class}
use Rattle.statement.specs.Statement.{StatementRead, Held, on_item, unexpected_at, read_from}
use Rattle.statement.specs.declared.Transfer.{Transfer}
use Rattle.statement.proofs.Along.{reads, along}
use Rattle.statement.proofs.move_start.Goals as goal

pub returns-in-Start : goal.returns-in-Start
returns-in-Start c = reads (move_start _) _ _ _ _ c.next_item-t.ensures.is (search along depth 9)

pub returns-in-Required : goal.returns-in-Required
returns-in-Required c =
    rw c.in-Required.is
    (reads (move_start _) _ _ _ _ c.next_item-t.ensures.is (search along depth 9))

pub returns-in-Optional : goal.returns-in-Optional
returns-in-Optional c =
    rw c.in-Optional.is
    (reads (move_start _) _ _ _ _ c.next_item-t.ensures.is
    (rw (← c.transferred.ensures) (search along depth 9)))

-- no start clause, and no ; where it may be missing
neither : (clause : StartClause) (m : Transfer) (t : Item) (k : (p : Point) → Held p → StatementRead) → (t.class ≡ Start → ⊥) → (t.class ≡ Semicolon → ⊥)
    → unexpected_at t ≡ on_item (move_start clause) m t k
neither Required m t k p q = search by_class depth 9
neither Optional m t k p q = search by_class depth 9

pub returns-in_default : goal.returns-in_default
returns-in_default c =
    reads (move_start _) _ _ _ _ c.next_item-t.ensures.is
    (c.unexpected-in_default.ensures
    ∙ neither c.args.clause c.args.m c.next_item-t.result (λ p k. read_from c.args.base c.args.s.now p k c.next_item-t.result.next)
    c.in_default.not-Start c.in_default.not-Semicolon)
