use native.Mathlib.Omega.{arith}
use mathlib.Core.Path.{ap}
use Rattle.slot.specs.Stored.{kind_of}
use Rattle.slot.specs.Stored.{taken_out}
use borrow.Author.Rules.{rules}
use Rattle.slot.proofs.answer_slot.Goals as goal

pub store_answer-requires : goal.store_answer-requires
unfolding taken_out
store_answer-requires c = omega (arith, ap (λ x. x.head.answered) c.get_slot-slot.ensures)

pub put_slot-requires : goal.put_slot-requires
unfolding taken_out
put_slot-requires c =
    let n = ap (λ x. x.head.answered) c.store_answer.ensures in
    let m = ap (λ x. x.head.answered) c.get_slot-slot.ensures in
    let k = ap (λ x. kind_of x.entry.outcome) c.store_answer.ensures in
    (search rules, search rules, omega arith, omega arith, omega arith)

pub returns : goal.returns
returns c = cc
