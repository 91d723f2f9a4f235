-- `start::may_compare` meets its contract.
use Rattle.item.specs.Tokens.{paper_operator}
use Rattle.start.proofs.Steps.{not_permitted, not_comparable_lem, no_refusal}
use Rattle.start.proofs.may_compare.Goals as goal

pub returns-then-is_comparable : goal.returns-then-is_comparable
returns-then-is_comparable c =
    let a = c.args in
    no_refusal _ (paper_operator a.o) a.constant a.value _ _ _ c.constant_permitted.ensures c.value_permitted.ensures c.if-constant_permitted-value_permitted.true _ c.is_comparable.ensures c.if-is_comparable.true

pub returns-then-constant_permitted-value_permitted : goal.returns-then-constant_permitted-value_permitted
returns-then-constant_permitted-value_permitted c =
    let a = c.args in
    not_comparable_lem _ (paper_operator a.o) a.constant a.value _ _ _ c.constant_permitted.ensures c.value_permitted.ensures c.if-constant_permitted-value_permitted.true _ c.is_comparable.ensures c.if-is_comparable.false

pub returns : goal.returns
returns c =
    let a = c.args in
    not_permitted _ (paper_operator a.o) a.constant a.value _ _ _ c.constant_permitted.ensures c.value_permitted.ensures c.if-constant_permitted-value_permitted.false
