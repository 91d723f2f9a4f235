use mathlib.Core.Path.{◌∙◌, sym}
use Rattle.session_table.proofs.Answering.{answer_0, answer_5, answer_7, answer_10, answer_13, named_so}
use Rattle.session_table.proofs.Verdicts.{its_reason, passed_on}
use Rattle.session_table.proofs.may_answer.Goals as goal

pub returns-then-not-is_sound : goal.returns-then-not-is_sound
returns-then-not-is_sound c = answer_13 _ _ _ _ (sym c.is_sound.ensures ∙ c.if-not-is_sound.true)

pub named_in_hand-requires : goal.named_in_hand-requires
named_in_hand-requires c = sym c.is_sound.ensures ∙ c.if-not-is_sound.false

pub returns-in_err-s : goal.returns-in_err-s
returns-in_err-s c =
    let none = c.in_err-s.ensures.ok_part in
    passed_on _ _ c.from_residual.result c.from_residual.ensures (its_reason _ _ _ none c.in_err-s.ensures.value)
    (answer_10 _ _ _ _ (sym c.is_sound.ensures ∙ c.if-not-is_sound.false) (rw none at c.named_in_hand.ensures))

pub returns-then-not-is_real : goal.returns-then-not-is_real
returns-then-not-is_real c =
    let named = rw c.in_ok-s.ensures.ok_part at c.named_in_hand.ensures in
    answer_5 _ _ _ _ (sym c.is_sound.ensures ∙ c.if-not-is_sound.false) (named_so _ _ _ _ named) (sym c.is_real.ensures ∙ c.if-not-is_real.true)

pub returns-then-not-is_outcome : goal.returns-then-not-is_outcome
returns-then-not-is_outcome c =
    let named = rw c.in_ok-s.ensures.ok_part at c.named_in_hand.ensures in
    answer_7 _ _ _ _ (sym c.is_sound.ensures ∙ c.if-not-is_sound.false) (named_so _ _ _ _ named) (sym c.is_real.ensures ∙ c.if-not-is_real.false)
    (sym c.is_outcome.ensures ∙ c.if-not-is_outcome.true)

pub returns : goal.returns
returns c =
    let named = rw c.in_ok-s.ensures.ok_part at c.named_in_hand.ensures in (
      answer_0 _ _ _ _ (sym c.is_sound.ensures ∙ c.if-not-is_sound.false) (named_so _ _ _ _ named) (sym c.is_real.ensures ∙ c.if-not-is_real.false)
          (sym c.is_outcome.ensures ∙ c.if-not-is_outcome.false),
      named,
    )
