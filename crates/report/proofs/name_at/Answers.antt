-- `report::name_at` meets its contract.
use mathlib.Core.Path.{◌∙◌, ap}
use Rattle.scan.specs.Kinds.{is_letter}
use Rattle.report.proofs.Stood.{no_letter, no_word, a_word, nothing_there}
use Rattle.report.proofs.name_at.Goals as goal

pub returns-in_err-get : goal.returns-in_err-get
returns-in_err-get c = c.from_residual.ensures ∙ nothing_there _ _ c.in_err-get.ensures.lookup.3

pub returns-then-not-is_letter : goal.returns-then-not-is_letter
returns-then-not-is_letter c =
    no_letter _ _ (c.is_letter.ensures ∙ ap is_letter (c.in_ok-get.ensures.lookup.3.1 0)) c.if-not-is_letter.true

pub returns-in_err-word : goal.returns-in_err-word
returns-in_err-word c =
    c.from_residual-in_err-word.ensures
    ∙ no_word _ _ (c.is_letter.ensures ∙ ap is_letter (c.in_ok-get.ensures.lookup.3.1 0)) c.if-not-is_letter.false c.in_err-word.ensures

pub returns : goal.returns
returns c =
    a_word _ _ (c.is_letter.ensures ∙ ap is_letter (c.in_ok-get.ensures.lookup.3.1 0)) _ _ c.if-not-is_letter.false c.in_ok-word.ensures
    c.is_name.ensures c.then_some.ensures
