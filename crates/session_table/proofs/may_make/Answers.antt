use mathlib.Core.Path.{◌∙◌, sym}
use Rattle.session_table.proofs.Making.{make_0, make_11, make_13}
use Rattle.session_table.proofs.may_make.Goals as goal

pub returns-then-not-is_max : goal.returns-then-not-is_max
returns-then-not-is_max c = make_11 _ _ (sym c.is_max.ensures ∙ c.if-not-is_max.true)

pub returns-then-b-ne-SIZE : goal.returns-then-b-ne-SIZE
returns-then-b-ne-SIZE c = make_13 _ _ (sym c.is_max.ensures ∙ c.if-not-is_max.false) c.if-b-ne-SIZE.true

pub returns : goal.returns
returns c = make_0 _ _ (sym c.is_max.ensures ∙ c.if-not-is_max.false) c.if-b-ne-SIZE.false
