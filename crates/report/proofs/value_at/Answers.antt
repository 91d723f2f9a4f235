-- `report::value_at` meets its contract.
use borrow.Author.Rules.{rules}
use mathlib.Core.Path.{◌∙◌}
use Rattle.report.proofs.Stood.{no_value_there, a_string, a_signed, an_unsigned}
use Rattle.report.proofs.value_at.Goals as goal

pub returns-in_err-get : goal.returns-in_err-get
returns-in_err-get c = c.from_residual.ensures ∙ no_value_there _ _ c.in_err-get.ensures.lookup.3

pub returns-in-34 : goal.returns-in-34
returns-in-34 c = a_string _ _ _ (c.in_ok-get.ensures.lookup.3.1 0) c.in-34.is c.string_at.ensures

pub returns-in-45 : goal.returns-in-45
returns-in-45 c = a_signed _ _ _ (c.in_ok-get.ensures.lookup.3.1 0) c.in-45.is c.figures_at.ensures

pub returns-in_default : goal.returns-in_default
returns-in_default c = an_unsigned _ _ _ (c.in_ok-get.ensures.lookup.3.1 0) (search rules) (search rules) c.figures_at-in_default.ensures
