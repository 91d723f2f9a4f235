-- `job::text_at` meets its contract.
use Rattle.token.proofs.Ahead.{text_inside}
use Rattle.token.specs.Token.{content_at}
use native.Mathlib.Omega.{arith}
use mathlib.Core.Path.{sym, ◌∙◌}
use Rattle.job.proofs.text_at.Goals as goal

pub overflow_add-start : goal.overflow_add-start
overflow_add-start c = omega (arith, text_inside _ _ (sym c.is_text.ensures ∙ c.if-is_text.true))

pub slice_bounds-result-end : goal.slice_bounds-result-end
slice_bounds-result-end c = omega (arith, text_inside _ _ (sym c.is_text.ensures ∙ c.if-is_text.true), c.text_end-end.ensures.to)

pub returns-then-is_text : goal.returns-then-is_text
unfolding content_at
returns-then-is_text c = rw (sym c.is_text.ensures ∙ c.if-is_text.true, ← c.text_end-end.ensures.is)

pub returns : goal.returns
unfolding content_at
returns c = rw (sym c.is_text.ensures ∙ c.if-is_text.false)
