use mathlib.Core.Path.{sym, ◌∙◌}
use Rattle.sessions.specs.Sound.{in_range_and_real}
use Rattle.table_sound.proofs.in_range_and_real.Goals as goal

pub returns-then-is_real : goal.returns-then-is_real
unfolding in_range_and_real
returns-then-is_real c = rw (sym c.is_real.ensures ∙ c.if-is_real.true) c.is_outcome.ensures

pub returns-else-is_real : goal.returns-else-is_real
unfolding in_range_and_real
returns-else-is_real c = rw (sym c.is_real.ensures ∙ c.if-is_real.false) c.if-is_real.false
