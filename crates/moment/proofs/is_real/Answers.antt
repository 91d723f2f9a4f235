-- `moment::is_real` meets its contract.
use mathlib.Core.Path.{sym, ◌∙◌}
use Rattle.moment.specs.Moment.{real_moment}
use Rattle.moment.proofs.is_real.Goals as goal

pub returns-then-is_real_date : goal.returns-then-is_real_date
unfolding real_moment
returns-then-is_real_date c = rw (sym c.is_real_date.ensures ∙ c.if-is_real_date.true) c.is_real_time.ensures

pub returns : goal.returns
unfolding real_moment
returns c = rw (sym c.is_real_date.ensures ∙ c.if-is_real_date.false)
