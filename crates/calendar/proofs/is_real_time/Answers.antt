-- `is_real_time` meets its contract: below 24 hours the minute and the second decide.
use Prim.Native.Nat.{◌/◌}
use mathlib.Core.Path.{ap₂, ◌∙◌}
use mathlib.Core.Bool.{◌&&◌}
use native.Mathlib.Nat.{div-one}
use native.Mathlib.Omega.{arith}
use borrow.Author.Tests.{lt-leb}
use Rattle.calendar.specs.Calendar.{real_time}
use Rattle.calendar.proofs.Laws.{time_is}
use Rattle.calendar.proofs.is_real_time.Goals as goal

pub returns-then-n-lt240000 : goal.returns-then-n-lt240000
returns-then-n-lt240000 c = ap₂ ◌&&◌ c.two_within.ensures (simp div-one at c.two_within-then-n-lt240000.ensures) ∙ time_is _ c.if-n-lt240000.true

pub returns : goal.returns
unfolding real_time
returns c = rw (lt-leb (c.args.n / 10000) 23 (omega arith))
