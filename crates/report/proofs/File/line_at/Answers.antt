use mathlib.Core.Path.{◌∙◌}
use native.Mathlib.Omega.{arith}
use Rattle.report.proofs.Loops.{fields_start, fields_past, no_field, field_room, another_ahead, another, line_over, neither}
use Rattle.report.proofs.File.line_at.Goals as goal

pub loop-at-init : goal.loop-at-init
loop-at-init c = fields_start _ _ _ _

pub returns-in_err-end : goal.returns-in_err-end
returns-in_err-end c = c.from_residual.ensures ∙ no_field _ _ _ _ _ _ c.loop-at.invariant c.loop-at-test.true c.in_err-end.ensures

pub separator_at-requires : goal.separator_at-requires
separator_at-requires c = (field_room _ _ _ _ _ _ c.loop-at.invariant c.loop-at-test.true _ c.in_ok-end.ensures).1

pub loop-at-smaller : goal.loop-at-smaller
loop-at-smaller c = omega (arith, another_ahead _ _ _ _ _ _ c.loop-at.invariant c.loop-at-test.true _ c.in_ok-end.ensures _ (rw c.byte.ensures at c.in-Field.ensures))

pub loop-at-preserved : goal.loop-at-preserved
loop-at-preserved c = another _ _ _ _ _ _ c.loop-at.invariant c.loop-at-test.true _ c.in_ok-end.ensures _ (rw c.byte.ensures at c.in-Field.ensures)

pub returns-in-Line : goal.returns-in-Line
returns-in-Line c = line_over _ _ _ _ _ _ c.loop-at.invariant c.loop-at-test.true _ c.in_ok-end.ensures _ (rw c.byte.ensures at c.in-Line.ensures)

pub returns-in-Neither : goal.returns-in-Neither
returns-in-Neither c = neither _ _ _ _ _ _ c.loop-at.invariant c.loop-at-test.true _ c.in_ok-end.ensures (rw c.byte.ensures at c.in-Neither.ensures)

pub returns : goal.returns
returns c = fields_past _ _ _ _ _ _ c.loop-at.invariant c.loop-at-test.false
