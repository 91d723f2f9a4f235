use mathlib.Core.Path.{sym, ◌∙◌}
use native.Mathlib.Omega.{arith}
use Rattle.delimited.proofs.Lines.{one_of_four}
use Rattle.report.proofs.Loops.{lines_start, lines_past, no_line, line_ahead, another_line, other_count}
use Rattle.report.proofs.File.lines_from.Goals as goal

pub loop-at-init : goal.loop-at-init
loop-at-init c = lines_start _ _ _ _ c.requires

pub loop-at-smaller : goal.loop-at-smaller
loop-at-smaller c = omega (arith, line_ahead _ (one_of_four c.args.self.now.delimiter) _ _ _ _ _ c.loop-at.invariant c.loop-at-test.true _ _ c.in-Some.ensures)

pub loop-at-preserved : goal.loop-at-preserved
loop-at-preserved c = another_line _ (one_of_four c.args.self.now.delimiter) _ _ _ _ _ c.loop-at.invariant c.loop-at-test.true _ _ c.in-Some.ensures c.if-n-columns.true

pub returns-in_default : goal.returns-in_default
returns-in_default c = other_count _ (one_of_four c.args.self.now.delimiter) _ _ _ _ _ c.loop-at.invariant c.loop-at-test.true _ _ c.in-Some.ensures c.if-n-columns.false

pub returns-in_default-2 : goal.returns-in_default-2
returns-in_default-2 c = no_line _ (one_of_four c.args.self.now.delimiter) _ _ _ _ _ c.loop-at.invariant c.loop-at-test.true (sym c.in_default.is ∙ c.line_at.ensures)

pub returns : goal.returns
returns c = lines_past _ _ _ _ _ _ c.loop-at.invariant c.loop-at-test.false
