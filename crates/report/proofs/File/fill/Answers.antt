use mathlib.Core.Logic.{inl, inr}
use mathlib.Core.Path.{sym}
use native.Mathlib.Omega.{arith}
use lib.ListN.{length-set}
use Rattle.report.proofs.Loops.{cells_start, cells_length, cells_over, no_cell, cell_ahead, cell_fits, next_ahead, next_cell, cell_last}
use Rattle.report.proofs.File.fill.Goals as goal

pub loop-at-init : goal.loop-at-init
loop-at-init c = cells_start _ _ _

pub shape_of-cells-in_default : goal.shape_of-cells-in_default
shape_of-cells-in_default c = cells_length c.loop-at.invariant

pub returns-in_default : goal.returns-in_default
returns-in_default c = no_cell _ _ _ _ _ _ _ c.loop-at.invariant c.loop-at-test.true c.in_default.ensures

pub offset_bounds-cells-k : goal.offset_bounds-cells-k
offset_bounds-cells-k c = omega (arith, cell_fits _ _ _ _ _ _ _ c.loop-at.invariant c.loop-at-test.true _ c.in-Some.ensures c.requires)

pub bounds-cells-k : goal.bounds-cells-k
bounds-cells-k c = omega (arith, cell_fits _ _ _ _ _ _ _ c.loop-at.invariant c.loop-at-test.true _ c.in-Some.ensures c.requires)

pub overflow_sub-cells : goal.overflow_sub-cells
overflow_sub-cells c = omega (arith, cell_ahead _ _ _ _ _ _ _ c.loop-at.invariant c.loop-at-test.true _ c.in-Some.ensures)

pub overflow_add-cells : goal.overflow_add-cells
overflow_add-cells c = omega (arith, cell_fits _ _ _ _ _ _ _ c.loop-at.invariant c.loop-at-test.true _ c.in-Some.ensures c.requires)

pub offset_bounds-cells-k-in-loop-at : goal.offset_bounds-cells-k-in-loop-at
offset_bounds-cells-k-in-loop-at c = omega (arith, cell_fits _ _ _ _ _ _ _ c.loop-at.invariant c.loop-at-test.true _ c.in-Some.ensures c.requires)

pub bounds-cells-k-in-loop-at : goal.bounds-cells-k-in-loop-at
bounds-cells-k-in-loop-at c = simp length-set (omega (arith, cell_fits _ _ _ _ _ _ _ c.loop-at.invariant c.loop-at-test.true _ c.in-Some.ensures c.requires))

pub overflow_add-k : goal.overflow_add-k
overflow_add-k c = omega (arith, cell_fits _ _ _ _ _ _ _ c.loop-at.invariant c.loop-at-test.true _ c.in-Some.ensures c.requires)

pub separator_at-requires : goal.separator_at-requires
separator_at-requires c = (cell_ahead _ _ _ _ _ _ _ c.loop-at.invariant c.loop-at-test.true _ c.in-Some.ensures).1

pub loop-at-smaller-in-Field : goal.loop-at-smaller-in-Field
loop-at-smaller-in-Field c = omega (arith, next_ahead _ _ _ _ _ _ _ c.loop-at.invariant c.loop-at-test.true _ c.in-Some.ensures _ (inl (sym (rw c.byte.ensures at c.in-Field.ensures))))

pub loop-at-preserved-in-Field : goal.loop-at-preserved-in-Field
loop-at-preserved-in-Field c = next_cell _ _ _ _ _ _ _ c.loop-at.invariant c.loop-at-test.true _ c.in-Some.ensures _ (inl (sym (rw c.byte.ensures at c.in-Field.ensures)))

pub loop-at-smaller : goal.loop-at-smaller
loop-at-smaller c = omega (arith, next_ahead _ _ _ _ _ _ _ c.loop-at.invariant c.loop-at-test.true _ c.in-Some.ensures _ (inr (sym (rw c.byte.ensures at c.in-Field.ensures))))

pub loop-at-preserved : goal.loop-at-preserved
loop-at-preserved c = next_cell _ _ _ _ _ _ _ c.loop-at.invariant c.loop-at-test.true _ c.in-Some.ensures _ (inr (sym (rw c.byte.ensures at c.in-Field.ensures)))

pub shape_of-cells-in-Neither : goal.shape_of-cells-in-Neither
shape_of-cells-in-Neither c = simp length-set (cells_length c.loop-at.invariant)

pub returns-in-Neither : goal.returns-in-Neither
returns-in-Neither c = cell_last _ _ _ _ _ _ _ c.loop-at.invariant c.loop-at-test.true _ c.in-Some.ensures (rw c.byte.ensures at c.in-Neither.ensures)

pub shape_of-cells : goal.shape_of-cells
shape_of-cells c = cells_length c.loop-at.invariant

pub returns : goal.returns
returns c = cells_over _ _ _ _ _ _ _ c.loop-at.invariant c.loop-at-test.false
