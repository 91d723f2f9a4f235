use Rattle.field.proofs.Put.{wrote_length}
use Rattle.report_write.proofs.Loops.{two, written_start, written_over, cell_fits, written_next}
use Rattle.report_write.proofs.Draft.put_cells.Goals as goal

pub loop-rest-init : goal.loop-rest-init
loop-rest-init c = written_start _ _ _ _ _ c.args.self.now.in_range.0 c.requires.0

pub put_cell-at-requires : goal.put_cell-at-requires
put_cell-at-requires c = cell_fits _ _ _ _ _ _ _ _ _ c.loop-rest.invariant c.args.self.now.in_range.0 _ _ _ (two _ c.in-len2-up.len_at_least) c.requires.1

pub loop-rest-preserved : goal.loop-rest-preserved
loop-rest-preserved c = written_next _ _ _ _ _ _ _ _ _ c.loop-rest.invariant c.args.self.now.in_range.0 _ _ _ (two _ c.in-len2-up.len_at_least) _ _ _ c.left_after-left.ensures c.put_cell-at.ensures

pub shape_of-out : goal.shape_of-out
shape_of-out c = wrote_length c.loop-rest.invariant.wrote

pub returns : goal.returns
returns c = written_over _ _ _ _ _ _ _ _ _ c.loop-rest.invariant c.in_default.len_below
