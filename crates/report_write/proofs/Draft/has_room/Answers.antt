use mathlib.Core.Path.{refl}
use native.Mathlib.Omega.{arith}
use Rattle.report_write.proofs.Loops.{two, lines_start, room_over, taken_fits, no_room, room_next}
use Rattle.report_write.proofs.Draft.has_room.Goals as goal

pub loop-rest-init : goal.loop-rest-init
loop-rest-init c = record { here = lines_start _ _ _ c.args.self.now.in_range.0 c.requires; same = refl }

pub overflow_add-needed : goal.overflow_add-needed
overflow_add-needed c = omega (arith, taken_fits _ _ _ _ _ _ _ c.loop-rest.invariant c.args.self.now.in_range.0 _ _ _ (two _ c.in-len2-up.len_at_least) _ c.separator_length.ensures)

pub returns-then-free-needed : goal.returns-then-free-needed
returns-then-free-needed c = no_room _ _ _ _ _ _ _ c.loop-rest.invariant c.args.self.now.in_range.0 _ _ _ (two _ c.in-len2-up.len_at_least) _ c.separator_length.ensures c.if-free-needed.true

pub loop-rest-preserved : goal.loop-rest-preserved
loop-rest-preserved c = room_next _ _ _ _ _ _ _ c.loop-rest.invariant c.args.self.now.in_range.0 _ _ _ (two _ c.in-len2-up.len_at_least) _ c.separator_length.ensures _ c.left_after-left.ensures c.if-free-needed.false

pub returns : goal.returns
returns c = room_over _ _ _ _ _ _ _ c.loop-rest.invariant c.in_default.len_below
