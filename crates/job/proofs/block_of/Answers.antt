use mathlib.Core.Path.{refl}
use native.Mathlib.Omega.{arith}
use lib.ListN.{length-set}
use Rattle.job.proofs.Loops.{block_refused, none≢some, all_read, refused_there, room, in_file, again}
use Rattle.job.proofs.block_of.Goals as goal

pub returns-in_err-after : goal.returns-in_err-after
returns-in_err-after c =
    let now = c.loop-count.invariant in
    block_refused _ _ _ _ _ _ c.from_residual.ensures
    (refused_there _ _ _ _ _ _ _ now.0 now.1 (omega arith) _ c.next_item-t.ensures.is _ c.in_err-after.ensures _ _ refl)

pub returns-in_default : goal.returns-in_default
returns-in_default c =
    let now = c.loop-count.invariant in (
      all_read _ _ _ _ _ _ _ now.0 now.1 (omega arith) _ c.next_item-t.ensures.is _ (rw c.in_default.is at (c.in_ok-after.ensures {u = tt})) refl,
      omega arith,
      omega arith,
      λ n e. absurd (none≢some e),
    )

pub overflow_cast-places : goal.overflow_cast-places
overflow_cast-places c =
    let now = c.loop-count.invariant in
    let on = rw c.in-Some.is at (c.in_ok-after.ensures {u = tt}) in
    omega (arith, in_file _ _ _ _ _ _ _ now.0 now.1 (omega arith) _ c.next_item-t.ensures.is _ on _ refl)

pub loop-count-preserved : goal.loop-count-preserved
loop-count-preserved c =
    let now = c.loop-count.invariant in
    let on = rw c.in-Some.is at (c.in_ok-after.ensures {u = tt}) in (
      again _ _ _ _ _ _ _ now.0 now.1 (omega arith) _ c.next_item-t.ensures.is _ on _ refl,
      omega (arith, room _ _ _ _ _ _ _ now.0 now.1 (omega arith) _ c.next_item-t.ensures.is _ on _ refl),
      rw length-set now.2,
    )
