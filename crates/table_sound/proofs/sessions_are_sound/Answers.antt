use mathlib.Core.Path.{refl}
use native.Mathlib.Omega.{arith}
use lib.ListN.{length-set}
use borrow.Author.Rules.{rules}
use Rattle.sessions.proofs.Loops.{all_none, all_more}
use Rattle.table_sound.proofs.Slots.{seen_none, seen_taken, seen_more, hand_start, hand_more, pass_stops, pass_ends}
use Rattle.table_sound.proofs.sessions_are_sound.Goals as goal

pub loop-s-init : goal.loop-s-init
loop-s-init c = (refl, seen_none _ _, all_none _, hand_start c.args.b.now c.args.t.hand _ c.is_none-waits.ensures)

pub slot_is_sound-requires : goal.slot_is_sound-requires
slot_is_sound-requires c = (
  search rules,
  search rules,
  c.requires.1,
  c.get_head-h.ensures,
  (seen_taken _ _ _ c.loop-s.invariant.1).0,
  (seen_taken _ _ _ c.loop-s.invariant.1).1,
)

pub returns-then-not-slot_is_sound : goal.returns-then-not-slot_is_sound
returns-then-not-slot_is_sound c = pass_stops _ _ _ (omega arith) _ c.slot_is_sound.ensures c.if-not-slot_is_sound.true

pub loop-s-preserved : goal.loop-s-preserved
loop-s-preserved c =
    let w = c.loop-s.invariant in
    let head = c.get_head-h.ensures in (
      rw length-set w.0,
      seen_more _ _ _ _ _ (omega arith) (omega arith) head c.ticket_held.ensures w.1,
      all_more _ w.2 (cc),
      hand_more _ _ _ (omega arith) _ head _ _ c.waits_in_hand-waits.ensures w.3,
    )

pub returns : goal.returns
returns c = let w = c.loop-s.invariant in pass_ends _ _ _ w.2 (omega arith) _ w.3
