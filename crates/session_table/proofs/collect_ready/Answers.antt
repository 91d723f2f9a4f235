use mathlib.Core.Path.{refl, ap}
use native.Mathlib.Omega.{arith}
use lib.ListN.{length}
use Rattle.table_search.proofs.Sounds.{sound_size, sound_limited}
use Rattle.table_search.proofs.Tests.{found_at, found_none}
use Rattle.session_table.proofs.Collecting.{collect_8, collect_10, collect_refuses, collectable_at, ready_stands, ready_few, ready_reply, ready_real, collects_is}
use Rattle.session_table.proofs.Searches.{found_number}
use Rattle.std.specs.declared.result.Result.TheVariants.{Err}
use Rattle.session_table.proofs.Verdicts.{plainly, none_left}
use Rattle.session_table.proofs.collect_ready.Goals as goal

pub ready_session-requires : goal.ready_session-requires
ready_session-requires c = sound_limited _ c.requires.0

pub returns-in_err-s : goal.returns-in_err-s
returns-in_err-s c =
    let none_ready = found_none _ _ c.ready_session.ensures c.in_err-s.ensures.ok_part in
    collect_refuses _ _ _ _ _ (collect_10 _ _ _ _ c.requires.0 c.requires.1 none_ready) _ _ refl
    (none_left (λ written. written) c.from_residual.result _ _ c.from_residual.ensures c.in_err-s.ensures.ok_part c.in_err-s.ensures.value) (λ z. omega arith)

pub get_head-n-requires : goal.get_head-n-requires
get_head-n-requires c =
    let pre = c.requires in
    let found = found_at _ _ c.ready_session.ensures _ c.in_ok-s.ensures.ok_part in
    (sound_size _ pre.0, (ready_stands _ _ _ pre.0 pre.1 _ found).below)

pub reply_length-requires : goal.reply_length-requires
reply_length-requires c =
    let pre = c.requires in
    let found = found_at _ _ c.ready_session.ensures _ c.in_ok-s.ensures.ok_part in (
      sound_size _ pre.0,
      (ready_stands _ _ _ pre.0 pre.1 _ found).below,
      ready_few _ _ _ pre.0 pre.1 _ found _ c.get_head-n.ensures,
    )

pub returns-then-out-reply_length : goal.returns-then-out-reply_length
returns-then-out-reply_length c =
    let pre = c.requires in
    let found = found_at _ _ c.ready_session.ensures _
    c.in_ok-s.ensures.ok_part in
    collect_refuses _ _ _ _ _
    (collect_8 _ _ _ _ pre.0 pre.1 _ found
    (omega (
      arith,
      c.if-out-reply_length.true,
      c.reply_length.ensures,
      ap length
          (ready_reply _ _ _ pre.0 pre.1 _ found _ c.get_head-n.ensures),
    )))
    _ (Err c.into.result) refl (plainly c.into.ensures) (λ z. omega arith)

pub write_reply-written-requires : goal.write_reply-written-requires
write_reply-written-requires c =
    let pre = c.requires in
    let found = found_at _ _ c.ready_session.ensures _
    c.in_ok-s.ensures.ok_part in
    let head = c.get_head-n.ensures in (
      sound_size _ pre.0,
      (ready_stands _ _ _ pre.0 pre.1 _ found).below,
      ready_few _ _ _ pre.0 pre.1 _ found _ head,
      ready_real _ _ _ pre.0 pre.1 _ found _ head,
      omega (arith, c.if-out-reply_length.false, c.reply_length.ensures),
    )

pub open_number-requires : goal.open_number-requires
open_number-requires c =
    let pre = c.requires in
    let found = found_at _ _
    c.ready_session.ensures _
    c.in_ok-s.ensures.ok_part in
    (sound_size _ pre.0, (ready_stands _ _ _ pre.0 pre.1 _ found).below)

pub returns : goal.returns
returns c =
    let pre = c.requires in
    let found = found_at _ _
    c.ready_session.ensures _ c.in_ok-s.ensures.ok_part in
    let reply = ready_reply _ _ _ pre.0 pre.1 _ found _
    c.get_head-n.ensures in
    collects_is _ _ _ _ (collectable_at _ _ _ _ pre.0 pre.1 _ found
    (omega (
      arith,
      c.if-out-reply_length.false,
      c.reply_length.ensures,
      ap length reply,
    )))
    _ (found_number _ found) _ _ _ reply c.write_reply-written.ensures c.open_number.ensures
