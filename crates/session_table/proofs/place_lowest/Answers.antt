use mathlib.Core.Path.{ap}
use native.Mathlib.Omega.{arith}
use Rattle.table_layout.specs.Layout.{table_of}
use Rattle.table_search.proofs.Sounds.{sound_size, sound_limited}
use Rattle.table_search.proofs.Tests.{found_at, found_none}
use Rattle.session_table.proofs.Placing.{place_9, place_12, place_refuses, place_below, place_gives, place_writes}
use Rattle.std.specs.declared.result.Result.TheVariants.{Err}
use Rattle.session_table.proofs.Verdicts.{plainly, none_left}
use borrow.Author.Rules.{rules}
use Rattle.session_table.proofs.place_lowest.Goals as goal

pub lowest_open-requires : goal.lowest_open-requires
lowest_open-requires c = sound_limited _ c.requires.0

pub returns-in_err-s : goal.returns-in_err-s
returns-in_err-s c =
    let none_open = found_none _ _ c.lowest_open.ensures c.in_err-s.ensures.ok_part in
    place_refuses _ _ _ _ (place_9 _ _ _ c.requires.0 c.requires.1 none_open) _
    (none_left (λ placed. (placed.0.0, placed.1.0)) c.from_residual.result _ _ c.from_residual.ensures c.in_err-s.ensures.ok_part c.in_err-s.ensures.value) (λ z. omega arith)

pub get_table-requires : goal.get_table-requires
get_table-requires c = sound_size _ c.requires.0

pub returns-then-last-ge-TICKET_MOST : goal.returns-then-last-ge-TICKET_MOST
unfolding table_of
returns-then-last-ge-TICKET_MOST c =
    let found = found_at _ _ c.lowest_open.ensures _ c.in_ok-s.ensures.ok_part in
    let spent =
    place_12 _ _ _ c.requires.0 c.requires.1 _ found
    (omega (arith, c.if-last-ge-TICKET_MOST.true, ap (λ x. x.last.0) c.get_table.ensures)) in
    place_refuses _ _ _ _ spent (Err c.into.result) (plainly c.into.ensures) (λ z. omega arith)

pub put_head-requires : goal.put_head-requires
put_head-requires c = (sound_size _ c.requires.0, place_below _ c.requires.0 _ (found_at _ _ c.lowest_open.ensures _ c.in_ok-s.ensures.ok_part))

pub put_last-requires : goal.put_last-requires
put_last-requires c = let z = sound_size _ c.requires.0 in search rules

pub returns : goal.returns
unfolding table_of
returns c =
    let pre = c.requires in
    let found = found_at _ _ c.lowest_open.ensures _ c.in_ok-s.ensures.ok_part in
    let last = ap (λ x. x.last.0) c.get_table.ensures in
    let room = c.if-last-ge-TICKET_MOST.false in (
      place_gives _ _ _ pre.0 pre.1 _ found _ last room,
      place_writes _ _ _ pre.0 pre.1 _ found _ last room _ _ _ c.placed.ensures c.put_head.ensures c.put_last.ensures,
    )
