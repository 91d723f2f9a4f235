use native.Mathlib.Omega.{arith}
use Rattle.table_search.proofs.Sounds.{sound_limited}
use Rattle.table_search.proofs.Tests.{found_at, found_none}
use Rattle.session_table.proofs.Turns.{take_up_0, take_up_14, take_up_refuses}
use Rattle.session_table.proofs.Verdicts.{none_left}
use Rattle.session_table.proofs.take_up_next.Goals as goal

pub next_waiting-requires : goal.next_waiting-requires
next_waiting-requires c = sound_limited _ c.requires.0

pub returns-in_err-s : goal.returns-in_err-s
returns-in_err-s c =
    let none_waits = found_none _ _ c.next_waiting.ensures c.in_err-s.ensures.ok_part in
    take_up_refuses _ _ (take_up_14 _ c.requires.0 c.requires.1 none_waits) _
    (none_left (λ given. (given.0.0, given.1.0, given.2.0)) c.from_residual.result _ _ c.from_residual.ensures c.in_err-s.ensures.ok_part c.in_err-s.ensures.value) (λ z. omega arith)

pub take_up_at-requires : goal.take_up_at-requires
take_up_at-requires c =
    let (ok, waits, gives) = take_up_0 _ c.requires.0 c.requires.1 _ (found_at _ _ c.next_waiting.ensures _ c.in_ok-s.ensures.ok_part) in
    (ok, c.requires.1, waits, gives)
