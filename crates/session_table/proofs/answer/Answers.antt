use mathlib.Core.Path.{refl, sym}
use native.Mathlib.Omega.{arith}
use Rattle.counts.proofs.Results.{number_not_0, refused_plainly}
use Rattle.table_search.proofs.Sounds.{sound_size, waits, hand_waits}
use Rattle.session_table.proofs.Answering.{answerable, answer_refuses, answer_done, answer_leaves, held_is, kind_fits}
use borrow.Author.Rules.{rules}
use Rattle.session_table.proofs.answer.Goals as goal

pub returns-in_err-s : goal.returns-in_err-s
returns-in_err-s c =
    answer_refuses _ _ _ _ _ c.in_err-s.ensures _
    (refused_plainly (λ accepted. accepted) c.from_residual.result _ c.from_residual.ensures)
    (number_not_0 c.in_err-s.field-0.0)

pub answer_slot-requires : goal.answer_slot-requires
answer_slot-requires c =
    let w = answerable _ _ _ _ (sym c.in_ok-s.ensures.0) in
    let i = waits _ w.sound _ (hand_waits _ w.sound _ c.in_ok-s.ensures.1.0) in
    (sound_size _ w.sound, i.stands_there.below, i.answers_few, kind_fits _ w.in_range_lem)

pub put_hand-requires : goal.put_hand-requires
put_hand-requires c = let z = sound_size _ (answerable _ _ _ _ (sym c.in_ok-s.ensures.0)).sound in (search rules, omega arith)

pub returns : goal.returns
returns c =
    let w = answerable _ _ _ _ (sym c.in_ok-s.ensures.0) in
    let at = held_is _ _ c.in_ok-s.ensures.1.0 in
    let d = answer_done _ _ _ _ w _ refl in
    let l = answer_leaves _ _ _ _ w _ refl in
    (d, cc)
