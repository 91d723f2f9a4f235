-- `session_table::take_up_at` meets its contract.
use native.Mathlib.Omega.{arith}
use Rattle.table_search.proofs.Sounds.{sound_size, waits}
use Rattle.session_table.proofs.Turns.{take_up_sound, given_leaves}
use borrow.Author.Rules.{rules}
use Rattle.session_table.proofs.take_up_at.Goals as goal

pub given-command-requires : goal.given-command-requires
given-command-requires c = (take_up_sound _ c.requires.0, c.requires.2)

pub put_mark-requires : goal.put_mark-requires
put_mark-requires c = sound_size _ (take_up_sound _ c.requires.0)

pub put_hand-requires : goal.put_hand-requires
put_hand-requires c =
    let z = sound_size _ (take_up_sound _ c.requires.0) in
    let k = (waits _ (take_up_sound _ c.requires.0) _ c.requires.2).stands_there.below in
    (search rules, omega arith)

pub returns : goal.returns
returns c =
    let q = c.requires.3 in let l =
    given_leaves _ _ q c.requires.1 in (cc, cc)
