use mathlib.Core.Path.{refl, ◌∙◌, ap, sym}
use native.Mathlib.Omega.{arith}
use Rattle.std.specs.declared.result.Result.TheVariants.{Err}
use Rattle.table_layout.proofs.Hands.{read_none, read_some}
use Rattle.table_layout.specs.Layout.{table_of}
use Rattle.table_search.proofs.Sounds.{sound_size}
use Rattle.session_table.proofs.Turns.{take_up_13, take_up_again, take_up_passes, take_up_refuses, again_waits, again_done, again_leaves}
use Rattle.session_table.proofs.Verdicts.{plainly}
use Rattle.session_table.proofs.take_up.Goals as goal

pub returns-then-not-is_sound : goal.returns-then-not-is_sound
returns-then-not-is_sound c =
    take_up_refuses _ _ (take_up_13 _ (sym c.is_sound.ensures ∙ c.if-not-is_sound.true)) (Err c.into.result) (plainly c.into.ensures) (λ z. omega arith)

pub get_table-requires : goal.get_table-requires
get_table-requires c = sound_size _ (sym c.is_sound.ensures ∙ c.if-not-is_sound.false)

pub given-requires : goal.given-requires
unfolding table_of
given-requires c =
    let sound = sym c.is_sound.ensures ∙ c.if-not-is_sound.false in
    let (left, at) = read_some _ _ (sym (ap (λ x. x.hand) c.get_table.ensures) ∙ c.in-Some.is) in
    (sound, rw at (again_waits _ (take_up_passes _ 0 (take_up_again _ sound left) refl) _ refl left))

pub returns-in-Some : goal.returns-in-Some
unfolding table_of
returns-in-Some c =
    let sound = sym c.is_sound.ensures ∙ c.if-not-is_sound.false in
    let (left, at) = read_some _ _ (sym (ap (λ x. x.hand) c.get_table.ensures) ∙ c.in-Some.is) in
    let ok = take_up_passes _ 0 (take_up_again _ sound left) refl in
    (c.given.ensures ∙ rw at (again_done _ ok _ refl left), again_leaves _ ok _ refl left)

pub take_up_next-requires : goal.take_up_next-requires
unfolding table_of
take_up_next-requires c =
    (sym c.is_sound.ensures ∙ c.if-not-is_sound.false, read_none _ (sym (ap (λ x. x.hand) c.get_table.ensures) ∙ c.in-None.is))
