use mathlib.Core.Path.{refl, ◌∙◌, sym}
use native.Mathlib.Omega.{arith}
use Rattle.session_table.proofs.Collecting.{collect_11, collect_13, collect_refuses}
use Rattle.std.specs.declared.result.Result.TheVariants.{Err}
use Rattle.session_table.proofs.Verdicts.{plainly}
use Rattle.session_table.proofs.collect.Goals as goal

pub returns-then-not-is_sound : goal.returns-then-not-is_sound
returns-then-not-is_sound c =
    collect_refuses _ _ _ _ _ (collect_13 _ _ _ _ (sym c.is_sound.ensures ∙ c.if-not-is_sound.true)) _ (Err c.into.result) refl (plainly c.into.ensures)
    (λ z. omega arith)

pub returns-then-not-is_program : goal.returns-then-not-is_program
returns-then-not-is_program c =
    let no = collect_11 _ _ _ _ (sym c.is_sound.ensures ∙ c.if-not-is_sound.false) (sym c.is_program.ensures ∙ c.if-not-is_program.true) in
    collect_refuses _ _ _ _ _ no _ (Err c.into-then-not-is_program.result) refl (plainly c.into-then-not-is_program.ensures) (λ z. omega arith)

pub collect_ready-requires : goal.collect_ready-requires
collect_ready-requires c =
    (sym c.is_sound.ensures ∙ c.if-not-is_sound.false, sym c.is_program.ensures ∙ c.if-not-is_program.false)
