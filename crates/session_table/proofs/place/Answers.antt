use mathlib.Core.Path.{◌∙◌, sym}
use native.Mathlib.Omega.{arith}
use Rattle.session_table.proofs.Placing.{place_11, place_13, place_refuses}
use Rattle.std.specs.declared.result.Result.TheVariants.{Err}
use Rattle.session_table.proofs.Verdicts.{plainly}
use Rattle.session_table.proofs.place.Goals as goal

pub returns-then-not-is_sound : goal.returns-then-not-is_sound
returns-then-not-is_sound c =
    place_refuses _ _ _ _ (place_13 _ _ _ (sym c.is_sound.ensures ∙ c.if-not-is_sound.true)) (Err c.into.result) (plainly c.into.ensures) (λ z. omega arith)

pub returns-then-not-is_placeable : goal.returns-then-not-is_placeable
returns-then-not-is_placeable c =
    let no = place_11 _ _ _ (sym c.is_sound.ensures ∙ c.if-not-is_sound.false) (sym c.is_placeable.ensures ∙ c.if-not-is_placeable.true) in
    place_refuses _ _ _ _ no (Err c.into-then-not-is_placeable.result) (plainly c.into-then-not-is_placeable.ensures) (λ z. omega arith)

pub place_lowest-requires : goal.place_lowest-requires
place_lowest-requires c =
    (sym c.is_sound.ensures ∙ c.if-not-is_sound.false, sym c.is_placeable.ensures ∙ c.if-not-is_placeable.false)
