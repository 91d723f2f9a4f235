-- `number::number_at` meets its contract.
use mathlib.Core.Path.{refl}
use Rattle.number.proofs.Digits.{is_number}
use mir.ValLaws.{to_z-of_z}
use mir.Syntax.{w64}
use Rattle.number.proofs.number_at.Goals as goal

pub returns : goal.returns
returns c =
    rw (to_z-of_z w64 c.signed.result (record { sfits = c.signed.type_inv }))
    (is_number c.args.s.now c.args.at c.args.width _ refl _ _ _ c.signed.ensures c.magnitude.ensures.0 c.scale.ensures)
