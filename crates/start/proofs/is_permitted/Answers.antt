-- `start::is_permitted` meets its contract.
use mir.Syntax.{w64}
use mir.ValLaws.{to_z-of_z}
use Rattle.item.specs.Tokens.{paper_number}
use Rattle.start.proofs.Steps.{permitted_so}
use Rattle.start.proofs.is_permitted.Goals as goal

pub returns : goal.returns
returns c =
    let n = c.args.n in
    let back = to_z-of_z w64 n.mantissa (record { sfits = c.struct_told-1.given.0.1 }) in
    permitted_so (paper_number n) _ _ back c.sign_and_size-mantissa.ensures.1
