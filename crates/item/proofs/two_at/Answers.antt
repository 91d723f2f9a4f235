-- `item::two_at` meets its contract.
use mathlib.Core.Path.{◌∙◌, ap}
use native.Mathlib.Omega.{arith}
use Rattle.item.specs.Tokens.{value_of}
use Rattle.item.proofs.Classes.{value_or, two_fits}
use Rattle.item.proofs.two_at.Goals as goal

pub overflow_cast-result : goal.overflow_cast-result
overflow_cast-result c =
    let is = c.unwrap_or.ensures ∙ value_or c.digits_at.result ∙ ap value_of c.digits_at.ensures in
    omega (arith, is, two_fits c.args.s.now c.args.a)

pub returns : goal.returns
returns c =
    let is = c.unwrap_or.ensures ∙ value_or c.digits_at.result ∙ ap value_of c.digits_at.ensures in
    (is, omega (arith, is, two_fits c.args.s.now c.args.a))
