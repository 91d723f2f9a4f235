-- `number::scale` meets its contract.
use mathlib.Core.Path.{sym, ◌∙◌}
use lib.Dec.{eqb}
use Rattle.std.proofs.Common.{rules, tests}
use Rattle.std.proofs.lemmas.Iterator.{YieldsList-from_slice}
use Rattle.std.proofs.lemmas.Iterator.Search.{position_from_yields_List}
use Rattle.number.proofs.Digits.{point_found, no_point}
use Rattle.number.proofs.scale.Goals as goal

pub returns-in-Some : goal.returns-in-Some
returns-in-Some c =
    let there =
    position_from_yields_List (λ x. eqb x 46) _ _ c.position.result c.position.ensures.ran (YieldsList-from_slice c.args.bytes.now cc)
    (λ x b q k. search (rules, tests))
    in
    point_found c.args.bytes.now _ (sym c.in-Some.is ∙ there)

pub returns-in-None : goal.returns-in-None
returns-in-None c =
    let there =
    position_from_yields_List (λ x. eqb x 46) _ _ c.position.result c.position.ensures.ran (YieldsList-from_slice c.args.bytes.now cc)
    (λ x b q k. search (rules, tests))
    in
    no_point c.args.bytes.now (sym c.in-None.is ∙ there)
