use Rattle.std.proofs.Common.{◌≡◌, ◌<◌, ◌≤◌, ap, true, false, arith, rules, tests}
use Rattle.std.proofs.lemmas.Iterator.{first_from_Range, serves_from_Range}
use Rattle.counts.specs.Limits.{sessions}
use Rattle.sessions.specs.Table.{is_open}
use Rattle.slot.proofs.Told.{slot_told}
use Rattle.slot.specs.Fields.{slot_of}
use Rattle.table_layout.specs.Layout.{table_of}
use Rattle.table_search.proofs.Tests.{first_is, session_there}
use Rattle.table_search.proofs.lowest_open.Goals as goal

pub find-requires-clause-callable : goal.find-requires-clause-callable
unfolding table_of
find-requires-clause-callable c =
    let few : c.get_table-max.result.max ≤ sessions = omega (arith, ap (λ x. x.max) c.get_table-max.ensures, c.requires.limit) in
    serves_from_Range (λ x q k. search (rules, tests)) (λ x low high. search rules)

pub returns : goal.returns
unfolding table_of
returns c =
    let b = c.args.b.now in
    let ends =
    first_from_Range _ _ _ c.find.result (λ i. i < sessions → is_open (slot_of b i) ≡ true) (λ i. i < sessions → is_open (slot_of b i) ≡ false)
    c.find.ensures.ran
    (λ x q k l. grind (arith, tests, slot_told))
    (λ x q k. (search rules, λ l. grind (arith, tests, slot_told))) in
    session_there _ _ _ (λ i x q. search rules) _ (first_is _ _ _ (ap (λ x. x.max) c.get_table-max.ensures) c.requires.limit _ ends) _ c.map.ensures.cases
