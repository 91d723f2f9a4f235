use Rattle.std.proofs.Common.{◌≡◌, ◌<◌, ◌≤◌, ap, true, false, arith, rules, tests}
use Rattle.std.proofs.lemmas.Iterator.{first_from_Range, serves_from_Range}
use Rattle.counts.specs.Limits.{sessions}
use Rattle.sessions.specs.Table.{is_waiting, turn}
use Rattle.slot.proofs.Told.{slot_told}
use Rattle.slot.specs.Fields.{slot_of}
use Rattle.table_layout.specs.Layout.{table_of}
use Rattle.table_search.proofs.Tests.{first_is, found_below, session_in_turn}
use Rattle.table_sound.specs.Bytes.{abs}
use Rattle.table_search.proofs.next_waiting.Goals as goal

pub find-requires-clause-callable : goal.find-requires-clause-callable
unfolding table_of
find-requires-clause-callable c =
    let few : c.get_table-t.result.max ≤ sessions = omega (arith, ap (λ x. x.max) c.get_table-t.ensures, c.requires.limit) in
    let mark : c.get_table-t.result.mark.0 < c.get_table-t.result.max = omega (arith, ap (λ x. x.max) c.get_table-t.ensures, ap (λ x. x.mark.0) c.get_table-t.ensures, c.requires.mark) in
    serves_from_Range (λ x q k. search (rules, tests)) (λ x low high. search rules)

pub map-requires : goal.map-requires
unfolding table_of
map-requires c =
    let b = c.args.b.now in
    let ends =
    first_from_Range _ _ _ c.find.result (λ i. i < sessions → is_waiting (slot_of b (turn (abs b) i)) ≡ true) (λ i. i < sessions → is_waiting (slot_of b (turn (abs b) i)) ≡ false)
    c.find.ensures.ran
    (λ x q k l. grind (arith, tests, slot_told))
    (λ x q k. (search rules, λ l. grind (arith, tests, slot_told))) in
    let few : c.get_table-t.result.max ≤ sessions = omega (arith, ap (λ x. x.max) c.get_table-t.ensures, c.requires.limit) in
    let mark : c.get_table-t.result.mark.0 < c.get_table-t.result.max = omega (arith, ap (λ x. x.max) c.get_table-t.ensures, ap (λ x. x.mark.0) c.get_table-t.ensures, c.requires.mark) in
    let below = found_below _ _ _ (first_is _ _ _ (ap (λ x. x.max) c.get_table-t.ensures) c.requires.limit _ ends) in
    let q = ap (λ x. x.max) c.get_table-t.ensures in
    λ x e. let l = below x e in search rules

pub returns : goal.returns
unfolding table_of
returns c =
    let b = c.args.b.now in
    let ends =
    first_from_Range _ _ _ c.find.result (λ i. i < sessions → is_waiting (slot_of b (turn (abs b) i)) ≡ true) (λ i. i < sessions → is_waiting (slot_of b (turn (abs b) i)) ≡ false)
    c.find.ensures.ran
    (λ x q k l. grind (arith, tests, slot_told))
    (λ x q k. (search rules, λ l. grind (arith, tests, slot_told))) in
    session_in_turn _ _ _ _ (λ i x q. let t = c.get_table-t.ensures in grind (arith, tests)) _ (first_is _ _ _ (ap (λ x. x.max) c.get_table-t.ensures) c.requires.limit _ ends) _ c.map.ensures.cases
