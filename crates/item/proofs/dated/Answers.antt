-- `item::dated` meets its contract.
use Rattle.item.proofs.Classes.{field_fits, other_length, not_bare, a_date, no_date}
use Rattle.std.proofs.Common.{rules}
use native.Mathlib.Omega.{arith}
use mathlib.Core.Path.{sym, ◌∙◌}
use Rattle.item.proofs.dated.Goals as goal

pub returns-in_default : goal.returns-in_default
returns-in_default c =
    let d = not_bare _ _ _ c.if-b-a-eq8.true (sym c.digits_at.ensures ∙ c.in_default.is) in
    rw (d.class, d.value) (search rules)

pub overflow_cast-day : goal.overflow_cast-day
overflow_cast-day c = omega (arith, field_fits 8 _ _ _ c.digits_at.ensures c.in-Some.is)

pub returns-then-is_real_date : goal.returns-then-is_real_date
returns-then-is_real_date c =
    let d = a_date _ _ _ _ c.if-b-a-eq8.true (sym c.digits_at.ensures ∙ c.in-Some.is) (sym c.is_real_date.ensures ∙ c.if-is_real_date.true) in
    rw (d.class, d.value) (search rules)

pub returns-then-b-a-eq8 : goal.returns-then-b-a-eq8
returns-then-b-a-eq8 c =
    let d = no_date _ _ _ _ c.if-b-a-eq8.true (sym c.digits_at.ensures ∙ c.in-Some.is) (sym c.is_real_date.ensures ∙ c.if-is_real_date.false) in
    rw (d.class, d.value) (search rules)

pub returns : goal.returns
returns c =
    let d = other_length c.args.s.now _ _ c.if-b-a-eq8.false in
    rw (d.class, d.value) (search rules)
