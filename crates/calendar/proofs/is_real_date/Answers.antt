-- `is_real_date` meets its contract: the tests that led to each return decide those of the word.
use Prim.Native.Nat.{◌/◌}
use mathlib.Core.Path.{sym, ◌∙◌}
use native.Mathlib.Nat.{div-one}
use native.Mathlib.Omega.{arith}
use borrow.Author.Tests.{lt-leb}
use Rattle.calendar.specs.Calendar.{real_date}
use Rattle.calendar.proofs.Laws.{dated, left_fields, date_is, early_date, no_month}
use Rattle.calendar.proofs.is_real_date.Goals as goal

pub returns-then-two_within-2 : goal.returns-then-two_within-2
returns-then-two_within-2 c =
    let month = c.two_within in
    early_date _ _ _ _ c.if-n-le99999999.true (left_fields _ _ (omega arith))
    (sym month.ensures ∙ c.if-two_within.true)
    (simp div-one at (sym c.two_within-then-two_within.ensures ∙ c.if-two_within-2.true))

pub returns-then-two_within : goal.returns-then-two_within
returns-then-two_within c =
    let month = c.two_within in
    let date = c.fields_of-date in
    date_is _ _ _ _ c.if-n-le99999999.true (dated _ _ _ _ _ (omega arith) date.ensures) _
    (rw date.ensures.1 (sym month.ensures ∙ c.if-two_within.true))
    c.is_day.ensures

pub returns-else-two_within : goal.returns-else-two_within
returns-else-two_within c = no_month _ _ _ _ c.if-n-le99999999.true (left_fields _ _ (omega arith)) (sym c.two_within.ensures ∙ c.if-two_within.false)

pub returns-else-n-le99999999 : goal.returns-else-n-le99999999
unfolding real_date
returns-else-n-le99999999 c = rw (lt-leb (c.args.n / 10000) 9999 (omega arith))
