-- `record_read::number_in` meets its contract.
use Rattle.record_read.proofs.Rules.{between, reads}
use Rattle.record_read.specs.Reading.{number_in}
use borrow.Author.Rules.{rules}
use Rattle.record_read.proofs.number_in.Goals as goal

pub field_after-requires : goal.field_after-requires
field_after-requires c =
    let width = between 1 8 _ c.if-not-width.false in
    (search rules, width.0, width.1)

pub returns-in_default : goal.returns-in_default
unfolding number_in
returns-in_default c = search reads depth 9

pub returns-then-n-plain_width : goal.returns-then-n-plain_width
unfolding number_in
returns-then-n-plain_width c = search reads depth 9

pub returns-else-n-plain_width : goal.returns-else-n-plain_width
unfolding number_in
returns-else-n-plain_width c = search reads depth 9

pub returns-then-not-width : goal.returns-then-not-width
unfolding number_in
returns-then-not-width c = search reads depth 9
