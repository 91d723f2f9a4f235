-- `record::may_write` meets its contract.
use mathlib.Core.Path.{sym, ◌∙◌}
use Rattle.counts.specs.Limits.{commands}
use Rattle.record.specs.Writing.{write_refusal}
use Rattle.record.proofs.Writes.{ranges, short_text, writes}
use Rattle.record.proofs.may_write.Goals as goal

pub returns-then-not-in_range : goal.returns-then-not-in_range
unfolding write_refusal
returns-then-not-in_range c = search writes depth 9

pub returns-then-not-is_real : goal.returns-then-not-is_real
unfolding write_refusal
returns-then-not-is_real c = search writes depth 9

pub record_length-requires : goal.record_length-requires
record_length-requires c =
    let a = c.args in
    let range = sym c.in_range.ensures ∙ c.if-not-in_range.false in
    short_text a.text.now (ranges commands a.number.0 a.outcome a.text.now range).string

pub returns-then-room-record_length : goal.returns-then-room-record_length
unfolding write_refusal
returns-then-room-record_length c = search writes depth 9

pub returns : goal.returns
unfolding write_refusal
returns c = search writes depth 9
