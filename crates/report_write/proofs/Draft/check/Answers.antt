-- `report_write::Draft::check` meets its contract.
use mathlib.Core.Path.{sym, ◌∙◌}
use Rattle.report_write.specs.Writing.{write_refusal}
use Rattle.report_write.proofs.Writes.{in_range}
use Rattle.report_write.proofs.Draft.check.Goals as goal

pub returns-then-not-are_lines : goal.returns-then-not-are_lines
unfolding write_refusal
returns-then-not-are_lines c =
    let a = c.args.self.now in rw (in_range a.delimiter a.columns a.in_range, sym c.are_lines.ensures ∙ c.if-not-are_lines.true)

pub returns-then-not-has_room : goal.returns-then-not-has_room
unfolding write_refusal
returns-then-not-has_room c =
    let a = c.args.self.now in
    rw (
      in_range a.delimiter a.columns a.in_range,
      sym c.are_lines.ensures ∙ c.if-not-are_lines.false,
      sym c.has_room.ensures ∙ c.if-not-has_room.true,
    )

pub returns : goal.returns
unfolding write_refusal
returns c =
    let a = c.args.self.now in
    rw (
      in_range a.delimiter a.columns a.in_range,
      sym c.are_lines.ensures ∙ c.if-not-are_lines.false,
      sym c.has_room.ensures ∙ c.if-not-has_room.false,
    )
