use mathlib.Core.Bool.{◌||◌}
use mathlib.Core.Path.{◌≡◌, sym, ◌∙◌}
use lib.Dec.{eqb}
use Rattle.report.specs.Reading.{is_value}
use Rattle.report_write.proofs.Loops.{two, left_some, cell_yes, cell_no, no_cell, values_follow, same_follows, is_the_value}
use Rattle.report_write.proofs.Draft.are_lines.Goals.{then-left-eq1, else-left-eq1}
use Rattle.report_write.proofs.Draft.are_lines.Goals as goal

pub returns-then-not-is_cell : goal.returns-then-not-is_cell
returns-then-not-is_cell c = cell_no _ _ _ _ _ c.loop-rest.invariant.0 _ _ _ (two _ c.in-len2-up.len_at_least) (sym c.is_cell.ensures ∙ c.if-not-is_cell.true)

pub loop-rest-preserved : goal.loop-rest-preserved
loop-rest-preserved c =
    let follows : is_value c.if-left-eq1.field ≡ (is_value c.loop-rest.field || eqb c.loop-rest.left 1) = elim c.if-left-eq1.branch [
      | then-left-eq1 w ↦ values_follow _ _ w.if-left-eq1.true w.field-is
      | else-left-eq1 w ↦ same_follows _ _ w.if-left-eq1.false w.field-is
    ] in (
      rw (c.left_after-left.ensures, follows)
          (cell_yes _ _ _ _ _ c.loop-rest.invariant.0 _ _ _ (two _ c.in-len2-up.len_at_least) (sym c.is_cell.ensures ∙ c.if-not-is_cell.false)),
      rw c.left_after-left.ensures (left_some _ _ c.args.self.now.in_range.0 c.loop-rest.invariant.1),
    )

pub returns : goal.returns
returns c =
    rw (c.is_empty.ensures, c.eq.ensures, is_the_value c.loop-rest.field) (no_cell _ _ _ _ _ c.loop-rest.invariant.0 c.in_default.len_below)
