-- `report::File::judge` meets its contract.
use mathlib.Core.Path.{sym, ◌∙◌}
use Rattle.delimited.proofs.Lines.{one_of_four}
use Rattle.report.proofs.Answers.{no_names, names_inside, names_then, too_many_names}
use Rattle.report.proofs.File.judge.Goals as goal

pub lines_from-requires : goal.lines_from-requires
lines_from-requires c = names_inside _ _ _ _ c.in-Some.ensures (one_of_four c.args.self.now.delimiter)

pub returns-in-Some : goal.returns-in-Some
returns-in-Some c = names_then _ _ _ _ c.in-Some.ensures _ c.if-columns-le-COLUMNS.true c.lines_from.ensures

pub returns-in_default : goal.returns-in_default
returns-in_default c = too_many_names _ _ _ _ c.in-Some.ensures c.if-columns-le-COLUMNS.false

pub returns-in_default-2 : goal.returns-in_default-2
returns-in_default-2 c = no_names _ _ (sym c.in_default.is ∙ c.line_at.ensures)
