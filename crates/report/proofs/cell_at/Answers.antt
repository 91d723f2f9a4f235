use Rattle.report.proofs.Stood.{field}
use Rattle.report.proofs.cell_at.Goals as goal

pub returns-then-is_letter : goal.returns-then-is_letter
returns-then-is_letter c = search field

pub returns-else-is_letter : goal.returns-else-is_letter
returns-else-is_letter c = search field
