-- `report::figures_at` meets its contract.
use Rattle.report.proofs.Stood.{field}
use Rattle.report.proofs.figures_at.Goals as goal

pub returns-then-whole-d : goal.returns-then-whole-d
returns-then-whole-d c = search field

pub returns-then-byte_at-eq46 : goal.returns-then-byte_at-eq46
returns-then-byte_at-eq46 c = search field

pub returns-else-byte_at-eq46 : goal.returns-else-byte_at-eq46
returns-else-byte_at-eq46 c = search field
