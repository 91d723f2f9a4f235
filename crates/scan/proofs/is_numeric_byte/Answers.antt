use Rattle.scan.proofs.Tests.{kinds}
use Rattle.scan.proofs.is_numeric_byte.Goals as goal

pub returns-then-is_digit : goal.returns-then-is_digit
returns-then-is_digit c = search kinds depth 9

pub returns : goal.returns
returns c = search kinds depth 9
