use Rattle.scan.proofs.Tests.{kinds}
use Rattle.scan.proofs.is_comment_byte.Goals as goal

pub returns-then-b-gt13 : goal.returns-then-b-gt13
returns-then-b-gt13 c = search kinds depth 9

pub returns : goal.returns
returns c = search kinds depth 9
