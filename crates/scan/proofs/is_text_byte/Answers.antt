use Rattle.scan.proofs.Tests.{kinds}
use Rattle.scan.proofs.is_text_byte.Goals as goal

pub returns-then-b-gt34 : goal.returns-then-b-gt34
returns-then-b-gt34 c = search kinds depth 9

pub returns : goal.returns
returns c = search kinds depth 9
