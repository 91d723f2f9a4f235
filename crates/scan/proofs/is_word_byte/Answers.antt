use Rattle.scan.proofs.Tests.{kinds}
use Rattle.scan.proofs.is_word_byte.Goals as goal

pub returns-then-is_letter : goal.returns-then-is_letter
returns-then-is_letter c = search kinds depth 9

pub returns : goal.returns
returns c = search kinds depth 9
