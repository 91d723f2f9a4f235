-- `delimited::separator_at` meets its contract.
use Rattle.laws.proofs.Choose.{choose}
use Rattle.delimited.specs.Separators.{separator_at}
use Rattle.delimited.proofs.separator_at.Goals as goal

pub returns-then-byte_at-d : goal.returns-then-byte_at-d
unfolding separator_at
returns-then-byte_at-d c = search choose depth 9

pub returns-then-has_at : goal.returns-then-has_at
unfolding separator_at
returns-then-has_at c = search choose depth 9

pub returns : goal.returns
unfolding separator_at
returns c = search choose depth 9
