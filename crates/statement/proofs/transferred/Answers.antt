-- `statement::transferred` meets its contract.
use Rattle.laws.proofs.Choose.{choose}
use Rattle.statement.proofs.transferred.Goals as goal

pub returns-then-m : goal.returns-then-m
returns-then-m c = search choose depth 9

pub returns : goal.returns
returns c = search choose depth 9
