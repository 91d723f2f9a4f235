-- `statement::statement_of` meets its contract.
use Rattle.item.proofs.Classes.{by_class}
use Rattle.statement.specs.Statement.{statement_of}
use Rattle.statement.proofs.statement_of.Goals as goal

pub returns-in-Job : goal.returns-in-Job
unfolding statement_of
returns-in-Job c = search by_class depth 9

pub returns-in-Upload : goal.returns-in-Upload
unfolding statement_of
returns-in-Upload c = search by_class depth 9

pub returns-in-Download : goal.returns-in-Download
unfolding statement_of
returns-in-Download c = search by_class depth 9

pub returns-in-GetInfo : goal.returns-in-GetInfo
unfolding statement_of
returns-in-GetInfo c = search by_class depth 9

pub returns-in-Abort : goal.returns-in-Abort
unfolding statement_of
returns-in-Abort c = search by_class depth 9

pub returns-in_default : goal.returns-in_default
unfolding statement_of
returns-in_default c = search by_class depth 9
