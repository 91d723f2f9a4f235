-- `statement::job_file` meets its contract.
use Rattle.grammar.specs.Grammar.Point.{job_file}
use Rattle.item.proofs.Classes.{by_class}
use Rattle.statement.proofs.Along.{reads}
use Rattle.statement.proofs.job_file.Goals as goal

pub returns-in-Text : goal.returns-in-Text
returns-in-Text c = reads job_file _ _ _ _ c.next_item-t.ensures.is (search by_class depth 9)

pub returns-in_default : goal.returns-in_default
returns-in_default c = reads job_file _ _ _ _ c.next_item-t.ensures.is (search by_class depth 9)
