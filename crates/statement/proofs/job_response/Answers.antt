-- `statement::job_response` meets its contract.
use Rattle.grammar.specs.Grammar.Point.{job_response}
use Rattle.item.proofs.Classes.{by_class}
use Rattle.statement.proofs.Along.{reads}
use Rattle.statement.proofs.job_response.Goals as goal

pub returns-in-Response : goal.returns-in-Response
returns-in-Response c = reads job_response _ _ _ _ c.next_item-t.ensures.is (search by_class depth 9)

pub returns-in_default : goal.returns-in_default
returns-in_default c = reads job_response _ _ _ _ c.next_item-t.ensures.is (search by_class depth 9)
