-- `record_read::outcome_at` meets its contract.
use Rattle.record_read.proofs.Rules.{reads}
use Rattle.record_read.specs.Reading.{error_read, outcome_read}
use Rattle.record_read.proofs.outcome_at.Goals as goal

pub returns-then-has_at : goal.returns-then-has_at
unfolding outcome_read error_read
returns-then-has_at c = search reads depth 9

pub returns-in_default : goal.returns-in_default
unfolding outcome_read error_read
returns-in_default c = search reads depth 9

pub returns-in_default-field_after : goal.returns-in_default-field_after
unfolding outcome_read error_read
returns-in_default-field_after c = search reads depth 9

pub returns-then-has_at-2 : goal.returns-then-has_at-2
unfolding outcome_read error_read
returns-then-has_at-2 c = search reads depth 9

pub returns-else-has_at-2 : goal.returns-else-has_at-2
unfolding outcome_read error_read
returns-else-has_at-2 c = search reads depth 9
