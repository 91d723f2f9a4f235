-- `record_read::record_at` meets its contract.
use native.Mathlib.Omega.{arith}
use Rattle.record.proofs.Lengths.{ten_digits}
use Rattle.record_read.specs.Reading.{record_at}
use Rattle.record_read.proofs.Rules.{reads}
use Rattle.record_read.proofs.record_at.Goals as goal

pub returns-in_default : goal.returns-in_default
unfolding record_at
returns-in_default c = search reads depth 9

pub overflow_add-after_number : goal.overflow_add-after_number
overflow_add-after_number c = omega (arith, ten_digits _ _ (omega arith) c.plain_width.ensures)

pub outcome_at-requires : goal.outcome_at-requires
outcome_at-requires c = omega (arith, ten_digits _ _ (omega arith) c.plain_width.ensures)

pub returns-in_default-outcome_at : goal.returns-in_default-outcome_at
unfolding record_at
returns-in_default-outcome_at c = search reads depth 9

pub returns : goal.returns
unfolding record_at
returns c = search reads depth 9
