-- `record_read::read_record` meets its contract.
use Rattle.record_read.specs.Reading.{record_read}
use Rattle.record_read.proofs.Rules.{reads}
use Rattle.record_read.proofs.read_record.Goals as goal

pub returns-in_default : goal.returns-in_default
unfolding record_read
returns-in_default c = rw c.into.ensures (search reads depth 9)

pub returns-then-end-bytes : goal.returns-then-end-bytes
unfolding record_read
returns-then-end-bytes c = search reads depth 9

pub returns : goal.returns
unfolding record_read
returns c = rw c.into-2.ensures (search reads depth 9)
