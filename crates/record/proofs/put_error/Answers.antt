-- `record::put_error` meets its contract.
use Rattle.record.proofs.Writes.{wrote_error}
use Rattle.record.proofs.put_error.Goals as goal

pub returns : goal.returns
returns c = search wrote_error
