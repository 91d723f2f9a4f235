-- `record::put_outcome` meets its contract.
use Rattle.record.proofs.Lengths.{error_room}
use Rattle.record.proofs.Writes.{error_range}
use Rattle.record.proofs.put_outcome.Goals as goal

pub put_bytes-requires : goal.put_bytes-requires
put_bytes-requires c = rw c.in-Processed.is at c.requires.1

pub put_error-requires : goal.put_error-requires
put_error-requires c =
    let o = c.in-Error.is in
    let room = rw o at c.requires.1 in
    let range = error_range _ _ (rw o at c.requires.0) in
    (range.0, range.1, error_room _ _ _ _ room)

pub returns-in-Processed : goal.returns-in-Processed
returns-in-Processed c = rw c.in-Processed.is c.put_bytes.ensures

pub returns-in-Error : goal.returns-in-Error
returns-in-Error c = rw c.in-Error.is c.put_error.ensures
