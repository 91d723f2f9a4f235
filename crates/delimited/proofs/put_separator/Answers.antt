-- `delimited::put_separator` meets its contract.
use Rattle.field.proofs.Put.{wrote_byte}
use Rattle.delimited.proofs.put_separator.Goals as goal

pub returns-then-last : goal.returns-then-last
returns-then-last c = rw c.if-last.true c.put_bytes.ensures

pub returns : goal.returns
returns c = rw c.if-last.false (wrote_byte _ _ _)
