-- `put_ending` meets its contract, by the two kinds.
use Rattle.session_name.proofs.put_ending.Goals as goal

pub returns-in-Request : goal.returns-in-Request
returns-in-Request c = rw c.in-Request.is c.put_bytes.ensures

pub returns-in-Response : goal.returns-in-Response
returns-in-Response c = rw c.in-Response.is c.put_bytes-in-Response.ensures
