-- `moment::put_time` meets its contract.
use Rattle.moment.proofs.Moments.{wrote_time}
use Rattle.moment.proofs.put_time.Goals as goal

pub returns : goal.returns
returns c = search wrote_time
