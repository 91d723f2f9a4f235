-- `number_read` meets its contract: what the digits were picks the case.
use Rattle.session_name.proofs.Says.{names}
use Rattle.session_name.specs.Name.{number_read}
use Rattle.session_name.proofs.number_read.Goals.{in_default-via-in-Some+else-n-from, in_default-via-in_default}
use Rattle.session_name.proofs.number_read.Goals as goal

pub returns-in-Some : goal.returns-in-Some
unfolding number_read
returns-in-Some c = rw c.in-Some.is (search names depth 9)

pub returns-in_default : goal.returns-in_default
unfolding number_read
returns-in_default c =
    elim c.in_default.branch [
      | in_default-via-in-Some+else-n-from w ↦ rw (c.into.ensures, w.in-Some.is) (search names depth 9)
      | in_default-via-in_default w ↦ rw (c.into.ensures, w.in_default.is) (search names depth 9)
    ]
