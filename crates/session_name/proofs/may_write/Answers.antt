-- `may_write` meets its contract: the tests that led to each return pick the case.
use Rattle.session_name.proofs.Says.{names}
use Rattle.session_name.specs.Name.{write_refusal}
use Rattle.session_name.proofs.may_write.Goals as goal

pub returns-then-is_max-max : goal.returns-then-is_max-max
unfolding write_refusal
returns-then-is_max-max c = search names depth 9

pub returns-then-room-lt-NAME_BYTES : goal.returns-then-room-lt-NAME_BYTES
unfolding write_refusal
returns-then-room-lt-NAME_BYTES c = search names depth 9

pub returns : goal.returns
unfolding write_refusal
returns c = search names depth 9
