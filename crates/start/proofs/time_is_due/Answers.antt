-- `start::time_is_due` meets its contract.
use Rattle.start.proofs.time_is_due.Goals as goal

pub returns-in-None : goal.returns-in-None
returns-in-None c = λ s v. rw c.in-None.is c.is_at_or_after.ensures

pub returns-in-Some : goal.returns-in-Some
returns-in-Some c = λ s v. rw c.in-Some.is c.is_at_or_after-in-Some.ensures
