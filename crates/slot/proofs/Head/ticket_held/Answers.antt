use Rattle.slot.proofs.Told.{no_ticket, its_ticket}
use Rattle.slot.proofs.Head.ticket_held.Goals as goal

pub returns-then-self : goal.returns-then-self
returns-then-self c = λ answer. its_ticket _ answer c.if-self.true

pub returns-else-self : goal.returns-else-self
returns-else-self c = λ answer. no_ticket _ answer c.if-self.false
