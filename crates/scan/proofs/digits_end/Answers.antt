-- `scan::digits_end` meets its contract.
use borrow.Author.Rules.{rules}
use Rattle.scan.specs.Kinds.{is_digit}
use Rattle.scan.proofs.digits_end.Goals as goal

pub returns : goal.returns
returns c = c.run_end.ensures is_digit (λ b r h e. search rules)
