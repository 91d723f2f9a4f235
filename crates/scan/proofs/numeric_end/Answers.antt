-- `scan::numeric_end` meets its contract.
use borrow.Author.Rules.{rules}
use Rattle.scan.specs.Kinds.{is_numeric_byte}
use Rattle.scan.proofs.numeric_end.Goals as goal

pub returns : goal.returns
returns c = c.run_end.ensures is_numeric_byte (λ b r h e. search rules)
