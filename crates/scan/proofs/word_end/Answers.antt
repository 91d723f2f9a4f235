-- `scan::word_end` meets its contract.
use borrow.Author.Rules.{rules}
use Rattle.scan.specs.Kinds.{is_word_byte}
use Rattle.scan.proofs.word_end.Goals as goal

pub returns : goal.returns
returns c = c.run_end.ensures is_word_byte (λ b r h e. search rules)
