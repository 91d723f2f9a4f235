-- `word::word_or` meets its contract.
use Rattle.laws.proofs.Choose.{choose}
use Rattle.word.proofs.word_or.Goals as goal

pub returns-then-has_at : goal.returns-then-has_at
returns-then-has_at c = search choose

pub returns-else-has_at : goal.returns-else-has_at
returns-else-has_at c = search choose
