-- `token::word_token` meets its contract.
use mathlib.Core.Path.{ap, sym, ◌∙◌}
use Rattle.token.specs.Token.{word_token}
use Rattle.token.proofs.word_token.Goals as goal

pub returns-in-None : goal.returns-in-None
returns-in-None c = ap (word_token _) (sym c.in-None.is ∙ c.word_at.ensures)

pub returns-in-Some : goal.returns-in-Some
returns-in-Some c = ap (word_token _) (sym c.in-Some.is ∙ c.word_at.ensures)
