-- Row 4 speaks of files (document 01, "Refusal numbers"): "a token, or the end of file, that no legal file has after the tokens before it, the
-- byte limit put aside". Tokens are told apart by their classes, whichever names, numbers, strings and places they have.
use Rattle.std.specs.Prelude.{ℕ, ◌≡◌, List, ◌++◌}
use Rattle.grammar.specs.declared.StartClause.{StartClause}
use Rattle.grammar.specs.Productions.{Placed, classes, Legal}
use Rattle.grammar.specs.Reading.Last.{end}
use Rattle.item.specs.Tokens.{Tokens}

-- Some legal file has tokens of the classes of a, and then others; the byte limit is put aside.
pub record InFile (clause : StartClause) (a : List Placed) : Type 0 where
  pub bytes : List ℕ
  pub tokens : List Placed
  pub place : ℕ
  pub read : Tokens bytes 0 tokens (end place)
  pub offsets : List ℕ
  pub legal : Legal clause tokens offsets
  pub more : List Placed
  pub goes_on : classes tokens ≡ classes (a ++ more)
