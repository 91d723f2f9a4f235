-- What documents 01 and 02 say of one statement, read on its own from a place on: "as if a statement of any kind began there", with either setting.
-- `ts` are the file's tokens from that place on, and `z` ends them.
use Rattle.std.specs.Prelude.{ℕ, ◌≡◌, List, [], ◌∷◌, ◌++◌}
use Rattle.grammar.specs.declared.StartClause.{StartClause}
use Rattle.grammar.specs.Statement.{Statement}
use Rattle.grammar.specs.Productions.{Placed, Any, Ended}
use Rattle.grammar.specs.Reading.{Last}
use Rattle.grammar.specs.Reading.Last.{end, no_token_at}
use Rattle.grammar.specs.Rows.{real, Stands}
use Rattle.token.specs.declared.Why.TheVariants.{Stray, OpenString, BrokenString, Misshapen}
use Rattle.item.specs.Tokens.{After}

-- the tokens a are a whole statement
abbrev pub WholeOne : StartClause → List Placed → Type 0
WholeOne clause a = (y : Statement) × Ended (Any clause) a y

-- some statement begins with the tokens a
abbrev pub Opens : StartClause → List Placed → Type 0
Opens clause a = (r : List Placed) × WholeOne clause (a ++ r)

-- The tokens from the place `at` on, up to and including their first `;`, are a statement that reads y. It begins at o, its first token's place,
-- and e is the place after its `;`.
pub record One (clause : StartClause) (s : List ℕ) (at : ℕ) (y : Statement) (o e : ℕ) : Type 0 where
  pub first : Placed
  pub more : List Placed
  pub stand : After s at (first ∷ more) e
  pub reads : Ended (Any clause) (first ∷ more) y
  pub begins : first.place ≡ o

-- P2, 3: "a byte that starts no token, a lone `!`, `/` or `-` too"
abbrev pub OneThree : StartClause → List Placed → Last → ℕ → Type 0
OneThree clause ts z p = Opens clause ts × ¬ WholeOne clause ts × z ≡ no_token_at Stray p

-- P2, 15: "a string that meets the end of file first"
abbrev pub OneFifteen : StartClause → List Placed → Last → ℕ → Type 0
OneFifteen clause ts z p = Opens clause ts × ¬ WholeOne clause ts × z ≡ no_token_at OpenString p

-- P2, 16: "a string that first meets a forbidden byte or its 256th content byte"
abbrev pub OneSixteen : StartClause → List Placed → Last → ℕ → Type 0
OneSixteen clause ts z p = Opens clause ts × ¬ WholeOne clause ts × z ≡ no_token_at BrokenString p

-- P2, 17: "an overlong word or misshapen numeric run"
abbrev pub OneSeventeen : StartClause → List Placed → Last → ℕ → Type 0
OneSeventeen clause ts z p = Opens clause ts × ¬ WholeOne clause ts × z ≡ no_token_at Misshapen p

-- P2, 18: "the end of file", in an open statement
abbrev pub OneEighteen : StartClause → List Placed → Last → ℕ → Type 0
OneEighteen clause ts z p = Opens clause ts × ¬ WholeOne clause ts × z ≡ end p

-- 4: a token that no statement has after the tokens before it, where 5 does not hold
abbrev pub OneFour : StartClause → List Placed → ℕ → Type 0
OneFour clause ts p =
    (a : List Placed) × (t : Placed) × Stands ts p a t × Opens clause a × ¬ WholeOne clause a × ¬ Opens clause (a ++ (t ∷ []))
    × ¬ Opens clause (a ++ (real t ∷ []))

-- 5: right shape of time or date where one may stand, but not a real one
abbrev pub OneFive : StartClause → List Placed → ℕ → Type 0
OneFive clause ts p = (a : List Placed) × (t : Placed) × Stands ts p a t × Opens clause (a ++ (real t ∷ [])) × ¬ Opens clause (a ++ (t ∷ []))
