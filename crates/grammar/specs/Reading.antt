-- What ends a file's tokens, and what a reader answers; and the reading of the tokens, from the left, through the points.
use Rattle.std.specs.Prelude.{ℕ, cond, List, [], ◌∷◌, ◌++◌, ltb, length}
use Rattle.counts.specs.Limits.{statements}
use Rattle.counts.specs.Result.{Result}
use Rattle.counts.specs.Result.Result.{refused, done as taken}
use Rattle.counts.specs.Refusals.{no_token, unexpected, not_real, too_many_statements, open_string, broken_string, misshapen, end_of_file}
use Rattle.token.specs.declared.Why.{Why}
use Rattle.token.specs.declared.Why.TheVariants.{Stray, OpenString, BrokenString, Misshapen}
use Rattle.grammar.specs.declared.StartClause.{StartClause}
use Rattle.grammar.specs.Grammar.{Point, step, is_point, shape}
use Rattle.grammar.specs.Grammar.Point.{first, between, done, dead}
use Rattle.grammar.specs.Productions.{Placed}

-- what ends a file's tokens: the end of the file, or bytes that are no token, and why they are none
pub data Last : Type 0 where
  end : ℕ → Last
  no_token_at : Why → ℕ → Last

-- the offsets of the statements, or a refusal
abbrev pub OffsetsRead : Type 0
OffsetsRead = Result (List ℕ)

-- ---- Need not be believed: the reading. `proofs/Verdicts` shows that it gives the verdict of `Rows`.

-- the number that bytes which are no token are refused with, by why, and that of the end of the file
abbrev pub no_token_number : Why → ℕ
no_token_number Stray = no_token
no_token_number OpenString = open_string
no_token_number BrokenString = broken_string
no_token_number Misshapen = misshapen

abbrev pub end_number : ℕ
end_number = end_of_file

-- after some tokens: the point, and the offsets of the statements begun; or a refusal
pub data State : Type 0 where
  on : Point → List ℕ → State
  refused_at : ℕ → ℕ → State

-- the token t at the point q: 5 where a real one of its shape may stand, else 4
abbrev pub step_with : Point → List ℕ → Placed → State
step_with q os t =
    cond (is_point (step q t.class) dead)
    (cond (is_point (step q (shape t.class)) dead) (refused_at unexpected t.place) (refused_at not_real t.place))
    (on (step q t.class) os)

-- the point where a statement begins, after others that begin at os
abbrev pub opening : StartClause → List ℕ → Point
opening clause [] = first
opening clause (o ∷ os) = between clause

-- a token after the ; of a statement, or at the start: 6 after as many statements as a file may have, else it begins one more
abbrev pub begin : StartClause → List ℕ → Placed → State
begin clause os t = cond (ltb (length os) statements) (step_with (opening clause os) (os ++ (t.place ∷ [])) t) (refused_at too_many_statements t.place)

abbrev pub move : StartClause → State → Placed → State
move clause (refused_at n p) t = refused_at n p
move clause (on q os) t = cond (is_point q done) (begin clause os t) (step_with q os t)

abbrev pub moves : StartClause → State → List Placed → State
moves clause s [] = s
moves clause s (t ∷ ts) = moves clause (move clause s t) ts

-- the end of the file is legal where no statement is open, and one is whole
abbrev pub at_end : Point → List ℕ → ℕ → OffsetsRead
at_end q [] p = refused end_number p
at_end q (o ∷ os) p = cond (is_point q done) (taken (o ∷ os)) (refused end_number p)

abbrev pub close : State → Last → OffsetsRead
close (refused_at n p) z = refused n p
close (on q os) (no_token_at why p) = refused (no_token_number why) p
close (on q os) (end p) = at_end q os p

-- what the tokens ts read as, with z after them
unfoldable pub read : StartClause → List Placed → Last → OffsetsRead
read clause ts z = close (moves clause (on done []) ts) z
