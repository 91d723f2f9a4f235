-- What documents 01 and 02 say of a file's tokens, a row for each refusal number, with either setting. `ts` are the tokens, and `z` ends them.
-- `Begins clause a`, some legal file begins with the tokens a, says that all is in order up to the token after them.
use Rattle.std.specs.Prelude.{ℕ, ◌≡◌, List, [], ◌∷◌, ◌++◌, length}
use Rattle.counts.specs.Limits.{statements}
use Rattle.counts.specs.Refusals.{no_token, unexpected, not_real, too_many_statements, open_string, broken_string, misshapen, end_of_file}
use Rattle.token.specs.declared.Why.TheVariants.{Stray, OpenString, BrokenString, Misshapen}
use Rattle.grammar.specs.declared.StartClause.{StartClause}
use Rattle.grammar.specs.Grammar.{shape}
use Rattle.grammar.specs.Productions.{Placed, Legal, Begins}
use Rattle.grammar.specs.Reading.{Last, OffsetsRead}
use Rattle.grammar.specs.Reading.Last.{end, no_token_at}
use Rattle.counts.specs.Result.Result.{refused, done as taken}

-- some legal file has the token t after the tokens a
abbrev pub MayStand : StartClause → List Placed → Placed → Type 0
MayStand clause a t = Begins clause (a ++ (t ∷ []))

-- the same token, but a real time or date
abbrev pub real : Placed → Placed
real t = record { class = shape t.class; place = t.place; end = t.end; said = t.said }

-- as many whole statements as a file may have
abbrev pub Full : StartClause → List Placed → Type 0
Full clause a = (os : List ℕ) × Legal clause a os × length os ≡ statements

-- in ts the token t stands at the place p, after the tokens a
pub record Stands (ts : List Placed) (p : ℕ) (a : List Placed) (t : Placed) : Type 0 where
  pub after : List Placed
  pub parts : ts ≡ a ++ (t ∷ after)
  pub place : t.place ≡ p

-- P2: "3 stays for a byte that starts no token, a lone `!`, `/` or `-` too."
abbrev pub Three : StartClause → List Placed → Last → ℕ → Type 0
Three clause ts z p = Begins clause ts × z ≡ no_token_at Stray p

-- P2: "15 is a string that meets the end of file first"; place: its opening quote
abbrev pub Fifteen : StartClause → List Placed → Last → ℕ → Type 0
Fifteen clause ts z p = Begins clause ts × z ≡ no_token_at OpenString p

-- P2: "16 a string that first meets a forbidden byte or its 256th content byte"; place: its opening quote
abbrev pub Sixteen : StartClause → List Placed → Last → ℕ → Type 0
Sixteen clause ts z p = Begins clause ts × z ≡ no_token_at BrokenString p

-- P2: "17 an overlong word or misshapen numeric run"; place: its first byte
abbrev pub Seventeen : StartClause → List Placed → Last → ℕ → Type 0
Seventeen clause ts z p = Begins clause ts × z ≡ no_token_at Misshapen p

-- 6: "any token after 64 statements"; P6: "6, 7 and 11 move with the limit"
abbrev pub Six : StartClause → List Placed → ℕ → Type 0
Six clause ts p = (a : List Placed) × (t : Placed) × Stands ts p a t × Full clause a

-- 5: right shape of time or date where one may stand, but not a real one
abbrev pub Five : StartClause → List Placed → ℕ → Type 0
Five clause ts p = (a : List Placed) × (t : Placed) × Stands ts p a t × MayStand clause a (real t) × ¬ MayStand clause a t

-- 4: a token that no legal file has after the tokens before it, where neither 6 nor 5 holds
abbrev pub Four : StartClause → List Placed → ℕ → Type 0
Four clause ts p = (a : List Placed) × (t : Placed) × Stands ts p a t × Begins clause a × ¬ MayStand clause a t × ¬ MayStand clause a (real t) × ¬ Full clause a

-- P2: "18 is the end of file", that no legal file has after the tokens before it
abbrev pub Eighteen : StartClause → List Placed → Last → ℕ → Type 0
Eighteen clause ts z p = Begins clause ts × z ≡ end p × ((os : List ℕ) → ¬ Legal clause ts os)

-- a legal file, whose statements begin at os
abbrev pub Whole : StartClause → List Placed → Last → List ℕ → Type 0
Whole clause ts z os = (p : ℕ) × z ≡ end p × Legal clause ts os

-- The verdict on a file's tokens.
pub data Says (clause : StartClause) (ts : List Placed) (z : Last) : OffsetsRead → Type 0 where
  file : {os : List ℕ} → Whole clause ts z os → Says clause ts z (taken os)
  three : {p : ℕ} → Three clause ts z p → Says clause ts z (refused no_token p)
  fifteen : {p : ℕ} → Fifteen clause ts z p → Says clause ts z (refused open_string p)
  sixteen : {p : ℕ} → Sixteen clause ts z p → Says clause ts z (refused broken_string p)
  seventeen : {p : ℕ} → Seventeen clause ts z p → Says clause ts z (refused misshapen p)
  four : {p : ℕ} → Four clause ts p → Says clause ts z (refused unexpected p)
  eighteen : {p : ℕ} → Eighteen clause ts z p → Says clause ts z (refused end_of_file p)
  five : {p : ℕ} → Five clause ts p → Says clause ts z (refused not_real p)
  six : {p : ℕ} → Six clause ts p → Says clause ts z (refused too_many_statements p)
