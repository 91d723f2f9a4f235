-- What one statement reads as, from an offset on (document 01, "The job grammar").
use Rattle.std.specs.Prelude.{ℕ, ◌≡◌, cond, List, [], ◌∷◌, leb, length, drop}
use Rattle.std.specs.declared.result.Result.{Result as Returned}
use Rattle.counts.specs.Limits.{file_bytes}
use Rattle.counts.specs.Refusals.{file_too_long, out_of_range}
use Rattle.counts.specs.Result.{Result, paper}
use Rattle.counts.specs.declared.Refusal.{Refusal}
use Rattle.counts.specs.Result.Result.{refused, done}
use Rattle.token.specs.Token.{is_text_at, content_at}
use Rattle.grammar.specs.declared.StartClause.{StartClause}
use Rattle.grammar.specs.Statement as read
use Rattle.item.specs.Tokens.{next_item}
use Rattle.item.specs.Tokens.Next.{ended}
use Rattle.item.specs.Items.{item_at}
use Rattle.meaning.specs.Paper.{paper_statement}
use Rattle.statement.specs.Statement.{StatementRead, statement_of}
use Rattle.statement.specs.declared.Statement.{Statement}
use Rattle.job.specs.declared.StatementAt.{StatementAt}

-- a statement, its own offset and the place after its `;`
abbrev pub placed : Statement → ℕ → ℕ → StatementAt
placed x offset next = record { statement = x; offset = offset; next = next }

-- ---- Need not be believed: the reading. `reads_statement` and `reading` of the page of claims tie it to the rows and the productions.

-- the statement that begins with the token at the place p
abbrev pub on_read : ℕ → StatementRead → Result StatementAt
on_read p (done (x, next)) = done (placed x p next)
on_read p (refused number place) = refused number place

-- the bytes s, which stand in the file from the place base on, as if a statement of any kind began there
abbrev pub statement_in : StartClause → ℕ → List ℕ → Result StatementAt
statement_in clause base s = let t = item_at base s base in on_read t.place (statement_of base s clause t)

-- "That call judges only the bytes from the given offset on, as if a statement of any kind began there, and stops after its `;`; 1, then 11
-- for an offset past the file's length, then 3, 5 and 4 as below, places counted from the file's start."
unfoldable pub read_statement : StartClause → List ℕ → ℕ → Result StatementAt
read_statement clause s at =
    cond (leb (length s) file_bytes)
    (cond (leb at (length s)) (statement_in clause at (drop at s)) (refused out_of_range 0))
    (refused file_too_long 0)

-- ---- what the calls return, and how statements tile a file

-- the paper's value of each answer of `read_statement`
abbrev pub paper_statement_at : Returned StatementAt Refusal → Result StatementAt
paper_statement_at = paper (λ x. x)

-- "The text of a quoted string is shown as that part of the file between its quotes. ... where no whole string begins there it shows the
-- empty part"
abbrev pub text_at : List ℕ → ℕ → List ℕ
text_at s quote = cond (is_text_at s quote) (content_at s quote) []

-- From the place i on the file is statements that begin at os and read as ys, one after the other with only blanks between them, "each ... read
-- on its own from the place where it begins"; and then its end.
pub data Tiled (clause : StartClause) (s : List ℕ) : ℕ → List ℕ → List read.Statement → Type 0 where
  over : {i p : ℕ} → next_item s i ≡ ended p → Tiled clause s i [] []
  tile : {i o e : ℕ} {x : Statement} {os : List ℕ} {ys : List read.Statement} → next_item s o ≡ next_item s i → read_statement clause s o ≡ done (placed x o e)
      → Tiled clause s e os ys → Tiled clause s i (o ∷ os) (paper_statement x ∷ ys)
