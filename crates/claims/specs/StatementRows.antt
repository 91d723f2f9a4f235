-- The rows for the statement call, with either setting: it "judges only the bytes from the given offset on, as if a statement of any kind began there, and
-- stops after its `;`; 1, then 11 for an offset past the file's length, then 3, 5 and 4", "with 15 to 17 where 3 stood and 18 where 4 did" (P2).
use Rattle.std.specs.Prelude.{ℕ, ◌≤◌, ◌<◌, List, length}
use Rattle.counts.specs.Limits.{file_bytes}
use Rattle.counts.specs.Refusals.{file_too_long, out_of_range, no_token, unexpected, not_real, open_string, broken_string, misshapen, end_of_file}
use Rattle.counts.specs.Result.{Result, refused, done}
use Rattle.grammar.specs.declared.StartClause.{StartClause}
use Rattle.item.specs.Tokens.{line_at}
use Rattle.statement.specs.declared.Statement.{Statement}
use Rattle.meaning.specs.Paper.{paper_statement}
use Rattle.job.specs.Statement.{placed}
use Rattle.job.specs.declared.StatementAt.{StatementAt}
use Rattle.job_claims.specs.Rows.{One, OneThree, OneFifteen, OneSixteen, OneSeventeen, OneEighteen, OneFour, OneFive}

pub data StatementRow (clause : StartClause) (s : List ℕ) (at : ℕ) : Result StatementAt → Type 0 where
  one : file_bytes < length s → StatementRow clause s at (refused file_too_long 0)
  eleven : length s ≤ file_bytes → length s < at → StatementRow clause s at (refused out_of_range 0)
  three : {p : ℕ} → length s ≤ file_bytes → at ≤ length s → OneThree clause (line_at s at).tokens (line_at s at).last p
      → StatementRow clause s at (refused no_token p)
  fifteen : {p : ℕ} → length s ≤ file_bytes → at ≤ length s → OneFifteen clause (line_at s at).tokens (line_at s at).last p
      → StatementRow clause s at (refused open_string p)
  sixteen : {p : ℕ} → length s ≤ file_bytes → at ≤ length s → OneSixteen clause (line_at s at).tokens (line_at s at).last p
      → StatementRow clause s at (refused broken_string p)
  seventeen : {p : ℕ} → length s ≤ file_bytes → at ≤ length s → OneSeventeen clause (line_at s at).tokens (line_at s at).last p
      → StatementRow clause s at (refused misshapen p)
  five : {p : ℕ} → length s ≤ file_bytes → at ≤ length s → OneFive clause (line_at s at).tokens p → StatementRow clause s at (refused not_real p)
  four : {p : ℕ} → length s ≤ file_bytes → at ≤ length s → OneFour clause (line_at s at).tokens p → StatementRow clause s at (refused unexpected p)
  eighteen : {p : ℕ} → length s ≤ file_bytes → at ≤ length s → OneEighteen clause (line_at s at).tokens (line_at s at).last p
      → StatementRow clause s at (refused end_of_file p)
  -- the statement that the tokens from the offset on read as, its own offset, and the place after its `;`
  is_read : {x : Statement} {o e : ℕ} → length s ≤ file_bytes → at ≤ length s → One clause s at (paper_statement x) o e
      → StatementRow clause s at (done (placed x o e))
