-- Every refusal of every call fits what C gets, row by row.
use Prim.Native.Nat.{ℕ, ◌≤◌}
use mathlib.Core.Path.{ap}
use mathlib.Core.List.{List}
use native.Mathlib.Omega.{arith}
use lib.ListN.{length, length-append}
use Rattle.counts.specs.Limits.{file_bytes}
use Rattle.report.specs.Report.{report_text, Breaks, at_names, at_line}
use Rattle.counts.specs.Result.Result.{refused}
use Rattle.sessions.specs.Table.{State}
use Rattle.sessions.specs.declared.Answer.{Answer}
use Rattle.record.specs.Record.{Content}
use Rattle.grammar.specs.declared.StartClause.{StartClause}
use Rattle.grammar.specs.Statement.{Start}
use Rattle.start.specs.Due.{Given}
use Rattle.start.specs.Rows.{DueRow, five, seven, nineteen}
use Rattle.job_claims.specs.Verdict.{Verdict}
use Rattle.job_claims.proofs.Claims.{refusal_fits, only}
use Rattle.job_claims.proofs.Statements.{statement_refusal_fits}
use Rattle.report_claims.specs.Rows as report-row
use Rattle.claims.specs.Fits.{FitsWithin, FitsUpTo, Fits}
use Rattle.claims.specs.NameRows as name
use Rattle.claims.specs.RecordRows as record-row
use Rattle.claims.specs.TableRows as row
use Rattle.claims.specs.StatementRows.{StatementRow}
use Rattle.claims.proofs.Demand1Statements.{read_statement_exactly}

-- a number from 1 to 18 without a place
without_place : {n : ℕ} → 1 ≤ n → n ≤ 18 → (1 ≤ n) × (n ≤ 18) × (0 ≤ file_bytes)
without_place l h = (l, h, omega arith)

pub read_name_fits : (max : ℕ) (bytes : List ℕ) → Fits (name.ReadNameRow max bytes)
read_name_fits max bytes number place (name.no_name_row e) = without_place (omega arith) (omega arith)

pub write_name_fits : (max n room : ℕ) → Fits (name.WriteNameRow max n room)
write_name_fits max n room number place (name.not_in_range e) = without_place (omega arith) (omega arith)
write_name_fits max n room number place (name.no_room e l) = without_place (omega arith) (omega arith)

pub read_record_fits : (limit : ℕ) (bytes : List ℕ) → Fits (record-row.ReadRow limit bytes)
read_record_fits limit bytes number place (record-row.no_record e) = without_place (omega arith) (omega arith)

pub write_record_fits : (limit : ℕ) (c : Content) (room : ℕ) → Fits (record-row.WriteRow limit c room)
write_record_fits limit c room number place (record-row.seven e) = without_place (omega arith) (omega arith)
write_record_fits limit c room number place (record-row.five e f) = without_place (omega arith) (omega arith)
write_record_fits limit c room number place (record-row.eight e f l) = without_place (omega arith) (omega arith)

pub read_job_fits : (clause : StartClause) (file : List ℕ) (room : ℕ) → Fits (Verdict clause file room)
read_job_fits clause file room number place v = refusal_fits clause file room (only clause file room (refused number place) v)

pub read_statement_fits : (clause : StartClause) (file : List ℕ) (at : ℕ) → Fits (StatementRow clause file at)
read_statement_fits clause file at number place v = statement_refusal_fits clause file at ((read_statement_exactly clause file at).1 (refused number place) v)

-- a report's 7 has the start of a line, which stands within the file
breaks_inside : {d : ℕ} {text : List ℕ} {p : ℕ} → Breaks d text p → p ≤ length text
breaks_inside (at_names none) = omega arith
breaks_inside {d} (at_line r rest fits is goes_on none) = omega (arith, ap length is, length-append (report_text d r) rest)

pub read_report_fits : (d : ℕ) (file : List ℕ) (room : ℕ) → FitsUpTo (length file) (report-row.ReadReportRow d file room)
read_report_fits d file room number place (report-row.eleven e) = (omega arith, omega arith, omega arith)
read_report_fits d file room number place (report-row.seven e b) = (omega arith, omega arith, breaks_inside b)
read_report_fits d file room number place (report-row.eight r e h l) = (omega arith, omega arith, omega arith)

pub write_report_fits : (source cells : List ℕ) (many d room : ℕ) → Fits (report-row.WriteReportRow source cells many d room)
write_report_fits source cells many d room number place (report-row.eleven_delimiter e) = without_place (omega arith) (omega arith)
write_report_fits source cells many d room number place (report-row.eleven_columns e n) = without_place (omega arith) (omega arith)
write_report_fits source cells many d room number place (report-row.seven e s f n) = without_place (omega arith) (omega arith)
write_report_fits source cells many d room number place (report-row.eight r e g l) = without_place (omega arith) (omega arith)

pub make_fits : (b : List ℕ) (max : ℕ) → Fits (row.MakeRow b max)
make_fits b max number place (row.eleven e) = without_place (omega arith) (omega arith)
make_fits b max number place (row.thirteen e f) = without_place (omega arith) (omega arith)

module _ (b : List ℕ) (σ : State) where
  pub place_fits : (p n : ℕ) → Fits (row.PlaceRow b σ p n)
  place_fits p n number place (row.thirteen a) = without_place (omega arith) (omega arith)
  place_fits p n number place (row.eleven a c) = without_place (omega arith) (omega arith)
  place_fits p n number place (row.nine a c d) = without_place (omega arith) (omega arith)
  place_fits p n number place (row.twelve s a c d e) = without_place (omega arith) (omega arith)

  pub take_up_fits : Fits (row.TakeUpRow b σ)
  take_up_fits number place (row.thirteen a) = without_place (omega arith) (omega arith)
  take_up_fits number place (row.fourteen a c d) = without_place (omega arith) (omega arith)

  pub answer_fits : (t c : ℕ) (x : Answer) → Fits (row.AnswerRow b σ t c x)
  answer_fits t c x number place (row.thirteen a) = without_place (omega arith) (omega arith)
  answer_fits t c x number place (row.ten_empty a h) = without_place (omega arith) (omega arith)
  answer_fits t c x number place (row.ten_other s a h e) = without_place (omega arith) (omega arith)
  answer_fits t c x number place (row.five s a h e f) = without_place (omega arith) (omega arith)
  answer_fits t c x number place (row.seven s a h e f g) = without_place (omega arith) (omega arith)

  pub collect_fits : (p t room : ℕ) → Fits (row.CollectRow b σ p t room)
  collect_fits p t room number place (row.thirteen a) = without_place (omega arith) (omega arith)
  collect_fits p t room number place (row.eleven a c) = without_place (omega arith) (omega arith)
  collect_fits p t room number place (row.ten a c d) = without_place (omega arith) (omega arith)
  collect_fits p t room number place (row.eight s a c d e) = without_place (omega arith) (omega arith)

pub is_due_fits : (g : Given) (x : Start) → FitsWithin 19 0 (DueRow g x)
is_due_fits g x number place (five f) = omega arith
is_due_fits g x number place (seven r f) = omega arith
is_due_fits g x number place (nineteen r p f) = omega arith
