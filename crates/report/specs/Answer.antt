-- What `read_report` returns and leaves (document 02, P1).
use Rattle.std.specs.Prelude.{ℕ, List}
use Rattle.counts.specs.Result.{Result, paper}
use Rattle.counts.specs.Result.Result.{refused, done}
use Rattle.field.specs.Part.{put}
use Rattle.report.specs.Report.{Told}
use Rattle.counts.specs.declared.Refusal.{Refusal}
use Rattle.std.specs.declared.result.Result.{Result as Returned}

-- how many columns and lines of values the report has
abbrev pub sized : Result Told → Result (ℕ × ℕ)
sized (done t) = done (t.columns, t.lines)
sized (refused number place) = refused number place

-- The cells go to the front of what is lent for them; "a refusal changes no lent byte or entry".
abbrev pub filled : Result Told → List ℕ → List ℕ
filled (done t) lent = put lent 0 t.cells
filled (refused number place) lent = lent

-- the paper's value of each answer
abbrev pub paper_report_read : Returned (ℕ × ℕ) Refusal → Result (ℕ × ℕ)
paper_report_read = paper λ size. size
