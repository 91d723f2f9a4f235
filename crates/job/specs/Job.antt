-- What a job file reads as, into a lent table of offsets (document 01, "The job grammar", "Refusal numbers").
use Rattle.std.specs.Prelude.{ℕ, cond, List, ◌++◌, leb, length, drop}
use Rattle.std.specs.declared.result.Result.{Result as Returned}
use Rattle.counts.specs.Limits.{file_bytes}
use Rattle.counts.specs.Refusals.{file_too_long, too_few_places}
use Rattle.counts.specs.Result.{Result, paper}
use Rattle.counts.specs.declared.Refusal.{Refusal}
use Rattle.counts.specs.Result.Result.{refused, done}
use Rattle.grammar.specs.declared.StartClause.{StartClause}
use Rattle.grammar.specs.Reading.{OffsetsRead, read}
use Rattle.item.specs.Tokens.{line}

-- ---- Need not be believed: the reading. `reads_job` of the page of claims ties it to `Verdict`.

-- 2: "legal job file with more statements than the lent offset table has places"
abbrev pub on_room : ℕ → OffsetsRead → OffsetsRead
on_room room (done os) = cond (leb (length os) room) (done os) (refused too_few_places 0)
on_room room (refused n p) = refused n p

-- "A job file is tested for 1, then from the left; the leftmost place decides, and at one place 3 goes before 6, 6 before 5, 5 before 4.
-- Then 2.": the offsets of the statements of a file that is taken, or the refusal
unfoldable pub read_job : StartClause → List ℕ → ℕ → OffsetsRead
read_job clause s room = cond (leb (length s) file_bytes) (on_room room (read clause (line s).tokens (line s).last)) (refused file_too_long 0)

-- ---- what the call returns and leaves

-- "The caller lends a table that receives each statement's offset." "A refusal ... changes no lent byte or entry. On success, places beyond
-- those written stay."
abbrev pub filled : OffsetsRead → List ℕ → List ℕ
filled (done os) table = os ++ drop (length os) table
filled (refused n p) table = table

-- the paper's value of each answer of `read_job`
abbrev pub paper_job : Returned ℕ Refusal → Result ℕ
paper_job = paper (λ n. n)
