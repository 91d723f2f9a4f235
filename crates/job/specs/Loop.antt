-- The loop over a file's statements, as code has it: what one token between statements leads to, and the rest of the file after it. Need not be
-- believed: `proofs/Bridge` shows that it is the reading of the whole list of tokens.
use Rattle.std.specs.Prelude.{ℕ, zero, suc, ◌+◌, ◌-◌, ◌≤◌, ◌≡◌, cond, List, [], ◌∷◌, ◌++◌, eqb, ltb, leb, length, take, drop}
use Rattle.std.specs.declared.result.Result.{Result as Returned}
use Rattle.std.specs.declared.result.Result.TheVariants.{Ok, Err}
use Rattle.std.specs.declared.option.Option.{Option}
use Rattle.std.specs.declared.option.Option.TheVariants.{Some, None}
use Rattle.counts.specs.Limits.{statements}
use Rattle.counts.specs.Refusals.{too_few_places, unexpected, too_many_statements}
use Rattle.counts.specs.Result.{Result, refused_as, paper}
use Rattle.counts.specs.Result.Result.{refused, done}
use Rattle.counts.specs.declared.Refusal.{Refusal}
use Rattle.grammar.specs.declared.StartClause.{StartClause}
use Rattle.grammar.specs.Grammar.{class_no}
use Rattle.grammar.specs.Grammar.Class.{JOB}
use Rattle.grammar.specs.Reading.{OffsetsRead}
use Rattle.item.specs.Items.{code_no, end_no, refusal_no, item_at}
use Rattle.item.specs.declared.Item.{Item}
use Rattle.statement.specs.Statement.{StatementRead, statement_of}
use Rattle.job.specs.declared.StatementsFound.{StatementsFound}

-- what a token between statements leads to: one more statement, with the place after it, or the file's end, or a refusal
abbrev pub Step : Type 0
Step = Result (Option ℕ)

-- the paper's value of each answer
abbrev pub paper_step : Returned (Option ℕ) Refusal → Step
paper_step = paper (λ next. next)

abbrev pub refuse : ℕ → Item → Step
refuse n t = refused n t.place

abbrev pub step_read : StatementRead → Step
step_read (done (x, next)) = done (Some next)
step_read (refused n p) = refused n p

-- "the first JOB and no other": a statement that begins with t, after k statements
unfoldable pub step_into : StartClause → List ℕ → ℕ → Item → Step
step_into clause s k t =
    cond (eqb k 0)
    (cond (eqb (code_no t.class) (class_no JOB)) (step_read (statement_of 0 s clause t)) (refuse unexpected t))
    (cond (eqb (code_no t.class) (class_no JOB)) (refuse unexpected t) (step_read (statement_of 0 s clause t)))

-- what stands after k statements: the file's end, no token, a token too many, or one more statement
unfoldable pub step_of : StartClause → List ℕ → ℕ → Item → Step
step_of clause s k t =
    cond (eqb (code_no t.class) end_no) (cond (eqb k 0) (refuse (refusal_no (code_no t.class)) t) (done None))
    (cond (ltb end_no (code_no t.class)) (refuse (refusal_no (code_no t.class)) t) (cond (eqb k statements) (refuse too_many_statements t) (step_into clause s k t)))

-- offsets, and then those of the rest
abbrev pub after : List ℕ → OffsetsRead → OffsetsRead
after os (done rest) = done (os ++ rest)
after os (refused n p) = refused n p

abbrev pub on_step : Step → (ℕ → OffsetsRead) → OffsetsRead
on_step (done None) rest = done []
on_step (done (Some next)) rest = rest next
on_step (refused n p) rest = refused n p

-- where the statements begin from the place at on, after k statements; `left` bounds how many tokens are looked at between statements
unfoldable pub job_loop : StartClause → List ℕ → (left k at : ℕ) → OffsetsRead
job_loop clause s zero k at = refused too_many_statements at
job_loop clause s (suc left) k at =
    on_step (step_of clause s k (item_at 0 s at)) λ next. after ((item_at 0 s at).place ∷ []) (job_loop clause s left (k + 1) next)

abbrev pub rest_of : StartClause → List ℕ → (k at : ℕ) → OffsetsRead
rest_of clause s k at = job_loop clause s (statements + 1 - k) k at

-- what was found after k statements: the offsets of some, and what stands after them
abbrev pub found_of : StartClause → List ℕ → ℕ → StatementsFound → OffsetsRead
found_of clause s k f = after (take f.count f.places) (on_step (done f.then) (rest_of clause s (k + f.count)))

-- it is the rest of the file; and where it goes on, it has gone on
abbrev pub Block : StartClause → List ℕ → (k at : ℕ) → StatementsFound → Type 0
Block clause s k at f =
    (found_of clause s k f ≡ rest_of clause s k at)
    × (f.count ≤ length f.places)
    × (k + f.count ≤ statements)
    × ((next : ℕ) → f.then ≡ Some next → 1 ≤ f.count)

-- the same of an answer: a refusal is that of the rest
abbrev pub BlockRead : StartClause → List ℕ → (k at : ℕ) → Returned StatementsFound Refusal → Type 0
BlockRead clause s k at (Ok f) = Block clause s k at f
BlockRead clause s k at (Err r) = refused_as r ≡ rest_of clause s k at

-- the answer where the statements after the first k begin at os
abbrev pub answered : (k room : ℕ) → OffsetsRead → Result ℕ
answered k room (done os) = cond (leb (k + length os) room) (done (k + length os)) (refused too_few_places 0)
answered k room (refused n p) = refused n p

-- and the lent table then, with these offsets from its place k on
abbrev pub entered : ℕ → OffsetsRead → List ℕ → List ℕ
entered k (done os) table = cond (leb (k + length os) (length table)) (take k table ++ os ++ drop (k + length os) table) table
entered k (refused n p) table = table
