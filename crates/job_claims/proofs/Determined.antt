-- The paper's value of an answer loses nothing: two answers with the same value are equal, so the contracts determine the answers. Assumes
-- nothing.
use Prim.Native.Nat.{ℕ}
use mathlib.Core.Path.{◌≡◌, sym, ◌∙◌, ap}
use mathlib.Core.List.{List}
use lib.ListN.{length}
use Rattle.std.specs.declared.result.Result.{Result as Returned}
use Rattle.counts.proofs.Results.{paper_says_all}
use Rattle.counts.specs.Result.{Result, counted}
use Rattle.counts.specs.Result.Result.{refused}
use Rattle.counts.specs.declared.Refusal.{Refusal}
use Rattle.grammar.specs.declared.StartClause.{StartClause}
use Rattle.grammar.specs.Reading.{OffsetsRead}
use Rattle.job.specs.Job.{read_job, filled, paper_job}
use Rattle.job.specs.Statement.{paper_statement_at}
use Rattle.job.specs.declared.StatementAt.{StatementAt}

pub one_job_answer : (a b : Returned ℕ Refusal) → paper_job a ≡ paper_job b → a ≡ b
one_job_answer = paper_says_all (λ n. n) (λ x y e. e)

pub one_statement_answer : (a b : Returned StatementAt Refusal) → paper_statement_at a ≡ paper_statement_at b → a ≡ b
one_statement_answer = paper_says_all (λ x. x) (λ x y e. e)

-- two results that meet one contract are equal, answer and lent table
pub job_determined : (v : OffsetsRead) (table exit exit' : List ℕ) (a b : Returned ℕ Refusal) → (paper_job a ≡ counted v) × (exit ≡ filled v table)
    → (paper_job b ≡ counted v) × (exit' ≡ filled v table) → (a ≡ b) × (exit ≡ exit')
job_determined v table exit exit' a b p q = (one_job_answer a b (p.0 ∙ sym q.0), p.1 ∙ sym q.1)

-- and a refused file leaves the table as it was
pub refused_table_stays : (clause : StartClause) (s table exit : List ℕ) (n p : ℕ) → read_job clause s (length table) ≡ refused n p
    → exit ≡ filled (read_job clause s (length table)) table
    → exit ≡ table
refused_table_stays clause s table exit n p e x = x ∙ ap (λ (v : OffsetsRead). filled v table) e

pub statement_determined : (v : Result StatementAt) (a b : Returned StatementAt Refusal) → paper_statement_at a ≡ v → paper_statement_at b ≡ v → a ≡ b
statement_determined v a b p q = one_statement_answer a b (p ∙ sym q)
