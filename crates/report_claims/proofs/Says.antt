-- An answer's paper value loses nothing: two answers with the same value are the same answer.
use Prim.Native.Nat.{ℕ}
use mathlib.Core.Path.{◌≡◌}
use Rattle.std.specs.declared.result.Result.{Result as Returned}
use Rattle.counts.specs.declared.Refusal.{Refusal}
use Rattle.counts.proofs.Results.{paper_says_all}
use Rattle.report.specs.Answer.{paper_report_read}
use Rattle.report_write.specs.Writing.{paper_report_written}

pub read_says_all : (a b : Returned (ℕ × ℕ) Refusal) → paper_report_read a ≡ paper_report_read b → a ≡ b
read_says_all = paper_says_all (λ size. size) (λ x y e. e)

pub write_says_all : (a b : Returned ℕ Refusal) → paper_report_written a ≡ paper_report_written b → a ≡ b
write_says_all = paper_says_all (λ n. n) (λ x y e. e)
