-- An answer's paper value loses nothing: two answers with the same value are the same answer.
use Prim.Native.Nat.{ℕ}
use mathlib.Core.Path.{◌≡◌}
use Rattle.std.specs.declared.result.Result.{Result as Returned}
use Rattle.counts.proofs.Results.{paper_says_all}
use Rattle.counts.specs.declared.Refusal.{Refusal}
use Rattle.record.specs.Writing.{paper_record_written}

pub write_says_all : (a b : Returned ℕ Refusal) → paper_record_written a ≡ paper_record_written b → a ≡ b
write_says_all = paper_says_all (λ n. n) (λ x y e. e)
