-- An answer's paper value loses nothing: two answers with the same value are the same answer.
use mathlib.Core.Path.{◌≡◌}
use Rattle.std.specs.declared.result.Result.{Result as Returned}
use Rattle.counts.proofs.Results.{paper_says_all}
use Rattle.counts.specs.declared.Refusal.{Refusal}
use Rattle.record_read.specs.Reading.{paper_record_read}
use Rattle.record_read.specs.declared.Record.{Record}

pub read_says_all : (a b : Returned Record Refusal) → paper_record_read a ≡ paper_record_read b → a ≡ b
read_says_all = paper_says_all (λ r. r) (λ x y e. e)
