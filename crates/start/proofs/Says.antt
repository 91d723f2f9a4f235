-- An answer's paper value loses nothing: two answers with the same value are the same answer.
use mathlib.Core.Path.{◌≡◌}
use mathlib.Core.Bool.{Bool}
use Rattle.std.specs.declared.result.Result.{Result as Returned}
use Rattle.counts.specs.declared.Refusal.{Refusal}
use Rattle.counts.proofs.Results.{paper_says_all}
use Rattle.start.specs.Decision.{paper_decision}

pub decision_says_all : (a b : Returned Bool Refusal) → paper_decision a ≡ paper_decision b → a ≡ b
decision_says_all = paper_says_all (λ due. due) (λ x y e. e)
