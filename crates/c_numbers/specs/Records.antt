-- Outcomes and records as numbers.
use Rattle.std.specs.Prelude.{ℕ, ◌+◌, cond, List, [], ◌∷◌, eqb}
use Rattle.counts.specs.Limits.{class_most}
use Rattle.record.specs.declared.Outcome.{Outcome}
use Rattle.record.specs.declared.Outcome.TheVariants.{Processed, Error}
use Rattle.record_read.specs.declared.Record.{Record}
use Rattle.sessions.specs.declared.Answer.{Answer}

-- 0 for PROCESSED, 1 for ERROR; a number that is neither gets a class out of its range
abbrev pub outcome_given : ℕ → ℕ → ℕ → Outcome
outcome_given outcome class code =
    cond (eqb outcome 0) Processed (cond (eqb outcome 1) (Error class code) (Error (class_most + 1) 0))

-- an answer to a command
abbrev pub answer_given : ℕ → ℕ → ℕ → ℕ → ℕ → Answer
answer_given outcome class code date time = record { outcome = outcome_given outcome class code; date = date; time = time }

abbrev pub outcome_number : Outcome → ℕ
outcome_number Processed = 0
outcome_number (Error class code) = 1

abbrev pub class_number : Outcome → ℕ
class_number Processed = 0
class_number (Error class code) = class

abbrev pub code_number : Outcome → ℕ
code_number Processed = 0
code_number (Error class code) = code

-- number, outcome, class, code, the text's place and length, date, time
abbrev pub record_numbers : Record → List ℕ
record_numbers x =
    x.number.0 ∷
    outcome_number x.outcome ∷
    class_number x.outcome ∷
    code_number x.outcome ∷
    x.start ∷
    x.length ∷
    x.date ∷
    x.time ∷
    []
