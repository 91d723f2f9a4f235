-- What document 01 has a call answer: a refusal with its number and place, or what was asked for.
use Rattle.std.specs.Prelude.{ℕ, List, length}
use Rattle.std.specs.declared.result.Result.{Result as Returned}
use Rattle.std.specs.declared.result.Result.TheVariants.{Ok, Err}
use Rattle.counts.specs.Refusals.{number_of}
use Rattle.counts.specs.declared.Reason.{Reason}
use Rattle.counts.specs.declared.Refusal.{Refusal}

pub data Result (A : Type 0) : Type 0 where
  refused : (number place : ℕ) → Result A
  done : A → Result A

-- "A refusal returns its number, the place for 3 to 6 in a file (else 0)"; P2: "15 to 17 where 3 stood and 18 where 4 did"
abbrev pub refused_as : {A : Type 0} → Refusal → Result A
refused_as r = refused (number_of r.reason) r.place

-- how many there are of what was asked for: the statements of a file, the bytes of a reply
abbrev pub counted : {A : Type 0} → Result (List A) → Result ℕ
counted (refused number place) = refused number place
counted (done xs) = done (length xs)

-- what a call returns, as the paper has it: the paper's values of what was asked for, or the refusal
abbrev pub paper : {T A : Type 0} → (T → A) → Returned T Refusal → Result A
paper values (Ok x) = done (values x)
paper values (Err r) = refused_as r

-- the number of the refusal that a test comes to, and 0 where it finds none
abbrev pub refused_by : Returned Unit Reason → ℕ
refused_by (Ok _) = 0
refused_by (Err reason) = number_of reason
