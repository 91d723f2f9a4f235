-- Document 01's number and values for each answer of the table's calls.
use Rattle.std.specs.Prelude.{ℕ}
use Rattle.std.specs.declared.result.Result.{Result as Returned}
use Rattle.counts.specs.Result.{Result, paper}
use Rattle.counts.specs.declared.CommandNumber.{CommandNumber}
use Rattle.counts.specs.declared.Refusal.{Refusal}
use Rattle.counts.specs.declared.SessionNumber.{SessionNumber}
use Rattle.counts.specs.declared.Ticket.{Ticket}

-- a fresh table
abbrev pub paper_made : Returned (Unit {0}) Refusal → Result (Unit {0})
paper_made = paper λ made. made

-- session number and ticket
abbrev pub paper_placed : Returned (SessionNumber × Ticket) Refusal → Result (ℕ × ℕ)
paper_placed = paper λ placed. (placed.0.0, placed.1.0)

-- "number, ticket, command"
abbrev pub paper_taken_up : Returned (SessionNumber × Ticket × CommandNumber) Refusal → Result (ℕ × ℕ × ℕ)
paper_taken_up = paper λ given. (given.0.0, given.1.0, given.2.0)

-- accepted
abbrev pub paper_answered : Returned (Unit {0}) Refusal → Result (Unit {0})
paper_answered = paper λ accepted. accepted

-- the bytes written
abbrev pub paper_collected : Returned ℕ Refusal → Result ℕ
paper_collected = paper λ written. written
