-- Every refusal of every call fits the one number that C gets: its number is from 1 to 18, or to 19 for a start decision, and its place is at most a file's
-- length, which for a job file is 65,535.
use Rattle.std.specs.Prelude.{ℕ, ◌≤◌}
use Rattle.counts.specs.Limits.{file_bytes}
use Rattle.counts.specs.Result.{Result, refused}

-- of an answer, by the rows that give it: where it is a refusal
abbrev pub FitsWithin : {A : Type 0} → (numbers places : ℕ) → (Result A → Type 0) → Type 0
FitsWithin numbers places Row = (number place : ℕ) → Row (refused number place) → (1 ≤ number) × (number ≤ numbers) × (place ≤ places)

abbrev pub FitsUpTo : {A : Type 0} → ℕ → (Result A → Type 0) → Type 0
FitsUpTo places Row = FitsWithin 18 places Row

abbrev pub Fits : {A : Type 0} → (Result A → Type 0) → Type 0
Fits Row = FitsUpTo file_bytes Row
