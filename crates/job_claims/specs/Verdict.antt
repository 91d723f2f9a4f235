-- What document 01 says of a job file and a lent table with so many places, with either setting.
use Rattle.std.specs.Prelude.{ℕ, ◌≤◌, ◌<◌, List, length}
use Rattle.counts.specs.Limits.{file_bytes}
use Rattle.counts.specs.Refusals.{file_too_long, too_few_places}
use Rattle.counts.specs.Result.Result.{refused, done}
use Rattle.grammar.specs.declared.StartClause.{StartClause}
use Rattle.grammar.specs.Reading.{OffsetsRead}
use Rattle.grammar.specs.Rows.{Whole, Says}
use Rattle.item.specs.Tokens.{line}

-- one row for each answer
pub data Verdict (clause : StartClause) (s : List ℕ) (room : ℕ) : OffsetsRead → Type 0 where
  too_long : file_bytes < length s → Verdict clause s room (refused file_too_long 0)
  broken : {n p : ℕ} → length s ≤ file_bytes → Says clause (line s).tokens (line s).last (refused n p) → Verdict clause s room (refused n p)
  no_room : {os : List ℕ} → length s ≤ file_bytes → Says clause (line s).tokens (line s).last (done os) → room < length os
      → Verdict clause s room (refused too_few_places 0)
  fits : {os : List ℕ} → length s ≤ file_bytes → Says clause (line s).tokens (line s).last (done os) → length os ≤ room → Verdict clause s room (done os)

-- a legal job file of at most 65,535 bytes, with the offsets of its statements, and a table that has room for them
pub record Taken (clause : StartClause) (s : List ℕ) (room : ℕ) (os : List ℕ) : Type 0 where
  pub short : length s ≤ file_bytes
  pub whole : Whole clause (line s).tokens (line s).last os
  pub fits : length os ≤ room

-- the same file, and a table that has not
pub record Crowded (clause : StartClause) (s : List ℕ) (room : ℕ) (os : List ℕ) : Type 0 where
  pub short : length s ≤ file_bytes
  pub whole : Whole clause (line s).tokens (line s).last os
  pub crowded : room < length os
