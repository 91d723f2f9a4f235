-- An answer's date and time, and its record.
use Rattle.std.specs.Prelude.{ℕ, Bool, List, []}
use Rattle.moment.specs.Moment.{real_moment}
use Rattle.record.specs.Record.{content, record_bytes}
use Rattle.sessions.specs.declared.Answer.{Answer}

-- "with a real date and time"
abbrev pub is_dated : Answer → Bool
is_dated a = real_moment a.date a.time

-- the record of the answer to command n, "text empty"
abbrev pub record_of : ℕ → Answer → List ℕ
record_of n a = record_bytes (content n a.outcome [] a.date a.time)
