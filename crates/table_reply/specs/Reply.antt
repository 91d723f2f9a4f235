-- The records of a session's first n answers, in order, as they stand in a table's bytes. Need not be believed: it binds only functions
-- below the table's calls, which answer `reply` of the table without bytes.
use Rattle.std.specs.Prelude.{ℕ, ◌+◌, List}
use Rattle.sessions.specs.Find.{first}
use Rattle.sessions.specs.Table.{numbered, records}
use Rattle.slot.specs.Fields.{entry_of}

unfoldable pub reply_of : List ℕ → ℕ → ℕ → List ℕ
reply_of b s n = records (numbered 1 (first n (λ i. entry_of b s (i + 1))))
