-- What a search asks of lent bytes: a table's size, MaxSessions in range and the turn's mark below it. Need not be believed: it binds only
-- the searches, and sound bytes are so.
use Rattle.std.specs.Prelude.{ℕ, ◌≤◌, ◌<◌, ◌≡◌, List, length}
use Rattle.counts.specs.Limits.{sessions}
use Rattle.table_layout.specs.Layout.{table_bytes, number, max_at, mark_at}

pub record Limited (b : List ℕ) : Type 0 where
  pub size : length b ≡ table_bytes
  pub limit : number b max_at ≤ sessions
  pub mark : number b mark_at < number b max_at
