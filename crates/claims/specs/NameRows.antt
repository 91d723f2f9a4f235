-- Document 01's rows for the calls on session names: one constructor for each answer, under its condition.
use Rattle.std.specs.Prelude.{ℕ, ◌≤◌, ◌<◌, ◌≡◌, Bool, true, false, ◌&&◌, List, ltb}
use Rattle.counts.specs.Refusals.{out_of_range, too_little_room}
use Rattle.counts.specs.Result.{Result, refused, done}
use Rattle.session_name.specs.Name.{is_max, name_of}
use Rattle.session_name.specs.declared.Kind.{Kind}

-- "number below MaxSessions", MaxSessions "1 to 32"
abbrev pub in_range : ℕ → ℕ → Bool
in_range max n = is_max max && ltb n max

-- write_name: "tests MaxSessions, then number or name (11), then room (8)"
pub data WriteNameRow (max n room : ℕ) : Result ℕ → Type 0 where
  not_in_range : in_range max n ≡ false → WriteNameRow max n room (refused out_of_range 0)
  no_room : in_range max n ≡ true → room < 12 → WriteNameRow max n room (refused too_little_room 0)
  name_written : in_range max n ≡ true → 12 ≤ room → WriteNameRow max n room (done 12)

-- read_name: a name is taken exactly when it is one, and all else gets 11
pub data ReadNameRow (max : ℕ) (name : List ℕ) : Result (ℕ × Kind) → Type 0 where
  name_read_row : (n : ℕ) (kind : Kind) → in_range max n ≡ true → name ≡ name_of n kind → ReadNameRow max name (done (n, kind))
  no_name_row : ((n : ℕ) (kind : Kind) → in_range max n ≡ true → name ≡ name_of n kind → ⊥) → ReadNameRow max name (refused out_of_range 0)
