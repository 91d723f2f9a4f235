-- Document 01's rows for the calls on records: one constructor for each answer, under its condition.
use Rattle.std.specs.Prelude.{ℕ, ◌≤◌, ◌<◌, ◌≡◌, Bool, true, false, List, length}
use Rattle.counts.specs.Refusals.{not_real, not_a_record, too_little_room}
use Rattle.counts.specs.Result.{Result, refused, done}
use Rattle.moment.specs.Moment.{real_moment}
use Rattle.record.specs.Record.{Content, in_range, permitted, record_bytes}

abbrev pub fields_in_range : ℕ → Content → Bool
fields_in_range limit c = in_range limit c.number c.outcome c.text

-- write_record: "The writer tests number, class, code and text (7), then date and time (5), then room (8)."
pub data WriteRow (limit : ℕ) (c : Content) (room : ℕ) : Result ℕ → Type 0 where
  seven : fields_in_range limit c ≡ false → WriteRow limit c room (refused not_a_record 0)
  five : fields_in_range limit c ≡ true → real_moment c.date c.time ≡ false → WriteRow limit c room (refused not_real 0)
  eight : fields_in_range limit c ≡ true → real_moment c.date c.time ≡ true → room < length (record_bytes c) → WriteRow limit c room (refused too_little_room 0)
  record_written : fields_in_range limit c ≡ true → real_moment c.date c.time ≡ true → length (record_bytes c) ≤ room
      → WriteRow limit c room (done (length (record_bytes c)))

-- read_record: "The reader takes one whole record and nothing beyond. Any other bytes get 7"
pub data ReadRow (limit : ℕ) (s : List ℕ) : Result Content → Type 0 where
  record_read_row : (c : Content) → permitted limit c ≡ true → s ≡ record_bytes c → ReadRow limit s (done c)
  no_record : ((c : Content) → permitted limit c ≡ true → s ≡ record_bytes c → ⊥) → ReadRow limit s (refused not_a_record 0)
