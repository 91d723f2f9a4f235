-- What reading a time, and a date with a time, after a fixed word answers. Need not be believed: `moment_done` and `moment_back` (`proofs/Moments`) show
-- that it is the word and the bytes of a real date and time, and those, which the reader takes; `time_done` and `time_back` likewise for a time.
use Rattle.std.specs.Prelude.{ℕ, ◌+◌, ◌*◌, cond, List, length}
use Rattle.field.specs.Bytes.{ascii}
use Rattle.labelled.specs.Labelled.{on_some, field_after}
use Rattle.moment.specs.Moment.{real_moment}
use Rattle.std.specs.declared.option.Option.{Option}
use Rattle.std.specs.declared.option.Option.TheVariants.{Some, None}

-- dd:dd:dd after a word, real or not
unfoldable pub time_after : List ℕ → ℕ → List ℕ → Option ℕ
time_after s at word =
    on_some (field_after s at word 2) None λ hour.
    on_some (field_after s (at + length word + 2) (ascii ":") 2) None λ minute.
    on_some (field_after s (at + length word + 2 + 3) (ascii ":") 2) None λ second.
    Some (hour * 10000 + minute * 100 + second)

-- a real date and time after a word
unfoldable pub moment_after : List ℕ → ℕ → List ℕ → Option (ℕ × ℕ)
moment_after s at word =
    on_some (field_after s at word 8) None λ date.
    on_some (time_after s (at + length word + 8) (ascii " ")) None λ time.
    cond (real_moment date time) (Some (date, time)) None
