-- What the reader of a decimal field answers. Need not be believed: `read_done` and `read_back` (`proofs/ReadLaws`) show that it is a number's digits, and
-- that number, which it takes.
use Rattle.std.specs.Prelude.{ℕ, cond, ◌&&◌, List, length, eqb}
use Rattle.decimal.specs.Digits.{value, all_digits}
use Rattle.std.specs.declared.option.Option.{Option}
use Rattle.std.specs.declared.option.Option.TheVariants.{Some, None}

-- w bytes, all of them digits: their value
unfoldable pub digits_read : ℕ → List ℕ → Option ℕ
digits_read w ds = cond (eqb (length ds) w && all_digits ds) (Some (value ds)) None
