-- The numbers of a job file, as their bytes stand (document 01, "Bytes and tokens").
use Rattle.std.specs.Prelude.{ℕ, ◌-◌, ◌≤◌, ◌≡◌, Bool, false, List, length, get_or}
use Rattle.field.specs.Part.{part}
use Rattle.number.specs.Number.{Numeral}
use Rattle.scan.specs.Kinds.{is_numeric_byte}

-- "A token is the longest run of its kind": from a to b the bytes of s are a number, and no further byte of a numeric run follows
pub record NumberFrom (s : List ℕ) (a b : ℕ) : Type 0 where
  pub minus : Bool
  pub whole : List ℕ
  pub after : List ℕ
  pub numeral : Numeral (part s a (b - a)) minus whole after
  pub inside : b ≤ length s
  pub longest : is_numeric_byte (get_or s b 0) ≡ false
