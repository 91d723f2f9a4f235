-- "Length: PROCESSED 42, ERROR 50, plus the digits of n and the bytes of text."
use Prim.Native.Nat.{ℕ, ◌+◌, ◌≤◌, ◌<◌}
use mathlib.Core.Path.{◌≡◌, refl, ap, ◌∙◌}
use native.Mathlib.Omega.{arith}
use lib.ListN.{length, length-append}
use Rattle.decimal.specs.Digits.{plain_width, plain}
use Rattle.decimal.proofs.Laws.{length_digits}
use Rattle.decimal.proofs.PlainLaws.{plain_le}
use Rattle.moment.proofs.Moments.{length_moment}
use Rattle.record.specs.Record.{Content, outcome_bytes, record_bytes, fixed_length}
use Rattle.record.specs.declared.Outcome.{Outcome}
use Rattle.record.specs.declared.Outcome.TheVariants.{Processed, Error}

-- how many bytes the outcome takes, with the quote that opens the text
abbrev pub outcome_length : Outcome → ℕ
outcome_length Processed = 12
outcome_length (Error class code) = 20

pub length_outcome : (o : Outcome) → length (outcome_bytes o) ≡ outcome_length o
length_outcome Processed = refl
length_outcome (Error class code) = simp (length-append, length_digits) (omega arith)

pub error_room : (class code at len : ℕ) → at + length (outcome_bytes (Error class code)) ≤ len → at + 20 ≤ len
error_room class code at len h = omega (arith, length_outcome (Error class code))

-- a number of 32 bits has at most ten digits
pub ten_digits : (n w : ℕ) → n < 4294967296 → w ≡ plain_width n → w ≤ 10
ten_digits n w h e = omega (arith, plain_le n 10 (omega arith) (omega arith))

-- a number widened has as many
pub width_of : {n m w : ℕ} → w ≡ plain_width m → m ≡ n → w ≡ plain_width n
width_of p q = p ∙ ap plain_width q

pub length_plain : (n : ℕ) → length (plain n) ≡ plain_width n
unfolding plain
length_plain n = length_digits (plain_width n) n

-- a record's fields, one after the other
pub length_fields : (c : Content)
    → length (record_bytes c) ≡ 8 + plain_width c.number + length (outcome_bytes c.outcome) + length c.text + 22
unfolding record_bytes
length_fields c = simp (length-append, length_plain, length_moment) (omega arith)

pub length_record : (c : Content) → length (record_bytes c) ≡ fixed_length c.outcome + plain_width c.number + length c.text
length_record c = omega (arith, length_fields c, length_outcome c.outcome, fixed c.outcome)
  where
    fixed : (o : Outcome) → fixed_length o ≡ outcome_length o + 30
    fixed Processed = refl
    fixed (Error class code) = refl

pub fixed_le : (o : Outcome) (r : ℕ) → r ≡ fixed_length o → r ≤ 50
fixed_le Processed r e = omega arith
fixed_le (Error class code) r e = omega arith
