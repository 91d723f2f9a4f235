-- `put_name` meets its contract: three writes, each where the one before ended.
use native.Mathlib.Omega.{arith}
use Rattle.field.proofs.Put.{then, wrote_length}
use Rattle.decimal.proofs.Laws.{length_digits}
use Rattle.session_name.specs.Name.{name_of}
use Rattle.session_name.proofs.put_name.Goals as goal

pub put_ending-requires : goal.put_ending-requires
put_ending-requires c =
    let digits = c.put_digits-last.ensures in
    let letters = c.put_bytes-digits.ensures in
    let n = c.args.number.0 in
    omega (arith, digits.next, letters.next, length_digits 4 n, wrote_length digits, wrote_length letters)

pub returns : goal.returns
unfolding name_of
returns c =
    then c.put_bytes-digits.ensures
    (then c.put_digits-last.ensures c.put_ending.ensures)
