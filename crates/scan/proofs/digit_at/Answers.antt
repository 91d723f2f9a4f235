-- `scan::digit_at` meets its contract.
use Rattle.scan.proofs.digit_at.Goals as goal

pub returns : goal.returns
returns c = rw (c.is_digit.ensures, c.byte_at.ensures)
