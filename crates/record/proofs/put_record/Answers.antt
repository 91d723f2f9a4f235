-- `record::put_record` meets its contract.
use native.Mathlib.Omega.{arith}
use Rattle.field.proofs.Put.{wrote_length}
use Rattle.decimal.proofs.PlainLaws.{plain_fits}
use Rattle.moment.proofs.Moments.{length_moment}
use Rattle.record.proofs.Lengths.{ten_digits, width_of}
use Rattle.record.proofs.Writes.{ranges, room_of, wrote_fields}
use Rattle.record.proofs.put_record.Goals as goal

pub put_after-after_number-requires : goal.put_after-after_number-requires
put_after-after_number-requires c =
    let w = width_of c.plain_width.ensures c.from.ensures in
    (omega (arith, ten_digits _ _ (omega arith) w), rw w (plain_fits c.args.number.0), omega (arith, room_of))

pub put_outcome-start-requires : goal.put_outcome-start-requires
put_outcome-start-requires c =
    let w = width_of c.plain_width.ensures c.from.ensures in
    let p = c.requires in
    ((ranges _ _ _ _ p.range).outcome, omega (arith, room_of))

pub put_bytes-end-requires : goal.put_bytes-end-requires
put_bytes-end-requires c =
    let w = width_of c.plain_width.ensures c.from.ensures in
    omega (arith, room_of, wrote_length)

pub put_moment-after_moment-requires : goal.put_moment-after_moment-requires
put_moment-after_moment-requires c =
    let w = width_of c.plain_width.ensures c.from.ensures in
    (c.requires.real, omega (arith, room_of, wrote_length))

pub put_bytes-requires : goal.put_bytes-requires
put_bytes-requires c =
    let w = width_of c.plain_width.ensures c.from.ensures in
    let a = c.args in
    omega (arith, room_of, wrote_length, length_moment a.date a.time)

pub returns : goal.returns
returns c =
    let w = width_of c.plain_width.ensures c.from.ensures in
    let first = c.put_after-after_number.ensures in
    let second = c.put_outcome-start.ensures in
    let third = c.put_bytes-end.ensures in
    let fourth = c.put_moment-after_moment.ensures in
    wrote_fields _ _ _ _ _ _ _ _ _ _ _ _ _ _ _ _ _ _ w first second third fourth c.put_bytes.ensures
