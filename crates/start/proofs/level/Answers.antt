-- `start::level` meets its contract.
use mir.Syntax.{w64}
use mir.ValLaws.{to_z-of_z}
use Rattle.start.proofs.Growing.{small_size, level_below, level_above}
use Rattle.start.proofs.level.Goals as goal

pub grown-size-requires : goal.grown-size-requires
grown-size-requires c = small_size c.args.m _ (to_z-of_z w64 c.args.m c.ranges.m) _ c.sign_and_size-mantissa.ensures.1 c.requires

pub returns-then-mantissa : goal.returns-then-mantissa
returns-then-mantissa c =
    let m = c.args.m in
    let told = c.sign_and_size-mantissa.ensures in
    level_below m _ (to_z-of_z w64 m c.ranges.m) _ told.1 _ _ _ told.0 c.grown-size.ensures c.if-mantissa.true

pub returns : goal.returns
returns c =
    let m = c.args.m in
    let told = c.sign_and_size-mantissa.ensures in
    level_above m _ (to_z-of_z w64 m c.ranges.m) _ told.1 _ _ _ told.0 c.grown-size.ensures c.if-mantissa.false
