-- `start::number_holds` meets its contract.
use mir.Syntax.{w64}
use mir.ValLaws.{to_z-of_z}
use Rattle.item.specs.Tokens.{paper_number, paper_operator}
use Rattle.start.proofs.Steps.{permitted_small, fewer_left, fewer_right}
use Rattle.start.proofs.number_holds.Goals as goal

pub level-requires : goal.level-requires
level-requires c =
    let s = c in
    let n = s.args.v in
    permitted_small (paper_number n) _ (to_z-of_z w64 n.mantissa (record { sfits = c.struct_told-1.given.0.1 })) s.requires.0

pub level-requires-then-v-k : goal.level-requires-then-v-k
level-requires-then-v-k c =
    let s = c in
    let n = s.args.k in
    permitted_small (paper_number n) _ (to_z-of_z w64 n.mantissa (record { sfits = c.struct_told-then-v-k-1.given.0.1 })) s.requires.1

pub returns-then-v-k : goal.returns-then-v-k
returns-then-v-k c =
    let s = c in
    let v = s.args.v in
    let k = s.args.k in
    let v-back = to_z-of_z w64 v.mantissa (record { sfits = c.struct_told-1.given.0.1 }) in
    let k-back = to_z-of_z w64 k.mantissa (record { sfits = c.struct_told-then-v-k-1.given.0.1 }) in
    fewer_left (paper_operator s.args.o) (paper_number v) (paper_number k) _ _ v-back k-back s.requires.0 s.requires.1 _ _ _ c.by_level.ensures
    c.if-v-k.true c.level.ensures c.level-then-v-k.ensures

pub level-requires-2 : goal.level-requires-2
level-requires-2 c =
    let s = c in
    let n = s.args.v in
    permitted_small (paper_number n) _ (to_z-of_z w64 n.mantissa (record { sfits = c.struct_told-2-1.given.0.1 })) s.requires.0

pub level-requires-3 : goal.level-requires-3
level-requires-3 c =
    let s = c in
    let n = s.args.k in
    permitted_small (paper_number n) _ (to_z-of_z w64 n.mantissa (record { sfits = c.struct_told-3-1.given.0.1 })) s.requires.1

pub returns : goal.returns
returns c =
    let s = c in
    let v = s.args.v in
    let k = s.args.k in
    let v-back = to_z-of_z w64 v.mantissa (record { sfits = c.struct_told-2-1.given.0.1 }) in
    let k-back = to_z-of_z w64 k.mantissa (record { sfits = c.struct_told-3-1.given.0.1 }) in
    fewer_right (paper_operator s.args.o) (paper_number v) (paper_number k) _ _ v-back k-back s.requires.0 s.requires.1 _ _ _ c.by_level-2.ensures
    c.if-v-k.false c.level-2.ensures c.level-3.ensures
