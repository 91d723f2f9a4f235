use mathlib.Core.Path.{◌≡◌, refl, ◌∙◌}
use mathlib.Core.Bool.{Bool, true, false, cond}
use native.Mathlib.Nat.{add-zero}
use Rattle.std.specs.Int.{from_bool}
use Rattle.table_layout.specs.Layout.{put_row}
use Rattle.slot.specs.Stored.{put_head}
use Rattle.slot.proofs.put_head.Goals as goal

flag : (t : Bool) → from_bool t ≡ cond t 1 0
flag true = refl
flag false = refl

pub returns : goal.returns
unfolding put_head put_row
returns c = let e = c.from.ensures ∙ flag c.args.h.taken in rw add-zero cc
