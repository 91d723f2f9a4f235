use mathlib.Core.Path.{◌≡◌}
use mathlib.Core.Bool.{true}
use lib.ListN.{length}
use Rattle.counts.specs.Limits.{sessions}
use Rattle.sessions.specs.Find.{all}
use Rattle.sessions.specs.Sound.{slot_sound}
use Rattle.slot.specs.Fields.{slot_of}
use Rattle.table_layout.specs.Layout.{hand_number}
use Rattle.table_sound.specs.Bytes.{abs, Seen, hand_known}
use Rattle.table_sound.proofs.sessions_are_sound.Given as goal

abbrev pub invariant-loop-s : goal.invariant-loop-s
invariant-loop-s l =
    (length l.seen ≡ sessions) × Seen l.b l.s l.seen × (all l.s (λ i. slot_sound (abs l.b) i (slot_of l.b i)) ≡ true)
    × (l.waits ≡ hand_known l.b (hand_number l.t.hand) l.s)
