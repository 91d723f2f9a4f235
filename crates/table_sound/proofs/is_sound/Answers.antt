use Rattle.table_sound.proofs.Slots.{sound_no_size, sound_no_limits, sound_sessions}
use mathlib.Core.Path.{◌∙◌}
use borrow.Author.Rules.{rules}
use Rattle.table_sound.proofs.is_sound.Goals as goal

pub returns-then-b-ne-SIZE : goal.returns-then-b-ne-SIZE
returns-then-b-ne-SIZE c = sound_no_size _ c.if-b-ne-SIZE.true

pub returns-then-limits_are_sound : goal.returns-then-limits_are_sound
returns-then-limits_are_sound c =
    sound_sessions _ (search rules) _ c.get_table-t.ensures _ c.limits_are_sound.ensures
    c.if-limits_are_sound.true _ c.sessions_are_sound.ensures

pub returns-else-limits_are_sound : goal.returns-else-limits_are_sound
returns-else-limits_are_sound c =
    c.if-limits_are_sound.false ∙ sound_no_limits _ (search rules) _ c.get_table-t.ensures _ c.limits_are_sound.ensures c.if-limits_are_sound.false
