use mathlib.Core.Bool.{false≢true}
use mathlib.Core.Path.{◌∙◌, sym}
use Rattle.table_sound.proofs.Slots.{sound_open, taken, few_answers, sound_no_head, sound_not_new, sound_answers}
use borrow.Author.Rules.{rules}
use Rattle.table_sound.proofs.slot_is_sound.Goals.{then-head_is_sound, else-head_is_sound}
use Rattle.table_sound.proofs.slot_is_sound.Goals as goal

pub returns-then-is_open : goal.returns-then-is_open
returns-then-is_open c = sound_open c.requires _ c.is_open.ensures c.if-is_open.true

pub head_is_sound-requires : goal.head_is_sound-requires
head_is_sound-requires c = taken c.requires _ c.is_open.ensures c.if-is_open.false

pub answers_are_real-requires : goal.answers_are_real-requires
answers_are_real-requires c =
    elim c.if-head_is_sound.branch [
      | then-head_is_sound w ↦ (
        search rules,
        search rules,
        few_answers c.requires _ c.is_open.ensures c.if-is_open.false _ c.head_is_sound.ensures w.if-head_is_sound.true,
      )
      | else-head_is_sound w ↦ absurd (false≢true (sym w.if-head_is_sound.false ∙ sym w.value-is ∙ c.if-is_new.true))
    ]

pub returns-then-is_new : goal.returns-then-is_new
returns-then-is_new c =
    elim c.if-head_is_sound.branch [
      | then-head_is_sound w ↦
          c.answers_are_real.ensures ∙ sound_answers c.requires _ c.is_open.ensures c.if-is_open.false _ c.head_is_sound.ensures
          w.if-head_is_sound.true _ w.is_new.ensures (sym w.value-is ∙ c.if-is_new.true)
      | else-head_is_sound w ↦ absurd (false≢true (sym w.if-head_is_sound.false ∙ sym w.value-is ∙ c.if-is_new.true))
    ]

pub returns-else-is_new : goal.returns-else-is_new
returns-else-is_new c =
    elim c.if-head_is_sound.branch [
      | then-head_is_sound w ↦
          c.if-is_new.false ∙ sound_not_new c.requires _ c.is_open.ensures c.if-is_open.false _ c.head_is_sound.ensures
          w.if-head_is_sound.true _ w.is_new.ensures (sym w.value-is ∙ c.if-is_new.false)
      | else-head_is_sound w ↦
          c.if-is_new.false ∙ sound_no_head c.requires _ c.is_open.ensures c.if-is_open.false _ c.head_is_sound.ensures w.if-head_is_sound.false
    ]
