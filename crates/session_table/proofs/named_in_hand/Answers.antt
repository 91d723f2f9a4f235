use mathlib.Core.Path.{refl, ◌∙◌, ap, sym}
use Rattle.slot.specs.Fields.{head_of}
use Rattle.table_layout.proofs.Hands.{read_none, read_some}
use Rattle.table_layout.specs.Layout.{table_of}
use Rattle.table_search.proofs.Sounds.{sound_size, waiting_head}
use Rattle.session_table.proofs.Answering.{names_none, in_hand, names_is, is_named}
use Rattle.session_table.proofs.named_in_hand.Goals as goal

pub get_table-requires : goal.get_table-requires
get_table-requires c = sound_size _ c.requires

pub returns-in_err-s : goal.returns-in_err-s
unfolding table_of
returns-in_err-s c =
    let none = read_none _ (sym (ap (λ x. x.hand) c.get_table.ensures) ∙ c.in_err-s.was) in
    rw c.from_residual.ensures (sym (names_none _ _ refl c.requires _ _ none))

pub get_head-requires : goal.get_head-requires
unfolding table_of
get_head-requires c =
    let (left, at) = read_some _ _ (sym (ap (λ x. x.hand) c.get_table.ensures) ∙ c.in_ok-s.was) in
    (sound_size _ c.requires, rw at (in_hand _ _ refl c.requires left).stands_there.below)

pub names-requires : goal.names-requires
unfolding table_of
names-requires c =
    let (left, at) = read_some _ _ (sym (ap (λ x. x.hand) c.get_table.ensures) ∙ c.in_ok-s.was) in
    waiting_head _ _ _ (in_hand _ _ refl c.requires left) (c.get_head.ensures ∙ ap (head_of _) at)

pub returns-then-names : goal.returns-then-names
unfolding table_of
returns-then-names c =
    let (left, at) = read_some _ _ (sym (ap (λ x. x.hand) c.get_table.ensures) ∙ c.in_ok-s.was) in
    let said = names_is _ _ refl c.requires left _ _ _ (c.get_head.ensures ∙ ap (head_of _) at) _ c.names.ensures in
    is_named _ _ refl c.requires left _ _ _ at (sym said ∙ c.if-names.true)

pub returns-else-names : goal.returns-else-names
unfolding table_of
returns-else-names c =
    let (left, at) = read_some _ _ (sym (ap (λ x. x.hand) c.get_table.ensures) ∙ c.in_ok-s.was) in
    let said = names_is _ _ refl c.requires left _ _ _ (c.get_head.ensures ∙ ap (head_of _) at) _ c.names.ensures in
    sym said ∙ c.if-names.false
