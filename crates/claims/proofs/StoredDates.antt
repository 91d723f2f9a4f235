-- A table that stores an unreal date is unsound, and every call on an unsound table gives 13.
use Prim.Native.Nat.{ℕ}
use mathlib.Core.Path.{◌≡◌, refl, sym, ap, ◌∙◌}
use mathlib.Core.Bool.{Bool, true, false, false≢true, ◌&&◌}
use mathlib.Core.List.{List, ◌∷◌, ◌++◌}
use Rattle.calendar.specs.Calendar.{real_date, real_time}
use Rattle.counts.specs.Refusals.{unsound}
use Rattle.counts.specs.Result.{refused}
use Rattle.laws.proofs.Choose.{and_left, and_right}
use Rattle.moment.specs.Moment.{real_moment}
use Rattle.record.specs.Record.{is_outcome}
use Rattle.sessions.proofs.Loops.{all_real_append}
use Rattle.sessions.proofs.Parts.{SlotSound, open_slot, session}
use Rattle.sessions.specs.Records.{is_dated}
use Rattle.sessions.specs.Sound.{in_range_and_real, all_real}
use Rattle.sessions.specs.Table.{Session}
use Rattle.sessions.specs.declared.Answer.{Answer}
use Rattle.session_table.specs.Calls.{placing, taking_up, answering, collecting}
use Rattle.table_search.proofs.Sounds.{sound_table}
use Rattle.table_sound.specs.Bytes.{abs, sound_bytes}
use Rattle.claims.specs.TableRows.{thirteen}
use Rattle.claims.proofs.Demand1Table.{place_exactly, take_up_exactly, answer_exactly, collect_exactly}

answers_real : {max last s : ℕ} {x : Session} → SlotSound max last s x → all_real x.answers ≡ true
unfolding all_real
answers_real (open_slot e) = ap (λ x. all_real x.answers) e
answers_real (session w) = w.answers_real

one_is_real : (a : Answer) (before after : List Answer) → all_real (before ++ (a ∷ after)) ≡ true → real_date a.date ≡ true
unfolding all_real in_range_and_real real_moment
one_is_real a before after e =
    let from = and_right (all_real before) (in_range_and_real a && all_real after) (sym (all_real_append before (a ∷ after)) ∙ e) in
    let dated = and_left (is_dated a) (is_outcome a.outcome) (and_left (in_range_and_real a) (all_real after) from) in
    and_left (real_date a.date) (real_time a.time) dated

pub unreal_date_is_unsound : (b : List ℕ) (s : ℕ) (a : Answer) (before after : List Answer) → ((abs b).slot s).answers ≡ before ++ (a ∷ after)
    → real_date a.date ≡ false → sound_bytes b ≡ false
unreal_date_is_unsound b s a before after q unreal = go (sound_bytes b) refl
  where
    go : (t : Bool) → sound_bytes b ≡ t → t ≡ false
    go true e =
        let real = one_is_real a before after (sym (ap all_real q) ∙ answers_real ((sound_table b e).slots s)) in
        absurd (false≢true (sym unreal ∙ real))
    go false e = refl

pub unsound_is_refused : (b : List ℕ) → sound_bytes b ≡ false
    → ((p n : ℕ) → placing b p n ≡ refused unsound 0) × (taking_up b ≡ refused unsound 0)
    × ((t c : ℕ) (a : Answer) → answering b t c a ≡ refused unsound 0) × ((p t room : ℕ) → collecting b p t room ≡ refused unsound 0)
unsound_is_refused b e = (
  λ p n. (place_exactly b p n).1 _ (thirteen e),
  (take_up_exactly b).1 _ (thirteen e),
  λ t c a. (answer_exactly b t c a).1 _ (thirteen e),
  λ p t room. (collect_exactly b p t room).1 _ (thirteen e),
)
