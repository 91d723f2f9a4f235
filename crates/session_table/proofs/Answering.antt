-- Answering: the ways through its tests, and what it leaves.
use Prim.Native.Nat.{ℕ, ◌-◌, ◌≤◌}
use mathlib.Core.Path.{◌≡◌, refl, ◌∙◌, ap, sym}
use mathlib.Core.Bool.{Bool, true, false, cond, false≢true}
use mathlib.Core.List.{List}
use native.Mathlib.Omega.{arith}
use borrow.Author.Tests.{leb-true}
use lib.Dec.{eqb, leb}
use Rattle.counts.proofs.Results.{refused_not_done}
use Rattle.counts.specs.Limits.{class_most, code_most}
use Rattle.counts.specs.Refusals.{not_real, not_a_record, not_the_one, unsound}
use Rattle.counts.specs.Result.{refused, done}
use Rattle.counts.specs.declared.SessionNumber.{SessionNumber}
use Rattle.counts.specs.declared.Refusal.{Refusal}
use Rattle.laws.proofs.Choose.{and_left}
use Rattle.sessions.specs.Find.{Found, none, at}
use Rattle.record.specs.Record.{is_outcome}
use Rattle.sessions.specs.Records.{is_dated}
use Rattle.sessions.specs.Table.{State, names, answer_hand, answer}
use Rattle.sessions.specs.declared.Answer.{Answer}
use Rattle.record.specs.declared.Outcome.{Outcome}
use Rattle.record.specs.declared.Outcome.TheVariants.{Processed, Error}
use Rattle.slot.proofs.Told.{asked}
use Rattle.slot.specs.Fields.{head_of, slot_of, Tells}
use Rattle.slot.specs.Stored.{kind_of}
use Rattle.slot.specs.declared.Head.{Head}
use Rattle.table_layout.specs.Layout.{number, hand_at}
use Rattle.table_search.proofs.Sounds.{Waits, waits, hand_waits}
use Rattle.table_sound.proofs.Slots.{hand_empty, hand_full}
use Rattle.table_sound.specs.Bytes.{hand_of, abs, sound_bytes}
use Rattle.session_table.specs.Calls.{only, verdict, names_hand, IsNamed, answering, answered_as, answered_bytes}
use Rattle.session_table.specs.Paper.{paper_answered}
use Rattle.std.specs.declared.result.Result.{Result as Returned}
use Rattle.session_table.proofs.Searches.{none≢at}
use Rattle.session_table.proofs.Verdicts.{passed, passed_both, is_refused, keeps_bytes}

-- an outcome in range is stored in a number
pub kind_fits : (o : Outcome) → is_outcome o ≡ true → kind_of o ≤ 4294967295
unfolding kind_of
kind_fits Processed e = omega arith
kind_fits (Error class code) e = omega (arith, leb-true class class_most (and_left (leb class class_most) (leb code code_most) e))

-- whether the command in hand is named, on the bytes
module _ (b : List ℕ) (h : ℕ) (q : h ≡ number b hand_at) (sound : sound_bytes b ≡ true) where
  pub names_none : (t c : ℕ) → h ≡ 0 → false ≡ names_hand (abs b) t c (hand_of (number b hand_at))
  names_none t c e = rw (← q, hand_empty h e)

  pub in_hand : (h ≡ 0 → ⊥) → Waits b sound (h - 1)
  in_hand n = waits b sound (h - 1) (hand_waits b sound (h - 1) (ap hand_of (sym q) ∙ hand_full h n))

  pub names_is : (h ≡ 0 → ⊥) → (t c : ℕ) (x : Head) → x ≡ head_of b (h - 1) → (r : Bool) → Tells x (λ y. names y t c) r
      → r ≡ names_hand (abs b) t c (hand_of (number b hand_at))
  names_is n t c x p r said = sym (asked b (h - 1) x p (in_hand n).stands_there.below (λ y. names y t c) said refl) ∙ rw (← q, hand_full h n)

  pub is_named : (h ≡ 0 → ⊥) → (t c : ℕ) (s : SessionNumber) → s.0 ≡ h - 1 → names_hand (abs b) t c (hand_of (number b hand_at)) ≡ true → IsNamed b t c s
  is_named n t c s e d = let f = ap hand_of (sym q) ∙ hand_full h n in (f ∙ ap at (sym e), rw e (rw f at d))

pub named_so : (b : List ℕ) (t c : ℕ) (s : SessionNumber) → IsNamed b t c s → names_hand (abs b) t c (hand_of (number b hand_at)) ≡ true
named_so b t c s w = rw w.0 w.1

pub held_is : (n k : ℕ) → hand_of n ≡ at k → k ≡ n - 1
unfolding hand_of
held_is n k e = go (eqb n 0) e
  where
    go : (t : Bool) → cond {A = Found} t none (at (n - 1)) ≡ at k → k ≡ n - 1
    go true e = absurd (none≢at e)
    go false e = cc

-- the four ways, whatever is in hand
module _ (σ : State) (t c : ℕ) (a : Answer) where
  way_10 : (f : Found) → names_hand σ t c f ≡ false → (answer_hand σ t c a f).0 ≡ refused not_the_one 0
  unfolding answer_hand
  way_10 none e = refl
  way_10 (at s) e = rw e

  way_5 : (f : Found) → names_hand σ t c f ≡ true → is_dated a ≡ false → (answer_hand σ t c a f).0 ≡ refused not_real 0
  unfolding answer_hand
  way_5 none e d = absurd (false≢true e)
  way_5 (at s) e d = rw (e, d)

  way_7 : (f : Found) → names_hand σ t c f ≡ true → is_dated a ≡ true → is_outcome a.outcome ≡ false → (answer_hand σ t c a f).0 ≡ refused not_a_record 0
  unfolding answer_hand
  way_7 none e d o = absurd (false≢true e)
  way_7 (at s) e d o = rw (e, d, o)

  way_0 : (f : Found) → names_hand σ t c f ≡ true → is_dated a ≡ true → is_outcome a.outcome ≡ true → (answer_hand σ t c a f).0 ≡ done tt
  unfolding answer_hand
  way_0 none e d o = absurd (false≢true e)
  way_0 (at s) e d o = rw (e, d, o)

module _ (b : List ℕ) (t c : ℕ) (a : Answer) where
  pub answer_13 : sound_bytes b ≡ false → verdict unsound ≡ only (answering b t c a)
  unfolding answering
  answer_13 e = rw e

  module _ (sound : sound_bytes b ≡ true) where
    abbrev named : Bool
    named = names_hand (abs b) t c (hand_of (number b hand_at))

    pub answer_10 : named ≡ false → verdict not_the_one ≡ only (answering b t c a)
    unfolding answering answer
    answer_10 e = rw (sound, way_10 (abs b) t c a _ e)

    pub answer_5 : named ≡ true → is_dated a ≡ false → verdict not_real ≡ only (answering b t c a)
    unfolding answering answer
    answer_5 e d = rw (sound, way_5 (abs b) t c a _ e d)

    pub answer_7 : named ≡ true → is_dated a ≡ true → is_outcome a.outcome ≡ false → verdict not_a_record ≡ only (answering b t c a)
    unfolding answering answer
    answer_7 e d o = rw (sound, way_7 (abs b) t c a _ e d o)

    pub answer_0 : named ≡ true → is_dated a ≡ true → is_outcome a.outcome ≡ true → verdict 0 ≡ only (answering b t c a)
    unfolding answering answer
    answer_0 e d o = rw (sound, way_0 (abs b) t c a _ e d o)

  -- the two halves together: no refusal, or the one that was found and no byte changed
  module _ (no : ℕ) (said : verdict no ≡ only (answering b t c a)) where
    pub answer_refuses : (r : Returned (Unit {0}) Refusal) → paper_answered r ≡ refused no 0 → (no ≡ 0 → ⊥)
        → (paper_answered r ≡ answering b t c a) × (b ≡ answered_bytes b t c a)
    unfolding answered_bytes
    answer_refuses r e d = (e ∙ sym (is_refused (answering b t c a) no said d), keeps_bytes (answering b t c a) no said b _ d)

  -- what is known where there is no refusal
  pub record Answerable : Type 0 where
    pub sound : sound_bytes b ≡ true
    pub number_held : ℕ
    pub hand : hand_of (number b hand_at) ≡ at number_held
    pub named : names (slot_of b number_held) t c ≡ true
    pub dated : is_dated a ≡ true
    pub in_range_lem : is_outcome a.outcome ≡ true

  pub answerable : only (answering b t c a) ≡ done tt → Answerable
  unfolding answering answer answer_hand
  answerable ok =
      let q = passed (sound_bytes b) _ unsound 0 ok in
      go (hand_of (number b hand_at)) refl q.1 q.0
    where
      go : (f : Found) → hand_of (number b hand_at) ≡ f → only (answer_hand (abs b) t c a f).0 ≡ done tt → sound_bytes b ≡ true → Answerable
      go none e d x = absurd (refused_not_done d)
      go (at s) e d x =
          let n = passed_both (names (slot_of b s) t c) _ not_the_one 0 (abs b) d in
          let k = passed_both (is_dated a) _ not_real 0 (abs b) n.1 in
          let o = passed_both (is_outcome a.outcome) _ not_a_record 0 (abs b) k.1 in
          record { sound = x; number_held = s; hand = e; named = n.0; dated = k.0; in_range_lem = o.0 }

  module _ (w : Answerable) (h : ℕ) (q : h ≡ number b hand_at) where
    pub answer_hand_lem : h ≡ 0 → ⊥
    answer_hand_lem e =
        let p = sym (hand_empty h e) ∙ ap hand_of q ∙ w.hand in
        let z : ◌≡◌ {A = ℕ} 0 1 = cc in
        omega arith

    pub answer_done : done tt ≡ answering b t c a
    unfolding answering answer
    answer_done = rw (w.sound, way_0 (abs b) t c a _ (ap (names_hand (abs b) t c) w.hand ∙ w.named) w.dated w.in_range_lem)

    pub answer_leaves : answered_as b a ≡ answered_bytes b t c a
    unfolding answered_bytes
    answer_leaves = rw (← answer_done)
