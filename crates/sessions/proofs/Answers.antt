-- What the calls answer at any moment of a history, by the table that agrees with it.
use Prim.Native.Nat.{ℕ, ◌+◌, ◌-◌, ◌≤◌, ◌<◌}
use mathlib.Core.Path.{◌≡◌, refl, ◌∙◌, ap, sym}
use mathlib.Core.Bool.{false≢true}
use mathlib.Core.Logic.{◌⊎◌, inl, inr, ⊎_elim}
use mathlib.Core.List.{List, [], ◌∷◌, ◌++◌}
use native.Mathlib.Nat.{eq-zero-or-pos}
use native.Mathlib.Omega.{arith}
use borrow.Author.Tests.{eq-eqb, ne_eqb, le-leb}
use lib.ListN.{length}
use Rattle.counts.specs.Limits.{programs}
use Rattle.counts.specs.Refusals.{not_the_one}
use Rattle.sessions.specs.Find.{none, at}
use Rattle.sessions.specs.History.{to_place, to_take_up, to_collect, Event, placed, answered, collected_as, placings, accepted, collections}
use Rattle.sessions.specs.Owed.{if_room, owed_of, owed}
use Rattle.sessions.specs.Runs.{Refuses}
use Rattle.counts.specs.Result.{Result, refused, done}
use Rattle.sessions.specs.Table.{State, names, answer_hand, answer, numbered, records}
use Rattle.sessions.proofs.Agrees.{Agrees}
use Rattle.sessions.proofs.Did.{step_table}
use Rattle.sessions.proofs.Laws.{head_same, nil≢cons, nil≢mid, snoc_alone}
use Rattle.sessions.proofs.Parts.{SessionSound}
use Rattle.sessions.proofs.SoundKept.{is_session, tickets_below}
use Rattle.sessions.proofs.Standing.{Nowhere, New, new, held, gone}
use Rattle.sessions.proofs.Owing.{length_numbered, collect_owed}
use Rattle.sessions.proofs.Told.{told_by}

module _ (σ : State) (h : List Event) (A : Agrees σ h) where
  -- a ticket that was placed and not collected is held where it was placed
  record Holds (t s p n : ℕ) : Type 0 where
    session : SessionSound σ.max σ.last s (σ.slot s)
    ticket : (σ.slot s).ticket ≡ t
    program : (σ.slot s).program ≡ p
    count : (σ.slot s).count ≡ n
    its_answers : accepted t h ≡ numbered 1 (σ.slot s).answers

  holds : (t s p n : ℕ) → placings t h ≡ (s, p, n) ∷ [] → collections t h ≡ [] → Holds t s p n
  holds t s p n e f =
      elim (A.standing t) [
        | new d w ↦ absurd (nil≢cons (sym w.no_placing ∙ e))
        | held i y q w ↦
            let k = head_same (sym w.one_placing ∙ e) in
            let x : σ.slot s ≡ y = ap σ.slot (sym (ap (λ r. r.0) k)) ∙ q in
            let z = ap (λ y. y.ticket) x ∙ w.its_ticket in
            record {
              session = is_session σ A.sound (λ x. x.ticket) refl s (omega (arith, z, w.ticket_low));
              ticket = z;
              program = ap (λ y. y.program) x ∙ ap (λ r. r.1) k;
              count = ap (λ y. y.count) x ∙ ap (λ r. r.2) k;
              its_answers = w.its_answers ∙ ap (λ y. numbered 1 y.answers) (sym x);
            }
        | gone i y l d w ↦ absurd (nil≢cons (sym f ∙ w.one_reply))
      ]

  -- a session that was placed, and is closed or waits where it was placed
  pub closed_or_waits : (t s p n : ℕ) → placings t h ≡ (s, p, n) ∷ []
      → (length (accepted t h) ≡ n) ⊎ (((σ.slot s).ticket ≡ t) × (length (σ.slot s).answers < (σ.slot s).count) × (length (accepted t h) < n))
  closed_or_waits t s p n e =
      elim (A.standing t) [
        | new d w ↦ absurd (nil≢cons (sym w.no_placing ∙ e))
        | held i y q w ↦
            let v = holds t s p n e w.no_reply in
            let l : length (accepted t h) ≡ length (σ.slot s).answers = ap length v.its_answers ∙ length_numbered 1 (σ.slot s).answers in
            ⊎_elim
            (λ z. inl (omega (arith, v.count, v.session.answers_few)))
            (λ z. inr (v.ticket, omega (arith, v.count), omega (arith, v.count)))
            (eq-zero-or-pos (n - length (σ.slot s).answers))
        | gone i y k d w ↦
            inl (ap length w.its_answers ∙ length_numbered 1 y.answers ∙ w.all_answered ∙ ap (λ r. r.2) (head_same (sym w.one_placing ∙ e)))
      ]

  -- a ticket is new when it is given
  pub given_new : (t : ℕ) → t ≡ σ.last + 1 → New t (placings t h) (accepted t h) (collections t h)
  given_new t e =
      elim (A.standing t) [
        | new d w ↦ w
        | held i y q w ↦ let k = ap (λ x. x.ticket) q ∙ w.its_ticket in absurd (omega (arith, tickets_below σ A.sound i))
        | gone i y l d w ↦ absurd (omega arith)
      ]

  -- and is given once
  pub given_once : (t : ℕ) (x : ℕ × ℕ × ℕ) (l : List (ℕ × ℕ × ℕ)) → placings t h ≡ l ++ (x ∷ []) → placings t h ≡ x ∷ []
  given_once t x l e =
      elim (A.standing t) [
        | new d w ↦ absurd (nil≢mid l [] x (sym w.no_placing ∙ e))
        | held i y q w ↦ e ∙ ap (λ m. m ++ (x ∷ [])) (snoc_alone l x _ (sym e ∙ w.one_placing))
        | gone i y k d w ↦ e ∙ ap (λ m. m ++ (x ∷ [])) (snoc_alone l x _ (sym e ∙ w.one_placing))
      ]

  -- what the calls answer then
  module _ (elsewhere : List ℕ → ℕ → Result (Unit {0})) where
    pub there : (t s p n : ℕ) (out : List ℕ) → placings t h ≡ (s, p, n) ∷ [] → length (accepted t h) ≡ n → collections t h ≡ []
        → (step_table elsewhere σ (to_collect p t out)).0 ≡ collected_as p t out (if_room (records (accepted t h)) (length out))
    unfolding step_table owed owed_of
    there t s p n out e l f =
        let w = holds t s p n e f in
        let low = le-leb 1 p (omega (arith, w.session.program_low, w.program)) in
        let high = le-leb p programs (omega (arith, w.session.program_high, w.program)) in
        rw (collect_owed σ h A p t (length out), low, high, e, f, eq-eqb p p refl, eq-eqb _ _ l)

    pub not_again_number : (t s p n q m u : ℕ) → placings t h ≡ (s, p, n) ∷ [] → collections t h ≡ []
        → (step_table elsewhere σ (to_place q m)).0 ≡ placed q m (done (s, u)) → ⊥
    not_again_number t s p n q m u e f g = false≢true (sym (told_by elsewhere σ (to_place q m) g).0.free ∙ (holds t s p n e f).session.is_taken)

    -- a ticket that was given, stands nowhere and is owed nothing
    pub nowhere_refuses : (t : ℕ) → t ≤ σ.last → Nowhere σ.slot t
        → ((p room : ℕ) → owed_of p room (placings t h) (accepted t h) (collections t h) ≡ refused not_the_one 0) → Refuses (step_table elsewhere) σ t
    unfolding step_table answer answer_hand names owed
    nowhere_refuses t l d o =
        record {
          no_answer = λ c a.
              ap (answered t c a)
              (elim σ.hand as (λ f. (answer_hand σ t c a f).0 ≡ refused not_the_one 0) [ none ↦ refl | at s ↦ rw (ne_eqb (σ.slot s).ticket t (d s)) ]);
          no_collect = λ p out r. rw (collect_owed σ h A p t (length out), r, o p (length out));
          no_place = λ p n s e. omega (arith, (told_by elsewhere σ (to_place p n) e).1);
          no_take_up = λ s c e. d s (told_by elsewhere σ to_take_up e).ticket;
        }

    -- what was collected
    pub collected_gone : (t : ℕ) (l m : List ℕ) (x : ℕ) → collections t h ≡ l ++ (x ∷ m) → Refuses (step_table elsewhere) σ t
    unfolding owed_of
    collected_gone t l m x e =
        elim (A.standing t) [
          | new d w ↦ absurd (nil≢mid l m x (sym w.no_reply ∙ e))
          | held i y q w ↦ absurd (nil≢mid l m x (sym w.no_reply ∙ e))
          | gone i y k d w ↦ nowhere_refuses t k d (λ p room. rw (w.one_placing, w.one_reply))
        ]
