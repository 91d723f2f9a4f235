-- The table agrees with the history, always.
use Prim.Native.Nat.{ℕ, ◌+◌, ◌≤◌}
use mathlib.Core.Path.{◌≡◌, refl, ◌∙◌, ap, sym}
use mathlib.Core.Bool.{true, false, false≢true}
use mathlib.Core.Logic.{⊎_elim}
use mathlib.Core.List.{List, [], ◌∷◌, ◌++◌}
use native.Mathlib.Omega.{arith}
use borrow.Author.Tests.{eq-eqb, ne_eqb}
use Rattle.counts.specs.Limits.{sessions}
use Rattle.counts.specs.Result.{Result}
use Rattle.sessions.specs.History.{Call, Event, gather, placing, placings, accepted, collection, collections}
use Rattle.sessions.specs.Runs.{reached, history_of, never_anew, was_made}
use Rattle.sessions.proofs.Parts.{Sound}
use Rattle.sessions.specs.Table.{State, fresh}
use Rattle.sessions.proofs.Did.{Idle, not_made, no_place, no_take_up, again, no_answer, no_collect, Did, nothing, makes, places, takes, answers, collects, step_table, did, anew_exactly}
use Rattle.sessions.proofs.Laws.{either}
use Rattle.sessions.proofs.Runs.{Keeps, Before, always, before}
use Rattle.sessions.proofs.SoundKept.{fresh_sound, is_session, is_open, tickets_below, sound_kept}
use Rattle.sessions.proofs.Standing.{Standing, new, apart, its_placing, its_answer, its_collection}

-- each ticket stands as its placings, acceptances and collections say
abbrev pub Stands : State → List Event → Type 0
Stands σ h = (t : ℕ) → Standing σ.last σ.slot t (placings t h) (accepted t h) (collections t h)

pub record Agrees (σ : State) (h : List Event) : Type 0 where
  pub sound : Sound σ
  pub standing : Stands σ h

pub fresh_agrees : (max : ℕ) → 1 ≤ max → max ≤ sessions → Agrees (fresh max) []
unfolding fresh gather accepted
fresh_agrees max l h =
    record {
      sound = fresh_sound max l h;
      standing = λ t. new (λ l s e. omega arith) (record { no_placing = refl; no_answer = refl; no_reply = refl });
    }

module _ (σ : State) (h : List Event) (ok : Sound σ) (A : Stands σ h) where
  idle : {e : Event} → Idle σ e → Stands σ (e ∷ h)
  unfolding gather placing accepted collection
  idle (not_made m max r q) = A
  idle (no_place p n k i) = A
  idle (no_take_up k i) = A
  idle (again s q) = A
  idle (no_answer t c a k i) = A
  idle (no_collect p t out k i) = A

  stands : {e : Event} {σ' : State} → was_made e ≡ false → Did σ e σ' → Stands σ' (e ∷ h)
  unfolding gather placing accepted collection
  stands m (nothing i q) = idle i
  stands m (makes r) = absurd (false≢true (sym m))
  stands m (places {s = s} {p = p} {n = n} w) = λ t.
      let z : (σ.slot s).ticket ≡ 0 = ap (λ x. x.ticket) (is_open σ ok s w.free) in
      ⊎_elim
      (λ (e : σ.last + 1 ≡ t). rw (eq-eqb _ _ e) (its_placing σ.last σ.slot t _ _ _ s p n e (tickets_below σ ok) (A t)))
      (λ (d : σ.last + 1 ≡ t → ⊥). rw (ne_eqb _ _ d)
      (apart σ.last σ.slot t _ _ _ s (σ.last + 1) _ (omega arith) (λ l e. omega arith) (λ l e. d e) (A t)))
      (either (σ.last + 1) t)
  stands m (takes w) = A
  stands m (answers {s = s} {t = t} {a = a} w) = λ u.
      let l = ok.in_hand s w.in_hand in
      let x = is_session σ ok (λ x. x.count) refl s (omega arith) in
      ⊎_elim
      (λ (q : t ≡ u). rw (eq-eqb _ _ q, ← w.command)
      (its_answer σ.last σ.slot u _ _ _ s (w.ticket ∙ q) x.ticket_low x.ticket_high (λ i. ok.distinct s i x.ticket_low) a (A u)))
      (λ (d : t ≡ u → ⊥). rw (ne_eqb _ _ d)
      (apart σ.last σ.slot u _ _ _ s σ.last _ (omega arith) (λ k f. d (sym w.ticket ∙ f)) (λ k f. d (sym w.ticket ∙ f)) (A u)))
      (either t u)
  stands m (collects {s = s} {t = t} w) = λ u.
      let x = is_session σ ok (λ x. x.program) refl s (omega (arith, w.program, w.program_low)) in
      ⊎_elim
      (λ (q : t ≡ u). rw (eq-eqb _ _ q, ← w.program)
      (its_collection σ.last σ.slot u _ _ _ s (w.ticket ∙ q) x.ticket_low x.ticket_high (λ i. ok.distinct s i x.ticket_low)
      w.closed (A u)))
      (λ (d : t ≡ u → ⊥). rw (ne_eqb _ _ d)
      (apart σ.last σ.slot u _ _ _ s σ.last _ (omega arith) (λ k f. d (sym w.ticket ∙ f)) (λ k f. omega arith) (A u)))
      (either t u)

module _ (elsewhere : List ℕ → ℕ → Result (Unit {0})) where
  agrees_kept : Keeps (step_table elsewhere) Agrees
  agrees_kept σ h c q A =
      let d = did σ elsewhere c in
      record { sound = sound_kept d A.sound; standing = stands σ h A.sound A.standing (sym (anew_exactly σ elsewhere c) ∙ q) d }

  -- from any start that agrees with a history of nothing
  module _ (start : State) (begins : Agrees start []) (cs : List Call) (kept : never_anew cs ≡ true) where
    pub agrees : Agrees (reached start (step_table elsewhere) cs) (history_of start (step_table elsewhere) cs)
    agrees = always (step_table elsewhere) Agrees start begins agrees_kept cs kept

    pub agreed : (later earlier : List Event) (e : Event) → history_of start (step_table elsewhere) cs ≡ later ++ (e ∷ earlier)
        → Before (step_table elsewhere) Agrees e earlier
    agreed = before (step_table elsewhere) Agrees start begins agrees_kept cs kept
