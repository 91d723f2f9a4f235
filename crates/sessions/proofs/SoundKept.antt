-- Each accepted call leaves a sound table sound.
use Prim.Native.Nat.{ℕ, ◌+◌, ◌≤◌, ◌<◌}
use mathlib.Core.Path.{◌≡◌, refl, ◌∙◌, ap, sym}
use mathlib.Core.Bool.{false, false≢true}
use mathlib.Core.Logic.{⊎_elim}
use mathlib.Core.List.{List, [], ◌∷◌}
use native.Mathlib.Nat.{eq-zero-or-pos}
use native.Mathlib.Omega.{arith}
use lib.ListN.{length, length-append}
use Rattle.sessions.specs.Find.{Found, at, replaced}
use Rattle.sessions.specs.History.{Event}
use Rattle.sessions.specs.declared.Answer.{Answer}
use Rattle.sessions.specs.Sound.{all_real}
use Rattle.sessions.specs.Table.{Session, no_session, State, fresh, new_session, with_answer, turn, after_place, after_take_up, after_answer, after_collect}
use Rattle.sessions.proofs.Did.{Did, nothing, makes, places, takes, answers, collects, Places, Answers, Collects}
use Rattle.sessions.proofs.Laws.{replaced_all}
use Rattle.sessions.proofs.Loops.{all_real_append}
use Rattle.sessions.proofs.Parts.{SessionSound, SlotSound, open_slot, session, Sound}
use Rattle.counts.specs.Limits.{sessions}

pub fresh_sound : (max : ℕ) → 1 ≤ max → max ≤ sessions → Sound (fresh max)
unfolding fresh
fresh_sound max l h =
    record {
      max_low = l;
      max_high = h;
      mark_below_lem = omega arith;
      slots = λ s. open_slot refl;
      distinct = λ s s' k e. absurd (omega arith);
      in_hand = λ s e. let z : ◌≡◌ {A = ℕ} 0 1 = cc in absurd (omega arith);
    }

later : {max last s : ℕ} {x : Session} (last' : ℕ) → last ≤ last' → SlotSound max last s x → SlotSound max last' s x
later last' l (open_slot e) = open_slot e
later last' l (session w) =
    session (record {
      number = w.number;
      is_taken = w.is_taken;
      program_low = w.program_low;
      program_high = w.program_high;
      count_low = w.count_low;
      count_high = w.count_high;
      ticket_low = w.ticket_low;
      ticket_most_lem = w.ticket_most_lem;
      ticket_high = omega arith;
      answers_few = w.answers_few;
      answers_real = w.answers_real;
    })

abbrev Distinct : (ℕ → Session) → Type 0
Distinct slot = (s s' : ℕ) → 1 ≤ (slot s).ticket → (slot s).ticket ≡ (slot s').ticket → s ≡ s'

abbrev InHand : Found → (ℕ → Session) → Type 0
InHand hand slot = (s : ℕ) → hand ≡ at s → length (slot s).answers < (slot s).count

module _ (slot : ℕ → Session) (s : ℕ) (x : Session) where
  -- a new ticket at s, the same, or none
  distinct_put : Distinct slot → (1 ≤ x.ticket → (i : ℕ) → (i ≡ s → ⊥) → (slot i).ticket ≡ x.ticket → ⊥) → Distinct (replaced slot s x)
  distinct_put d f =
      replaced_all slot s x (λ i y. (i' : ℕ) → 1 ≤ y.ticket → y.ticket ≡ (replaced slot s x i').ticket → i ≡ i')
      (replaced_all slot s x (λ i' y'. 1 ≤ x.ticket → x.ticket ≡ y'.ticket → s ≡ i') (λ l e. refl) (λ i' n l e. absurd (f l i' n (sym e))))
      (λ i n.
      replaced_all slot s x (λ i' y'. 1 ≤ (slot i).ticket → (slot i).ticket ≡ y'.ticket → i ≡ i')
      (λ l e. absurd (f (omega arith) i n e))
      (λ i' n'. d i i'))

  -- where no command of s was in hand
  hand_put : (hand : Found) → (length (slot s).answers < (slot s).count → ⊥) → InHand hand slot → InHand hand (replaced slot s x)
  hand_put hand f h =
      replaced_all slot s x (λ i y. hand ≡ at i → length y.answers < y.count) (λ e. absurd (f (h s e))) (λ i n e. h i e)

module _ (σ : State) (ok : Sound σ) where
  -- a session stands where a number is not what an open slot has there: a program, a count, a ticket
  pub is_session : (f : Session → ℕ) → f no_session ≡ 0 → (s : ℕ) → 1 ≤ f (σ.slot s) → SessionSound σ.max σ.last s (σ.slot s)
  is_session f z s = go (ok.slots s)
    where
      go : SlotSound σ.max σ.last s (σ.slot s) → 1 ≤ f (σ.slot s) → SessionSound σ.max σ.last s (σ.slot s)
      go (open_slot e) l = absurd (omega (arith, ap f e))
      go (session w) l = w

  pub is_open : (s : ℕ) → (σ.slot s).taken ≡ false → σ.slot s ≡ no_session
  is_open s = go (ok.slots s)
    where
      go : SlotSound σ.max σ.last s (σ.slot s) → (σ.slot s).taken ≡ false → σ.slot s ≡ no_session
      go (open_slot e) l = e
      go (session w) l = absurd (false≢true (sym l ∙ w.is_taken))

  pub tickets_below : (s : ℕ) → (σ.slot s).ticket ≤ σ.last
  tickets_below s =
      ⊎_elim (λ e. omega arith) (λ l. (is_session (λ x. x.ticket) refl s l).ticket_high) (eq-zero-or-pos (σ.slot s).ticket)

  place_sound : {s p n : ℕ} → Places σ s p n → Sound (after_place σ s p n)
  unfolding all_real
  place_sound {s} {p} {n} w =
      let x = new_session p n (σ.last + 1) in
      record {
        max_low = ok.max_low;
        max_high = ok.max_high;
        mark_below_lem = ok.mark_below_lem;
        slots =
            replaced_all σ.slot s x (λ i y. SlotSound σ.max (σ.last + 1) i y)
            (session (record {
              number = w.below;
              is_taken = refl;
              program_low = w.program_range.0;
              program_high = w.program_range.1;
              count_low = w.count_range.0;
              count_high = w.count_range.1;
              ticket_low = omega arith;
              ticket_most_lem = omega (arith, w.room);
              ticket_high = omega arith;
              answers_few = omega arith;
              answers_real = refl;
            }))
            (λ i d. later (σ.last + 1) (omega arith) (ok.slots i));
        distinct = distinct_put σ.slot s x ok.distinct (λ l i d e. omega (arith, tickets_below i));
        in_hand = hand_put σ.slot s x σ.hand (λ l. omega (arith, ap (λ y. y.count) (is_open s w.free))) ok.in_hand;
      }

  take_sound : (s : ℕ) → length (σ.slot s).answers < (σ.slot s).count → Sound (after_take_up σ s)
  take_sound s l =
      record {
        max_low = ok.max_low;
        max_high = ok.max_high;
        mark_below_lem = (is_session (λ x. x.count) refl s (omega arith)).number;
        slots = ok.slots;
        distinct = ok.distinct;
        in_hand = λ i e. let z : s ≡ i = cc in rw (← z) l;
      }

  answer_sound : {s t c : ℕ} {a : Answer} → Answers σ s t c a → Sound (after_answer σ s a)
  unfolding all_real
  answer_sound {s} {a = a} q =
      let l = ok.in_hand s q.in_hand in
      let w = is_session (λ x. x.count) refl s (omega arith) in
      let x = with_answer (σ.slot s) a in
      record {
        max_low = ok.max_low;
        max_high = ok.max_high;
        mark_below_lem = ok.mark_below_lem;
        slots =
            replaced_all σ.slot s x (λ i y. SlotSound σ.max σ.last i y)
            (session (record {
              number = w.number;
              is_taken = w.is_taken;
              program_low = w.program_low;
              program_high = w.program_high;
              count_low = w.count_low;
              count_high = w.count_high;
              ticket_low = w.ticket_low;
              ticket_most_lem = w.ticket_most_lem;
              ticket_high = w.ticket_high;
              answers_few = omega (arith, length-append (σ.slot s).answers (a ∷ []));
              answers_real = simp (all_real_append, w.answers_real, q.real);
            }))
            (λ i d. ok.slots i);
        distinct = distinct_put σ.slot s x ok.distinct (λ k i d f. d (sym (ok.distinct s i k (sym f))));
        in_hand = λ i f. let z : ◌≡◌ {A = ℕ} 0 1 = cc in absurd (omega arith);
      }

  collect_sound : {s p t : ℕ} {out : List ℕ} → Collects σ s p t out → Sound (after_collect σ s)
  collect_sound {s} w =
      record {
        max_low = ok.max_low;
        max_high = ok.max_high;
        mark_below_lem = ok.mark_below_lem;
        slots = replaced_all σ.slot s no_session (λ i y. SlotSound σ.max σ.last i y) (open_slot refl) (λ i d. ok.slots i);
        distinct = distinct_put σ.slot s no_session ok.distinct (λ k i d f. omega arith);
        in_hand = hand_put σ.slot s no_session σ.hand (λ l. omega (arith, w.closed)) ok.in_hand;
      }

pub sound_kept : {σ σ' : State} {e : Event} → Did σ e σ' → Sound σ → Sound σ'
sound_kept (nothing i q) ok = ok
sound_kept (makes {max = max} r) ok = fresh_sound max r.0 r.1
sound_kept {σ} (places w) ok = place_sound σ ok w
sound_kept {σ} (takes {i = i} w) ok = take_sound σ ok (turn σ i) w.waits
sound_kept {σ} (answers w) ok = answer_sound σ ok w
sound_kept {σ} (collects w) ok = collect_sound σ ok w
