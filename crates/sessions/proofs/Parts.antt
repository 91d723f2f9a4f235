-- A sound table taken apart, and put together again.
use Prim.Native.Nat.{ℕ, ◌-◌, ◌≤◌, ◌<◌}
use mathlib.Core.Path.{◌≡◌, refl, sym, ◌∙◌, ap}
use mathlib.Core.Bool.{Bool, true, false, ◌&&◌, or-true, not, false≢true}
use mathlib.Core.Logic.{⊎_elim}
use native.Mathlib.Nat.{eq-zero-or-pos}
use native.Mathlib.Omega.{arith}
use borrow.Author.Tests.{ne_eqb, leb-true, le-leb, ltb-true, lt-ltb}
use lib.Dec.{leb, ltb}
use lib.ListN.{length}
use Rattle.laws.proofs.Choose.{halves}
use Rattle.counts.specs.Limits.{commands, programs, sessions, ticket_most}
use Rattle.sessions.specs.Find.{Found, none, at, all}
use Rattle.sessions.specs.Sound.{max_in_range, mark_below, in_range, head_sound, differs, is_new, all_real, slot_sound, hand_sound, sound}
use Rattle.sessions.specs.Table.{Session, no_session, State, within, is_open, is_waiting}
use Rattle.sessions.proofs.Laws.{in_range_lem, or_cases, differ_true, all_at, all_make}

-- what a sound table says of a session
pub record SessionSound (max last s : ℕ) (x : Session) : Type 0 where
  pub number : s < max
  pub is_taken : x.taken ≡ true
  pub program_low : 1 ≤ x.program
  pub program_high : x.program ≤ programs
  pub count_low : 1 ≤ x.count
  pub count_high : x.count ≤ commands
  pub ticket_low : 1 ≤ x.ticket
  pub ticket_most_lem : x.ticket ≤ ticket_most
  pub ticket_high : x.ticket ≤ last
  pub answers_few : length x.answers ≤ x.count
  pub answers_real : all_real x.answers ≡ true

pub data SlotSound (max last s : ℕ) (x : Session) : Type 0 where
  open_slot : x ≡ no_session → SlotSound max last s x
  session : SessionSound max last s x → SlotSound max last s x

pub record Sound (σ : State) : Type 0 where
  pub max_low : 1 ≤ σ.max
  pub max_high : σ.max ≤ sessions
  pub mark_below_lem : σ.mark < σ.max
  pub slots : (s : ℕ) → SlotSound σ.max σ.last s (σ.slot s)
  pub distinct : (s s' : ℕ) → 1 ≤ (σ.slot s).ticket → (σ.slot s).ticket ≡ (σ.slot s').ticket → s ≡ s'
  pub in_hand : (s : ℕ) → σ.hand ≡ at s → length (σ.slot s).answers < (σ.slot s).count

-- nothing stands in an open slot, and no slot stands past the last
pub record Clean (σ : State) : Type 0 where
  pub empty : (s : ℕ) → (σ.slot s).taken ≡ false → σ.slot s ≡ no_session
  pub beyond : (s : ℕ) → sessions ≤ s → σ.slot s ≡ no_session

module _ (max last s : ℕ) (x : Session) where
  -- the head's test alone bounds the ticket and the answers
  pub of_head : head_sound max last s x ≡ true → (1 ≤ x.ticket) × (length x.answers ≤ commands)
  unfolding head_sound in_range
  of_head e =
      let e1 = halves (ltb s max && in_range x && leb x.ticket last) (leb (length x.answers) x.count) e in
      let e2 = halves (ltb s max) (in_range x) (halves (ltb s max && in_range x) (leb x.ticket last) e1.0).0 in
      let e3 = halves (within 1 x.program programs && within 1 x.count commands) (within 1 x.ticket ticket_most) e2.1 in
      let c = in_range_lem 1 x.count commands (halves (within 1 x.program programs) (within 1 x.count commands) e3.0).1 in
      ((in_range_lem 1 x.ticket ticket_most e3.1).0, omega (arith, leb-true (length x.answers) x.count e1.1))

module _ (σ : State) (s : ℕ) (x : Session) where
  abbrev head_test : Bool
  head_test = head_sound σ.max σ.last s x

  from_tests : (head_test && is_new σ s x && all_real x.answers) ≡ true → x.taken ≡ true → SessionSound σ.max σ.last s x
  unfolding head_sound in_range
  from_tests e n =
      let e1 = halves (head_test && is_new σ s x) (all_real x.answers) e in
      let e2 = halves head_test (is_new σ s x) e1.0 in
      let e3 = halves (ltb s σ.max && in_range x && leb x.ticket σ.last) (leb (length x.answers) x.count) e2.0 in
      let e4 = halves (ltb s σ.max && in_range x) (leb x.ticket σ.last) e3.0 in
      let e5 = halves (ltb s σ.max) (in_range x) e4.0 in
      let e6 = halves (within 1 x.program programs && within 1 x.count commands) (within 1 x.ticket ticket_most) e5.1 in
      let e7 = halves (within 1 x.program programs) (within 1 x.count commands) e6.0 in
      let p = in_range_lem 1 x.program programs e7.0 in
      let c = in_range_lem 1 x.count commands e7.1 in
      let t = in_range_lem 1 x.ticket ticket_most e6.1 in
      record {
        number = ltb-true s σ.max e5.0;
        is_taken = n;
        program_low = p.0;
        program_high = p.1;
        count_low = c.0;
        count_high = c.1;
        ticket_low = t.0;
        ticket_most_lem = t.1;
        ticket_high = leb-true _ _ e4.1;
        answers_few = leb-true _ _ e3.1;
        answers_real = e1.1;
      }

  to_tests : SessionSound σ.max σ.last s x → is_new σ s x ≡ true → (head_test && is_new σ s x && all_real x.answers) ≡ true
  unfolding head_sound in_range
  to_tests w e =
      rw (
        lt-ltb _ _ w.number,
        le-leb _ _ w.program_low,
        le-leb _ _ w.program_high,
        le-leb _ _ w.count_low,
        le-leb _ _ w.count_high,
        le-leb _ _ w.ticket_low,
        le-leb _ _ w.ticket_most_lem,
        le-leb _ _ w.ticket_high,
        le-leb _ _ w.answers_few,
        e,
        w.answers_real,
      )

module _ (σ : State) (clean : Clean σ) (e : sound σ ≡ true) where
  abbrev slots_test : Bool
  slots_test = all sessions (λ s. slot_sound σ s (σ.slot s))

  hand_part : ((max_in_range σ && mark_below σ && slots_test) ≡ true) × (hand_sound σ σ.hand ≡ true)
  unfolding sound
  hand_part = halves (max_in_range σ && mark_below σ && slots_test) (hand_sound σ σ.hand) e

  slots_part : ((max_in_range σ && mark_below σ) ≡ true) × (slots_test ≡ true)
  slots_part = halves (max_in_range σ && mark_below σ) slots_test hand_part.0

  head_part : (max_in_range σ ≡ true) × (mark_below σ ≡ true)
  head_part = halves (max_in_range σ) (mark_below σ) slots_part.0

  -- the tests of a session, for whoever is taken
  tested : (s : ℕ) → (σ.slot s).taken ≡ true → (head_test σ s (σ.slot s) && is_new σ s (σ.slot s) && all_real (σ.slot s).answers) ≡ true
  unfolding slot_sound is_open
  tested s n =
      let l : s < sessions =
      ⊎_elim (λ z. absurd (false≢true (sym (ap (λ x. x.taken) (clean.beyond s (omega arith))) ∙ n))) (λ z. omega arith) (eq-zero-or-pos (sessions - s)) in
      ⊎_elim (λ z. absurd (false≢true (sym (ap not n) ∙ z))) (λ z. z) (or_cases _ _ (all_at (λ i. slot_sound σ i (σ.slot i)) sessions slots_part.1 l))

  slot_part : (s : ℕ) → SlotSound σ.max σ.last s (σ.slot s)
  slot_part s = go (σ.slot s).taken refl
    where
      go : (t : Bool) → (σ.slot s).taken ≡ t → SlotSound σ.max σ.last s (σ.slot s)
      go true e = session (from_tests σ s (σ.slot s) (tested s e) e)
      go false e = open_slot (clean.empty s e)

  -- a ticket that is not 0 is a session's
  held : (s : ℕ) → 1 ≤ (σ.slot s).ticket → (σ.slot s).taken ≡ true
  held s l = go (slot_part s)
    where
      go : SlotSound σ.max σ.last s (σ.slot s) → (σ.slot s).taken ≡ true
      go (open_slot e) = absurd (omega (arith, ap (λ x. x.ticket) e))
      go (session w) = w.is_taken

  apart : (s r : ℕ) → r < s → 1 ≤ (σ.slot s).ticket → (σ.slot r).ticket ≡ (σ.slot s).ticket → ⊥
  unfolding is_new differs is_open
  apart s r l k q =
      let h = head_test σ s (σ.slot s) in
      let n = (halves h (is_new σ s (σ.slot s)) (halves (h && is_new σ s (σ.slot s)) (all_real (σ.slot s).answers) (tested s (held s k))).0).1 in
      differ_true _ _ (rw (held r (omega arith)) at (all_at (λ i. differs (σ.slot i) (σ.slot s).ticket) s n l)) q

  pub sound_parts : Sound σ
  unfolding max_in_range mark_below hand_sound is_waiting
  sound_parts =
      record {
        max_low = (in_range_lem 1 σ.max sessions head_part.0).0;
        max_high = (in_range_lem 1 σ.max sessions head_part.0).1;
        mark_below_lem = ltb-true σ.mark σ.max head_part.1;
        slots = slot_part;
        distinct = λ s s' l q.
            ⊎_elim
            (λ z. ⊎_elim (λ y. omega arith) (λ y. absurd (apart s' s (omega arith) (omega arith) q)) (eq-zero-or-pos (s' - s)))
            (λ z. absurd (apart s s' (omega arith) l (sym q)))
            (eq-zero-or-pos (s - s'));
        in_hand = λ s q. ltb-true _ _ (sym (ap (hand_sound σ) q) ∙ hand_part.1);
      }

module _ (σ : State) (w : Sound σ) where
  new_ticket : (s : ℕ) → 1 ≤ (σ.slot s).ticket → is_new σ s (σ.slot s) ≡ true
  unfolding is_new differs
  new_ticket s l =
      all_make (λ r. differs (σ.slot r) (σ.slot s).ticket) s
      (λ r k. rw (ne_eqb (σ.slot r).ticket (σ.slot s).ticket (λ q. omega (arith, w.distinct s r l (sym q)))) (or-true (is_open (σ.slot r))))

  slot_tests : (s : ℕ) → SlotSound σ.max σ.last s (σ.slot s) → slot_sound σ s (σ.slot s) ≡ true
  unfolding slot_sound is_open
  slot_tests s (open_slot e) = rw (ap (λ x. x.taken) e)
  slot_tests s (session x) = rw (to_tests σ s (σ.slot s) x (new_ticket s x.ticket_low)) (or-true (is_open (σ.slot s)))

  hand_test : (f : Found) → σ.hand ≡ f → hand_sound σ f ≡ true
  unfolding hand_sound is_waiting
  hand_test none e = refl
  hand_test (at s) e = lt-ltb _ _ (w.in_hand s e)

  pub parts_sound : sound σ ≡ true
  unfolding sound max_in_range mark_below
  parts_sound =
      rw (
        le-leb _ _ w.max_low,
        le-leb _ _ w.max_high,
        lt-ltb _ _ w.mark_below_lem,
        all_make (λ s. slot_sound σ s (σ.slot s)) sessions (λ s l. slot_tests s (w.slots s)),
        hand_test σ.hand refl,
      )
