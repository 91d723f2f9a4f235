-- What the tests of soundness are on a table's bytes.
use Prim.Native.Nat.{ℕ, ◌+◌, ◌-◌, ◌≤◌, ◌<◌}
use mathlib.Core.Path.{◌≡◌, refl, ◌∙◌, ap, sym}
use mathlib.Core.Bool.{Bool, true, false, cond, ◌&&◌, ◌||◌, not, false≢true}
use mathlib.Core.Logic.{⊎_elim}
use mathlib.Core.List.{List}
use native.Mathlib.Nat.{eq-zero-or-pos, eq-or-lt_of_le}
use native.Mathlib.Omega.{arith}
use lib.Dec.{eqb, leb, ltb}
use lib.ListN.{length, get_or, set, take, length-set}
use lib.Seq.{get_or-set_same}
use borrow.Author.Rules.{read_below}
use borrow.Author.Tests.{eq-eqb, ne_eqb, lt-ltb, le-ltb, ltb-true, ltb-false}
use Rattle.std.proofs.lemmas.List.{get_or-take, length-take-le}
use Rattle.std.specs.Option.{is_some}
use Rattle.std.specs.Prelude.{Option, Some, None}
use Rattle.counts.specs.declared.SessionNumber.{SessionNumber}
use Rattle.counts.specs.Limits.{commands, programs, sessions, ticket_most}
use Rattle.sessions.proofs.Laws.{either}
use Rattle.sessions.proofs.Loops.{all_same, all_real_lem, all_fails, all_end}
use Rattle.sessions.proofs.Parts.{of_head}
use Rattle.sessions.specs.Find.{none, at, all}
use Rattle.sessions.specs.Sound.{sound, max_in_range, mark_below, in_range, head_sound, differs, is_new, in_range_and_real, all_real, slot_sound, hand_sound}
use Rattle.sessions.specs.Table.{Session, no_session, within, is_open, is_waiting}
use Rattle.slot.proofs.Told.{told_session, told_answers, is_taken, slot_beyond, slot_told}
use Rattle.slot.specs.Fields.{head_of, entry_of, session_of, told, slot_of, Tells}
use Rattle.slot.specs.declared.Head.{Head}
use Rattle.table_layout.proofs.Hands.{hand_back}
use Rattle.table_layout.specs.Layout.{table_bytes, hand_number, table_of}
use Rattle.table_layout.specs.declared.Table.{Table}
use Rattle.table_sound.specs.Bytes.{hand_of, abs, sound_bytes, Seen, hand_known}

pub head_is : (max last s : ℕ) (h : Head) → h.taken ≡ true
    → Tells h (head_sound max last s)
    (ltb s max
    && (leb 1 h.program && leb h.program programs && (leb 1 h.count && leb h.count commands) && (leb 1 h.ticket.0 && leb h.ticket.0
    ticket_most))
    && leb h.ticket.0 last
    && leb h.answered h.count)
unfolding head_sound in_range
head_is max last s h n answer = rw (told_session h answer n, told_answers h answer)

-- a ticket is none of a number's: of no session's, as an open number has ticket 0
differs_is : (b : List ℕ) (i t : ℕ) → 1 ≤ t → not (eqb (slot_of b i).ticket t) ≡ differs (slot_of b i) t
unfolding slot_of told differs is_open
differs_is b i t l = go (ltb i sessions) (head_of b i).taken
  where
    go : (k m : Bool) → let x = cond k (cond m (session_of (head_of b i) (entry_of b i)) no_session) no_session in
        not (eqb x.ticket t) ≡ (not x.taken || not (eqb x.ticket t))
    go true true = refl
    go true false = rw (ne_eqb 0 t (λ e. omega arith))
    go false m = rw (ne_eqb 0 t (λ e. omega arith))

-- ---- one slot

module _ {b : List ℕ} {t : Table} {s : ℕ} {h : Head} {seen : List ℕ}
    (pre : (length b ≡ table_bytes) × (s < sessions) × (t ≡ table_of b) × (h ≡ head_of b s) × Seen b s seen × (length seen ≡ s)) where
  its_slot : slot_of b s ≡ told h (entry_of b s)
  its_slot = slot_told b s pre.1 ∙ ap (λ x. told x (entry_of b s)) (sym pre.3)

  module _ (free : Bool) (free-said : Tells h is_open free) where
    pub sound_open : free ≡ true → true ≡ slot_sound (abs b) s (slot_of b s)
    unfolding slot_sound
    sound_open e = rw (its_slot, ← (free-said (entry_of b s)), e)

    -- the tests of a session, each as a function answers it
    module _ (not_open : free ≡ false) where
      pub taken : h.taken ≡ true
      taken = is_taken h (entry_of b s) (free-said (entry_of b s)) not_open

      abbrev x : Session
      x = told h (entry_of b s)

      slot_tests_are : slot_sound (abs b) s (slot_of b s)
          ≡ (head_sound t.max t.last.0 s x && all s (λ i. differs (slot_of b i) x.ticket) && all_real x.answers)
      unfolding slot_sound is_new table_of
      slot_tests_are = rw (its_slot, ← (free-said (entry_of b s)), not_open, pre.2)

      module _ (head_ok : Bool) (head-said : Tells h (head_sound t.max t.last.0 s) head_ok) where
        pub sound_no_head : head_ok ≡ false → false ≡ slot_sound (abs b) s (slot_of b s)
        sound_no_head e = rw (slot_tests_are, ← (head-said (entry_of b s)), e)

        module _ (good : head_ok ≡ true) where
          bounds : (1 ≤ h.ticket.0) × (h.answered ≤ commands)
          bounds =
              let k = of_head t.max t.last.0 s x (sym (head-said (entry_of b s)) ∙ good) in
              let e = told_session h (entry_of b s) taken in
              (omega (arith, k.0, ap (λ y. y.ticket) e), omega (arith, k.1, ap (λ y. length y.answers) e, told_answers h (entry_of b s)))

          pub few_answers : h.answered ≤ commands
          few_answers = bounds.1

          module _ (new_ok : Bool) (new-said : new_ok ≡ all (length seen) (λ i. not (eqb (get_or seen i 0) h.ticket.0))) where
            rest_is : slot_sound (abs b) s (slot_of b s) ≡ (new_ok && all h.answered (λ i. in_range_and_real (entry_of b s (i + 1))))
            rest_is =
                slot_tests_are
                ∙ rw (
                  ← (head-said (entry_of b s)),
                  good,
                  told_session h (entry_of b s) taken,
                  new-said,
                  pre.5,
                  all_same _ _ s (λ i l. ap (λ k. not (eqb k h.ticket.0)) (pre.4.tickets i l) ∙ differs_is b i h.ticket.0 bounds.0),
                  all_real_lem h.answered (λ i. entry_of b s (i + 1)),
                )

            pub sound_not_new : new_ok ≡ false → false ≡ slot_sound (abs b) s (slot_of b s)
            sound_not_new e = rw (rest_is, e)

            pub sound_answers : new_ok ≡ true → all h.answered (λ i. in_range_and_real (entry_of b s (i + 1))) ≡ slot_sound (abs b) s (slot_of b s)
            sound_answers e = rw (rest_is, e)

-- ---- the tickets seen

module _ (b seen : List ℕ) where
  pub seen_none : Seen b 0 seen
  seen_none = record { room = omega arith; tickets = λ i l. absurd (omega arith) }

  -- of the first s numbers alone
  pub seen_taken : (s : ℕ) → Seen b s seen → Seen b s (take s seen) × (length (take s seen) ≡ s)
  seen_taken s w =
      let l = length-take-le s seen w.room in
      (record { room = omega arith; tickets = λ i k. get_or-take s seen i 0 k ∙ w.tickets i k }, l)

  pub seen_more : (s v : ℕ) (h : Head) → s < length seen → s < sessions → h ≡ head_of b s → Tells h (λ x. x.ticket) v → Seen b s seen
      → Seen b (s + 1) (set seen s v)
  seen_more s v h l below q said w =
      let e : v ≡ (slot_of b s).ticket = said (entry_of b s) ∙ rw (slot_told b s below, q) in
      record {
        room = rw length-set (omega arith);
        tickets = λ i k.
            ⊎_elim
            (λ (q : i ≡ s). rw q (get_or-set_same seen s v 0 l ∙ e))
            (λ (m : i < s). read_below ℕ seen s i v 0 _ m (w.tickets i m))
            (eq-or-lt_of_le {n = i} {m = s} (omega arith));
      }

-- ---- what is in hand, by the number that stands there

module _ (n : ℕ) where
  pub hand_empty : n ≡ 0 → hand_of n ≡ none
  unfolding hand_of
  hand_empty e = rw e

  pub hand_full : (n ≡ 0 → ⊥) → hand_of n ≡ at (n - 1)
  unfolding hand_of
  hand_full k = rw (ne_eqb n 0 k)

-- what is known of it, number after number
module _ (b : List ℕ) (n : ℕ) where
  hand_nothing : eqb n 0 ≡ hand_known b n 0
  unfolding hand_sound hand_of
  hand_nothing =
      ⊎_elim (λ (z : n ≡ 0). rw z) (λ (l : 1 ≤ n). rw (ne_eqb n 0 (λ z. omega arith), lt-ltb 0 n (omega arith))) (eq-zero-or-pos n)

  -- the session of the next number is in hand, or nothing new is known
  is_known : (s : ℕ) → s + 1 ≡ n → is_waiting (slot_of b s) ≡ hand_known b n (s + 1)
  unfolding hand_sound
  is_known s e =
      let last : n - 1 ≡ s = omega arith in
      rw (le-ltb (s + 1) n (omega arith), hand_full n (λ z. omega arith), last)

  known_still : (s : ℕ) → (s + 1 ≡ n → ⊥) → hand_known b n s ≡ hand_known b n (s + 1)
  known_still s k = ap (λ (d : Bool). cond d false (hand_sound (abs b) (hand_of n))) (go (ltb s n) refl)
    where
      go : (d : Bool) → ltb s n ≡ d → ltb s n ≡ ltb (s + 1) n
      go true e =
          ⊎_elim (λ (z : s + 1 ≡ n). absurd (k z)) (λ (l : s + 1 < n). e ∙ sym (lt-ltb (s + 1) n l))
          (eq-or-lt_of_le {n = s + 1} {m = n} (omega (arith, ltb-true s n e)))
      go false e = e ∙ sym (le-ltb (s + 1) n (omega (arith, ltb-false s n e)))

  pub hand_more : (s : ℕ) → s < sessions → (h : Head) → h ≡ head_of b s → (known r : Bool)
      → Tells h (λ x. cond (eqb (s + 1) n) (is_waiting x) known) r → known ≡ hand_known b n s → r ≡ hand_known b n (s + 1)
  hand_more s below h q known r said before =
      said (entry_of b s)
      ∙ ap (λ (x : Session). cond (eqb (s + 1) n) (is_waiting x) known) (ap (λ x. told x (entry_of b s)) q ∙ sym (slot_told b s below))
      ∙ ⊎_elim (λ (e : s + 1 ≡ n). rw (eq-eqb (s + 1) n e) (is_known s e)) (λ (k : s + 1 ≡ n → ⊥). rw (ne_eqb (s + 1) n k) (before ∙ known_still s k))
      (either (s + 1) n)

  hand_end : (s : ℕ) → sessions ≤ s → (known : Bool) → known ≡ hand_known b n s → known ≡ hand_sound (abs b) (hand_of n)
  unfolding hand_sound is_waiting
  hand_end s l known e = e ∙ go (ltb s n) refl
    where
      go : (d : Bool) → ltb s n ≡ d → cond d false (hand_sound (abs b) (hand_of n)) ≡ hand_sound (abs b) (hand_of n)
      go true f = let k = ltb-true s n f in rw (hand_full n (λ z. omega arith), slot_beyond b (n - 1) (omega arith))
      go false f = refl

pub hand_start : (b : List ℕ) (hand : Option SessionNumber) (r : Bool) → is_some hand ≡ not r → r ≡ hand_known b (hand_number hand) 0
hand_start b None true e = hand_nothing b 0
hand_start b None false e = absurd (false≢true e)
hand_start b (Some s) true e = absurd (false≢true (sym e))
hand_start b (Some s) false e = sym (ne_eqb (s.0 + 1) 0 (λ z. omega arith)) ∙ hand_nothing b (s.0 + 1)

-- ---- the two ends of the pass over the sessions

module _ (b : List ℕ) (n : ℕ) where
  abbrev sounds : ℕ → Bool
  sounds s = slot_sound (abs b) s (slot_of b s)

  pub pass_stops : (s : ℕ) → s < sessions → (r : Bool) → r ≡ sounds s → r ≡ false → false ≡ (all sessions sounds && hand_sound (abs b) (hand_of n))
  pass_stops s l r q e = rw (all_fails sounds sessions {i = s} l (sym q ∙ e))

  pub pass_ends : (s : ℕ) → all s sounds ≡ true → s ≡ sessions → (known : Bool) → known ≡ hand_known b n s
      → known ≡ (all sessions sounds && hand_sound (abs b) (hand_of n))
  pass_ends s a e known k = rw (all_end sounds a e) (hand_end b n s (omega arith) known k)

-- ---- the ways through the test of the whole

module _ (b : List ℕ) where
  pub sound_no_size : (length b ≡ table_bytes → ⊥) → false ≡ sound_bytes b
  unfolding sound_bytes
  sound_no_size n = rw (ne_eqb (length b) table_bytes n)

  module _ (size : length b ≡ table_bytes) (t : Table) (p : t ≡ table_of b)
      (limits-ok : Bool) (limits-said : limits-ok ≡ (within 1 t.max sessions && ltb t.mark.0 t.max)) where
    sound_is : sound_bytes b ≡ (limits-ok && all sessions (λ s. slot_sound (abs b) s (slot_of b s)) && hand_sound (abs b) (hand_of (hand_number t.hand)))
    unfolding sound_bytes sound max_in_range mark_below table_of
    sound_is = rw (eq-eqb (length b) table_bytes size, limits-said, p, hand_back)

    pub sound_no_limits : limits-ok ≡ false → false ≡ sound_bytes b
    sound_no_limits e = rw (sound_is, e)

    pub sound_sessions : limits-ok ≡ true → (r : Bool)
        → r ≡ (all sessions (λ s. slot_sound (abs b) s (slot_of b s)) && hand_sound (abs b) (hand_of (hand_number t.hand))) → r ≡ sound_bytes b
    sound_sessions d r e = rw (sound_is, d) e
