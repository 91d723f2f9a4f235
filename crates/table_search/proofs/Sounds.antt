-- What a call may lean on once it has found the bytes sound.
use Prim.Native.Nat.{ℕ, ◌-◌, ◌≤◌, ◌<◌}
use mathlib.Core.Path.{◌≡◌, refl, ◌∙◌, ap, sym}
use mathlib.Core.Bool.{true, false, false≢true}
use mathlib.Core.Logic.{⊎_elim}
use mathlib.Core.List.{List}
use native.Mathlib.Nat.{eq-zero-or-pos}
use native.Mathlib.Omega.{arith}
use borrow.Author.Tests.{eqb-true, ltb-true, lt-ltb}
use lib.Dec.{eqb}
use lib.ListN.{length}
use Rattle.counts.specs.Limits.{commands, sessions}
use Rattle.laws.proofs.Choose.{and_left, and_right}
use Rattle.sessions.proofs.Parts.{SessionSound, Sound, Clean, sound_parts}
use Rattle.sessions.proofs.SoundKept.{is_session}
use Rattle.sessions.specs.Find.{at}
use Rattle.sessions.specs.Sound.{sound}
use Rattle.sessions.specs.Table.{Session, no_session, is_waiting}
use Rattle.table_layout.specs.Layout.{table_bytes, number, max_at, last_at, hand_at}
use Rattle.table_search.specs.Limited.{Limited}
use Rattle.slot.proofs.Told.{told_answers, open_or_taken, slot_beyond, slot_open, slot_held}
use Rattle.slot.specs.Fields.{head_of, entry_of, session_of, slot_of}
use Rattle.slot.specs.declared.Head.{Head}
use Rattle.table_sound.specs.Bytes.{hand_of, abs, sound_bytes}

-- nothing stands in an open number
pub clean_bytes : (b : List ℕ) → Clean (abs b)
clean_bytes b = record { empty = empty; beyond = λ s l. slot_beyond b s l }
  where
    empty : (s : ℕ) → (slot_of b s).taken ≡ false → slot_of b s ≡ no_session
    empty s e =
        ⊎_elim
        (λ z. slot_beyond b s (omega arith))
        (λ z.
        ⊎_elim
        (λ y. slot_open b s y)
        (λ y. absurd (false≢true (sym e ∙ ap (λ x. x.taken) (slot_held b s (omega arith) y))))
        (open_or_taken (head_of b s)))
        (eq-zero-or-pos (sessions - s))

module _ (b : List ℕ) (e : sound_bytes b ≡ true) where
  pub sound_size : length b ≡ table_bytes
  unfolding sound_bytes
  sound_size = eqb-true (length b) table_bytes (and_left (eqb (length b) table_bytes) (sound (abs b)) e)

  pub sound_table : Sound (abs b)
  unfolding sound_bytes
  sound_table = sound_parts (abs b) (clean_bytes b) (and_right (eqb (length b) table_bytes) (sound (abs b)) e)

  pub sound_limited : Limited b
  sound_limited = record { size = sound_size; limit = sound_table.max_high; mark = sound_table.mark_below_lem }

  -- a session stands at s, by a number that an open one has not: a program, a count, a ticket
  pub record Stands (s : ℕ) : Type 0 where
    pub below : s < sessions
    pub taken : (head_of b s).taken ≡ true
    pub held : slot_of b s ≡ session_of (head_of b s) (entry_of b s)
    pub session : SessionSound (number b max_at) (number b last_at) s (slot_of b s)

  pub stands : (f : Session → ℕ) → f no_session ≡ 0 → (s : ℕ) → 1 ≤ f (slot_of b s) → Stands s
  stands f z s l =
      let w = is_session (abs b) sound_table f z s l in
      let k : s < sessions = omega (arith, w.number, sound_table.max_high) in
      let n : (head_of b s).taken ≡ true = ⊎_elim (λ e. absurd (omega (arith, ap f (slot_open b s e)))) (λ e. e) (open_or_taken (head_of b s)) in
      record { below = k; taken = n; held = slot_held b s k n; session = w }

  -- it has an unanswered command
  pub record Waits (s : ℕ) : Type 0 where
    pub stands_there : Stands s
    pub answers_few : (head_of b s).answered < commands

  pub waits : (s : ℕ) → is_waiting (slot_of b s) ≡ true → Waits s
  unfolding is_waiting
  waits s e =
      let l = ltb-true (length (slot_of b s).answers) (slot_of b s).count e in
      let w = stands (λ x. x.count) refl s (omega arith) in
      let q = ap (λ x. length x.answers) w.held ∙ told_answers (head_of b s) (entry_of b s) in
      record { stands_there = w; answers_few = omega (arith, w.session.count_high) }

  pub waiting_head : {s : ℕ} (h : Head) → Waits s → h ≡ head_of b s → (h.taken ≡ true) × (h.answered < commands)
  waiting_head h w q = rw q (w.stands_there.taken, w.answers_few)

  -- what is in hand
  pub hand_waits : (s : ℕ) → hand_of (number b hand_at) ≡ at s → is_waiting (slot_of b s) ≡ true
  unfolding is_waiting
  hand_waits s e = lt-ltb (length (slot_of b s).answers) (slot_of b s).count (sound_table.in_hand s e)
