-- What a head tells, and each question of it.
use Prim.Native.Nat.{ℕ, ◌+◌, ◌≤◌, ◌<◌}
use mathlib.Core.Path.{◌≡◌, refl, ◌∙◌, ap, sym}
use mathlib.Core.Bool.{Bool, true, false, cond, ◌&&◌, not, and-false, false≢true}
use mathlib.Core.Logic.{◌⊎◌, inl, inr}
use mathlib.Core.List.{List}
use borrow.Author.Tests.{lt-ltb, le-ltb, eq-eqb}
use lib.Dec.{eqb, ltb}
use lib.ListN.{length}
use Rattle.counts.specs.Limits.{sessions}
use Rattle.sessions.proofs.Loops.{length_first}
use Rattle.sessions.specs.Table.{Session, no_session, is_open, is_waiting, is_closed, is_ready, lowest, names}
use Rattle.sessions.specs.declared.Answer.{Answer}
use Rattle.table_layout.specs.Layout.{number}
use Rattle.slot.specs.Fields.{is_taken_at, head_of, entry_of, session_of, told, slot_of, Tells}
use Rattle.slot.specs.declared.Head.{Head}

module _ (h : Head) (answer : ℕ → Answer) where
  pub told_open : h.taken ≡ false → told h answer ≡ no_session
  unfolding told
  told_open e = rw e

  pub told_session : h.taken ≡ true → told h answer ≡ session_of h answer
  unfolding told
  told_session n = rw n

  pub told_answers : length (session_of h answer).answers ≡ h.answered
  told_answers = length_first h.answered (λ i. answer (i + 1))

  -- a number that is not open is taken
  pub is_taken : {r : Bool} → r ≡ is_open (told h answer) → r ≡ false → h.taken ≡ true
  unfolding is_open
  is_taken e f = go h.taken refl
    where
      go : (t : Bool) → h.taken ≡ t → h.taken ≡ true
      go true q = q
      go false q = absurd (false≢true (sym f ∙ e ∙ ap is_open (told_open q)))

  pub no_ticket : h.taken ≡ false → 0 ≡ (told h answer).ticket
  no_ticket e = rw (told_open e)

  pub its_ticket : h.taken ≡ true → h.ticket.0 ≡ (told h answer).ticket
  its_ticket n = rw (told_session n)

  pub open_is : not h.taken ≡ is_open (told h answer)
  unfolding told is_open
  open_is = go h.taken
    where
      go : (t : Bool) → not t ≡ is_open (cond t (session_of h answer) no_session)
      go true = refl
      go false = refl

  -- a test that no open number passes
  if_taken : (test : Session → Bool) {r : Bool} → test no_session ≡ false → r ≡ test (session_of h answer) → (h.taken && r) ≡ test (told h answer)
  unfolding told
  if_taken test {r} fails e = go h.taken
    where
      go : (t : Bool) → (t && r) ≡ test (cond t (session_of h answer) no_session)
      go true = e
      go false = sym fails

  pub waiting_is : (h.taken && ltb h.answered h.count) ≡ is_waiting (told h answer)
  unfolding is_waiting
  waiting_is = if_taken is_waiting refl (rw told_answers)

  pub closed_is : (h.taken && eqb h.answered h.count) ≡ is_closed (told h answer)
  unfolding is_closed
  closed_is = if_taken is_closed refl (rw told_answers)

  pub ready_is : (p t : ℕ) (closed : Bool) → closed ≡ is_closed (told h answer)
      → (eqb h.program p && eqb h.ticket.0 t && closed) ≡ is_ready p t (told h answer)
  unfolding told is_ready is_closed
  ready_is p t closed e = e_of h.taken e
    where
      e_of : (k : Bool) → closed ≡ is_closed (cond k (session_of h answer) no_session)
          → (eqb h.program p && eqb h.ticket.0 t && closed) ≡ is_ready p t (cond k (session_of h answer) no_session)
      e_of true e = rw e
      e_of false e = rw (e, and-false, and-false)

  module _ (n : h.taken ≡ true) where
    pub lowest_is : h.answered + 1 ≡ lowest (told h answer)
    lowest_is = rw (told_session n, told_answers)

    pub names_is : (t c low : ℕ) → low ≡ lowest (told h answer) → (eqb h.ticket.0 t && eqb low c) ≡ names (told h answer) t c
    unfolding names
    names_is t c low e = rw (← e, told_session n)

pub open_or_taken : (h : Head) → (h.taken ≡ false) ⊎ (h.taken ≡ true)
open_or_taken h = go h.taken
  where
    go : (t : Bool) → (t ≡ false) ⊎ (t ≡ true)
    go true = inr refl
    go false = inl refl

-- ---- what a number holds

module _ (b : List ℕ) (s : ℕ) where
  pub slot_beyond : sessions ≤ s → slot_of b s ≡ no_session
  unfolding slot_of
  slot_beyond l = rw (le-ltb s sessions l)

  pub slot_told : s < sessions → slot_of b s ≡ told (head_of b s) (entry_of b s)
  unfolding slot_of
  slot_told l = rw (lt-ltb s sessions l)

  -- what was asked of the head was asked of the number
  pub asked : {A : Type 0} (h : Head) → h ≡ head_of b s → s < sessions → (question : Session → A) {r v : A} → Tells h question r → r ≡ v
      → question (slot_of b s) ≡ v
  asked h q l question said e = ap question (slot_told l ∙ ap (λ x. told x (entry_of b s)) (sym q)) ∙ sym (said (entry_of b s)) ∙ e

  pub slot_open : (head_of b s).taken ≡ false → slot_of b s ≡ no_session
  unfolding slot_of
  slot_open e = go (ltb s sessions)
    where
      go : (t : Bool) → cond t (told (head_of b s) (entry_of b s)) no_session ≡ no_session
      go true = told_open (head_of b s) (entry_of b s) e
      go false = refl

  pub open_at : number b (is_taken_at s) ≡ 0 → slot_of b s ≡ no_session
  unfolding head_of
  open_at e = slot_open (ap not (eq-eqb (number b (is_taken_at s)) 0 e))

  pub slot_held : s < sessions → (head_of b s).taken ≡ true → slot_of b s ≡ session_of (head_of b s) (entry_of b s)
  slot_held l n = slot_told l ∙ told_session (head_of b s) (entry_of b s) n
