-- How the table stands to the history, ticket by ticket: never given, held, or collected. And what each accepted call does to that.
use Prim.Native.Nat.{ℕ, ◌+◌, ◌≤◌}
use mathlib.Core.Path.{◌≡◌, ◌∙◌, ap, sym}
use mathlib.Core.List.{List, [], ◌∷◌, ◌++◌}
use native.Mathlib.Nat.{add_comm}
use native.Mathlib.Omega.{arith}
use lib.ListN.{length}
use Rattle.sessions.specs.Find.{replaced}
use Rattle.sessions.specs.declared.Answer.{Answer}
use Rattle.sessions.specs.Table.{Session, no_session, new_session, with_answer, numbered, lowest}
use Rattle.sessions.proofs.Laws.{replaced_same, replaced_other, replaced_all, numbered_more}

-- The placings, acceptances and collections of a ticket t: of one that was never given, of the session x that has it at s, and of the
-- session x that had it there.
module _ (t : ℕ) (ps : List (ℕ × ℕ × ℕ)) (qs : List (ℕ × Answer)) (rs : List ℕ) where
  pub record New : Type 0 where
    pub no_placing : ps ≡ []
    pub no_answer : qs ≡ []
    pub no_reply : rs ≡ []

  pub record Held (s : ℕ) (x : Session) : Type 0 where
    pub ticket_low : 1 ≤ t
    pub its_ticket : x.ticket ≡ t
    pub one_placing : ps ≡ (s, x.program, x.count) ∷ []
    pub its_answers : qs ≡ numbered 1 x.answers
    pub no_reply : rs ≡ []

  pub record Gone (s : ℕ) (x : Session) : Type 0 where
    pub ticket_low : 1 ≤ t
    pub one_placing : ps ≡ (s, x.program, x.count) ∷ []
    pub its_answers : qs ≡ numbered 1 x.answers
    pub all_answered : length x.answers ≡ x.count
    pub one_reply : rs ≡ x.program ∷ []

abbrev pub Nowhere : (ℕ → Session) → ℕ → Type 0
Nowhere slot t = (s : ℕ) → (slot s).ticket ≡ t → ⊥

module _ (last : ℕ) (slot : ℕ → Session) (t : ℕ) (ps : List (ℕ × ℕ × ℕ)) (qs : List (ℕ × Answer)) (rs : List ℕ) where
  pub data Standing : Type 0 where
    new : (1 ≤ t → Nowhere slot t) → New t ps qs rs → Standing
    held : (s : ℕ) (x : Session) → slot s ≡ x → Held t ps qs rs s x → Standing
    gone : (s : ℕ) (x : Session) → t ≤ last → Nowhere slot t → Gone t ps qs rs s x → Standing

module _ (last : ℕ) (slot : ℕ → Session) (t : ℕ) (ps : List (ℕ × ℕ × ℕ)) (qs : List (ℕ × Answer)) (rs : List ℕ) (s : ℕ) where
  -- a change at s that has nothing to do with t
  pub apart : (last' : ℕ) (x : Session) → last ≤ last' → (1 ≤ t → (slot s).ticket ≡ t → ⊥) → (1 ≤ t → x.ticket ≡ t → ⊥)
      → Standing last slot t ps qs rs → Standing last' (replaced slot s x) t ps qs rs
  apart last' x l f g (new d w) = new (λ k. replaced_all slot s x (λ i y. y.ticket ≡ t → ⊥) (g k) (λ i n. d k i)) w
  apart last' x l f g (held i y q w) =
      held i y (replaced_other slot s x (λ e. f w.ticket_low (ap (λ j. (slot j).ticket) (sym e) ∙ ap (λ z. z.ticket) q ∙ w.its_ticket)) ∙ q) w
  apart last' x l f g (gone i y k d w) =
      gone i y (omega arith) (replaced_all slot s x (λ j z. z.ticket ≡ t → ⊥) (g w.ticket_low) (λ j n. d j)) w

  -- the ticket that a placing at s gives
  pub its_placing : (p n : ℕ) → last + 1 ≡ t → ((i : ℕ) → (slot i).ticket ≤ last) → Standing last slot t ps qs rs
      → Standing (last + 1) (replaced slot s (new_session p n (last + 1))) t ((s, p, n) ∷ ps) qs rs
  unfolding numbered
  its_placing p n e b (new d w) =
      let x = new_session p n (last + 1) in
      held s x (replaced_same slot s x)
      (record { ticket_low = omega arith; its_ticket = e; one_placing = rw w.no_placing; its_answers = w.no_answer; no_reply = w.no_reply })
  its_placing p n e b (held i y q w) = let k : (slot i).ticket ≡ t = rw q w.its_ticket in absurd (omega (arith, b i))
  its_placing p n e b (gone i y k d w) = absurd (omega arith)

  module _ (here : (slot s).ticket ≡ t) (low : 1 ≤ (slot s).ticket) (high : (slot s).ticket ≤ last)
      (distinct : (i : ℕ) → (slot s).ticket ≡ (slot i).ticket → s ≡ i) where
    -- a ticket that stands at s is held there
    pub held_at : Standing last slot t ps qs rs → Held t ps qs rs s (slot s)
    held_at (new d w) = absurd (d (omega arith) s here)
    held_at (held i y q w) = let k : s ≡ i = distinct i (here ∙ sym (ap (λ x. x.ticket) q ∙ w.its_ticket)) in rw (k, q) w
    held_at (gone i y k d w) = absurd (d s here)

    -- an answer to the session at s
    pub its_answer : (a : Answer) → Standing last slot t ps qs rs
        → Standing last (replaced slot s (with_answer (slot s) a)) t ps (qs ++ ((lowest (slot s), a) ∷ [])) rs
    its_answer a w =
        let h = held_at w in
        held s (with_answer (slot s) a) (replaced_same slot s (with_answer (slot s) a))
        (record {
          ticket_low = omega arith;
          its_ticket = here;
          one_placing = h.one_placing;
          its_answers = rw (h.its_answers, numbered_more, add_comm 1 (length (slot s).answers));
          no_reply = h.no_reply;
        })

    -- its collection
    pub its_collection : length (slot s).answers ≡ (slot s).count → Standing last slot t ps qs rs
        → Standing last (replaced slot s no_session) t ps qs ((slot s).program ∷ rs)
    its_collection all w =
        let h = held_at w in
        gone s (slot s) (omega arith) (replaced_all slot s no_session (λ i y. y.ticket ≡ t → ⊥) (λ e. omega arith)
        (λ i n e. n (sym (distinct i (here ∙ sym e)))))
        (record { ticket_low = omega arith; one_placing = h.one_placing; its_answers = h.its_answers; all_answered = all; one_reply = rw h.no_reply })
