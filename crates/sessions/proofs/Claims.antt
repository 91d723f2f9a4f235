-- DEMAND 3 without bytes, for every start that agrees with a history of nothing and all calls that do not make the table anew, refused
-- ones included.
-- A history has the newest event first, so `later ++ (e ∷ earlier)` is a history in which e happened, with what came after and before.
use Prim.Native.Nat.{ℕ, suc, ◌+◌, ◌≤◌}
use mathlib.Core.Path.{◌≡◌, refl, ◌∙◌, ap, sym}
use mathlib.Core.Bool.{true}
use mathlib.Core.List.{List, [], ◌∷◌, ◌++◌, append-nil}
use mathlib.Core.Logic.{⊎_elim}
use native.Mathlib.Omega.{arith}
use borrow.Author.Tests.{eq-eqb}
use lib.ListN.{length, length-append}
use Rattle.counts.specs.Limits.{commands}
use Rattle.counts.specs.Result.{Result, done}
use Rattle.sessions.specs.History.{Call, to_place, to_collect, Event, placed, answered, collected, collected_as, gather, placing, placings, accepted, collection, collections}
use Rattle.sessions.specs.Owed.{if_room, owed, Yours}
use Rattle.sessions.specs.Runs.{reached, history_of, never_anew, Refuses}
use Rattle.sessions.specs.Table.{State, numbered, records}
use Rattle.sessions.specs.Sound.{in_range_and_real}
use Rattle.sessions.specs.declared.Answer.{Answer}
use Rattle.sessions.proofs.Agrees.{Agrees, agrees, agreed}
use Rattle.sessions.proofs.Answers.{there, not_again_number, given_new, given_once, collected_gone, closed_or_waits}
use Rattle.sessions.proofs.Did.{step_table}
use Rattle.sessions.proofs.Laws.{nil≢mid, head_same, tail_same}
use Rattle.sessions.proofs.Owing.{collect_owed, collect_yours, in_order}
use Rattle.sessions.proofs.SoundKept.{is_session}
use Rattle.sessions.proofs.Past.{gather_append, accepted_append, accepted_at}
use Rattle.sessions.proofs.Runs.{Before}
use Rattle.sessions.proofs.Told.{Told, told_by}

length_zero : {A : Type 0} (l : List A) → length l ≡ 0 → l ≡ []
length_zero [] e = refl
length_zero (x ∷ l) e = absurd (omega arith)

-- the number of an answer is its place
numbered_place : (k : ℕ) (l : List Answer) (xs ys : List (ℕ × Answer)) (c : ℕ) (a : Answer) → numbered k l ≡ xs ++ ((c, a) ∷ ys) → c ≡ k + length xs
unfolding numbered
numbered_place k [] xs ys c a e = absurd (nil≢mid xs ys (c, a) e)
numbered_place k (b ∷ l) [] ys c a e = let z : k ≡ c = ap (λ x. x.0) (head_same e) in omega arith
numbered_place k (b ∷ l) (x ∷ xs) ys c a e = let z = numbered_place (suc k) l xs ys c a (tail_same e) in omega arith

module _ (elsewhere : List ℕ → ℕ → Result (Unit {0})) (start : State) (begins : Agrees start []) (cs : List Call) (kept : never_anew cs ≡ true) where
  abbrev σ : State
  σ = reached start (step_table elsewhere) cs

  abbrev h : List Event
  h = history_of start (step_table elsewhere) cs

  now : Agrees σ h
  now = agrees elsewhere start begins cs kept

  -- A collection answers what the history owes, and nothing else of the table matters.
  pub collect_answers_what_is_owed : (p t : ℕ) (out : List ℕ)
      → (step_table elsewhere σ (to_collect p t out)).0 ≡ collected_as p t out (owed h p t (length out))
  unfolding step_table
  collect_answers_what_is_owed p t out = ap (collected_as p t out) (collect_owed σ h now p t (length out))

  -- The answers of a ticket are accepted in the order 1, 2, ..
  pub answers_in_order : (t : ℕ) → (l : List Answer) × (accepted t h ≡ numbered 1 l)
  answers_in_order = in_order σ h now

  -- what an event tells of the table before it, which agreed with what came before
  then : (later earlier : List Event) (e : Event) → h ≡ later ++ (e ∷ earlier)
      → (m : Before (step_table elsewhere) Agrees e earlier) × Told m.table e (step_table elsewhere m.table m.call).1
  then later earlier e q = let m = agreed elsewhere start begins cs kept later earlier e q in (m, told_by elsewhere m.table m.call m.answered_so)

  -- "Each reply collected under a ticket holds one record per command of the request that got that ticket, numbered from 1 in
  -- order, carrying exactly the outcome, date and time accepted for that ticket and command."
  pub reply_is_yours : (p t n : ℕ) (out exit : List ℕ) (later earlier : List Event) → h ≡ later ++ (collected p t out (done n) exit ∷ earlier)
      → Yours p t out n exit earlier
  reply_is_yours p t n out exit later earlier e =
      let (m, w) = then later earlier (collected p t out (done n) exit) e in collect_yours m.table earlier m.held w

  -- An answer that was accepted is real, and to a command that there may be.
  pub accepted_in_range : (t c : ℕ) (a : Answer) (later earlier : List Event) → h ≡ later ++ (answered t c a (done tt) ∷ earlier)
      → (1 ≤ c) × (c ≤ commands) × (in_range_and_real a ≡ true)
  accepted_in_range t c a later earlier e =
      let (m, w) = then later earlier (answered t c a (done tt)) e in
      let ok = m.held.sound in
      let l = ok.in_hand w.number w.answers_it.in_hand in
      let x = is_session m.table ok (λ x. x.count) refl w.number (omega arith) in
      (omega (arith, w.answers_it.command), omega (arith, w.answers_it.command, x.count_high), w.answers_it.real)

  -- "A collected ticket is never honoured again."
  pub never_again : (p t n : ℕ) (out exit : List ℕ) (later earlier : List Event) → h ≡ later ++ (collected p t out (done n) exit ∷ earlier)
      → Refuses (step_table elsewhere) σ t
  unfolding gather collection
  never_again p t n out exit later earlier e =
      collected_gone σ h now elsewhere t (collections t later) (collections t earlier) p
      (ap (collections t) e ∙ gather_append (collection t) later (collected p t out (done n) exit ∷ earlier) ∙ rw (eq-eqb t t refl))

  module _ (p n s t : ℕ) (later earlier : List Event) (e : h ≡ later ++ (placed p n (done (s, t)) ∷ earlier)) where
    -- what is known of a ticket since its placing is all that is known of it
    record Since : Type 0 where
      one_placing : placings t h ≡ (s, p, n) ∷ []
      its_answers : accepted t h ≡ accepted t later
      replies : collections t h ≡ collections t later

    since : Since
    unfolding gather placing collection accepted
    since =
        let (m, k) = then later earlier (placed p n (done (s, t))) e in
        let w = given_new m.table earlier m.held t k.1 in
        record {
          one_placing = given_once σ h now t (s, p, n) (placings t later)
              (ap (placings t) e ∙ gather_append (placing t) later _ ∙ rw (eq-eqb t t refl, w.no_placing));
          its_answers = ap (accepted t) e ∙ accepted_append t later _ ∙ rw w.no_answer;
          replies = ap (collections t) e ∙ gather_append (collection t) later _ ∙ rw (w.no_reply, append-nil);
        }

    few : length (accepted t later) ≤ n
    few =
        let k = ap length since.its_answers in
        ⊎_elim (λ z. omega arith) (λ z. omega arith) (closed_or_waits σ h now t s p n since.one_placing)

    -- Once the last command is answered each is, and nothing was accepted under the ticket since.
    module _ (a : Answer) (newer older : List Event) (q : later ≡ newer ++ (answered t n a (done tt) ∷ older)) where
      parts : accepted t later ≡ accepted t older ++ ((n, a) ∷ accepted t newer)
      parts = ap (accepted t) q ∙ accepted_at t n a newer older

      pub each_is_answered : length (accepted t later) ≡ n
      each_is_answered =
          let o = answers_in_order t in
          let k = numbered_place 1 o.0 (accepted t older) (accepted t newer) n a (sym o.1 ∙ since.its_answers ∙ parts) in
          let l = ap length parts ∙ length-append (accepted t older) ((n, a) ∷ accepted t newer) in
          omega (arith, few)

      -- "Once the last command is answered, and until the collection, the owner who shows the ticket and enough room gets that reply."
      pub reply_is_there : collections t later ≡ [] → (out : List ℕ)
          → (step_table elsewhere σ (to_collect p t out)).0 ≡ collected_as p t out (if_room (records (accepted t later)) (length out))
      reply_is_there f out =
          rw (← since.its_answers)
          (there σ h now elsewhere t s p n out since.one_placing (ap length since.its_answers ∙ each_is_answered) (since.replies ∙ f))

    -- The reply stays what it is: once every command is answered, nothing more is accepted under the ticket.
    pub reply_stays : (newer older : List Event) → later ≡ newer ++ older → length (accepted t older) ≡ n → accepted t later ≡ accepted t older
    reply_stays newer older q l =
        let k = ap (accepted t) q ∙ accepted_append t newer older in
        let z : accepted t newer ≡ [] = length_zero _ (omega (arith, few, ap length k, length-append (accepted t older) (accepted t newer))) in
        k ∙ ap (λ r. accepted t older ++ r) z ∙ append-nil _

    -- "A number is taken from its placing until its collection": no placing gives it again.
    pub number_is_held : collections t later ≡ [] → (q m u : ℕ) → (step_table elsewhere σ (to_place q m)).0 ≡ placed q m (done (s, u)) → ⊥
    number_is_held f q m u = not_again_number σ h now elsewhere t s p n q m u since.one_placing (since.replies ∙ f)
