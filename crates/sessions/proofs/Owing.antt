-- What a collection answers at any moment of a history, by the table that agrees with it: what the history owes.
use Prim.Native.Nat.{ℕ, suc, ◌≤◌, ◌<◌}
use mathlib.Core.Path.{◌≡◌, refl, ◌∙◌, ap, sym}
use mathlib.Core.Bool.{Bool, true, false, cond, and-true}
use mathlib.Core.List.{List, [], ◌∷◌}
use native.Mathlib.Omega.{arith}
use borrow.Author.Tests.{eq-eqb}
use lib.Dec.{leb}
use lib.ListN.{length}
use Rattle.counts.specs.Limits.{programs}
use Rattle.counts.specs.Refusals.{too_little_room, not_the_one}
use Rattle.sessions.specs.Find.{Found, none, at}
use Rattle.sessions.specs.History.{Event, placings, accepted, collections}
use Rattle.sessions.specs.Owed.{owed_of, owed, Yours}
use Rattle.sessions.specs.declared.Answer.{Answer}
use Rattle.counts.specs.Result.{refused, done}
use Rattle.sessions.specs.Table.{State, within, is_closed, is_ready, reply, numbered, collect_from, collect}
use Rattle.sessions.proofs.Agrees.{Agrees}
use Rattle.sessions.proofs.Laws.{Search, miss, hit, search_find, in_range_lem, is_ready_lem}
use Rattle.sessions.proofs.SoundKept.{is_session}
use Rattle.sessions.proofs.Told.{Collection}
use Rattle.sessions.proofs.Standing.{Held, Standing, new, held, gone, held_at}

pub length_numbered : (k : ℕ) (l : List Answer) → length (numbered k l) ≡ length l
unfolding numbered
length_numbered k [] = refl
length_numbered k (a ∷ l) = ap suc (length_numbered (suc k) l)

-- an answer by cases, beside the table that it leaves
pub answer_cond : {A B : Type 0} (b : Bool) (x : A × B) (y z : A) (v : B) → (b ≡ true → x.0 ≡ y) → (cond b x (z, v)).0 ≡ cond b y z
answer_cond true x y z v f = f refl
answer_cond false x y z v f = refl

module _ (σ : State) (h : List Event) (A : Agrees σ h) where
  -- the history of the ticket that stands at s
  standing_at : (s : ℕ) → 1 ≤ (σ.slot s).ticket → (t : ℕ) → (σ.slot s).ticket ≡ t → Held t (placings t h) (accepted t h) (collections t h) s (σ.slot s)
  standing_at s l t e =
      let x = is_session σ A.sound (λ x. x.ticket) refl s l in
      held_at σ.last σ.slot t _ _ _ s e l x.ticket_high (λ i. A.sound.distinct s i l) (A.standing t)

  module _ (p t room : ℕ) (r : within 1 p programs ≡ true) where
    -- nobody is ready: nothing is owed
    none_owed : ((s : ℕ) → s < σ.max → is_ready p t (σ.slot s) ≡ false) → {ps : List (ℕ × ℕ × ℕ)} {qs : List (ℕ × Answer)} {rs : List ℕ}
        → Standing σ.last σ.slot t ps qs rs → refused not_the_one 0 ≡ owed_of p room ps qs rs
    unfolding owed_of is_ready is_closed
    none_owed m (new d w) = rw w.no_placing
    none_owed m (held s y q w) =
        let x = is_session σ A.sound (λ x. x.ticket) refl s (rw (q, w.its_ticket) w.ticket_low) in
        let k = rw (q, eq-eqb y.ticket t w.its_ticket, and-true, ap (λ z. z.taken) (sym q) ∙ x.is_taken) at (m s x.number) in
        rw (w.one_placing, w.its_answers, w.no_reply, length_numbered, k)
    none_owed m (gone s y l d w) = rw (w.one_placing, w.one_reply)

    found_owed : (f : Found) → Search σ.max (λ s. is_ready p t (σ.slot s)) f
        → (collect_from σ room f).0 ≡ owed_of p room (placings t h) (accepted t h) (collections t h)
    unfolding collect_from owed_of
    found_owed none (miss m) = none_owed m (A.standing t)
    found_owed (at s) (hit l e m) =
        let k = is_ready_lem p t (σ.slot s) e in
        let low = (is_session σ A.sound (λ x. x.program) refl s (omega (arith, in_range_lem 1 p programs r))).ticket_low in
        let w = standing_at s low t k.1 in
        rw (w.one_placing, w.its_answers, w.no_reply, length_numbered, eq-eqb _ _ k.0, eq-eqb _ _ k.2)
        (answer_cond (leb (length (reply (σ.slot s))) room) _ (done (reply (σ.slot s))) (refused too_little_room 0) σ (λ q. refl))

  -- THE LAW OF THE COLLECTION: it answers what the history owes.
  pub collect_owed : (p t room : ℕ) → (collect σ p t room).0 ≡ owed h p t room
  unfolding collect owed
  collect_owed p t room = answer_cond (within 1 p programs) _ _ _ _ (λ r. found_owed p t room r _ (search_find _ _))

  -- the answers accepted under a ticket are numbered from 1
  pub in_order : (t : ℕ) → (l : List Answer) × (accepted t h ≡ numbered 1 l)
  unfolding numbered
  in_order t =
      elim (A.standing t) [ new d w ↦ ([], w.no_answer) | held s x q w ↦ (x.answers, w.its_answers) | gone s x l d w ↦ (x.answers, w.its_answers) ]

  -- whoever was given something
  pub collect_yours : {p t n : ℕ} {out exit : List ℕ} → Collection σ p t out n exit → Yours p t out n exit h
  collect_yours {t = t} {out = out} c =
      let s = c.number in
      let w = c.collects_it in
      let x = is_session σ A.sound (λ x. x.program) refl s (omega (arith, w.program, w.program_low)) in
      let k = standing_at s x.ticket_low t w.ticket in
      record {
        number = s;
        answers = (σ.slot s).answers;
        one_placing = rw (← w.program, w.closed) k.one_placing;
        one_answer_each = k.its_answers;
        not_collected = k.no_reply;
        its_length = c.its_length;
        in_the_output = rw c.its_length w.fits;
        its_records = c.its_output;
      }
