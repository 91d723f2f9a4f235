-- What a call's answer tells of the table before it and after it.
use Prim.Native.Nat.{ℕ, ◌+◌}
use mathlib.Core.Path.{◌≡◌, refl, subst}
use mathlib.Core.Bool.{false}
use mathlib.Core.List.{List}
use lib.ListN.{length}
use Rattle.counts.specs.Refusals.{unsound}
use Rattle.counts.specs.Result.{Result, refused, done}
use Rattle.sessions.specs.Find.{at}
use Rattle.sessions.specs.History.{Call, Event, made, placed, took_up, answered, collected, written}
use Rattle.sessions.specs.Runs.{refused_with}
use Rattle.sessions.specs.Table.{State, lowest, reply}
use Rattle.sessions.specs.declared.Answer.{Answer}
use Rattle.sessions.proofs.Did.{Places, Answers, Collects, Idle, not_made, no_place, no_take_up, again, no_answer, no_collect, Did, nothing, makes, places, takes, answers, collects, step_table, did}

-- the command c of ticket t, at s, is now in hand
pub record NowInHand (σ σ' : State) (s t c : ℕ) : Type 0 where
  pub in_hand : σ'.hand ≡ at s
  pub same_slots : σ'.slot ≡ σ.slot
  pub ticket : (σ.slot s).ticket ≡ t
  pub command : lowest (σ.slot s) ≡ c

pub record Accepted (σ : State) (t c : ℕ) (a : Answer) : Type 0 where
  pub number : ℕ
  pub answers_it : Answers σ number t c a

pub record Collection (σ : State) (p t : ℕ) (out : List ℕ) (n : ℕ) (exit : List ℕ) : Type 0 where
  pub number : ℕ
  pub collects_it : Collects σ number p t out
  pub its_length : n ≡ length (reply (σ.slot number))
  pub its_output : exit ≡ written out (reply (σ.slot number))

abbrev pub Told : State → Event → State → Type 0
Told σ (made m max r) σ' = Unit {0}
Told σ (placed p n (done r)) σ' = Places σ r.0 p n × (r.1 ≡ σ.last + 1)
Told σ (placed p n (refused k i)) σ' = σ' ≡ σ
Told σ (took_up (done r)) σ' = NowInHand σ σ' r.0 r.1 r.2
Told σ (took_up (refused k i)) σ' = σ' ≡ σ
Told σ (answered t c a (done r)) σ' = Accepted σ t c a
Told σ (answered t c a (refused k i)) σ' = σ' ≡ σ
Told σ (collected p t out (done n) exit) σ' = Collection σ p t out n exit
Told σ (collected p t out (refused k i) exit) σ' = σ' ≡ σ

told_idle : {σ : State} {e : Event} → Idle σ e → Told σ e σ
told_idle (not_made m max r q) = tt
told_idle (no_place p n k i) = refl
told_idle (no_take_up k i) = refl
told_idle (again s q) = record { in_hand = q; same_slots = refl; ticket = refl; command = refl }
told_idle (no_answer t c a k i) = refl
told_idle (no_collect p t out k i) = refl

pub told : {σ σ' : State} {e : Event} → Did σ e σ' → Told σ e σ'
told (nothing i q) = told_idle i
told (makes r) = tt
told (places w) = (w, refl)
told (takes w) = record { in_hand = refl; same_slots = refl; ticket = refl; command = refl }
told (answers {s = s} w) = record { number = s; answers_it = w }
told (collects {s = s} w) = record { number = s; collects_it = w; its_length = refl; its_output = refl }

-- no call is refused with 13
pub not_13 : {σ σ' : State} {e : Event} → Did σ e σ' → refused_with unsound e ≡ false
not_13 (nothing i q) = q
not_13 (makes r) = refl
not_13 (places w) = refl
not_13 (takes w) = refl
not_13 (answers w) = refl
not_13 (collects w) = refl

module _ (elsewhere : List ℕ → ℕ → Result (Unit {0})) (σ : State) (c : Call) where
  pub told_by : {e : Event} → (step_table elsewhere σ c).0 ≡ e → Told σ e (step_table elsewhere σ c).1
  told_by q = subst (λ (e : Event). Told σ e (step_table elsewhere σ c).1) q (told (did σ elsewhere c))
