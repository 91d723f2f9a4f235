-- Demand 1 for the calls of the session table: a refused call leaves every byte as it was, and two results that meet a call's contract are equal, answer and
-- bytes.
use Prim.Native.Nat.{ℕ}
use mathlib.Core.Path.{◌≡◌, refl, sym, ◌∙◌}
use mathlib.Core.List.{List}
use lib.ListN.{length}
use Rattle.counts.specs.Result.{Result, refused}
use Rattle.counts.proofs.Results.{paper_says_all}
use Rattle.sessions.specs.declared.Answer.{Answer}
use Rattle.session_table.specs.Calls.{after, making, made_bytes, placing, placed_bytes, taking_up, taken_bytes, answering, answered_bytes, collecting, collected_bytes, collected_out}
use Rattle.session_table.specs.Collect.{Collects}
use Rattle.session_table.specs.Paper.{paper_made, paper_placed, paper_taken_up, paper_answered, paper_collected}
use Rattle.std.specs.declared.result.Result.{Result as Returned}
use Rattle.counts.specs.declared.CommandNumber.{CommandNumber}
use Rattle.counts.specs.declared.Refusal.{Refusal}
use Rattle.counts.specs.declared.SessionNumber.{SessionNumber}
use Rattle.counts.specs.declared.Ticket.{Ticket}
use Rattle.claims.specs.Exactly.{OneResult}
use Rattle.claims.proofs.Demand1.{one_result}

-- ---- a refused call leaves every byte as it was: one law for all calls, whose bytes at exit are `after` their answer

refused_keeps : {A : Type 0} (x : Result A) (b : List ℕ) (f : A → List ℕ) (number place : ℕ) → x ≡ refused number place → after x b f ≡ b
refused_keeps x b f number place e = rw e

pub make_refused_keeps : (b : List ℕ) (max number place : ℕ) → making b max ≡ refused number place → made_bytes b max ≡ b
unfolding made_bytes
make_refused_keeps b max number place = refused_keeps (making b max) b _ number place

pub place_refused_keeps : (b : List ℕ) (p n number place : ℕ) → placing b p n ≡ refused number place → placed_bytes b p n ≡ b
unfolding placed_bytes
place_refused_keeps b p n number place = refused_keeps (placing b p n) b _ number place

pub take_up_refused_keeps : (b : List ℕ) (number place : ℕ) → taking_up b ≡ refused number place → taken_bytes b ≡ b
unfolding taken_bytes
take_up_refused_keeps b number place = refused_keeps (taking_up b) b _ number place

pub answer_refused_keeps : (b : List ℕ) (t c : ℕ) (x : Answer) (number place : ℕ) → answering b t c x ≡ refused number place → answered_bytes b t c x ≡ b
unfolding answered_bytes
answer_refused_keeps b t c x number place = refused_keeps (answering b t c x) b _ number place

pub collect_refused_keeps : (b : List ℕ) (p t : ℕ) (out : List ℕ) (number place : ℕ) → collecting b p t (length out) ≡ refused number place
    → (collected_bytes b p t (length out) ≡ b) × (collected_out b p t out ≡ out)
unfolding collected_bytes collected_out
collect_refused_keeps b p t out number place e = (rw e, rw e)

-- ---- the paper's value of an answer loses nothing, so two results that meet a contract are equal

made_all : (a b : Returned (Unit {0}) Refusal) → paper_made a ≡ paper_made b → a ≡ b
made_all = paper_says_all (λ made. made) (λ x y h. h)

placed_all : (a b : Returned (SessionNumber × Ticket) Refusal) → paper_placed a ≡ paper_placed b → a ≡ b
placed_all = paper_says_all (λ placed. (placed.0.0, placed.1.0)) (λ x y h i. (record { 0 = (h i).0 }, record { 0 = (h i).1 }))

taken_up_all : (a b : Returned (SessionNumber × Ticket × CommandNumber) Refusal) → paper_taken_up a ≡ paper_taken_up b → a ≡ b
taken_up_all =
    paper_says_all (λ given. (given.0.0, given.1.0, given.2.0))
    (λ x y h i. (record { 0 = (h i).0 }, record { 0 = (h i).1 }, record { 0 = (h i).2 }))

answered_all : (a b : Returned (Unit {0}) Refusal) → paper_answered a ≡ paper_answered b → a ≡ b
answered_all = paper_says_all (λ accepted. accepted) (λ x y h. h)

collected_all : (a b : Returned ℕ Refusal) → paper_collected a ≡ paper_collected b → a ≡ b
collected_all = paper_says_all (λ written. written) (λ x y h. h)

pub make_determined : OneResult (List ℕ) paper_made
make_determined = one_result made_all

pub place_determined : OneResult (List ℕ) paper_placed
place_determined = one_result placed_all

pub take_up_determined : OneResult (List ℕ) paper_taken_up
take_up_determined = one_result taken_up_all

pub answer_determined : OneResult (List ℕ) paper_answered
answer_determined = one_result answered_all

-- collect is lent two memories, and its contract says both
pub collect_determined : (b : List ℕ) (p t : ℕ) (out : List ℕ) (r r' : Returned ℕ Refusal) (exit exit' out_exit out_exit' : List ℕ)
    → Collects b p t out r exit out_exit → Collects b p t out r' exit' out_exit' → (r ≡ r') × (exit ≡ exit') × (out_exit ≡ out_exit')
collect_determined b p t out r r' exit exit' out_exit out_exit' x y =
    (collected_all r r' (x.answer ∙ sym y.answer), x.table ∙ sym y.table, x.output ∙ sym y.output)
