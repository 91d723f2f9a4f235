-- The laws of the loop over a block of statements: what one turn does.
use Prim.Native.Nat.{ℕ, suc, ◌+◌, ◌-◌, ◌≤◌, ◌<◌}
use mathlib.Core.Path.{◌≡◌, refl, sym, ◌∙◌, ap, subst}
use mathlib.Core.Bool.{Bool, true, false, cond, false≢true}
use mathlib.Core.List.{List, [], ◌∷◌}
use native.Mathlib.Omega.{arith}
use native.Mathlib.Numerals.{add-one}
use lib.Dec.{eqb, ltb}
use lib.ListN.{length, take, set}
use lib.Seq.{take-suc-set}
use borrow.Author.Tests.{ltb-true, ltb-false, lt-ltb, ne_eqb}
use Rattle.std.specs.declared.option.Option.TheVariants.{Some, None}
use Rattle.counts.specs.Limits.{statements}
use Rattle.std.specs.declared.result.Result.{Result as Returned}
use Rattle.std.specs.declared.result.Result.TheVariants.{Ok, Err}
use Rattle.std.specs.Prelude.{IsErr, IsErrAnd}
use Rattle.counts.specs.Refusals.{too_many_statements}
use Rattle.counts.specs.Result.{refused_as}
use Rattle.counts.specs.declared.Refusal.{Refusal}
use Rattle.counts.proofs.Results.{done_same}
use Rattle.std.specs.declared.option.Option.{Option}
use Rattle.counts.specs.Result.Result.{refused, done}
use Rattle.grammar.specs.declared.StartClause.{StartClause}
use Rattle.grammar.specs.Reading.{end_number, OffsetsRead}
use Rattle.item.specs.Tokens.{Next, next_item}
use Rattle.item.specs.Items.{code_no, end_no, refusal_no, item_at}
use Rattle.item.specs.declared.Item.{Item}
use Rattle.item.proofs.Lines.{inside}
use Rattle.item.proofs.Shows.{Shows, shows, no_token_numbers}
use Rattle.item.proofs.Shows.Shows.{a_token, the_end, no_token_here}
use Rattle.job.specs.Loop.{Step, refuse, step_of, after, on_step, job_loop, rest_of, BlockRead}
use Rattle.job.specs.declared.StatementsFound.{StatementsFound}
use Rattle.job.proofs.Offsets.{after_after}

pub none≢some : {n : ℕ} → ◌≡◌ {A = Option ℕ} None (Some n) → ⊥
none≢some e = let z : ◌≡◌ {A = ℕ} 0 1 = cc in omega arith

over≢on : {n : ℕ} → ◌≡◌ {A = Step} (done None) (done (Some n)) → ⊥
over≢on e = none≢some (done_same e)

refused≢on : {a p n : ℕ} → ◌≡◌ {A = Step} (refused a p) (done (Some n)) → ⊥
refused≢on e = let z : ◌≡◌ {A = ℕ} 0 1 = cc in omega arith

-- a refusal that is handed on is that of the rest
pub block_refused : (clause : StartClause) (s : List ℕ) (k at : ℕ) (r : Returned StatementsFound Refusal) (e : Refusal)
    → IsErr r × IsErrAnd r (λ x. x ≡ e) → refused_as e ≡ rest_of clause s k at → BlockRead clause s k at r
block_refused clause s k at (Ok f) e h is = absurd (false≢true h.0)
block_refused clause s k at (Err x) e h is = ap refused_as h.1 ∙ is

-- after the last statement that a file may have, no statement is read
full_stops : (clause : StartClause) (s : List ℕ) (t : Item) (n : ℕ) → step_of clause s statements t ≡ done (Some n) → ⊥
unfolding step_of
full_stops clause s t n e = go (eqb (code_no t.class) end_no) (ltb end_no (code_no t.class)) e
  where
    go : (a b : Bool) → cond a (done None) (cond b (refuse (refusal_no (code_no t.class)) t) (refuse too_many_statements t)) ≡ done (Some n) → ⊥
    go true b x = over≢on x
    go false true x = refused≢on x
    go false false x = refused≢on x

ended_stops : (clause : StartClause) (s : List ℕ) (k : ℕ) (t : Item) (n : ℕ) → code_no t.class ≡ end_no → step_of clause s k t ≡ done (Some n) → ⊥
unfolding step_of
ended_stops clause s k t n c e = go (eqb k 0) (rw c at e)
  where
    go : (a : Bool) → cond a (refuse end_number t) (done None) ≡ done (Some n) → ⊥
    go true x = refused≢on x
    go false x = over≢on x

no_token_stops : (clause : StartClause) (s : List ℕ) (k : ℕ) (t : Item) (n : ℕ) → end_no < code_no t.class → step_of clause s k t ≡ done (Some n) → ⊥
unfolding step_of
no_token_stops clause s k t n l e = refused≢on (rw (ne_eqb (code_no t.class) end_no (λ c. omega arith), lt-ltb end_no (code_no t.class) l) at e)

-- a statement is read where a token stands
pub on_token : (clause : StartClause) (s : List ℕ) (k at : ℕ) (t : Item) (n : ℕ) → step_of clause s k t ≡ done (Some n) → (x : Next) → next_item s at ≡ x → Shows t x
    → t.place < length s
on_token clause s k at t n e x i (the_end c p) = absurd (ended_stops clause s k t n c e)
on_token clause s k at t n e x i (no_token_here {why = why} c p) = absurd (no_token_stops clause s k t n (omega (arith, (no_token_numbers why).0)) e)
on_token clause s k at t n e x i (a_token {u = u} c p q) = subst (λ (m : ℕ). m < length s) (sym p) (inside s at u i)

module _ (clause : StartClause) (s places : List ℕ) (k count at : ℕ) (e : OffsetsRead)
    (inv : after (take count places) (rest_of clause s (k + count) at) ≡ e) (few : k + count ≤ statements) (free : count < length places)
    (t : Item) (tok : t ≡ item_at 0 s at) (r : Step) (is : r ≡ step_of clause s (k + count) t) where
  turn : after (take count places) (on_step r λ next. after (t.place ∷ []) (rest_of clause s (k + count + 1) next)) ≡ e
  unfolding job_loop
  turn =
      let m : statements + 1 - (k + count) ≡ suc (statements + 1 - (k + count + 1)) = omega arith in
      let f = rw (m, ← tok, ← is) at inv in
      f

  pub all_read : r ≡ done None → after (take count places) (done []) ≡ e
  all_read p = rw p at turn

  pub refused_there : (n p : ℕ) → r ≡ refused n p → refused n p ≡ e
  refused_there n p q = rw q at turn

  pub room : (n : ℕ) → r ≡ done (Some n) → k + count < statements
  room n p = go (ltb (k + count) statements) refl
    where
      go : (b : Bool) → ltb (k + count) statements ≡ b → k + count < statements
      go true l = ltb-true _ _ l
      go false l =
          let h : statements ≤ k + count = ltb-false _ _ l in
          let q : k + count ≡ statements = omega arith in
          absurd (full_stops clause s t n (ap (λ (j : ℕ). step_of clause s j t) (sym q) ∙ sym is ∙ p))

  pub in_file : (n : ℕ) → r ≡ done (Some n) → t.place < length s
  in_file n p = on_token clause s (k + count) at t n (sym is ∙ p) (next_item s at) refl (rw tok (shows s at))

  pub again : (n : ℕ) → r ≡ done (Some n) → after (take (count + 1) (set places count t.place)) (rest_of clause s (k + (count + 1)) n) ≡ e
  again n p =
      let q : k + (count + 1) ≡ k + count + 1 = omega arith in
      let g = rw p at turn in
      rw (q, add-one count, take-suc-set places count t.place free) (sym (after_after (take count places) (t.place ∷ []) (rest_of clause s (k + count + 1) n)) ∙ g)
