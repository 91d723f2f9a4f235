-- What a search among the numbers says, and the session that it found.
use Prim.Native.Nat.{ℕ, ◌≤◌, ◌<◌}
use mathlib.Core.Path.{◌≡◌, ◌∙◌, ap, sym}
use mathlib.Core.Bool.{Bool, true, false}
use mathlib.Core.List.{List}
use native.Mathlib.Omega.{arith}
use Rattle.std.specs.Option.{MatchOption, IsSomeAnd}
use Rattle.std.specs.declared.option.Option.{Option}
use Rattle.std.specs.declared.option.Option.TheVariants.{Some, None}
use Rattle.counts.specs.Limits.{sessions}
use Rattle.counts.specs.declared.SessionNumber.{SessionNumber}
use Rattle.sessions.proofs.Loops.{find_nothing, find_hit}
use Rattle.sessions.specs.Find.{Found, none, at, find}
use Rattle.sessions.specs.Table.{turn}
use Rattle.table_search.specs.Search.{paper_found, turned}
use Rattle.table_sound.specs.Bytes.{abs}

-- what a search says that asks one number after the other: its test is p, of the numbers that sessions have
pub first_is : (p : ℕ → Bool) (n max : ℕ) → n ≡ max → max ≤ sessions → (r : Option ℕ)
    → MatchOption r ((k : ℕ) → 0 ≤ k → k < n → k < sessions → p k ≡ false)
    (λ i. (0 ≤ i) × (i < n) × (i < sessions → p i ≡ true) × ((k : ℕ) → 0 ≤ k → k < i → k < sessions → p k ≡ false))
    → MatchOption r (find max p ≡ none) (λ i. (i < max) × (find max p ≡ at i))
first_is p n max q few None h = find_nothing p max (λ k l. h k (omega arith) (omega arith) (omega arith))
first_is p n max q few (Some i) h =
    let l : i < max = omega (arith, h.1) in
    (l, find_hit p max (find_nothing p i (λ k m. h.3 k (omega arith) m (omega arith))) (h.2 (omega arith)) l)

module _ (f : Found) (n : ℕ) where
  abbrev pub Ended : Option ℕ → Type 0
  Ended r = MatchOption r (f ≡ none) (λ i. (i < n) × (f ≡ at i))

  pub found_below : (r : Option ℕ) → Ended r → (i : ℕ) → r ≡ Some i → i < n
  found_below r e i q = (rw q at e).0

  -- the session that code makes of the number found
  module _ (Q : ℕ → SessionNumber → Type 0) where
    abbrev pub Made : Option ℕ → Option SessionNumber → Type 0
    Made r s = MatchOption r (s ≡ None) (λ i. IsSomeAnd s (Q i))

    pub session_there : ((i : ℕ) (x : SessionNumber) → Q i x → x.0 ≡ i) → (r : Option ℕ) → Ended r → (s : Option SessionNumber) → Made r s
        → paper_found s ≡ f
    session_there q None e s m = ap paper_found m ∙ sym e
    session_there q (Some i) e None m = absurd m
    session_there q (Some i) e (Some x) m = ap at (q i x m) ∙ sym e.1

    pub session_in_turn : (b : List ℕ) → ((i : ℕ) (x : SessionNumber) → Q i x → x.0 ≡ turn (abs b) i) → (r : Option ℕ) → Ended r
        → (s : Option SessionNumber) → Made r s → paper_found s ≡ turned (abs b) f
    session_in_turn b q None e s m = rw e (ap paper_found m)
    session_in_turn b q (Some i) e None m = absurd m
    session_in_turn b q (Some i) e (Some x) m = rw e.1 (ap at (q i x m))

module _ (r : Option SessionNumber) (f : Found) (p : paper_found r ≡ f) where
  pub found_at : (s : SessionNumber) → r ≡ Some s → f ≡ at s.0
  found_at s q = sym p ∙ ap paper_found q

  pub found_none : r ≡ None → f ≡ none
  found_none q = sym p ∙ ap paper_found q
