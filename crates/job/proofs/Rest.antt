-- What `rest_of` answers and leaves, from a block of statements and what stands after it.
use Prim.Native.Nat.{ℕ, ◌+◌, ◌≤◌, ◌<◌}
use mathlib.Core.Path.{◌≡◌, sym, ◌∙◌, ap}
use mathlib.Core.List.{List, []}
use native.Mathlib.Omega.{arith}
use borrow.Author.Tests.{le-leb, lt-leb}
use lib.ListN.{length, take}
use lib.Seq.{length-take-le, paste}
use Rattle.std.specs.declared.option.Option.TheVariants.{Some, None}
use Rattle.counts.specs.Refusals.{too_few_places}
use Rattle.counts.specs.Result.{Result}
use Rattle.counts.specs.Result.Result.{refused, done}
use Rattle.grammar.specs.declared.StartClause.{StartClause}
use Rattle.grammar.specs.Reading.{OffsetsRead}
use Rattle.job.specs.Loop.{after, on_step, rest_of, Block, answered, entered}
use Rattle.job.specs.declared.StatementsFound.{StatementsFound}
use Rattle.job.proofs.Offsets.{answered_after, taken_fits, refused_stays, none_stay, entered_after}

module _ (clause : StartClause) (s : List ℕ) (k at : ℕ) (f : StatementsFound) (block : Block clause s k at f) (table : List ℕ) where
  abbrev whole : OffsetsRead
  whole = rest_of clause s k at

  -- the answer, and the table with it
  abbrev Gives : Result ℕ → List ℕ → Type 0
  Gives r exit = (r ≡ answered k (length table) whole) × (exit ≡ entered k whole table)

  module _ (v : OffsetsRead) (then : on_step (done f.then) (rest_of clause s (k + f.count)) ≡ v) where
    split : after (take f.count f.places) v ≡ whole
    split = rw (← then) block.0

    same_answer : answered k (length table) whole ≡ answered (k + f.count) (length table) v
    same_answer =
        ap (answered k (length table)) (sym split)
        ∙ answered_after k (length table) (take f.count f.places) f.count v (length-take-le f.count f.places block.1)

    refuses : (n p : ℕ) → refused n p ≡ answered (k + f.count) (length table) v → Gives (refused n p) table
    refuses n p e = let a = e ∙ sym same_answer in (a, refused_stays k whole table n p a)

    takes : (all : ℕ) (exit : List ℕ) → done all ≡ answered (k + f.count) (length table) v → exit ≡ entered (k + f.count) v table
        → Gives (done all) (paste exit k f.places f.count)
    takes all exit e x = (
      e ∙ sym same_answer,
      ap (λ (l : List ℕ). paste l k f.places f.count) x
          ∙ entered_after k f.places f.count v table all block.1 e
          ∙ ap (λ (w : OffsetsRead). entered k w table) split,
    )

  -- the file ends after the block
  pub over_taken : f.then ≡ None → k + f.count ≤ length table → (last : List ℕ) → last ≡ paste table k f.places f.count
      → Gives (done (k + f.count)) last
  over_taken e fits last is =
      let z : k + f.count + 0 ≡ k + f.count = omega arith in
      let g = takes (done []) (rw e) (k + f.count) table (rw (z, le-leb _ _ fits)) (sym (none_stay (k + f.count) table)) in
      (g.0, is ∙ g.1)

  pub over_crowded : f.then ≡ None → length table < k + f.count → Gives (refused too_few_places 0) table
  over_crowded e l =
      let z : k + f.count + 0 ≡ k + f.count = omega arith in
      refuses (done []) (rw e) too_few_places 0 (rw (z, lt-leb _ _ l))

  -- more stands after it: what was answered, and what was left, by then
  module _ (next : ℕ) (e : f.then ≡ Some next) (answer : Result ℕ) (exit : List ℕ)
      (is : answer ≡ answered (k + f.count) (length table) (rest_of clause s (k + f.count) next))
      (left : exit ≡ entered (k + f.count) (rest_of clause s (k + f.count) next) table) where
    pub room_left : (all : ℕ) → answer ≡ done all → k + f.count ≤ length table
    room_left all t = taken_fits (k + f.count) (length table) (rest_of clause s (k + f.count) next) all (sym t ∙ is)

    pub on_taken : (all : ℕ) → answer ≡ done all → (last : List ℕ) → last ≡ paste exit k f.places f.count → Gives answer last
    on_taken all t last fills =
        let g = takes (rest_of clause s (k + f.count) next) (rw e) all exit (sym t ∙ is) left in
        (t ∙ g.0, fills ∙ g.1)

    pub on_refused : (n p : ℕ) → answer ≡ refused n p → Gives answer exit
    on_refused n p t =
        let v = rest_of clause s (k + f.count) next in
        let g = refuses v (rw e) n p (sym t ∙ is) in
        (t ∙ g.0, left ∙ sym (refused_stays (k + f.count) v table n p (sym t ∙ is)) ∙ g.1)
