-- What `read_job` answers, from what was read after no statement.
use Prim.Native.Nat.{ℕ, ◌+◌, ◌≤◌, ◌<◌}
use mathlib.Core.Path.{◌≡◌, refl, sym, ◌∙◌, ap}
use mathlib.Core.Bool.{Bool, true, false, cond}
use mathlib.Core.List.{List, [], ◌∷◌, ◌++◌}
use native.Mathlib.Omega.{arith}
use borrow.Author.Tests.{le-leb, lt-leb}
use lib.Dec.{leb}
use lib.ListN.{length, drop, set}
use lib.Seq.{set_split}
use Rattle.std.specs.declared.option.Option.TheVariants.{Some}
use Rattle.counts.specs.Limits.{file_bytes}
use Rattle.counts.specs.Refusals.{file_too_long, too_few_places}
use Rattle.counts.specs.Result.{Result, counted}
use Rattle.counts.specs.Result.Result.{refused, done}
use Rattle.grammar.specs.declared.StartClause.{StartClause}
use Rattle.grammar.specs.Reading.{OffsetsRead}
use Rattle.item.specs.Tokens.{next_item}
use Rattle.item.specs.Items.{item_at}
use Rattle.item.specs.declared.Item.{Item}
use Rattle.item.proofs.Lines.{line_tokens}
use Rattle.item.proofs.Shows.{shows}
use Rattle.statement.specs.declared.Statement.{Statement}
use Rattle.statement.specs.Statement.{StatementRead}
use Rattle.job.specs.Job.{on_room, read_job, filled}
use Rattle.job.specs.Loop.{step_read, step_of, after, on_step, job_loop, rest_of, Block, answered, entered}
use Rattle.job.specs.declared.StatementsFound.{StatementsFound}
use Rattle.job.proofs.Loops.{on_token}
use Rattle.job.proofs.Rest.{room_left, on_taken, on_refused}
use Rattle.job.proofs.Bridge.{by_statements}

all_answered : (room : ℕ) (v : OffsetsRead) → answered 0 room v ≡ counted (on_room room v)
all_answered room (done os) = let z : 0 + length os ≡ length os = omega arith in rw z (go (leb (length os) room))
  where
    go : (b : Bool) → cond b (done (length os)) (refused too_few_places 0) ≡ counted (cond b (done os) (refused too_few_places 0))
    go true = refl
    go false = refl
all_answered room (refused n p) = refl

all_entered : (v : OffsetsRead) (table : List ℕ) → entered 0 v table ≡ filled (on_room (length table) v) table
all_entered (done os) table = let z : 0 + length os ≡ length os = omega arith in rw z (go (leb (length os) (length table)))
  where
    go : (b : Bool) → cond b ([] ++ os ++ drop (length os) table) table ≡ filled (cond b (done os) (refused too_few_places 0)) table
    go true = refl
    go false = refl
all_entered (refused n p) table = refl

-- the answer and the table at exit
module _ (clause : StartClause) (s table : List ℕ) where
  abbrev Gives : Result ℕ → List ℕ → Type 0
  Gives r exit = (r ≡ counted (read_job clause s (length table))) × (exit ≡ filled (read_job clause s (length table)) table)

  pub too_long : file_bytes < length s → Gives (refused file_too_long 0) table
  unfolding read_job
  too_long l = rw (lt-leb _ _ l) (refl, refl)

  reads : length s ≤ file_bytes → read_job clause s (length table) ≡ on_room (length table) (rest_of clause s 0 0)
  unfolding read_job
  reads short = rw (le-leb _ _ short) (ap (on_room (length table)) (sym (by_statements clause s (line_tokens s))))

  whole_file : length s ≤ file_bytes → (r : Result ℕ) (exit : List ℕ)
      → (r ≡ answered 0 (length table) (rest_of clause s 0 0)) × (exit ≡ entered 0 (rest_of clause s 0 0) table) → Gives r exit
  whole_file short r exit e = rw (reads short) (e.0 ∙ all_answered (length table) (rest_of clause s 0 0), e.1 ∙ all_entered (rest_of clause s 0 0) table)

  -- the first statement of the file, read from its first token
  module _ (short : length s ≤ file_bytes) (t : Item) (tok : t ≡ item_at 0 s 0) (r : StatementRead) (is : step_read r ≡ step_of clause s 0 t) where
    first_is : rest_of clause s 0 0 ≡ on_step (step_read r) λ next. after (t.place ∷ []) (rest_of clause s 1 next)
    unfolding job_loop
    first_is = rw (is, tok)

    pub refused_first : (n p : ℕ) → r ≡ refused n p → Gives (refused n p) table
    refused_first n p e =
        let whole : rest_of clause s 0 0 ≡ refused n p = first_is ∙ rw e in
        whole_file short (refused n p) table (rw whole (refl, refl))

    module _ (x : Statement) (next : ℕ) (e : r ≡ done (x, next)) where
      pub first_in_file : t.place < length s
      first_in_file =
          on_token clause s 0 0 t next (sym is ∙ ap step_read e) (next_item s 0) refl (rw tok (shows s 0))

      abbrev found : StatementsFound
      found = record { places = t.place ∷ []; count = 1; then = Some next }

      block : Block clause s 0 0 found
      block = (
        sym (first_is ∙ ap (λ (y : StatementRead). on_step (step_read y) λ next. after (t.place ∷ []) (rest_of clause s 1 next)) e),
        omega arith,
        omega arith,
        λ n h. omega arith,
      )

      -- what was answered, and what was left, after it
      module _ (answer : Result ℕ) (exit : List ℕ)
          (later : (answer ≡ answered 1 (length table) (rest_of clause s 1 next)) × (exit ≡ entered 1 (rest_of clause s 1 next) table)) where
        pub room_for_first : (all : ℕ) → answer ≡ done all → 1 ≤ length table
        room_for_first = room_left clause s 0 0 found block table next refl answer exit later.0 later.1

        pub taken_first : (all : ℕ) → answer ≡ done all → length exit ≡ length table → Gives answer (set exit 0 t.place)
        taken_first all taken kept =
            let some = room_for_first all taken in
            whole_file short answer (set exit 0 t.place)
            (on_taken clause s 0 0 found block table next refl answer exit later.0 later.1 all taken (set exit 0 t.place)
            (set_split exit 0 t.place (omega arith)))

        pub refused_later : (n p : ℕ) → answer ≡ refused n p → Gives answer exit
        refused_later n p not =
            whole_file short answer exit (on_refused clause s 0 0 found block table next refl answer exit later.0 later.1 n p not)
