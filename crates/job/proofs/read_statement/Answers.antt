-- `job::read_statement` meets its contract.
use Prim.Native.Nat.{ℕ, ◌-◌, ◌<◌}
use mathlib.Core.Path.{◌≡◌, ◌∙◌}
use mathlib.Core.List.{List}
use mathlib.Core.Logic.{◌⊎◌}
use native.Mathlib.Nat.{le_of_eq}
use native.Mathlib.Omega.{arith}
use lib.ListN.{length, take, drop, length-drop}
use lib.Seq.{take_all}
use borrow.Author.Tests.{le-leb, lt-leb}
use Rattle.counts.specs.declared.Reason.TheVariants.{OutOfRange}
use Rattle.counts.proofs.Results.{refused_plainly}
use Rattle.job.specs.Statement.{read_statement}
use Rattle.job.proofs.read_statement.Goals as goal

-- the part from at on is the list without its first at elements
tail_all : (s : List ℕ) (at : ℕ) → take (length s - at) (drop at s) ≡ drop at s
tail_all s at = take_all (length s - at) (drop at s) (le_of_eq (length-drop at s))

past_the_end : (a b : ℕ) → (b < a) ⊎ (b < b) → b < a
past_the_end a b h = omega arith

pub returns-then-file-gt-FILE_BYTES : goal.returns-then-file-gt-FILE_BYTES
unfolding read_statement
returns-then-file-gt-FILE_BYTES c = rw (lt-leb _ _ c.if-file-gt-FILE_BYTES.true, c.into.ensures)

pub returns-in_err-rest : goal.returns-in_err-rest
unfolding read_statement
returns-in_err-rest c =
    let no = c.in_err-rest.field-0.0 in
    let none = c.in_err-rest.ensures.ok_part in
    let past = past_the_end _ _ (rw none at c.get.ensures.lookup.0) in
    let so = rw none at c.in_err-rest.ensures.value in
    let is : no ≡ OutOfRange = cc in
    rw (refused_plainly (λ x. x) c.from_residual.result no c.from_residual.ensures, is, le-leb _ _ c.if-file-gt-FILE_BYTES.false, lt-leb _ _ past)

pub returns : goal.returns
unfolding read_statement
returns c =
    let part = rw c.in_ok-rest.ensures.ok_part at c.get.ensures.lookup.0 in
    let rest : c.in_ok-rest.rest.now ≡ drop c.args.at c.args.file.now = part.2 ∙ tail_all c.args.file.now c.args.at in
    rw (le-leb _ _ c.if-file-gt-FILE_BYTES.false, le-leb _ _ part.0) (rw rest at c.statement_in.ensures)
