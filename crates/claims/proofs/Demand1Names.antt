-- Demand 1 for the calls on session names. "Each public call's contract determines the returned answer and all memory lent to it, refusals included": two results
-- that meet a call's contract are equal. "A refusal comes exactly where document 01 says ... and leaves all lent memory as it found it": an answer is
-- given exactly under its row's condition, and a refused call's memory at exit is its memory at entry. The calls of `calendar` answer yes or no by one
-- word of specs/, so their contracts are equations and nothing is left to say of them.
use Prim.Native.Nat.{ℕ}
use mathlib.Core.Path.{◌≡◌, refl, sym, ◌∙◌}
use mathlib.Core.Bool.{Bool, true, false, cond}
use mathlib.Core.List.{List}
use mathlib.Core.Logic.{◌⊎◌, inl, inr, ⊎_elim}
use lib.Dec.{eqb, leb, ltb}
use lib.ListN.{length}
use borrow.Author.Tests.{le-leb, lt-leb, leb-true, leb-false}
use Rattle.counts.specs.Refusals.{out_of_range, too_little_room}
use Rattle.counts.specs.Result.{Result, refused, done}
use Rattle.counts.proofs.Results.{refused_not_done}
use Rattle.field.specs.Bytes.{ascii, has_at}
use Rattle.session_name.specs.Name.{no_name, kind_read, number_read, is_framed, name_read, write_refusal, written, written_bytes, paper_name_read, paper_name_written}
use Rattle.session_name.specs.declared.Kind.{Kind}
use Rattle.session_name.specs.declared.Kind.TheVariants.{Request, Response}
use Rattle.session_name.proofs.Says.{read_says_all, write_says_all}
use Rattle.session_name.proofs.RoundTrip.{name_reads, name_back}
use Rattle.claims.specs.Exactly.{Exactly, OneResult}
use Rattle.claims.specs.NameRows.{in_range, WriteNameRow, not_in_range, no_room, name_written, ReadNameRow, name_read_row, no_name_row}
use Rattle.claims.proofs.Demand1.{refused_stays, one_result}
use Rattle.std.specs.declared.option.Option.{Option}
use Rattle.std.specs.declared.option.Option.TheVariants.{Some, None}

pub read_name_determined : OneResult (Unit {0}) paper_name_read
read_name_determined = one_result read_says_all

pub write_name_determined : OneResult (List ℕ) paper_name_written
write_name_determined = one_result write_says_all

write_rows : (max n : ℕ) (out : List ℕ) → WriteNameRow max n (length out) (written max n out)
unfolding written write_refusal
write_rows max n out = go (in_range max n) (leb 12 (length out)) refl refl
  where
    go : (t u : Bool) → in_range max n ≡ t → leb 12 (length out) ≡ u
        → let no = cond t (cond u 0 too_little_room) out_of_range in WriteNameRow max n (length out) (cond (eqb no 0) (done 12) (refused no 0))
    go true true p q = name_written p (leb-true 12 (length out) q)
    go true false p q = no_room p (leb-false 12 (length out) q)
    go false u p q = not_in_range p

write_row_is : (max n : ℕ) (out : List ℕ) (v : Result ℕ) → WriteNameRow max n (length out) v → written max n out ≡ v
unfolding written write_refusal
write_row_is max n out v (not_in_range p) = rw p
write_row_is max n out v (no_room p q) = rw (p, lt-leb 12 (length out) q)
write_row_is max n out v (name_written p q) = rw (p, le-leb 12 (length out) q)

pub write_name_exactly : (max n : ℕ) (out : List ℕ) → Exactly (written max n out) (WriteNameRow max n (length out))
write_name_exactly max n out = (write_rows max n out, write_row_is max n out)

pub refused_write_changes_nothing : (max n : ℕ) (kind : Kind) (out : List ℕ) (number place : ℕ) → written max n out ≡ refused number place
    → written_bytes max n kind out ≡ out
unfolding written written_bytes
refused_write_changes_nothing max n kind out number place = refused_stays (write_refusal max n (length out)) 12 _ out number place

-- whatever a name is, it is read or it gets 11
abbrev ReadOr11 : Result (ℕ × Kind) → Type 0
ReadOr11 v = ((n : ℕ) × (kind : Kind) × (v ≡ done (n, kind))) ⊎ (v ≡ no_name)

choice : (t : Bool) {v w : Result (ℕ × Kind)} → ReadOr11 v → ReadOr11 w → ReadOr11 (cond t v w)
choice true p q = p
choice false p q = q

kind_ways : (n : ℕ) (name : List ℕ) → ReadOr11 (kind_read n name)
unfolding kind_read
kind_ways n name =
    choice (has_at name 8 (ascii ".REQ")) (inl (n, Request, refl)) (choice (has_at name 8 (ascii ".RSP")) (inl (n, Response, refl)) (inr refl))

number_ways : (max : ℕ) (name : List ℕ) (d : Option ℕ) → ReadOr11 (number_read max name d)
unfolding number_read
number_ways max name (Some n) = choice (ltb n max) (kind_ways n name) (inr refl)
number_ways max name None = inr refl

two_ways : (max : ℕ) (name : List ℕ) → ReadOr11 (name_read max name)
unfolding name_read
two_ways max name = choice (is_framed max name) (number_ways max name _) (inr refl)

read_rows : (max : ℕ) (name : List ℕ) → ReadNameRow max name (name_read max name)
read_rows max name =
    ⊎_elim
    (λ x. let b = name_back max x.0 x.1 name x.2 in rw x.2 (name_read_row x.0 x.1 b.1 b.0))
    (λ none. rw none (no_name_row (λ n kind r e. refused_not_done {a = (n, kind)} (sym none ∙ rw e (name_reads max n kind r)))))
    (two_ways max name)

read_row_is : (max : ℕ) (name : List ℕ) (v : Result (ℕ × Kind)) → ReadNameRow max name v → name_read max name ≡ v
read_row_is max name v (name_read_row n kind r e) = rw e (name_reads max n kind r)
read_row_is max name v (no_name_row none) =
    ⊎_elim
    (λ x. let b = name_back max x.0 x.1 name x.2 in absurd (none x.0 x.1 b.1 b.0))
    (λ e. e)
    (two_ways max name)

pub read_name_exactly : (max : ℕ) (name : List ℕ) → Exactly (name_read max name) (ReadNameRow max name)
read_name_exactly max name = (read_rows max name, read_row_is max name)
