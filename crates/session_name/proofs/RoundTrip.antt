-- Demand 2's last sentence for names: what is written reads as the same number and kind, and what reads is written again as the same bytes.
-- Both are about the words that the contracts of `read_name` and `write_name` cite.
use Prim.Native.Nat.{ℕ, ◌≤◌}
use mathlib.Core.Path.{◌≡◌, refl, sym, ap, ◌∙◌, subst}
use mathlib.Core.Bool.{Bool, true, false, cond, ◌&&◌}
use mathlib.Core.List.{List, [], ◌++◌, append-nil}
use native.Mathlib.Omega.{arith}
use lib.Dec.{eqb, ltb}
use lib.ListN.{length, drop, drop_of_length-le}
use borrow.Author.Tests.{eqb-true, eq-eqb}
use Rattle.laws.proofs.Choose.{and_left, and_right, and_both}
use Rattle.counts.proofs.Results.{refused_not_done, passed}
use Rattle.counts.specs.Result.{Result, done}
use Rattle.field.specs.Bytes.{ascii, same, has_at}
use Rattle.field.specs.Part.{part}
use Rattle.field.proofs.Parts.{part_is, rest_is, is_part}
use Rattle.field.proofs.Same.{has_then, then_has}
use Rattle.decimal.specs.Digits.{digits}
use Rattle.decimal.specs.Read.{digits_read}
use Rattle.decimal.proofs.Laws.{length_digits}
use Rattle.decimal.proofs.ReadLaws.{read_done, read_back}
use Rattle.session_name.specs.Name.{ending, name_of, is_max, no_name, kind_read, number_read, is_framed, name_read, written, written_bytes}
use Rattle.session_name.specs.declared.Kind.{Kind}
use Rattle.session_name.specs.declared.Kind.TheVariants.{Request, Response}
use Rattle.session_name.proofs.Writing.{length_ending, length_name, below_max, was_written, will_be_written}
use Rattle.std.specs.declared.option.Option.{Option}
use Rattle.std.specs.declared.option.Option.TheVariants.{Some, None}

-- ---- the statements

-- what was written into any lent memory, read with the same MaxSessions
abbrev pub WriteThenRead : Type 0
WriteThenRead =
    (max n : ℕ) (kind : Kind) (out : List ℕ) → written max n out ≡ done 12
    → name_read max (part (written_bytes max n kind out) 0 12) ≡ done (n, kind)

-- what was read, written into any lent memory with room for it
abbrev pub ReadThenWrite : Type 0
ReadThenWrite =
    (max n : ℕ) (kind : Kind) (name out : List ℕ) → name_read max name ≡ done (n, kind) → 12 ≤ length out
    → (written max n out ≡ done 12) × (part (written_bytes max n kind out) 0 12 ≡ name)

-- ---- writing, then reading: a name's three parts stand where the reader looks for them

module _ (n : ℕ) (kind : Kind) where
  number : drop 4 (name_of n kind) ≡ digits 4 n ++ ending kind
  unfolding name_of
  number = refl

  last : drop 8 (name_of n kind) ≡ ending kind ++ []
  last = rest_is (name_of n kind) 4 (digits 4 n) 4 (length_digits 4 n) (ending kind) 8 refl number ∙ sym (append-nil (ending kind))

  kind_part : part (name_of n kind) 8 4 ≡ ending kind
  kind_part = part_is (name_of n kind) 8 (ending kind) 4 (length_ending kind) [] last

  number_part : part (name_of n kind) 4 4 ≡ digits 4 n
  number_part = part_is (name_of n kind) 4 (digits 4 n) 4 (length_digits 4 n) (ending kind) number

  framed : has_at (name_of n kind) 0 (ascii "SESS") ≡ true
  unfolding name_of
  framed = then_has (name_of n kind) 0 (ascii "SESS") (digits 4 n ++ ending kind) refl

which : (n : ℕ) (kind : Kind)
    → cond (same (ending kind) (ascii ".REQ")) (done (n, Request)) (cond (same (ending kind) (ascii ".RSP")) (done (n, Response)) no_name)
    ≡ done (n, kind)
unfolding same
which n Request = refl
which n Response = refl

kind_done : (n : ℕ) (kind : Kind) → kind_read n (name_of n kind) ≡ done (n, kind)
unfolding kind_read has_at
kind_done n kind = rw (kind_part n kind) (which n kind)

pub name_reads : (max n : ℕ) (kind : Kind) → (is_max max && ltb n max) ≡ true → name_read max (name_of n kind) ≡ done (n, kind)
unfolding name_read number_read
name_reads max n kind h =
    rw (
      and_left (is_max max) (ltb n max) h,
      eq-eqb (length (name_of n kind)) 12 (length_name n kind),
      framed n kind,
      number_part n kind,
      read_done 4 n (omega (arith, below_max max n h)),
      and_right (is_max max) (ltb n max) h,
    )
    (kind_done n kind)

-- ---- reading, then writing: each part that was read stands in the name

-- the two values of an answer
values : {m n : ℕ} {k kind : Kind} → ◌≡◌ {A = Result (ℕ × Kind)} (done (m, k)) (done (n, kind)) → (m ≡ n) × (k ≡ kind)
values {m} {n} {k} {kind} h = let p : ◌≡◌ {A = ℕ × Kind} (m, k) (n, kind) = cc in (ap (λ (q : ℕ × Kind). q.0) p, ap (λ (q : ℕ × Kind). q.1) p)

module _ (name : List ℕ) where
  stands : {m n : ℕ} (k : Kind) {kind : Kind} → has_at name 8 (ending k) ≡ true → ◌≡◌ {A = Result (ℕ × Kind)} (done (m, k)) (done (n, kind))
      → (m ≡ n) × (has_at name 8 (ending kind) ≡ true)
  stands k e h = let v = values h in (v.0, subst (λ (x : Kind). has_at name 8 (ending x) ≡ true) v.1 e)

  kind_back : (m n : ℕ) (kind : Kind) → kind_read m name ≡ done (n, kind) → (m ≡ n) × (has_at name 8 (ending kind) ≡ true)
  unfolding kind_read
  kind_back m n kind h = go (has_at name 8 (ascii ".REQ")) (has_at name 8 (ascii ".RSP")) refl refl h
    where
      go : (a b : Bool) → has_at name 8 (ascii ".REQ") ≡ a → has_at name 8 (ascii ".RSP") ≡ b
          → cond a (done (m, Request)) (cond b (done (m, Response)) no_name) ≡ done (n, kind) → (m ≡ n) × (has_at name 8 (ending kind) ≡ true)
      go true b e f h = stands Request e h
      go false true e f h = stands Response f h
      go false false e f h = absurd (refused_not_done h)

  number_back : (max n : ℕ) (kind : Kind) (d : Option ℕ) → number_read max name d ≡ done (n, kind)
      → (d ≡ Some n) × (ltb n max ≡ true) × (has_at name 8 (ending kind) ≡ true)
  unfolding number_read
  number_back max n kind (Some m) h =
      let t = passed (ltb m max) _ _ _ h in
      let k = kind_back m n kind t.1 in
      (ap Some k.0, subst (λ (x : ℕ). ltb x max ≡ true) k.0 t.0, k.1)
  number_back max n kind None h = absurd (refused_not_done h)

  -- the three parts, one after the other, are the whole of the 12 bytes
  whole : (n : ℕ) (kind : Kind) → length name ≡ 12 → has_at name 0 (ascii "SESS") ≡ true → part name 4 4 ≡ digits 4 n
      → has_at name 8 (ending kind) ≡ true → name ≡ name_of n kind
  unfolding name_of
  whole n kind l a b c =
      let none : drop 12 name ≡ [] = drop_of_length-le name {i = 12} (omega arith) in
      has_then name 0 (ascii "SESS") a
      ∙ ap (λ (x : List ℕ). ascii "SESS" ++ x)
      (is_part name 4 (digits 4 n) 4 (length_digits 4 n) 8 refl b
      ∙ ap (λ (x : List ℕ). digits 4 n ++ x)
      (has_then name 8 (ending kind) c ∙ rw (length_ending kind, none, append-nil)))

pub name_back : (max n : ℕ) (kind : Kind) (name : List ℕ) → name_read max name ≡ done (n, kind)
    → (name ≡ name_of n kind) × ((is_max max && ltb n max) ≡ true)
unfolding name_read
name_back max n kind name h =
    let t = passed (is_framed max name) _ _ _ h in
    let r = number_back name max n kind (digits_read 4 (part name 4 4)) t.1 in
    let b = read_back 4 (part name 4 4) n r.0 in
    let sized = and_left (is_max max && eqb (length name) 12) (has_at name 0 (ascii "SESS")) t.0 in (
      whole name n kind
          (eqb-true (length name) 12 (and_right (is_max max) (eqb (length name) 12) sized))
          (and_right (is_max max && eqb (length name) 12) (has_at name 0 (ascii "SESS")) t.0)
          b.0
          r.2,
      and_both (and_left (is_max max) (eqb (length name) 12) sized) r.1,
    )

-- ---- the two trips, through the words that the contracts cite

pub write_then_read : WriteThenRead
write_then_read max n kind out h =
    let w = was_written max n kind out h in
    rw w.1 (name_reads max n kind w.0)

pub read_then_write : ReadThenWrite
read_then_write max n kind name out h room =
    let b = name_back max n kind name h in
    let w = will_be_written max n kind out b.1 room in
    (w.0, w.1 ∙ sym b.0)
