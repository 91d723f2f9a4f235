-- Demand 2's last sentence for records, and what else document 01 says of them: all of it about the words that the contracts of `write_record`,
-- `read_record`, `record_at` and `record_text` cite, for every limit of n. The contracts have the limit `commands`.
use Prim.Native.Nat.{ℕ, ◌+◌, ◌≤◌, ◌<◌}
use mathlib.Core.Path.{◌≡◌, refl, sym, ap, ap₂, ◌∙◌, subst}
use mathlib.Core.Bool.{Bool, true, false, cond}
use mathlib.Core.List.{List, [], append-nil}
use mathlib.Core.Logic.{◌↔◌}
use native.Mathlib.Omega.{arith}
use lib.Dec.{eqb}
use lib.ListN.{length, drop}
use lib.Seq.{drop-length}
use borrow.Author.Tests.{le-leb, eq-eqb, eqb-true}
use Rattle.laws.proofs.Choose.{and_left, and_right, and_both}
use Rattle.counts.specs.Refusals.{not_a_record}
use Rattle.counts.specs.Result.{Result, refused, done}
use Rattle.counts.proofs.Results.{refused_not_done, passed}
use Rattle.field.specs.Bytes.{has_at}
use Rattle.field.specs.Part.{part}
use Rattle.field.proofs.Put.{part_put}
use Rattle.field.proofs.Same.{then_has, has_then}
use Rattle.decimal.specs.Digits.{plain_width}
use Rattle.moment.specs.Moment.{real_moment}
use Rattle.record.specs.Record.{Content, in_range, permitted, record_bytes, fixed_length}
use Rattle.labelled.specs.Labelled.{on_pair}
use Rattle.labelled.proofs.Fields.{pair_same}
use Rattle.record_read.specs.Reading.{record_at, record_read, content_of, with_text}
use Rattle.record.specs.Writing.{write_refusal, written, written_bytes}
use Rattle.record_read.specs.declared.Record.{Record}
use Rattle.record.proofs.Lengths.{length_record}
use Rattle.record.proofs.Writes.{not_refused}
use Rattle.record_read.proofs.Standing.{read_as, record_done, content_same, record_back, Was}
use Rattle.std.specs.declared.option.Option.{Option}
use Rattle.std.specs.declared.option.Option.TheVariants.{Some, None}

-- ---- the statements

-- "Length: PROCESSED 42, ERROR 50, plus the digits of n and the bytes of text."
abbrev pub length_of : Content → ℕ
length_of c = fixed_length c.outcome + plain_width c.number + length c.text

abbrev pub Lengths : Type 0
Lengths = (c : Content) → length (record_bytes c) ≡ length_of c

-- writing any permitted record into memory with room for it and reading it gives the same record, text included
abbrev pub WriteThenRead : Type 0
WriteThenRead =
    (limit : ℕ) → limit < 100000000 → (c : Content) (out : List ℕ) → permitted limit c ≡ true → length_of c ≤ length out
    → (written limit c out ≡ done (length_of c))
    × (let s = part (written_bytes limit c out) 0 (length_of c) in with_text s (record_read limit s) ≡ done c)

-- only permitted records are written, and in full
abbrev pub WrittenPermitted : Type 0
WrittenPermitted =
    (limit : ℕ) (c : Content) (out : List ℕ) (k : ℕ) → written limit c out ≡ done k
    → (permitted limit c ≡ true) × (k ≡ length_of c) × (k ≤ length out)

-- "The reader takes one whole record and nothing beyond. Any other bytes get 7": bytes read as c exactly where c is permitted and they are its bytes
abbrev pub ReadExactly : Type 0
ReadExactly =
    (limit : ℕ) → limit < 100000000 → (s : List ℕ) (c : Content)
    → with_text s (record_read limit s) ≡ done c ↔ ((permitted limit c ≡ true) × (s ≡ record_bytes c))

-- any bytes read as a record are written again identically
abbrev pub ReadThenWrite : Type 0
ReadThenWrite =
    (limit : ℕ) (s : List ℕ) (r : Record) (out : List ℕ) → record_read limit s ≡ done r → length s ≤ length out
    → (written limit (content_of s r) out ≡ done (length s)) × (part (written_bytes limit (content_of s r) out) 0 (length s) ≡ s)

-- a record that reads is a permitted one, and its text lies within the bytes
abbrev pub ReadPermitted : Type 0
ReadPermitted =
    (limit : ℕ) (s : List ℕ) (r : Record) → record_read limit s ≡ done r
    → (permitted limit (content_of s r) ≡ true) × (r.start + r.length ≤ length s)

-- "Any other bytes get 7": the reader gives no other number, and no place
abbrev pub OnlySeven : Type 0
OnlySeven = (limit : ℕ) (s : List ℕ) (n p : ℕ) → record_read limit s ≡ refused n p → (n ≡ not_a_record) × (p ≡ 0)

-- the bytes of s from at on begin with the record of c, a permitted one, which ends at e
abbrev pub Begins : ℕ → List ℕ → ℕ → Content → ℕ → Type 0
Begins limit s at c e = (permitted limit c ≡ true) × (has_at s at (record_bytes c) ≡ true) × (e ≡ at + length (record_bytes c))

-- a record of that content is read at a place, and ends at e, exactly there
abbrev pub AtExactly : Type 0
AtExactly =
    (limit : ℕ) → limit < 100000000 → (s : List ℕ) (at : ℕ) (c : Content) (e : ℕ)
    → ((r : Record) × (record_at limit s at ≡ Some (r, e)) × (content_of s r ≡ c)) ↔ Begins limit s at c e

-- so bytes begin with one record at most
abbrev pub OneBegins : Type 0
OneBegins =
    (limit : ℕ) → limit < 100000000 → (s : List ℕ) (at : ℕ) (c d : Content) (e f : ℕ) → Begins limit s at c e → Begins limit s at d f
    → (c ≡ d) × (e ≡ f)

-- ---- at a place

pub at_exactly : AtExactly
at_exactly limit most s at c e = (
  λ (r, h, same).
      let was = record_back limit s at r e h in
      subst (λ (d : Content). Begins limit s at d e) same (was.ok, then_has s at (record_bytes (content_of s r)) (drop e s) was.bytes, was.next),
  λ (ok, there, last).
      let h = has_then s at (record_bytes c) there in
      (read_as at c, record_done s at c _ h limit most ok ∙ ap (λ (k : ℕ). Some (read_as at c, k)) (sym last), content_same s at c _ h),
)

same_end : {q r : Record} {e f : ℕ} → ◌≡◌ {A = Option (Record × ℕ)} (Some (q, e)) (Some (r, f)) → (q ≡ r) × (e ≡ f)
same_end = pair_same

pub one_begins : OneBegins
one_begins limit most s at c d e f p q =
    let (x, u, a) = (at_exactly limit most s at c e).1 p in
    let (y, v, b) = (at_exactly limit most s at d f).1 q in
    let (same, ends) = same_end (sym u ∙ v) in
    (sym a ∙ ap (content_of s) same ∙ b, ends)

-- ---- writing

pub lengths : Lengths
lengths = length_record

will_write : (limit : ℕ) (c : Content) (out : List ℕ) → permitted limit c ≡ true → length (record_bytes c) ≤ length out → write_refusal limit c (length out) ≡ 0
unfolding write_refusal permitted
will_write limit c out ok room =
    let range = in_range limit c.number c.outcome c.text in
    let real = real_moment c.date c.time in
    rw (and_left range real ok, and_right range real ok, le-leb (length (record_bytes c)) (length out) room)

module _ (limit : ℕ) (c : Content) (out : List ℕ) (ok : permitted limit c ≡ true) (room : length (record_bytes c) ≤ length out) where
  writes : written limit c out ≡ done (length (record_bytes c))
  unfolding written
  writes = rw (eq-eqb _ _ (will_write limit c out ok room))

  leaves : part (written_bytes limit c out) 0 (length (record_bytes c)) ≡ record_bytes c
  unfolding written_bytes
  leaves = rw (eq-eqb _ _ (will_write limit c out ok room)) (part_put out 0 (record_bytes c) (omega arith))

pub written_permitted : WrittenPermitted
unfolding written permitted
written_permitted limit c out k h =
    let (none, e) = passed (eqb (write_refusal limit c (length out)) 0) _ _ _ h in
    let f = not_refused limit c out (eqb-true _ 0 none) in
    let same : length (record_bytes c) ≡ k = cc in
    (and_both f.range f.real, sym same ∙ length_record c, omega (arith, f.room))

-- ---- the two trips

-- a whole record begins the bytes, and ends where they end
pub whole : (limit : ℕ) (s : List ℕ) (r : Record) → record_read limit s ≡ done r → Was limit s 0 r (length s)
unfolding record_read
whole limit s r h = go (record_at limit s 0) refl h
  where
    go : (d : Option (Record × ℕ)) → record_at limit s 0 ≡ d
        → on_pair d (refused not_a_record 0) (λ q e. cond (eqb e (length s)) (done q) (refused not_a_record 0)) ≡ done r → Was limit s 0 r (length s)
    go (Some (q, e)) p f =
        let (t, same) = passed (eqb e (length s)) _ _ _ f in
        let is : q ≡ r = cc in
        record_back limit s 0 r (length s) (p ∙ ap₂ (λ (x : Record) (k : ℕ). Some (x, k)) is (eqb-true e (length s) t))
    go None p f = absurd (refused_not_done f)

pub whole_bytes : (limit : ℕ) (s : List ℕ) (r : Record) → Was limit s 0 r (length s) → s ≡ record_bytes (content_of s r)
whole_bytes limit s r was = was.bytes ∙ simp (drop-length, append-nil)

pub reads_as : (limit : ℕ) → limit < 100000000 → (c : Content) → permitted limit c ≡ true → record_read limit (record_bytes c) ≡ done (read_as 0 c)
unfolding record_read
reads_as limit most c ok =
    let s = record_bytes c in
    rw (record_done s 0 c [] (sym (append-nil s)) limit most ok, eq-eqb (0 + length s) (length s) (omega arith))

reads : (limit : ℕ) → limit < 100000000 → (c : Content) → permitted limit c ≡ true
    → with_text (record_bytes c) (record_read limit (record_bytes c)) ≡ done c
reads limit most c ok =
    ap (with_text (record_bytes c)) (reads_as limit most c ok) ∙ ap done (content_same (record_bytes c) 0 c [] (sym (append-nil (record_bytes c))))

same_content : {c d : Content} → done c ≡ done d → c ≡ d
same_content h = cc

-- a reading with its text is a reading
with_text_lem : (s : List ℕ) (x : Result Record) (c : Content) → with_text s x ≡ done c → (r : Record) × (x ≡ done r) × (content_of s r ≡ c)
with_text_lem s (done r) c h = (r, refl, same_content h)
with_text_lem s (refused n p) c h = absurd (refused_not_done h)

pub read_exactly : ReadExactly
read_exactly limit most s c = (
  λ h.
      let (r, e, same) = with_text_lem s (record_read limit s) c h in
      let was = whole limit s r e in
      (subst (λ (d : Content). permitted limit d ≡ true) same was.ok, whole_bytes limit s r was ∙ ap record_bytes same),
  λ h. rw h.1 (reads limit most c h.0),
)

pub write_then_read : WriteThenRead
write_then_read limit most c out ok room =
    let e = length_record c in
    let r : length (record_bytes c) ≤ length out = omega arith in
    (writes limit c out ok r ∙ ap done e, rw (← e, leaves limit c out ok r) (reads limit most c ok))

pub read_then_write : ReadThenWrite
read_then_write limit s r out h room =
    let was = whole limit s r h in
    let c = content_of s r in
    let bytes = whole_bytes limit s r was in
    let e : length (record_bytes c) ≡ length s = ap length (sym bytes) in
    let there : length (record_bytes c) ≤ length out = omega arith in
    (writes limit c out was.ok there ∙ ap done e, ap (part (written_bytes limit c out) 0) (sym e) ∙ leaves limit c out was.ok there ∙ sym bytes)

pub read_permitted : ReadPermitted
read_permitted limit s r h = let was = whole limit s r h in (was.ok, was.text)

pub only_seven : OnlySeven
unfolding record_read
only_seven limit s n p h = go (record_at limit s 0) h
  where
    seven : (b : Bool) (r : Record) → cond b (done r) (refused not_a_record 0) ≡ refused n p → (n ≡ not_a_record) × (p ≡ 0)
    seven true r f = absurd (refused_not_done (sym f))
    seven false r f = (cc, cc)

    go : (d : Option (Record × ℕ)) → on_pair d (refused not_a_record 0) (λ q e. cond (eqb e (length s)) (done q) (refused not_a_record 0)) ≡ refused n p
        → (n ≡ not_a_record) × (p ≡ 0)
    go (Some (q, e)) f = seven (eqb e (length s)) q f
    go None f = (cc, cc)
