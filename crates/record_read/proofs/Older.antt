-- Two readers with limits of n of their own: what one takes the other takes alike where n is within its limit, and gives 7 where it is not.
use Prim.Native.Nat.{ℕ, ◌≤◌, ◌<◌}
use mathlib.Core.Path.{◌≡◌, refl, sym, ap, ap₂, ◌∙◌}
use mathlib.Core.Bool.{true, ◌&&◌}
use mathlib.Core.List.{List}
use native.Mathlib.Omega.{arith}
use lib.Dec.{leb}
use borrow.Author.Tests.{leb-true, le-leb}
use Rattle.laws.proofs.Choose.{halves, and_both}
use Rattle.counts.specs.Refusals.{not_a_record}
use Rattle.counts.specs.Result.{Result, refused, done}
use Rattle.counts.proofs.Results.{refused_not_done, done_same}
use Rattle.moment.specs.Moment.{real_moment}
use Rattle.record.specs.Record.{Content, is_outcome, is_text, in_range, permitted}
use Rattle.record_read.specs.Reading.{record_read, content_of}
use Rattle.record_read.specs.declared.Record.{Record}
use Rattle.record_read.proofs.RoundTrip.{whole, whole_bytes, reads_as, only_seven}

-- a permitted record but for its number
abbrev Else : Content → Type 0
Else c = (leb 1 c.number ≡ true) × (is_outcome c.outcome ≡ true) × (is_text c.text ≡ true) × (real_moment c.date c.time ≡ true)

apart : (limit : ℕ) (c : Content) → permitted limit c ≡ true → (c.number ≤ limit) × Else c
unfolding permitted in_range
apart limit c ok =
    let low = leb 1 c.number in
    let high = leb c.number limit in
    let outcome = is_outcome c.outcome in
    let text = is_text c.text in
    let e1 = halves (low && high && outcome && text) (real_moment c.date c.time) ok in
    let e2 = halves (low && high && outcome) text e1.0 in
    let e3 = halves (low && high) outcome e2.0 in
    let e4 = halves low high e3.0 in
    (leb-true c.number limit e4.1, (e4.0, e3.1, e2.1, e1.1))

together : (limit : ℕ) (c : Content) → c.number ≤ limit → Else c → permitted limit c ≡ true
unfolding permitted in_range
together limit c few e = and_both (and_both (and_both (and_both e.0 (le-leb c.number limit few)) e.1) e.2) e.3

-- a record is read alike by every reader that permits its number
pub same_reading : (one other : ℕ) → one < 100000000 → other < 100000000 → (s : List ℕ) (r : Record) → record_read one s ≡ done r → r.number.0 ≤ other
    → record_read other s ≡ done r
same_reading one other small least s r h few =
    let was = whole one s r h in
    let c = content_of s r in
    let bytes = whole_bytes one s r was in
    let ours = ap (record_read other) bytes ∙ reads_as other least c (together other c few (apart one c was.ok).1) in
    let theirs = ap (record_read one) bytes ∙ reads_as one small c was.ok in
    ours ∙ sym theirs ∙ h

module _ (older newer : ℕ) (below : older ≤ newer) (small : newer < 100000000) (s : List ℕ) where
  -- what the older reader takes, the newer one takes alike
  pub never_misreads : (r : Record) → record_read older s ≡ done r → (r.number.0 ≤ older) × (record_read newer s ≡ done r)
  never_misreads r h =
      let few = (apart older (content_of s r) (whole older s r h).ok).0 in
      (few, same_reading older newer (omega arith) small s r h (omega arith))

  pub older_agrees : (r : Record) → record_read newer s ≡ done r → r.number.0 ≤ older → record_read older s ≡ done r
  older_agrees r h few = same_reading newer older small (omega arith) s r h few

  -- what it cannot take gets 7
  no_other : ((r : Record) → record_read older s ≡ done r → ⊥) → record_read older s ≡ refused not_a_record 0
  no_other never = go (record_read older s) refl
    where
      go : (x : Result Record) → record_read older s ≡ x → record_read older s ≡ refused not_a_record 0
      go (done r) e = absurd (never r e)
      go (refused n p) e = let (seven, nowhere) = only_seven older s n p e in e ∙ ap₂ (λ (a b : ℕ). refused a b) seven nowhere

  pub older_refuses : (r : Record) → record_read newer s ≡ done r → older < r.number.0 → record_read older s ≡ refused not_a_record 0
  older_refuses r h many = no_other λ q e.
      let (few, same) = never_misreads q e in
      let is : q ≡ r = done_same (sym same ∙ h) in
      let number : q.number.0 ≡ r.number.0 = ap (λ (x : Record). x.number.0) is in
      omega arith

  pub older_refuses_too : (n p : ℕ) → record_read newer s ≡ refused n p → record_read older s ≡ refused n p
  older_refuses_too n p h =
      let (seven, nowhere) = only_seven newer s n p h in
      no_other (λ q e. refused_not_done (sym h ∙ (never_misreads q e).1)) ∙ sym (ap₂ (λ (a b : ℕ). refused a b) seven nowhere)
