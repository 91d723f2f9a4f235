-- What `record_text` shows: the part of the bytes that the answer of `read_record` gives by its place and length, or the empty part.
use Prim.Native.Nat.{ℕ, ◌+◌, ◌-◌, ◌≤◌}
use mathlib.Core.Path.{◌≡◌, sym, ap, ◌∙◌}
use mathlib.Core.List.{List, []}
use native.Mathlib.Omega.{arith}
use lib.ListN.{length, take, drop}
use Rattle.counts.specs.Limits.{commands}
use Rattle.counts.specs.Result.{Result}
use Rattle.counts.specs.declared.Refusal.{Refusal}
use Rattle.field.specs.Part.{part}
use Rattle.record_read.specs.Reading.{record_read, paper_record_read, text_of}
use Rattle.record_read.specs.declared.Record.{Record}
use Rattle.std.specs.declared.result.Result.{Result as Returned}
use Rattle.std.specs.declared.result.Result.TheVariants.{Ok, Err}
use Rattle.record_read.proofs.RoundTrip.{read_permitted}

module _ (s : List ℕ) (d : Returned Record Refusal) (v : Result Record) (says : paper_record_read d ≡ v) where
  pub no_text : (x : Refusal) → d ≡ Err x → [] ≡ text_of s v
  no_text x e = ap (text_of s) (sym (ap paper_record_read e) ∙ says)

  pub the_text : (r : Record) → d ≡ Ok r → take (r.start + r.length - r.start) (drop r.start s) ≡ text_of s v
  unfolding part
  the_text r e =
      let w : r.start + r.length - r.start ≡ r.length = omega arith in
      ap (λ (k : ℕ). take k (drop r.start s)) w ∙ ap (text_of s) (sym (ap paper_record_read e) ∙ says)

pub text_inside : (s : List ℕ) (d : Returned Record Refusal) → paper_record_read d ≡ record_read commands s → (r : Record) → d ≡ Ok r → r.start + r.length ≤ length s
text_inside s d says r e = (read_permitted commands s r (sym says ∙ ap paper_record_read e)).1
