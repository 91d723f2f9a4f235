-- Where a word lies; and the word in a file with one byte more in front.
use Prim.Native.Nat.compare
use Prim.Native.Nat.{ℕ, suc, ◌+◌, ◌-◌, ◌≤◌, ◌<◌}
use mathlib.Core.Path.{◌≡◌, refl}
use mathlib.Core.Bool.{Bool, true, false, cond}
use mathlib.Core.List.{List, ◌∷◌}
use native.Mathlib.Nat.{suc-add, suc-sub-suc}
use native.Mathlib.Omega.{arith}
use lib.Dec.{ltb}
use lib.ListN.{length, get_or}
use Rattle.counts.specs.Limits.{word_bytes}
use Rattle.field.specs.Bytes.{has_at, ascii}
use Rattle.field.specs.Part.{part}
use Rattle.field.proofs.Same.{has_room}
use Rattle.scan.specs.Kinds.{is_letter, is_word_byte}
use Rattle.scan.specs.Run.{run_end}
use Rattle.scan.proofs.Runs.{run_some, run_inside, run_up}
use Rattle.word.specs.Word.{WordRead, which_word, word_read}
use Rattle.word.specs.declared.Word.TheVariants.{TimeGe}
use Rattle.std.specs.declared.option.Option.TheVariants.{Some, None}

-- the word, if there is one, ends after i, within the file
abbrev pub EndsAfter : List ℕ → ℕ → WordRead → Type 0
EndsAfter s i (Some (w, e)) = (i < e) × (e ≤ length s)
EndsAfter s i None = Unit {0}

pub ends_after : (s : List ℕ) (i : ℕ) → i < length s → is_letter (get_or s i 0) ≡ true → EndsAfter s i (word_read s i)
unfolding word_read
ends_after s i l e = go (has_at s i (ascii "TIME>=")) (ltb (i + word_bytes) (run_end is_word_byte s i)) refl
  where
    go : (a b : Bool) → has_at s i (ascii "TIME>=") ≡ a
        → EndsAfter s i (cond a (Some (TimeGe, i + 6)) (cond b None (Some (which_word s i (run_end is_word_byte s i - i), run_end is_word_byte s i))))
    go true b h = omega (arith, has_room s i (ascii "TIME>=") (omega arith) h)
    go false true h = tt
    go false false h = (run_some is_word_byte s i l (rw e), run_inside is_word_byte s i (omega arith))

-- the same word, one place later
abbrev pub up : WordRead → WordRead
up (Some (w, e)) = Some (w, suc e)
up None = None

up_cond : (b : Bool) (x y : WordRead) → up (cond b x y) ≡ cond b (up x) (up y)
up_cond true x y = refl
up_cond false x y = refl

pub word_up : (x : ℕ) (v : List ℕ) (i : ℕ) → word_read (x ∷ v) (suc i) ≡ up (word_read v i)
unfolding word_read which_word has_at part
word_up x v i = simp (run_up, suc-add, suc-sub-suc, compare.suc-suc, up_cond)
