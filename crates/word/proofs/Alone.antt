-- A name by itself and in a file: bytes that are one name are that name wherever a byte follows them that goes on with no word, and the bytes of a name of a
-- file are one by themselves.
use Prim.Native.Nat.{ℕ, suc, ◌+◌, ◌-◌, ◌≤◌}
use mathlib.Core.Path.{◌≡◌, refl, sym, ◌∙◌, ap}
use mathlib.Core.Bool.{Bool, true, false, cond, ◌&&◌}
use mathlib.Core.List.{List, [], ◌∷◌, ◌++◌, Memᴰ}
use native.Mathlib.Omega.{arith}
use borrow.Author.Tests.{ltb-false, le-ltb, eqb-true}
use lib.Dec.{eqb, ltb}
use lib.ListN.{length, get_or, take, drop, length-take, get_or-eq_default}
use lib.Seq.{get_or-drop, take-length}
use Rattle.counts.specs.Limits.{word_bytes}
use Rattle.field.specs.Bytes.{has_at, ascii}
use Rattle.field.specs.Part.{part}
use Rattle.field.proofs.Parts.{part_all, part_is, rest_is}
use Rattle.field.proofs.Same.{has_then}
use Rattle.scan.specs.Kinds.{is_word_byte}
use Rattle.scan.specs.Run.{run, run_end}
use Rattle.scan.proofs.Runs.{run_fits, run_passes, run_whole}
use Rattle.word.specs.Word.{WordRead, Spelling, which_of, reserved, which_word, word_read}
use Rattle.word.specs.declared.Word.{Word}
use Rattle.word.specs.declared.Word.TheVariants.{Name, TimeGe}
use Rattle.std.specs.declared.option.Option.TheVariants.{Some, None}

-- ---- runs of a part

-- a run that no byte begins
pub run_none : (p : ℕ → Bool) (xs : List ℕ) → p (get_or xs 0 0) ≡ false → run p xs ≡ 0
unfolding run
run_none p [] e = refl
run_none p (x ∷ xs) e = rw (run, e)

-- the bytes of a run are a run
run_again : (p : ℕ → Bool) (xs : List ℕ) → run p (take (run p xs) xs) ≡ run p xs
unfolding run
run_again p [] = refl
run_again p (x ∷ xs) = go (p x) refl (run_again p xs)
  where
    go : (t : Bool) → p x ≡ t → run p (take (run p xs) xs) ≡ run p xs
        → run p (take (elim t [ true ↦ suc (run p xs) | false ↦ 0 ]) (x ∷ xs)) ≡ elim t [ true ↦ suc (run p xs) | false ↦ 0 ]
    go true e h = rw (run, e, h)
    go false e h = refl

run_each : (p : ℕ → Bool) (xs : List ℕ) → run p xs ≡ length xs → (b : ℕ) → Memᴰ b xs → p b ≡ true
run_each p xs e b m = run_passes p xs b (rw (e, take-length) m)

-- ---- the name at a place, by its parts

pub record NameRead (s : List ℕ) (i e : ℕ) : Type 0 where
  pub end : run_end is_word_byte s i ≡ e
  pub few : e ≤ i + word_bytes
  pub which : which_word s i (e - i) ≡ Name

is≢ : {w v : Word} {e f : ℕ} → (w ≡ v → ⊥) → ◌≡◌ {A = WordRead} (Some (w, e)) (Some (v, f)) → ⊥
is≢ {w} {v} {e} {f} n h = let p : ◌≡◌ {A = Word × ℕ} (w, e) (v, f) = cc in n (ap (λ (x : Word × ℕ). x.0) p)

time≢name : TimeGe ≡ Name → ⊥
time≢name h = let z : ◌≡◌ {A = ℕ} 0 1 = cc in omega arith

none≢is : {w : Word} {e : ℕ} → ◌≡◌ {A = WordRead} None (Some (w, e)) → ⊥
none≢is h = let z : ◌≡◌ {A = ℕ} 0 1 = cc in omega arith

pub name_parts : (s : List ℕ) (i e : ℕ) → word_read s i ≡ Some (Name, e) → NameRead s i e
unfolding word_read
name_parts s i e h = go (has_at s i (ascii "TIME>=")) (ltb (i + word_bytes) (run_end is_word_byte s i)) refl h
  where
    go : (a b : Bool) → ltb (i + word_bytes) (run_end is_word_byte s i) ≡ b
        → cond {A = WordRead} a (Some (TimeGe, i + 6)) (cond b None (Some (which_word s i (run_end is_word_byte s i - i), run_end is_word_byte s i))) ≡ Some (Name, e) → NameRead s i e
    go true b l x = absurd (is≢ time≢name x)
    go false true l x = absurd (none≢is x)
    go false false l x =
        let p : ◌≡◌ {A = Word × ℕ} (which_word s i (run_end is_word_byte s i - i), run_end is_word_byte s i) (Name, e) = cc in
        let end : run_end is_word_byte s i ≡ e = ap (λ (x : Word × ℕ). x.1) p in
        let word : which_word s i (run_end is_word_byte s i - i) ≡ Name = ap (λ (x : Word × ℕ). x.0) p in
        record { end = end; few = omega (arith, ltb-false (i + word_bytes) (run_end is_word_byte s i) l); which = rw end at word }

-- TIME>= goes on with > after its four letters
pub time_letters : (s : List ℕ) (i : ℕ) → has_at s i (ascii "TIME>=") ≡ true → run_end is_word_byte s i ≡ i + 4
unfolding run_end run
time_letters s i h = rw (has_then s i (ascii "TIME>=") h)

time_goes_on : (s : List ℕ) (i : ℕ) → has_at s i (ascii "TIME>=") ≡ true → get_or s (run_end is_word_byte s i) 0 ≡ 62
time_goes_on s i h = rw (time_letters s i h) (sym (get_or-drop i s 4 0) ∙ ap (λ (l : List ℕ). get_or l 4 0) (has_then s i (ascii "TIME>=") h))

no_time : (s : List ℕ) (i : ℕ) → (get_or s (run_end is_word_byte s i) 0 ≡ 62 → ⊥) → has_at s i (ascii "TIME>=") ≡ false
no_time s i n = go (has_at s i (ascii "TIME>=")) refl
  where
    go : (b : Bool) → has_at s i (ascii "TIME>=") ≡ b → has_at s i (ascii "TIME>=") ≡ false
    go true h = absurd (n (time_goes_on s i h))
    go false h = h

parts_name : (s : List ℕ) (i e : ℕ) → NameRead s i e → (get_or s e 0 ≡ 62 → ⊥) → word_read s i ≡ Some (Name, e)
unfolding word_read
parts_name s i e r n =
    rw (no_time s i (λ h. n (ap (λ (k : ℕ). get_or s k 0) (sym r.end) ∙ h)), r.end, le-ltb _ _ r.few, r.which)

-- which word it is, its bytes alone tell
which_same : (s t : List ℕ) (i j n : ℕ) → part s i n ≡ part t j n → which_word s i n ≡ which_word t j n
unfolding which_word has_at
which_same s t i j n same = of reserved
  where
    row : (l : List ℕ) (b : Bool) → eqb n (length l) ≡ b → (b && has_at s i l) ≡ (b && has_at t j l)
    row l true e = let m : n ≡ length l = eqb-true n (length l) e in rw (← m, same)
    row l false e = refl

    of : (rs : List Spelling) → which_of rs s i n ≡ which_of rs t j n
    of [] = refl
    of (r ∷ rs) = rw (row r.letters (eqb n (length r.letters)) refl, of rs)

-- ---- by itself, and in a file

module _ (s : List ℕ) (i : ℕ) where
  pub name_goes_on : (x rest : List ℕ) → word_read x 0 ≡ Some (Name, length x) → drop i s ≡ x ++ rest → is_word_byte (get_or s (i + length x) 0) ≡ false
      → (get_or s (i + length x) 0 ≡ 62 → ⊥) → word_read s i ≡ Some (Name, i + length x)
  unfolding run_end
  name_goes_on x rest h stands stop no_sign =
      let r = name_parts x 0 (length x) h in
      let all : run is_word_byte x ≡ length x = omega (arith, r.end) in
      let next : get_or rest 0 0 ≡ get_or s (i + length x) 0 =
      ap (λ (l : List ℕ). get_or l 0 0) (sym (rest_is s i x (length x) refl rest (i + length x) refl stands))
      ∙ get_or-drop (i + length x) s 0 0 ∙ ap (λ (n : ℕ). get_or s n 0) (omega arith)
      in
      let long : run is_word_byte (x ++ rest) ≡ length x = run_whole is_word_byte x rest (run_each is_word_byte x all) (run_none is_word_byte rest (rw next stop)) in
      let w : i + length x - i ≡ length x = omega arith in
      let z : length x - 0 ≡ length x = omega arith in
      let bytes : part s i (length x) ≡ part x 0 (length x) = part_is s i x (length x) refl rest stands ∙ sym (part_all x (length x) (omega arith)) in
      parts_name s i (i + length x)
      (record { end = rw (stands, long); few = omega (arith, r.few); which = rw (w, which_same s x i 0 (length x) bytes, ← z) r.which }) no_sign

  pub name_alone : (e : ℕ) → word_read s i ≡ Some (Name, e) → word_read (part s i (e - i)) 0 ≡ Some (Name, length (part s i (e - i)))
  unfolding run_end part
  name_alone e h =
      let r = name_parts s i e h in
      let n : e - i ≡ run is_word_byte (drop i s) = omega (arith, r.end) in
      let x = part s i (e - i) in
      let all : run is_word_byte x ≡ run is_word_byte (drop i s) = rw n (run_again is_word_byte (drop i s)) in
      let long : length x ≡ run is_word_byte (drop i s) =
      rw n (omega (arith, length-take (run is_word_byte (drop i s)) (drop i s), run_fits is_word_byte (drop i s)))
      in
      let f : length x - 0 ≡ e - i = omega arith in
      parts_name x 0 (length x)
      (record {
        end = omega (arith, all, long);
        few = omega (arith, r.few, r.end, long);
        which = rw f (which_same x s 0 i (e - i) (part_all x (e - i) (omega arith)) ∙ r.which);
      })
      (λ q. nothing x q)
    where
      nothing : (x : List ℕ) → get_or x (length x) 0 ≡ 62 → ⊥
      nothing x q = let z : get_or x (length x) 0 ≡ 0 = get_or-eq_default x 0 (omega arith) in omega arith
