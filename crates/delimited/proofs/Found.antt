-- What follows a field is found exactly where the bytes of a line have it.
use Prim.Native.Nat.{ℕ, suc, ◌+◌, ◌≤◌, ◌<◌}
use mathlib.Core.Path.{◌≡◌, refl, sym, ◌∙◌, ap}
use mathlib.Core.Bool.{Bool, true, false, cond}
use mathlib.Core.List.{List, ◌∷◌, ◌++◌}
use native.Mathlib.Numerals.{add-one}
use native.Mathlib.Omega.{arith}
use borrow.Author.Tests.{eq-eqb, ne_eqb, eqb-true, ltb-true, ltb-false}
use lib.Dec.{eqb, ltb}
use lib.ListN.{length, get_or, drop, get_or-eq_default}
use lib.Seq.{drop-cons}
use Rattle.field.specs.Bytes.{has_at}
use Rattle.field.proofs.Parts.{head_at}
use Rattle.field.proofs.Same.{has_then, then_has, has_room}
use Rattle.delimited.specs.Lines.{is_delimiter, separator}
use Rattle.delimited.specs.Separators.{separator_at}
use Rattle.delimited.specs.declared.Separator.TheVariants.{Field, Line, Neither}
use Rattle.delimited.proofs.Lines.{delimiter≢0, delimiter≢13}

field≢line : {j k : ℕ} → Field j ≡ Line k → ⊥
field≢line h = let z : ◌≡◌ {A = ℕ} 0 1 = cc in omega arith

neither≢field : {j : ℕ} → Neither ≡ Field j → ⊥
neither≢field h = let z : ◌≡◌ {A = ℕ} 0 1 = cc in omega arith

neither≢line : {j : ℕ} → Neither ≡ Line j → ⊥
neither≢line h = let z : ◌≡◌ {A = ℕ} 0 1 = cc in omega arith

-- what is told of a separator that was found: the test that held, and the place after it
by_field : (d : ℕ) (s : List ℕ) (e j : ℕ) → separator_at d s e ≡ Field j → (get_or s e 0 ≡ d) × (j ≡ e + 1)
unfolding separator_at
by_field d s e j h = go (eqb (get_or s e 0) d) refl (has_at s e (separator d true)) h
  where
    go : (a : Bool) → eqb (get_or s e 0) d ≡ a → (b : Bool) → cond a (Field (e + 1)) (cond b (Line (e + 2)) Neither) ≡ Field j → (get_or s e 0 ≡ d) × (j ≡ e + 1)
    go true p b x = (eqb-true _ d p, cc)
    go false p true x = absurd (field≢line (sym x))
    go false p false x = absurd (neither≢field x)

by_line : (d : ℕ) (s : List ℕ) (e j : ℕ) → separator_at d s e ≡ Line j → (has_at s e (separator d true) ≡ true) × (j ≡ e + 2)
unfolding separator_at
by_line d s e j h = go (eqb (get_or s e 0) d) (has_at s e (separator d true)) refl h
  where
    go : (a b : Bool) → has_at s e (separator d true) ≡ b → cond a (Field (e + 1)) (cond b (Line (e + 2)) Neither) ≡ Line j
        → (has_at s e (separator d true) ≡ true) × (j ≡ e + 2)
    go true b q x = absurd (field≢line x)
    go false true q x = (q, cc)
    go false false q x = absurd (neither≢line x)

pub next_field : (d : ℕ) (s : List ℕ) (e j : ℕ) → separator_at d s e ≡ Field j → j ≡ e + 1
next_field d s e j h = (by_field d s e j h).1

pub next_line : (d : ℕ) (s : List ℕ) (e j : ℕ) → separator_at d s e ≡ Line j → j ≡ e + 2
next_line d s e j h = (by_line d s e j h).1

module _ (d : ℕ) (is : is_delimiter d ≡ true) (s : List ℕ) (e : ℕ) where
  pub at_field : (ys : List ℕ) → drop e s ≡ d ∷ ys → separator_at d s e ≡ Field (e + 1)
  unfolding separator_at
  at_field ys h = rw (eq-eqb _ d (head_at s e d ys h))

  pub at_line : (ys : List ℕ) → drop e s ≡ separator d true ++ ys → separator_at d s e ≡ Line (e + 2)
  unfolding separator_at
  at_line ys h =
      rw (head_at s e 13 (10 ∷ ys) h, ne_eqb 13 d (delimiter≢13 d is), then_has s e (separator d true) ys h)

  -- the delimiter stands at e, and j is the place after it
  pub record IsField (j : ℕ) : Type 0 where
    pub next : j ≡ e + 1
    pub inside : j ≤ length s
    pub stands : drop e s ≡ d ∷ drop j s

  -- CR LF stand at e, and j is the place after them
  pub record IsLine (j : ℕ) : Type 0 where
    pub next : j ≡ e + 2
    pub inside : j ≤ length s
    pub stands : drop e s ≡ separator d true ++ drop j s

  in_file : get_or s e 0 ≡ d → e < length s
  in_file q = go (ltb e (length s)) refl
    where
      go : (b : Bool) → ltb e (length s) ≡ b → e < length s
      go true l = ltb-true _ _ l
      go false l = absurd (delimiter≢0 d is (sym q ∙ get_or-eq_default s 0 (ltb-false _ _ l)))

  pub found_field : (j : ℕ) → separator_at d s e ≡ Field j → IsField j
  found_field j h =
      let f = by_field d s e j h in
      let room = in_file f.0 in
      record {
        next = f.1;
        inside = omega arith;
        stands = rw (f.1, add-one) (drop-cons s e 0 room ∙ ap (λ (b : ℕ). b ∷ drop (suc e) s) f.0);
      }

  pub found_line : (j : ℕ) → separator_at d s e ≡ Line j → IsLine j
  found_line j h =
      let f = by_line d s e j h in
      record {
        next = f.1;
        inside = rw f.1 (has_room s e (separator d true) (omega arith) f.0);
        stands = rw f.1 (has_then s e (separator d true) f.0);
      }
