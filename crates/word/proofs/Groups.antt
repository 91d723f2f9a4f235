-- P11: a bracket group is found exactly where its bytes stand.
use Prim.Native.Nat.{ℕ, ◌+◌, ◌-◌, ◌≤◌, ◌<◌}
use mathlib.Core.Path.{◌≡◌, refl, sym, ◌∙◌, ap}
use mathlib.Core.Bool.{Bool, true, false, cond, ◌&&◌}
use mathlib.Core.List.{List, [], ◌∷◌, ◌++◌, Memᴰ, append_assoc}
use native.Mathlib.Numerals.{add-one}
use native.Mathlib.Omega.{arith}
use borrow.Author.Rules.{rules}
use borrow.Author.Tests.{eqb-true, eq-eqb, ne_eqb, leb-true, le-leb}
use lib.Dec.{eqb, leb}
use lib.ListN.{length, get_or, take, drop, length-take, length-append}
use lib.Seq.{drop-cons}
use Rattle.counts.specs.Limits.{index_digits}
use Rattle.laws.proofs.Choose.{and_left, and_right}
use Rattle.field.specs.Part.{part}
use Rattle.field.proofs.Parts.{head_at, rest_is, is_part}
use Rattle.scan.specs.Kinds.{is_digit}
use Rattle.scan.specs.Run.{run, run_end}
use Rattle.scan.proofs.Runs.{in_range_lem, run_fits, run_passes, run_none, run_whole}
use Rattle.word.specs.Word.{GroupRead, is_index, closed_index, group_read}
use Rattle.word.specs.Names.{Index, Group, one, two}
use Rattle.std.specs.declared.option.Option.TheVariants.{Some, None}

none≢after : {e : ℕ} → ◌≡◌ {A = GroupRead} None (Some e) → ⊥
none≢after h = let z : ◌≡◌ {A = ℕ} 0 1 = cc in omega arith

-- a byte that code has found to be k, of which no byte past the end is one, is one of the file
pub found_inside : (s : List ℕ) (e b k : ℕ) (r : Bool) → eqb 0 k ≡ false → b ≡ get_or s e 0 → (r && eqb b k) ≡ true → e < length s
found_inside s e b k r some byte t =
    in_range_lem s (λ y. eqb y k) e some (ap (λ (y : ℕ). eqb y k) (sym byte) ∙ and_right r (eqb b k) t)

pub next_inside : (s : List ℕ) (e b k : ℕ) (r : Bool) → eqb 0 k ≡ false → b ≡ get_or s e 0 → (r && eqb b k) ≡ true → e + 1 ≤ length s
next_inside s e b k r some byte t = omega (arith, found_inside s e b k r some byte t)

pub ruleset inside = (rules, found_inside, next_inside, refl)

-- ---- a group that stands there is found

-- the byte after some that stand at a place
byte_after : (s : List ℕ) (j : ℕ) (x : List ℕ) (b : ℕ) (rest : List ℕ) → drop j s ≡ x ++ (b ∷ rest) → get_or s (j + length x) 0 ≡ b
byte_after s j x b rest stands = head_at s (j + length x) b rest (rest_is s j x (length x) refl (b ∷ rest) (j + length x) refl stands)

module _ (s : List ℕ) (j : ℕ) (x : List ℕ) (i : Index x) (b : ℕ) (rest : List ℕ) (no : is_digit b ≡ false) (stands : drop j s ≡ x ++ (b ∷ rest)) where
  -- its digits, before another byte, are a number
  index_run : run_end is_digit s j ≡ j + length x
  unfolding run_end
  index_run = rw (stands, run_whole is_digit x (b ∷ rest) i.each (run_none is_digit (b ∷ rest) no))

  index_is : is_index (j + length x - j) ≡ true
  index_is =
      let n : j + length x - j ≡ length x = omega arith in
      rw (n, le-leb 1 (length x) i.some, le-leb (length x) index_digits i.few)

  after_index : drop (j + length x + 1) s ≡ rest
  after_index =
      rest_is s (j + length x) (b ∷ []) 1 refl rest (j + length x + 1) refl
      (rest_is s j x (length x) refl (b ∷ rest) (j + length x) refl stands)

closed_stands : (s : List ℕ) (j : ℕ) (x rest : List ℕ) → Index x → drop j s ≡ x ++ (93 ∷ rest) → closed_index s j ≡ Some (j + length x + 1)
unfolding closed_index
closed_stands s j x rest i stands =
    rw (index_run s j x i 93 rest refl stands, index_is s j x i 93 rest refl stands, byte_after s j x 93 rest stands)

pub group_stands : (s : List ℕ) (j : ℕ) (g rest : List ℕ) → Group g → drop j s ≡ g ++ rest → group_read s j ≡ Some (j + length g)
unfolding group_read
group_stands s j g rest (one x i is) stands =
    let all : drop j s ≡ 91 ∷ (x ++ (93 ∷ rest)) = stands ∙ rw is (ap (λ (l : List ℕ). 91 ∷ l) (append_assoc x (93 ∷ []) rest)) in
    let within : drop (j + 1) s ≡ x ++ (93 ∷ rest) = rest_is s j (91 ∷ []) 1 refl (x ++ (93 ∷ rest)) (j + 1) refl all in
    let long : j + 1 + length x + 1 ≡ j + length g = rw is (omega (arith, length-append x (93 ∷ []))) in
    rw (
      index_run s (j + 1) x i 93 rest refl within,
      index_is s (j + 1) x i 93 rest refl within,
      byte_after s (j + 1) x 93 rest within,
      closed_stands s (j + 1) x rest i within,
      long,
    )
group_stands s j g rest (two x y i k is) stands =
    let last = y ++ (93 ∷ rest) in
    let all : drop j s ≡ 91 ∷ (x ++ (44 ∷ last)) =
    stands ∙ rw is (ap (λ (l : List ℕ). 91 ∷ l) (append_assoc x (44 ∷ (y ++ (93 ∷ []))) rest
    ∙ ap (λ (l : List ℕ). x ++ (44 ∷ l)) (append_assoc y (93 ∷ []) rest)))
    in
    let within : drop (j + 1) s ≡ x ++ (44 ∷ last) = rest_is s j (91 ∷ []) 1 refl (x ++ (44 ∷ last)) (j + 1) refl all in
    let second : drop (j + 1 + length x + 1) s ≡ last = after_index s (j + 1) x i 44 last refl within in
    let long : j + 1 + length x + 1 + length y + 1 ≡ j + length g =
    rw is (omega (arith, length-append x (44 ∷ (y ++ (93 ∷ []))), length-append y (93 ∷ [])))
    in
    rw (
      index_run s (j + 1) x i 44 last refl within,
      index_is s (j + 1) x i 44 last refl within,
      byte_after s (j + 1) x 44 last within,
      closed_stands s (j + 1 + length x + 1) y rest k second,
      long,
    )

-- ---- and a group that is found stands there

-- a number at j, the byte b after it, and the place f after that
record IndexThen (s : List ℕ) (j b f : ℕ) : Type 0 where
  pub digits : List ℕ
  pub index : Index digits
  pub stands : drop j s ≡ digits ++ (b ∷ drop f s)
  pub next : f ≡ j + length digits + 1

index_then : (s : List ℕ) (j b : ℕ) → 0 < b → is_index (run_end is_digit s j - j) ≡ true → get_or s (run_end is_digit s j) 0 ≡ b
    → IndexThen s j b (run_end is_digit s j + 1)
unfolding run_end part
index_then s j b some few byte =
    let e = run_end is_digit s j in
    let n : e - j ≡ run is_digit (drop j s) = omega arith in
    let x = take (run is_digit (drop j s)) (drop j s) in
    let long : length x ≡ run is_digit (drop j s) = omega (arith, length-take (run is_digit (drop j s)) (drop j s), run_fits is_digit (drop j s)) in
    let here : e < length s = in_range_lem s (λ y. eqb y b) e (ne_eqb 0 b (λ z. omega arith)) (eq-eqb _ _ byte) in
    let next : drop e s ≡ b ∷ drop (e + 1) s = drop-cons s e 0 here ∙ rw (byte, add-one e) in
    record {
      digits = x;
      index = record {
        each = run_passes is_digit (drop j s);
        some = omega (arith, n, long, leb-true 1 (e - j) (and_left (leb 1 (e - j)) (leb (e - j) index_digits) few));
        few = omega (arith, n, long, leb-true (e - j) index_digits (and_right (leb 1 (e - j)) (leb (e - j) index_digits) few));
      };
      stands = is_part s j x (length x) refl e (rw long) (rw long) ∙ ap (λ (l : List ℕ). x ++ l) next;
      next = rw long;
    }

closed_found : (s : List ℕ) (j f : ℕ) → closed_index s j ≡ Some f → IndexThen s j 93 f
unfolding closed_index
closed_found s j f h = go (is_index (e - j)) (eqb (get_or s e 0) 93) refl refl h
  where
    e : ℕ
    e = run_end is_digit s j

    go : (a b : Bool) → is_index (e - j) ≡ a → eqb (get_or s e 0) 93 ≡ b → cond (a && b) (Some (e + 1)) None ≡ Some f → IndexThen s j 93 f
    go true true p q x = let k : e + 1 ≡ f = cc in rw (← k) (index_then s j 93 (omega arith) p (eqb-true _ 93 q))
    go true false p q x = absurd (none≢after x)
    go false b p q x = absurd (none≢after x)

-- a group at j and the place f after it
pub record GroupThen (s : List ℕ) (j f : ℕ) : Type 0 where
  pub bytes : List ℕ
  pub group : Group bytes
  pub stands : drop j s ≡ bytes ++ drop f s
  pub next : f ≡ j + length bytes

pub group_found : (s : List ℕ) (j f : ℕ) → get_or s j 0 ≡ 91 → group_read s j ≡ Some f → GroupThen s j f
unfolding group_read
group_found s j f bracket h = go (is_index (e - (j + 1))) (eqb (get_or s e 0) 44) refl refl h
  where
    e : ℕ
    e = run_end is_digit s (j + 1)

    opens : drop j s ≡ 91 ∷ drop (j + 1) s
    opens = drop-cons s j 0 (in_range_lem s (λ y. eqb y 91) j refl (eq-eqb _ _ bracket)) ∙ rw (bracket, add-one j)

    alone : IndexThen s (j + 1) 93 f → GroupThen s j f
    alone r = let x = r.digits in
        record {
          bytes = 91 ∷ (x ++ (93 ∷ []));
          group = one x r.index refl;
          stands = opens ∙ ap (λ (l : List ℕ). 91 ∷ l) (r.stands ∙ sym (append_assoc x (93 ∷ []) (drop f s)));
          next = omega (arith, r.next, length-append x (93 ∷ []));
        }

    pair : IndexThen s (j + 1) 44 (e + 1) → IndexThen s (e + 1) 93 f → GroupThen s j f
    pair r t = let x = r.digits in let y = t.digits in
        record {
          bytes = 91 ∷ (x ++ (44 ∷ (y ++ (93 ∷ []))));
          group = two x y r.index t.index refl;
          stands = opens ∙ ap (λ (l : List ℕ). 91 ∷ l) (r.stands ∙ ap (λ (l : List ℕ). x ++ (44 ∷ l)) (t.stands
              ∙ sym (append_assoc y (93 ∷ []) (drop f s))) ∙ sym (append_assoc x (44 ∷ (y ++ (93 ∷ []))) (drop f s)));
          next = omega (arith, r.next, t.next, length-append x (44 ∷ (y ++ (93 ∷ []))), length-append y (93 ∷ []));
        }

    go : (a b : Bool) → is_index (e - (j + 1)) ≡ a → eqb (get_or s e 0) 44 ≡ b → cond (a && b) (closed_index s (e + 1)) (closed_index s (j + 1)) ≡ Some f
        → GroupThen s j f
    go true true p q x = pair (index_then s (j + 1) 44 (omega arith) p (eqb-true _ 44 q)) (closed_found s (e + 1) f x)
    go true false p q x = alone (closed_found s (j + 1) f x)
    go false b p q x = alone (closed_found s (j + 1) f x)

-- ---- how long a group is

pub group_long : (g : List ℕ) → Group g → (1 ≤ length g) × (length g ≤ 9)
group_long g (one x i is) = rw is (omega (arith, i.few, length-append x (93 ∷ [])), omega (arith, i.few, length-append x (93 ∷ [])))
group_long g (two x y i k is) =
    rw is (
      omega (arith, i.few, k.few, length-append x (44 ∷ (y ++ (93 ∷ []))), length-append y (93 ∷ [])),
      omega (arith, i.few, k.few, length-append x (44 ∷ (y ++ (93 ∷ []))), length-append y (93 ∷ [])),
    )

-- it opens with its bracket
pub group_opens : (g rest : List ℕ) → Group g → get_or (g ++ rest) 0 0 ≡ 91
group_opens g rest (one x i is) = rw is
group_opens g rest (two x y i k is) = rw is

pub group_has_bracket : (g : List ℕ) → Group g → Memᴰ 91 g
group_has_bracket g (one x i is) = rw is (Memᴰ.head refl)
group_has_bracket g (two x y i k is) = rw is (Memᴰ.head refl)
