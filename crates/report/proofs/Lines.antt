-- A line is found exactly where its bytes stand.
use Prim.Native.Nat.{ℕ, zero, suc, ◌+◌, ◌-◌, ◌≤◌, ◌<◌}
use mathlib.Core.Path.{◌≡◌, refl, sym, ◌∙◌, ap}
use mathlib.Core.Bool.{Bool, true}
use mathlib.Core.List.{List, [], ◌∷◌, ◌++◌, append_assoc}
use native.Mathlib.Omega.{arith}
use lib.ListN.{length, get_or, drop, length-append, length-drop}
use lib.Seq.{get_or-drop}
use Rattle.field.specs.Part.{part}
use Rattle.field.proofs.Parts.{is_part, rest_is, length_part_in}
use Rattle.delimited.specs.Lines.{is_delimiter, separator, others, line, Each, none, and}
use Rattle.delimited.specs.Separators.{separator_at, on_separator}
use Rattle.delimited.specs.declared.Separator.{Separator}
use Rattle.delimited.specs.declared.Separator.TheVariants as after
use Rattle.delimited.proofs.Lines.{line_last, line_more, line_some}
use Rattle.delimited.proofs.Found.{at_field, at_line, IsField, IsLine, found_field, found_line}
use Rattle.report.specs.Reading.{field_at, on_field, fields_from}
use Rattle.std.specs.declared.option.Option.{Option}
use Rattle.std.proofs.lemmas.Option.{none-some, some_pair_parts}
use Rattle.std.specs.declared.option.Option.TheVariants.{Some, None}
use Rattle.report.proofs.Fields.{Stops, end_stops, delimiter_stops, Found, Field, field_found, field_stands}

-- a line of at least one field stands from i to j
pub record Stands (values : Bool) (d : ℕ) (s : List ℕ) (i : ℕ) (row : List (List ℕ)) (j : ℕ) : Type 0 where
  pub each : Each (Field values) row
  pub some : 1 ≤ length row
  pub bytes : drop i s ≡ line d row ++ drop j s
  pub inside : j ≤ length s
  pub end : j ≡ i + length (line d row)

pub record Row (values : Bool) (d : ℕ) (s : List ℕ) (i k m j : ℕ) : Type 0 where
  pub row : List (List ℕ)
  pub many : m ≡ k + length row
  pub stands : Stands values d s i row j

module _ (values : Bool) (d : ℕ) (is : is_delimiter d ≡ true) (s : List ℕ) where
  -- the last field of a line, and one before others
  last_field : (i e j : ℕ) → Found (Field values) s i e → IsLine d is s e j → Stands values d s i (part s i (e - i) ∷ []) j
  last_field i e j f l =
      let x = part s i (e - i) in
      let long : length x ≡ e - i = length_part_in s i (e - i) (omega (arith, f.ahead, f.inside)) in
      let front : drop i s ≡ x ++ drop e s = is_part s i x (e - i) long e (omega (arith, f.ahead)) refl in
      record {
        each = and f.is none;
        some = omega arith;
        bytes = front ∙ rw (line_last, l.stands) (sym (append_assoc x (separator d true) (drop j s)));
        inside = l.inside;
        end = rw line_last (omega (arith, length-append x (separator d true), l.next, f.ahead));
      }

  more_fields : (i e j k : ℕ) (row : List (List ℕ)) → Found (Field values) s i e → IsField d is s e j → Stands values d s j row k
      → Stands values d s i (part s i (e - i) ∷ row) k
  more_fields i e j k [] f l r = absurd (omega (arith, r.some))
  more_fields i e j k (y ∷ ys) f l r =
      let x = part s i (e - i) in
      let long : length x ≡ e - i = length_part_in s i (e - i) (omega (arith, f.ahead, f.inside)) in
      let front : drop i s ≡ x ++ drop e s = is_part s i x (e - i) long e (omega (arith, f.ahead)) refl in
      record {
        each = and f.is r.each;
        some = omega arith;
        bytes = front ∙ rw (line_more, l.stands, r.bytes) (sym (append_assoc x (d ∷ line d (y ∷ ys)) (drop k s)));
        inside = r.inside;
        end = rw line_more (omega (arith, length-append x (d ∷ line d (y ∷ ys)), l.next, f.ahead, r.end));
      }

  pub row_found : (n i k m j : ℕ) → fields_from n values d s i k ≡ Some (m, j) → Row values d s i k m j
  unfolding fields_from
  row_found zero i k m j h = absurd (none-some _ h)
  row_found (suc n) i k m j h = go (field_at values s i) refl h (λ a. row_found n a (k + 1) m j)
    where
      then : (e : ℕ) → field_at values s i ≡ Some e → (q : Separator) → separator_at d s e ≡ q
          → on_separator q None (λ a. fields_from n values d s a (k + 1)) (λ a. Some (k + 1, a)) ≡ Some (m, j)
          → ((a : ℕ) → fields_from n values d s a (k + 1) ≡ Some (m, j) → Row values d s a (k + 1) m j) → Row values d s i k m j
      then e f (after.Field a) q x next =
          let r = next a x in
          record {
            row = part s i (e - i) ∷ r.row;
            many = omega (arith, r.many);
            stands = more_fields i e a j r.row (field_found values s i e f) (found_field d is s e a q) r.stands;
          }
      then e f (after.Line a) q x next =
          let b : a ≡ j = (some_pair_parts _ _ _ _ x).1 in
          let c : k + 1 ≡ m = (some_pair_parts _ _ _ _ x).0 in
          record {
            row = part s i (e - i) ∷ [];
            many = omega arith;
            stands = rw (← b) (last_field i e a (field_found values s i e f) (found_line d is s e a q));
          }
      then e f after.Neither q x next = absurd (none-some _ x)

      go : (f : Option ℕ) → field_at values s i ≡ f
          → on_field f None (λ e. on_separator (separator_at d s e) None (λ a. fields_from n values d s a (k + 1)) (λ a. Some (k + 1, a))) ≡ Some (m, j)
          → ((a : ℕ) → fields_from n values d s a (k + 1) ≡ Some (m, j) → Row values d s a (k + 1) m j) → Row values d s i k m j
      go None f x next = absurd (none-some _ x)
      go (Some e) f x next = then e f (separator_at d s e) refl x next

  -- ---- the other way

  others_stop : (xs : List (List ℕ)) (rest : List ℕ) → Stops (get_or (others d xs ++ rest) 0 0)
  unfolding others
  others_stop [] rest = end_stops
  others_stop (x ∷ xs) rest = delimiter_stops d is

  -- a field in front of what follows it
  pub field_in_line : (i : ℕ) (x : List ℕ) (xs : List (List ℕ)) (rest : List ℕ) → Field values x → drop i s ≡ line d (x ∷ xs) ++ rest
      → (field_at values s i ≡ Some (i + length x)) × (drop (i + length x) s ≡ others d xs ++ rest)
  unfolding line
  field_in_line i x xs rest f h =
      let stands : drop i s ≡ x ++ (others d xs ++ rest) = h ∙ append_assoc x (others d xs) rest in
      let next : drop (i + length x) s ≡ others d xs ++ rest = rest_is s i x (length x) refl (others d xs ++ rest) (i + length x) refl stands in
      let e : i + length x + 0 ≡ i + length x = omega arith in
      let byte : get_or (others d xs ++ rest) 0 0 ≡ get_or s (i + length x) 0 = ap (λ (l : List ℕ). get_or l 0 0) (sym next) ∙ rw e at
      (get_or-drop (i + length x) s 0 0) in
      (field_stands values s i x (others d xs ++ rest) stands (rw byte at (others_stop xs rest)) f, next)

  some_left : (i : ℕ) (x : ℕ) (xs : List ℕ) → drop i s ≡ x ∷ xs → i < length s
  some_left i x xs h = omega (arith, ap length h, length-drop i s)

  pub row_stands : (n i k : ℕ) (x : List ℕ) (xs : List (List ℕ)) (rest : List ℕ) → Each (Field values) (x ∷ xs) → drop i s ≡ line d (x ∷ xs) ++ rest
      → length s ≤ n + i → fields_from n values d s i k ≡ Some (k + length (x ∷ xs), i + length (line d (x ∷ xs)))
  unfolding fields_from others line
  row_stands zero i k x xs rest each h bound =
      absurd (omega (arith, ap length h, length-drop i s, length-append (line d (x ∷ xs)) rest, line_some d (x ∷ xs)))
  row_stands (suc n) i k x [] rest (and f none) h bound =
      let p = field_in_line i x [] rest f h in
      let e : i + length x + 2 ≡ i + length (line d (x ∷ [])) = omega (arith, length-append x (separator d true)) in
      rw (p.0, at_line d is s (i + length x) rest p.1, e)
  row_stands (suc n) i k x (y ∷ ys) rest (and f fs) h bound =
      let p = field_in_line i x (y ∷ ys) rest f h in
      let q : drop (i + length x + 1) s ≡ line d (y ∷ ys) ++ rest = rest_is s (i + length x) (d ∷ []) 1 refl (line d (y ∷ ys) ++ rest)
      (i + length x + 1) refl p.1 in
      let r = row_stands n (i + length x + 1) (k + 1) y ys rest fs q (omega arith) in
      let e : i + length x + 1 + length (line d (y ∷ ys)) ≡ i + length (line d (x ∷ (y ∷ ys))) = omega (arith, length-append x (d ∷ line d (y ∷ ys))) in
      let g : k + 1 + length (y ∷ ys) ≡ k + length (x ∷ (y ∷ ys)) = omega arith in
      rw (p.0, at_field d is s (i + length x) (line d (y ∷ ys) ++ rest) p.1, r, e, g)
