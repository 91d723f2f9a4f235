-- A name or a value is found in a file exactly where its bytes stand and a byte follows that goes on with neither.
use Prim.Native.Nat.{ℕ, ◌+◌, ◌-◌, ◌≤◌, ◌<◌}
use mathlib.Core.Path.{◌≡◌, refl, sym, ◌∙◌, ap}
use mathlib.Core.Bool.{Bool, true, false, false≢true, cond}
use mathlib.Core.List.{List, [], ◌∷◌, ◌++◌, append_assoc}
use native.Mathlib.Omega.{arith}
use borrow.Author.Tests.{eq-eqb, ne_eqb}
use lib.Dec.{eqb}
use lib.ListN.{length, get_or, drop, length-append, length-drop, get_or-eq_default}
use Rattle.field.specs.Part.{part}
use Rattle.field.proofs.Parts.{head_at, part_is}
use Rattle.scan.specs.Kinds.{is_digit, is_letter, is_word_byte}
use Rattle.scan.proofs.Runs.{run_stop, run_past}
use Rattle.word.specs.Word.{WordRead, is_name, word_read}
use Rattle.word.specs.declared.Word.{Word}
use Rattle.word.specs.declared.Word.TheVariants.{Job, Response, Upload, Download, GetInfo, Abort, Report, Event, Start, Active, Immediate, Other, Name as name, TimeGe}
use Rattle.word.proofs.Words.{ends_after}
use Rattle.word.proofs.Alone.{name_goes_on, name_alone}
use Rattle.token.specs.Token.{WholeString, content_end, is_text_at, content_at}
use Rattle.token.proofs.Ahead.{in_range_lem}
use Rattle.token.proofs.Whole.{whole_string_exactly, end_of}
use Rattle.number.specs.Number.{unsigned, Numeral}
use Rattle.number.proofs.Digits.{first_byte}
use Rattle.item.proofs.NumeralTokens.{digit_range, first_digit, no_letter, some_bytes}
use Rattle.delimited.specs.Lines.{is_delimiter}
use Rattle.delimited.proofs.Lines.{of_four}
use Rattle.report.specs.Report.{Name, Value, number, string}
use Rattle.report.specs.Reading.{name_of, name_at, figures_at, numeral_at, string_end, value_at, field_at, cell_at}
use Rattle.std.proofs.lemmas.Option.{none-some}
use Rattle.std.specs.declared.option.Option.TheVariants.{Some, None}
use Rattle.report.proofs.Numbers.{numeral_found, numeral_stands}

-- ---- what goes on with no word and no number

pub record Stops (y : ℕ) : Type 0 where
  pub word : is_word_byte y ≡ false
  pub sign : y ≡ 62 → ⊥
  pub digit : is_digit y ≡ false
  pub point : y ≡ 46 → ⊥

-- past the end of the file, at CR, at a delimiter
pub nothing_stops : Stops 0
nothing_stops = record { word = refl; sign = λ e. omega arith; digit = refl; point = λ e. omega arith }

pub end_stops : Stops 13
end_stops = record { word = refl; sign = λ e. omega arith; digit = refl; point = λ e. omega arith }

pub delimiter_stops : (d : ℕ) → is_delimiter d ≡ true → Stops d
delimiter_stops =
    of_four Stops
    (record { word = refl; sign = λ e. omega arith; digit = refl; point = λ e. omega arith })
    (record { word = refl; sign = λ e. omega arith; digit = refl; point = λ e. omega arith })
    (record { word = refl; sign = λ e. omega arith; digit = refl; point = λ e. omega arith })
    (record { word = refl; sign = λ e. omega arith; digit = refl; point = λ e. omega arith })

-- ---- a field that is found

pub record Found (P : List ℕ → Type 0) (s : List ℕ) (i e : ℕ) : Type 0 where
  pub ahead : i < e
  pub inside : e ≤ length s
  pub is : P (part s i (e - i))

-- the only word that is a name
the_name : (w : Word) → is_name w ≡ true → w ≡ name
the_name Job h = absurd (false≢true h)
the_name Response h = absurd (false≢true h)
the_name Upload h = absurd (false≢true h)
the_name Download h = absurd (false≢true h)
the_name GetInfo h = absurd (false≢true h)
the_name Abort h = absurd (false≢true h)
the_name Report h = absurd (false≢true h)
the_name Event h = absurd (false≢true h)
the_name Start h = absurd (false≢true h)
the_name Active h = absurd (false≢true h)
the_name Immediate h = absurd (false≢true h)
the_name Other h = absurd (false≢true h)
the_name name h = refl
the_name TimeGe h = absurd (false≢true h)

module _ (s : List ℕ) (i : ℕ) where
  name_found : (e : ℕ) → name_at s i ≡ Some e → Found Name s i e
  unfolding name_at
  name_found e h = go (is_letter (get_or s i 0)) refl (word_read s i) refl h
    where
      of_word : is_letter (get_or s i 0) ≡ true → (w : Word) (b : ℕ) → word_read s i ≡ Some (w, b) → (t : Bool) → is_name w ≡ t → cond t (Some b) None ≡ Some e
          → Found Name s i e
      of_word l w b r false n x = absurd (none-some _ x)
      of_word l w b r true n x =
          let j : b ≡ e = cc in
          let k : word_read s i ≡ Some (name, e) = r ∙ rw (the_name w n, j) in
          let room = in_range_lem s i is_letter i refl l in
          let bounds : (i < e) × (e ≤ length s) = rw k at (ends_after s i room l) in
          record {
            ahead = bounds.0;
            inside = bounds.1;
            is = record { letter = rw (first_byte s i (e - i) (omega arith) (omega arith)) l; word = name_alone s i e k };
          }

      go : (t : Bool) → is_letter (get_or s i 0) ≡ t → (r : WordRead) → word_read s i ≡ r → cond t (name_of r) None ≡ Some e → Found Name s i e
      go false l r q x = absurd (none-some _ x)
      go true l None q x = absurd (none-some _ x)
      go true l (Some (w, b)) q x = of_word l w b q (is_name w) refl x

  string_found : (e : ℕ) → string_end s i ≡ Some e → Found Value s i e
  unfolding string_end
  string_found e h = go (is_text_at s i) refl h
    where
      a_string : is_text_at s i ≡ true → content_end s i + 1 ≡ e → Found Value s i e
      a_string t j =
          let c = content_at s i in
          let w = (whole_string_exactly s i c).1 (t, refl) in
          let end : e ≡ i + length c + 2 = sym j ∙ end_of s i t in
          let split : drop i s ≡ (34 ∷ (c ++ (34 ∷ []))) ++ w.after = w.stands ∙ ap (λ (l : List ℕ). 34 ∷ l) (sym (append_assoc c (34 ∷ []) w.after)) in
          let long : length (34 ∷ (c ++ (34 ∷ []))) ≡ e - i = omega (arith, length-append c (34 ∷ []), end) in
          record {
            ahead = omega (arith, end);
            inside = omega (arith, end, length-append c (34 ∷ []), simp (length-append, length-drop) at (ap length split));
            is = rw (part_is s i (34 ∷ (c ++ (34 ∷ []))) (e - i) long w.after split)
                (string (record { after = []; stands = refl; few = w.few; each = w.each }) refl);
          }

      go : (t : Bool) → is_text_at s i ≡ t → cond t (Some (content_end s i + 1)) None ≡ Some e → Found Value s i e
      go true t x = a_string t (cc)
      go false t x = absurd (none-some _ x)

  value_found : (e : ℕ) → value_at s i ≡ Some e → Found Value s i e
  unfolding value_at
  value_found e h = go (eqb (get_or s i 0) 34) h
    where
      go : (t : Bool) → cond t (string_end s i) (numeral_at s i) ≡ Some e → Found Value s i e
      go true x = string_found e x
      go false x =
          let f = (numeral_found s i e x).1 in
          record { ahead = f.ahead; inside = f.inside; is = number f.is.numeral }

  -- ---- and one that stands there

  module _ (x rest : List ℕ) (stands : drop i s ≡ x ++ rest) (stops : Stops (get_or s (i + length x) 0)) where
    room : 1 ≤ length x → i + length x ≤ length s
    room some = omega (arith, simp (length-append, length-drop) at (ap length stands))

    name_stands : Name x → name_at s i ≡ Some (i + length x)
    unfolding name_at
    name_stands n =
        rw (first_here x rest stands n.letter, name_goes_on s i x rest n.word stands stops.word stops.sign)
      where
        first_here : (x rest : List ℕ) → drop i s ≡ x ++ rest → is_letter (get_or x 0 0) ≡ true → is_letter (get_or s i 0) ≡ true
        first_here [] rest h l = absurd (false≢true l)
        first_here (y ∷ x) rest h l = rw (head_at s i y (x ++ rest) h) l

    string_stands : {c : List ℕ} → (w : WholeString x 0 c) → w.after ≡ [] → value_at s i ≡ Some (i + length x)
    unfolding value_at string_end
    string_stands {c} w last =
        let is : x ≡ 34 ∷ (c ++ (34 ∷ [])) = w.stands ∙ rw last in
        let here : drop i s ≡ 34 ∷ (c ++ (34 ∷ rest)) = stands ∙ rw is (ap (λ (l : List ℕ). 34 ∷ l) (append_assoc c (34 ∷ []) rest)) in
        let t = (whole_string_exactly s i c).0 (record { after = rest; stands = here; few = w.few; each = w.each }) in
        let long : length x ≡ length c + 2 = rw is (omega (arith, length-append c (34 ∷ []))) in
        let end : content_end s i + 1 ≡ i + length x = end_of s i t.0 ∙ rw t.1 (omega arith) in
        rw (eq-eqb (get_or s i 0) 34 (head_at s i 34 (c ++ (34 ∷ rest)) here), t.0, end)

    number_stands : {minus : Bool} {w f : List ℕ} → Numeral x minus w f → value_at s i ≡ Some (i + length x)
    unfolding value_at
    number_stands {minus} {w} {f} n =
        rw (ne_eqb (get_or s i 0) 34 (no_quote minus w f n))
        (numeral_stands s (i + length x) stops.digit stops.point i x rest minus w f n stands refl)
      where
        no_quote : (minus : Bool) (w f : List ℕ) → Numeral x minus w f → get_or s i 0 ≡ 34 → ⊥
        no_quote false w f n q =
            let d = first_digit s i w f rest n.whole n.some (stands ∙ ap (λ (l : List ℕ). l ++ rest) n.bytes) in
            omega (arith, digit_range (get_or s i 0) d)
        no_quote true w f n q =
            omega (arith, head_at s i 45 (unsigned w f ++ rest) (stands ∙ ap (λ (l : List ℕ). l ++ rest) n.bytes))

    value_stands : Value x → value_at s i ≡ Some (i + length x)
    value_stands (number n) = number_stands n
    value_stands (string w last) = string_stands w last

-- ---- names and values alike

abbrev pub Field : Bool → List ℕ → Type 0
Field true = Value
Field false = Name

pub field_some : (values : Bool) (x : List ℕ) → Field values x → 1 ≤ length x
field_some false [] n = absurd (false≢true n.letter)
field_some true [] v = absurd (no_value v)
  where
    no_value : Value [] → ⊥
    no_value (number {minus = minus} {whole = w} {after = f} n) = omega (arith, ap length n.bytes, some_bytes minus w f n.some)
    no_value (string w last) = omega (arith, ap length w.stands)
field_some false (y ∷ x) n = omega arith
field_some true (y ∷ x) v = omega arith

pub field_found : (values : Bool) (s : List ℕ) (i e : ℕ) → field_at values s i ≡ Some e → Found (Field values) s i e
unfolding field_at
field_found true s i e h = value_found s i e h
field_found false s i e h = name_found s i e h

pub field_stands : (values : Bool) (s : List ℕ) (i : ℕ) (x rest : List ℕ) → drop i s ≡ x ++ rest → Stops (get_or s (i + length x) 0) → Field values x
    → field_at values s i ≡ Some (i + length x)
unfolding field_at
field_stands true s i x rest stands stops v = value_stands s i x rest stands stops v
field_stands false s i x rest stands stops n = name_stands s i x rest stands stops n

-- no value begins with a letter
letter_no_value : (s : List ℕ) (i : ℕ) → is_letter (get_or s i 0) ≡ true → value_at s i ≡ None
unfolding value_at numeral_at figures_at
letter_no_value s i l =
    rw (
      ne_eqb (get_or s i 0) 34 (λ q. false≢true (rw q at l)),
      ne_eqb (get_or s i 0) 45 (λ q. false≢true (rw q at l)),
      run_stop is_digit s i (in_range_lem s i is_letter i refl l) (no_digit (is_digit (get_or s i 0)) refl),
      eq-eqb i i refl,
    )
  where
    no_digit : (t : Bool) → is_digit (get_or s i 0) ≡ t → is_digit (get_or s i 0) ≡ false
    no_digit false e = e
    no_digit true e = absurd (false≢true (sym (no_letter (get_or s i 0) e) ∙ l))

-- so a field is the cell that stands there
pub field_cell : (values : Bool) (s : List ℕ) (i e : ℕ) → field_at values s i ≡ Some e → cell_at s i ≡ Some e
unfolding field_at cell_at name_at
field_cell values s i e h = go values (is_letter (get_or s i 0)) refl h
  where
    go : (v t : Bool) → is_letter (get_or s i 0) ≡ t → cond v (value_at s i) (cond t (name_of (word_read s i)) None) ≡ Some e
        → cond t (cond t (name_of (word_read s i)) None) (value_at s i) ≡ Some e
    go true false l x = x
    go true true l x = absurd (none-some _ (sym (letter_no_value s i l) ∙ x))
    go false true l x = x
    go false false l x = absurd (none-some _ x)

-- past the end stands none
pub no_value_past : (s : List ℕ) (i : ℕ) → length s ≤ i → value_at s i ≡ None
unfolding value_at numeral_at figures_at
no_value_past s i h = rw (get_or-eq_default s 0 h, run_past is_digit s i h, eq-eqb i i refl)

pub no_field_past : (values : Bool) (s : List ℕ) (i : ℕ) → length s ≤ i → field_at values s i ≡ None
unfolding field_at name_at
no_field_past true s i h = no_value_past s i h
no_field_past false s i h = rw (get_or-eq_default s 0 h)
