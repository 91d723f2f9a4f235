-- A number is found exactly where its bytes stand and neither a digit nor a point follows.
use Prim.Native.Nat.{ℕ, ◌+◌, ◌-◌, ◌≤◌, ◌<◌}
use mathlib.Core.Path.{◌≡◌, refl, sym, ◌∙◌, ap}
use mathlib.Core.Bool.{Bool, true, false, cond, ◌&&◌}
use mathlib.Core.List.{List, [], ◌∷◌, ◌++◌, append_assoc}
use native.Mathlib.Omega.{arith}
use borrow.Author.Tests.{eqb-true, eqb-false, eq-eqb, ne_eqb, ltb-true, ltb-false, lt-ltb, leb-true, le-leb}
use lib.Dec.{eqb, leb, ltb}
use lib.ListN.{length, get_or, drop, length-append}
use lib.Seq.{get_or-drop}
use Rattle.laws.proofs.Choose.{and_left, and_right}
use Rattle.counts.specs.Limits.{number_digits}
use Rattle.field.specs.Part.{part}
use Rattle.field.proofs.Parts.{head_at, rest_is}
use Rattle.decimal.specs.Digits.{all_digits}
use Rattle.number.specs.Number.{unsigned, Numeral}
use Rattle.scan.specs.Kinds.{is_digit}
use Rattle.scan.specs.Run.{run, run_end}
use Rattle.scan.proofs.Runs.{run_whole, run_stop, run_past, run_inside}
use Rattle.word.proofs.Alone.{run_none}
use Rattle.token.proofs.Ahead.{in_range_lem}
use Rattle.item.proofs.NumberTokens.{Some as SomeNumber, whole_number, pointed_number, signed_number}
use Rattle.item.proofs.NumeralTokens.{digit_each, first_digit, no_minus}
use Rattle.report.specs.Reading.{figures_at, numeral_at}
use Rattle.std.proofs.lemmas.Option.{none-some}
use Rattle.std.specs.declared.option.Option.TheVariants.{Some, None}

-- ---- found

-- a run of digits that goes on begins with one
first_of_run : (s : List ℕ) (d : ℕ) → (run_end is_digit s d ≡ d → ⊥) → is_digit (get_or s d 0) ≡ true
first_of_run s d n = go (is_digit (get_or s d 0)) refl (ltb d (length s)) refl
  where
    go : (t : Bool) → is_digit (get_or s d 0) ≡ t → (u : Bool) → ltb d (length s) ≡ u → is_digit (get_or s d 0) ≡ true
    go true e u l = e
    go false e true l = absurd (n (run_stop is_digit s d (ltb-true _ _ l) e))
    go false e false l = absurd (n (run_past is_digit s d (ltb-false _ _ l)))

pub record NumberFound (s : List ℕ) (i e : ℕ) (minus : Bool) : Type 0 where
  pub ahead : i < e
  pub inside : e ≤ length s
  pub is : SomeNumber (part s i (e - i)) minus

module _ (s : List ℕ) (d : ℕ) where
  abbrev m : ℕ
  m = run_end is_digit s d

  abbrev last : ℕ
  last = run_end is_digit s (m + 1)

  m_ahead : (m ≡ d → ⊥) → (d < m) × (m ≤ length s)
  unfolding run_end
  m_ahead n =
      let room = in_range_lem s d is_digit d refl (first_of_run s d n) in
      let some : run is_digit (drop d s) ≡ 0 → ⊥ = λ z. n (omega arith) in
      (omega arith, run_inside is_digit s d (omega arith))

  pointed : (e : ℕ) → (m ≡ d → ⊥) → get_or s m 0 ≡ 46 → (ltb (m + 1) last && leb last (d + number_digits + 1)) ≡ true → last ≡ e → NumberFound s d e false
  pointed e n point t j =
      let more : m + 1 < last = ltb-true _ _ (and_left (ltb (m + 1) last) (leb last (d + number_digits + 1)) t) in
      let few : last ≤ d + number_digits + 1 = leb-true _ _ (and_right (ltb (m + 1) last) (leb last (d + number_digits + 1)) t) in
      let here : m < length s = in_range_lem s d (λ b. eqb b 46) m refl (eq-eqb _ 46 point) in
      let room : last ≤ length s = run_inside is_digit s (m + 1) (omega arith) in
      rw (← j)
      (record {
        ahead = omega (arith, m_ahead n);
        inside = room;
        is = pointed_number s d m last (first_of_run s d n) room refl point (first_of_run s (m + 1) (λ z. omega arith)) refl few;
      })

  whole : (e : ℕ) → (m ≡ d → ⊥) → m ≤ d + number_digits → m ≡ e → NumberFound s d e false
  whole e n few j =
      let a = m_ahead n in
      rw (← j) (record { ahead = a.0; inside = a.1; is = whole_number s d m (first_of_run s d n) a.1 refl few })

  figures_found : (e : ℕ) → figures_at s d ≡ Some e → NumberFound s d e false
  unfolding figures_at
  figures_found e h =
      go (eqb m d) refl (eqb (get_or s m 0) 46) refl (ltb (m + 1) last && leb last (d + number_digits + 1)) refl (leb m (d + number_digits)) refl h
    where
      go : (a : Bool) → eqb m d ≡ a → (b : Bool) → eqb (get_or s m 0) 46 ≡ b → (t : Bool) → (ltb (m + 1) last && leb last (d + number_digits + 1)) ≡ t
          → (u : Bool) → leb m (d + number_digits) ≡ u
          → cond a None (cond b (cond t (Some last) None) (cond u (Some m) None)) ≡ Some e → NumberFound s d e false
      go true p b q t v u w x = absurd (none-some _ x)
      go false p true q true v u w x = pointed e (eqb-false m d p) (eqb-true _ 46 q) v (cc)
      go false p true q false v u w x = absurd (none-some _ x)
      go false p false q t v true w x = whole e (eqb-false m d p) (leb-true _ _ w) (cc)
      go false p false q t v false w x = absurd (none-some _ x)

pub numeral_found : (s : List ℕ) (i e : ℕ) → numeral_at s i ≡ Some e → (minus : Bool) × NumberFound s i e minus
unfolding numeral_at
numeral_found s i e h = go (eqb (get_or s i 0) 45) refl h
  where
    go : (t : Bool) → eqb (get_or s i 0) 45 ≡ t → cond t (figures_at s (i + 1)) (figures_at s i) ≡ Some e → (minus : Bool) × NumberFound s i e minus
    go false q x = (false, figures_found s i e x)
    go true q x =
        let f = figures_found s (i + 1) e x in (
          true,
          record {
            ahead = omega (arith, f.ahead);
            inside = f.inside;
            is = signed_number s i e (eqb-true _ 45 q) (omega (arith, f.ahead)) f.inside f.is;
          },
        )

-- ---- standing

module _ (s : List ℕ) (b : ℕ) (no_digit : is_digit (get_or s b 0) ≡ false) (no_point : get_or s b 0 ≡ 46 → ⊥) where
  module _ (d : ℕ) (w : List ℕ) (digits : all_digits w ≡ true) (some : 1 ≤ length w) where
    ends : (d : ℕ) (ds rest : List ℕ) → all_digits ds ≡ true → drop d s ≡ ds ++ rest → d + length ds ≡ b → run_end is_digit s d ≡ b
    unfolding run_end
    ends d ds rest h stands e =
        let next : drop b s ≡ rest = rest_is s d ds (length ds) refl rest b (sym e) stands in
        let z : b + 0 ≡ b = omega arith in
        let byte : get_or rest 0 0 ≡ get_or s b 0 = ap (λ (l : List ℕ). get_or l 0 0) (sym next) ∙ rw z at (get_or-drop b s 0 0) in
        rw (stands, run_whole is_digit ds rest (digit_each ds h) (run_none is_digit rest (rw byte no_digit))) e

    figures_stand : (f rest : List ℕ) → all_digits f ≡ true → length w + length f ≤ 16 → drop d s ≡ unsigned w f ++ rest → d + length (unsigned w f) ≡ b
        → figures_at s d ≡ Some b
    unfolding figures_at run_end run
    figures_stand [] rest h few stands e =
        rw (ends d w rest digits stands e, ne_eqb b d (λ q. omega arith), ne_eqb (get_or s b 0) 46 no_point, le-leb b (d + number_digits) (omega arith))
    figures_stand (x ∷ f) rest h few stands e =
        let point : drop d s ≡ w ++ (46 ∷ ((x ∷ f) ++ rest)) = stands ∙ append_assoc w (46 ∷ (x ∷ f)) rest in
        let mid : run_end is_digit s d ≡ d + length w = middle (46 ∷ ((x ∷ f) ++ rest)) point refl in
        let here : drop (d + length w) s ≡ 46 ∷ ((x ∷ f) ++ rest) = rest_is s d w (length w) refl (46 ∷ ((x ∷ f) ++ rest)) (d + length w) refl point in
        let after : drop (d + length w + 1) s ≡ (x ∷ f) ++ rest = rest_is s (d + length w) (46 ∷ []) 1 refl ((x ∷ f) ++ rest) (d + length w + 1) refl here in
        let long : d + length w + 1 + length (x ∷ f) ≡ b = omega (arith, length-append w (46 ∷ (x ∷ f))) in
        rw (
          mid,
          ne_eqb (d + length w) d (λ q. omega arith),
          eq-eqb (get_or s (d + length w) 0) 46 (head_at s (d + length w) 46 ((x ∷ f) ++ rest) here),
          ends (d + length w + 1) (x ∷ f) rest h after long,
          lt-ltb (d + length w + 1) b (omega arith),
          le-leb b (d + number_digits + 1) (omega arith),
        )
      where
        middle : (ys : List ℕ) → drop d s ≡ w ++ ys → run is_digit ys ≡ 0 → run_end is_digit s d ≡ d + length w
        middle ys q z = rw (q, run_whole is_digit w ys (digit_each w digits) z)

  pub numeral_stands : (i : ℕ) (x rest : List ℕ) (minus : Bool) (w f : List ℕ) → Numeral x minus w f → drop i s ≡ x ++ rest → i + length x ≡ b
      → numeral_at s i ≡ Some b
  unfolding numeral_at
  numeral_stands i x rest false w f n stands e =
      let bytes : drop i s ≡ unsigned w f ++ rest = stands ∙ ap (λ (l : List ℕ). l ++ rest) n.bytes in
      rw (no_minus (get_or s i 0) (first_digit s i w f rest n.whole n.some bytes))
      (figures_stand i w n.whole n.some f rest n.after n.few bytes (omega (arith, ap length n.bytes)))
  numeral_stands i x rest true w f n stands e =
      let bytes : drop i s ≡ 45 ∷ (unsigned w f ++ rest) = stands ∙ ap (λ (l : List ℕ). l ++ rest) n.bytes in
      rw (eq-eqb (get_or s i 0) 45 (head_at s i 45 (unsigned w f ++ rest) bytes))
      (figures_stand (i + 1) w n.whole n.some f rest n.after n.few (rest_is s i (45 ∷ []) 1 refl (unsigned w f ++ rest) (i + 1) refl bytes)
      (omega (arith, ap length n.bytes)))
