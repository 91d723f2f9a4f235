-- Strings that are none: what the bytes after an opening quote meet first, in document 02's words, is why no string stands there, and nothing else.
use Prim.Native.Nat.{ℕ, suc, ◌+◌, ◌-◌, ◌≤◌, ◌<◌}
use mathlib.Core.Path.{◌≡◌, refl, sym, ◌∙◌, ap}
use mathlib.Core.Bool.{Bool, true, false, true≢false, ◌&&◌}
use mathlib.Core.List.{List, [], ◌∷◌, ◌++◌, append-nil, Memᴰ}
use mathlib.Core.Logic.{◌⊎◌, inl, inr, ⊎_elim}
use native.Mathlib.Numerals.{add-one}
use native.Mathlib.Omega.{arith}
use borrow.Author.Tests.{lt-ltb, leb-true, leb-false, eq-eqb}
use lib.Dec.{eqb, leb}
use lib.ListN.{length, get_or, take, drop, length-take, length-drop, length-append, take-append-drop, get_or-eq_default}
use lib.Seq.{drop-cons, drop-drop, get_or-drop, get_or-append_seam, take-length}
use Rattle.laws.proofs.Choose.{and_left, and_right}
use Rattle.counts.specs.Limits.{text_bytes}
use Rattle.field.proofs.Parts.{head_at}
use Rattle.scan.specs.Kinds.{is_text_byte}
use Rattle.scan.specs.Run.{run, run_end}
use Rattle.scan.proofs.Runs.{run_fits, run_first, run_ends, run_over, run_whole}
use Rattle.word.proofs.Alone.{run_none}
use Rattle.token.specs.Token.{ContentByte, content_end, content_fits, is_text_at, string_at, token_at}
use Rattle.token.specs.declared.Why.TheVariants.{OpenString, BrokenString}
use Rattle.token.specs.declared.Token.TheVariants.{NoToken}
use Rattle.token.proofs.Ahead.{in_range_lem}
use Rattle.token.proofs.Strings as token
use Rattle.token.proofs.Whole.{text_byte, byte_text}
use Rattle.item.specs.NoToken.{StringMeetsEnd, Forbidden, StringBreaks}

-- a byte of no string that is not the quote
forbidden : (b : ℕ) → is_text_byte b ≡ false → (b ≡ 34 → ⊥) → Forbidden b
forbidden b e n = go (leb 32 b) (leb b 254) refl refl
  where
    go : (x y : Bool) → leb 32 b ≡ x → leb b 254 ≡ y → Forbidden b
    go false y p q = inl (leb-false 32 b p)
    go true false p q = inr (leb-false b 254 q)
    go true true p q = absurd (true≢false (sym (byte_text b (leb-true 32 b p, leb-true b 254 q, n)) ∙ e))

not_text : (b : ℕ) → Forbidden b → is_text_byte b ≡ false
not_text b f = go (is_text_byte b) refl
  where
    go : (t : Bool) → is_text_byte b ≡ t → is_text_byte b ≡ false
    go true e = let c = text_byte b e in absurd (⊎_elim (λ l. omega (arith, c.0)) (λ l. omega (arith, c.1)) f)
    go false e = e

-- content bytes alone are a whole run
all_text : (c : List ℕ) → ((b : ℕ) → Memᴰ b c → ContentByte b) → run is_text_byte c ≡ length c
unfolding run
all_text c each = ap (run is_text_byte) (sym (append-nil c)) ∙ run_whole is_text_byte c [] (λ b m. byte_text b (each b m)) refl

module _ (s : List ℕ) (i : ℕ) where
  -- the bytes after the opening quote
  abbrev rest : List ℕ
  rest = drop (i + 1) s

  abbrev many : ℕ
  many = run is_text_byte rest

  -- the string that begins at i, by what stands after its quote
  module _ (inside : i < length s) (quote : get_or s i 0 ≡ 34) where
    opens : drop i s ≡ 34 ∷ rest
    opens = drop-cons s i 0 inside ∙ rw (quote, ← add-one i)

    rest_length : length rest ≡ length s - (i + 1)
    rest_length = length-drop (i + 1) s

    -- its content runs to the end of the file
    to_end : many ≤ 255 → length s ≤ i + 1 + many → StringMeetsEnd s i
    to_end few past =
        let all : many ≡ length rest = omega (arith, run_fits is_text_byte rest, rest_length) in
        record {
          content = rest;
          stands = opens;
          few = omega arith;
          each = λ b m. text_byte b (run_first is_text_byte rest (length rest) (omega arith) b (rw take-length m));
        }

    -- n content bytes, and one byte more
    met_after : (n : ℕ) → n ≤ many → n < length rest → n ≤ 255 → Forbidden (get_or rest n 0) ⊎ (ContentByte (get_or rest n 0) × (n ≡ 255)) → StringBreaks s i
    met_after n within more few first =
        let long : length (take n rest) ≡ n = omega (arith, length-take n rest) in
        record {
          content = take n rest;
          met = get_or rest n 0;
          after = drop (suc n) rest;
          stands = opens ∙ ap (λ (l : List ℕ). 34 ∷ l)
              (sym (take-append-drop n rest) ∙ ap (λ (l : List ℕ). take n rest ++ l) (drop-cons rest n 0 more));
          few = omega arith;
          each = λ b m. text_byte b (run_first is_text_byte rest n within b m);
          first = ⊎_elim (λ f. inl f) (λ c. inr (c.0, long ∙ c.1)) first;
        }

    -- the byte after n bytes of a longer run is of the run
    goes_on : (n : ℕ) → n < many → ContentByte (get_or rest n 0)
    goes_on n more = text_byte (get_or rest n 0) (go (is_text_byte (get_or rest n 0)) refl)
      where
        ends_there : is_text_byte (get_or rest n 0) ≡ false → many ≡ n
        ends_there e =
            let first : get_or (drop n rest) 0 0 ≡ get_or rest n 0 = get_or-drop n rest 0 0 ∙ ap (λ (k : ℕ). get_or rest k 0) (omega arith) in
            let none : run is_text_byte (drop n rest) ≡ 0 = run_none is_text_byte (drop n rest) (ap is_text_byte first ∙ e) in
            let over = run_over is_text_byte (take n rest) (drop n rest) (run_first is_text_byte rest n (omega arith)) in
            let long : length (take n rest) ≡ n = omega (arith, length-take n rest, run_fits is_text_byte rest) in
            ap (run is_text_byte) (sym (take-append-drop n rest)) ∙ omega arith

        go : (t : Bool) → is_text_byte (get_or rest n 0) ≡ t → t ≡ true
        go true e = refl
        go false e = absurd (omega (arith, ends_there e))

    -- a content that is too long, or that ends before the file does
    too_long : 255 < many → StringBreaks s i
    too_long long = met_after 255 (omega arith) (omega (arith, run_fits is_text_byte rest)) (omega arith) (inr (goes_on 255 long, refl))

    stopped : many ≤ 255 → i + 1 + many < length s → (get_or s (content_end s i) 0 ≡ 34 → ⊥) → StringBreaks s i
    unfolding run_end
    stopped few before no_quote =
        let end : get_or rest many 0 ≡ get_or s (i + 1 + many) 0 = get_or-drop (i + 1) s many 0 in
        met_after many (omega arith) (omega (arith, rest_length)) few
        (inl (forbidden (get_or rest many 0) (run_ends is_text_byte refl rest) (λ e. no_quote (sym end ∙ e))))

    fits_is : content_fits s i ≡ leb many text_bytes
    unfolding run_end
    fits_is =
        let e : i + 1 + many - (i + 1) ≡ many = omega arith in
        ap (λ (n : ℕ). leb n text_bytes) e

    -- the two ways in which no string is found
    pub met_end : (content_fits s i && leb (length s) (content_end s i)) ≡ true → StringMeetsEnd s i
    unfolding run_end
    met_end e = to_end (leb-true many 255 (sym fits_is ∙ and_left _ _ e)) (leb-true (length s) (i + 1 + many) (and_right (content_fits s i) _ e))

    pub met_other : is_text_at s i ≡ false → (content_fits s i && leb (length s) (content_end s i)) ≡ false → StringBreaks s i
    unfolding is_text_at run_end
    met_other t = go (content_fits s i) (leb (length s) (content_end s i)) refl refl
      where
        go : (a b : Bool) → content_fits s i ≡ a → leb (length s) (content_end s i) ≡ b → (a && b) ≡ false → StringBreaks s i
        go false b p q e = too_long (leb-false many 255 (sym fits_is ∙ p))
        go true true p q e = absurd (true≢false e)
        go true false p q e =
            stopped (leb-true many 255 (sym fits_is ∙ p)) (leb-false (length s) (i + 1 + many) q)
            (λ c. true≢false (rw (eq-eqb _ 34 quote, p, eq-eqb _ 34 c) at t))

  -- a string, by its bytes
  module _ (tail : List ℕ) (stands : drop i s ≡ 34 ∷ tail) where
    quote_at : get_or s i 0 ≡ 34
    quote_at = head_at s i 34 tail stands

    inside_at : i < length s
    inside_at = in_range_lem s i (λ b. eqb b 34) i refl (eq-eqb _ _ quote_at)

    tail_is : rest ≡ tail
    tail_is = sym (drop-drop 1 i s) ∙ ap (λ (l : List ℕ). drop 1 l) stands

    by_quote : token_at s i ≡ string_at s i
    unfolding token_at
    by_quote = rw (lt-ltb _ _ inside_at, quote_at)

  pub is_open : StringMeetsEnd s i → token_at s i ≡ NoToken OpenString i
  unfolding run_end
  is_open r =
      let t = tail_is r.content r.stands in
      let q = quote_at r.content r.stands in
      let all : many ≡ length r.content = ap (run is_text_byte) t ∙ all_text r.content r.each in
      let long : length s - (i + 1) ≡ length r.content = sym (length-drop (i + 1) s) ∙ ap length t in
      let past : length s ≤ i + 1 + many = omega arith in
      let end : get_or s (i + 1 + many) 0 ≡ 0 = get_or-eq_default s 0 past in
      by_quote r.content r.stands ∙ sym (token.unclosed s i (i + 1 + many) 0 q refl (omega (arith, r.few)) (sym end) (λ e. omega arith) past)

  module _ (r : StringBreaks s i) where
    abbrev tail : List ℕ
    tail = r.content ++ (r.met ∷ r.after)

    over : many ≡ length r.content + run is_text_byte (r.met ∷ r.after)
    over = ap (run is_text_byte) (tail_is tail r.stands) ∙ run_over is_text_byte r.content (r.met ∷ r.after) (λ b m. byte_text b (r.each b m))

    at_forbidden : Forbidden r.met → NoToken BrokenString i ≡ string_at s i
    unfolding run run_end
    at_forbidden f =
        let none : run is_text_byte (r.met ∷ r.after) ≡ 0 = rw (run, not_text r.met f) in
        let all : many ≡ length r.content = omega (arith, over) in
        let met : get_or s (i + 1 + many) 0 ≡ r.met =
        sym (get_or-drop (i + 1) s many 0)
        ∙ ap (λ (l : List ℕ). get_or l many 0) (tail_is tail r.stands) ∙ rw all (get_or-append_seam r.content r.met r.after 0)
        in
        let long : length rest ≡ length r.content + suc (length r.after) =
        ap length (tail_is tail r.stands) ∙ length-append r.content (r.met ∷ r.after)
        in
        token.forbidden s i (i + 1 + many) r.met (quote_at tail r.stands) refl (omega (arith, r.few)) (sym met)
        (λ e. ⊎_elim (λ l. omega arith) (λ l. omega arith) f) (omega (arith, length-drop (i + 1) s))

    at_256th : ContentByte r.met × (length r.content ≡ 255) → NoToken BrokenString i ≡ string_at s i
    unfolding run run_end
    at_256th c =
        let more : run is_text_byte (r.met ∷ r.after) ≡ suc (run is_text_byte r.after) = rw (run, byte_text r.met c.0) in
        token.long s i (i + 1 + many) 0 (quote_at tail r.stands) refl (omega (arith, over))

    pub is_broken : token_at s i ≡ NoToken BrokenString i
    is_broken = by_quote tail r.stands ∙ sym (⊎_elim at_forbidden at_256th r.first)

-- ---- "meets .. first": 255 content bytes and then the end, 256 and then the end, and 255 and then a forbidden byte

module _ (c : List ℕ) (each : (b : ℕ) → Memᴰ b c → ContentByte b) where
  pub end_after_255 : length c ≡ 255 → token_at (34 ∷ c) 0 ≡ NoToken OpenString 0
  end_after_255 long = is_open (34 ∷ c) 0 (record { content = c; stands = refl; few = omega arith; each = each })

  pub forbidden_after_255 : length c ≡ 255 → (met : ℕ) → Forbidden met → (after : List ℕ) → token_at (34 ∷ (c ++ (met ∷ after))) 0 ≡ NoToken BrokenString 0
  forbidden_after_255 long met f after = is_broken (34 ∷ (c ++ (met ∷ after))) 0
      (record { content = c; met = met; after = after; stands = refl; few = omega arith; each = each; first = inl f })

  pub end_after_256 : length c ≡ 256 → token_at (34 ∷ c) 0 ≡ NoToken BrokenString 0
  end_after_256 long = is_broken (34 ∷ c) 0 (too_long (34 ∷ c) 0 (omega arith) refl (omega (arith, all_text c each)))
