-- A missing start clause: the reader refuses the `;` that stands where one must begin, and a file that is legal where clauses may be missing is legal where
-- they must stand exactly when no UPLOAD or DOWNLOAD lacks its own.
use Prim.Native.Nat.{ℕ, ◌≤◌, ◌<◌}
use mathlib.Core.Path.{◌≡◌, refl, sym, ◌∙◌, ap, ap₂, subst}
use mathlib.Core.Bool.{Bool, true, false, true≢false, not, ◌||◌, ◌&&◌, cond}
use mathlib.Core.List.{List, [], ◌∷◌, ◌++◌, append_assoc, append-nil}
use mathlib.Core.Logic.{◌↔◌, ◌⊎◌, inl, inr}
use native.Mathlib.Omega.{arith}
use borrow.Author.Tests.{lt-ltb}
use lib.ListN.{length}
use Rattle.counts.specs.Limits.{statements}
use Rattle.counts.specs.Refusals.{unexpected, end_of_file}
use Rattle.counts.specs.Result.Result.{refused}
use Rattle.laws.proofs.Choose.{and_left, and_right}
use Rattle.grammar.specs.declared.StartClause.{StartClause}
use Rattle.grammar.specs.declared.StartClause.TheVariants.{Required, Optional}
use Rattle.grammar.specs.Grammar.{Class, Point, Edge, next, look, step, walk, is_class, is_point}
use Rattle.grammar.specs.Grammar.Class.{UPLOAD, DOWNLOAD, string, semicolon}
use Rattle.grammar.specs.Grammar.Point.{between, statement, move_file, move_start, done, dead}
use Rattle.grammar.specs.Statement as read
use Rattle.grammar.specs.Productions.{Placed, Is, Source, classes, File, Legal, Begins}
use Rattle.grammar.specs.Reading.{State, Last, opening, move, moves, read as reading}
use Rattle.grammar.specs.Reading.State.{on, refused_at}
use Rattle.grammar.specs.Reading.Last.{end}
use Rattle.grammar.specs.Rows.{Says}
use Rattle.grammar.specs.Rows.Says.{eighteen}
use Rattle.grammar.specs.Clauses as transfer
use Rattle.grammar.specs.Clauses.{Transfer, ClauseDue, LacksAfter, Lacks, FirstLacks}
use Rattle.grammar.proofs.Apart.{every, at_point}
use Rattle.grammar.proofs.Points.{source_walks}
use Rattle.grammar.proofs.Moves.{Moved, moved, moves_append, moves_refused, refused≢on}
use Rattle.grammar.proofs.Moves.Moved.{goes, begins}
use Rattle.grammar.proofs.Files.{file_read}
use Rattle.grammar.proofs.Viable.{start, on_begins, begins_on, shorter, stands_not}
use Rattle.grammar.proofs.Verdicts.{refused_read, has_one, not_open, reader_says}
use Rattle.grammar.proofs.Settings.{Lacking, file_parts}

-- ---- where the reader is after a transfer

pub transfer_leads : {clause : StartClause} {m : List Placed} → Transfer m → walk (statement clause) (classes m) ≡ move_start clause
transfer_leads {clause} (transfer.upload h i s) = rw (h, i) (source_walks s)
transfer_leads {clause} (transfer.download h i s) = rw (h, i) (source_walks s)

-- no statement begins at the point
abbrev within : Point → Bool
within q = not (is_point q (between Required) || is_point q (statement Required))

look_within : (c : Class) (es : List Edge) → every (λ (e : Edge). within e.to) es ≡ true → within (look c es) ≡ true
look_within c [] h = refl
look_within c (e ∷ es) h = go (is_class c e.class) (look_within c es (and_right (within e.to) _ h))
  where
    go : (b : Bool) → within (look c es) ≡ true → within (cond b e.to (look c es)) ≡ true
    go true later = and_left (within e.to) _ h
    go false later = later

step_within : (q : Point) (c : Class) → within (step q c) ≡ true
step_within q c = look_within c (next q) (at_point (λ (p : Point). every (λ (e : Edge). within e.to) (next p)) refl refl q)

-- and so no transfer
abbrev bars_transfers : Point → Bool
bars_transfers q = is_point (step q UPLOAD) dead && is_point (step q DOWNLOAD) dead

within_bars : (q : Point) → within q ≡ true → bars_transfers q ≡ true
within_bars q w = rw w at (at_point (λ (p : Point). not (within p) || bars_transfers p) refl refl q)

module _ (clause : StartClause) where
  stays_within : (l : List Placed) (q r : Point) (os rs : List ℕ) → within q ≡ true → moves clause (on q os) l ≡ on r rs → within r ≡ true
  stays_within [] q r os rs w e = let f : q ≡ r = cc in rw f at w
  stays_within (t ∷ l) q r os rs w e = go (λ p ps v d. stays_within l p r ps rs v d) (move clause (on q os) t) (moved clause q os t) e
    where
      go : ((p : Point) (ps : List ℕ) → within p ≡ true → moves clause (on p ps) l ≡ on r rs → within r ≡ true) → (s : State) → Moved clause q os t s
          → moves clause s l ≡ on r rs → within r ≡ true
      go later (on p ps) (goes n a) d = later p ps (step_within q t.class) d
      go later (on p ps) (begins n f a) d = later p ps (step_within (opening clause os) t.class) d
      go later (refused_at n p) m d = absurd (refused≢on (sym (moves_refused clause n p l) ∙ d))

  -- a transfer's keyword begins a statement
  opens : (k : Placed) → Is UPLOAD k ⊎ Is DOWNLOAD k → (q r : Point) (os rs : List ℕ) → within q ≡ true → Moved clause q os k (on r rs) → r ≡ move_file clause
  opens k (inl h) q r os rs w (goes n a) = absurd (true≢false (sym (and_left _ _ (within_bars q w)) ∙ rw h at a))
  opens k (inr h) q r os rs w (goes n a) = absurd (true≢false (sym (and_right (is_point (step q UPLOAD) dead) _ (within_bars q w)) ∙ rw h at a))
  opens k (inl h) q r [] rs w (begins n f a) = absurd (true≢false (rw h at a))
  opens k (inr h) q r [] rs w (begins n f a) = absurd (true≢false (rw h at a))
  opens k (inl h) q r (o ∷ os) rs w (begins n f a) = rw h
  opens k (inr h) q r (o ∷ os) rs w (begins n f a) = rw h

  after_source : (f t : Placed) {x : read.Source} (os : List ℕ) → Is string f → Source t x
      → moves clause (on (move_file clause) os) (f ∷ t ∷ []) ≡ on (move_start clause) os
  after_source f t os i s = rw (i, source_walks {clause = clause} s)

  after_keyword : (k f t : Placed) {x : read.Source} → Is UPLOAD k ⊎ Is DOWNLOAD k → Is string f → Source t x → (q r : Point) (os rs : List ℕ)
      → within q ≡ true → moves clause (on q os) (k ∷ f ∷ t ∷ []) ≡ on r rs → r ≡ move_start clause
  after_keyword k f t h i s q r os rs w e = go (move clause (on q os) k) (moved clause q os k) e
    where
      go : (v : State) → Moved clause q os k v → moves clause v (f ∷ t ∷ []) ≡ on r rs → r ≡ move_start clause
      go (on p ps) m d =
          let g : on (move_start clause) ps ≡ on r rs = sym (after_source f t ps i s) ∙ rw (opens k h q p os ps w m) at d in
          sym (cc)
      go (refused_at n p) m d = absurd (refused≢on (sym (moves_refused clause n p (f ∷ t ∷ [])) ∙ d))

  after_transfer : (m : List Placed) → Transfer m → (q r : Point) (os rs : List ℕ) → within q ≡ true → moves clause (on q os) m ≡ on r rs → r ≡ move_start clause
  after_transfer m (transfer.upload {k = k} {f = f} {t = t} h i s) = after_keyword k f t (inl h) i s
  after_transfer m (transfer.download {k = k} {f = f} {t = t} h i s) = after_keyword k f t (inr h) i s

  -- where a clause must begin the reader is at `move_start`
  pub at_clause : (a : List Placed) → ClauseDue a → Begins clause a → (rs : List ℕ) × moves clause start a ≡ on (move_start clause) rs
  at_clause a (b, m, t, p) v =
      let (q, os, e) = begins_on clause b (shorter clause b m (subst (Begins clause) p v)) in
      let (r, rs, f) = begins_on clause a v in
      let g : moves clause (on q os) m ≡ on r rs =
      ap (λ (s : State). moves clause s m) (sym e) ∙ sym (moves_append clause start b m) ∙ ap (moves clause start) (sym p) ∙ f in
      let h : r ≡ move_start clause = after_transfer m t q r os rs (stays_within b done q [] os refl e) g in
      (rs, f ∙ ap (λ (x : Point). on x rs) h)

  -- 18 where the file ends there, with either setting
  pub ends_there : (ts : List Placed) (p : ℕ) → ClauseDue ts → Begins clause ts → Says clause ts (end p) (refused end_of_file p)
  ends_there ts p d v =
      let (rs, e) = at_clause ts d v in
      eighteen (v, refl, not_open clause ts (move_start clause) rs e refl)

-- 4 at the ; that stands there, where the clause must stand
semicolon_refused : (rs : List ℕ) (e : Placed) → Is semicolon e → move Required (on (move_start Required) rs) e ≡ refused_at unexpected e.place
semicolon_refused rs e z = rw z

pub refused_there : (ts a : List Placed) (p : ℕ) (z : Last) → LacksAfter ts a p → Begins Required a → Says Required ts z (refused unexpected p)
refused_there ts a p z (e, h, i, d) v =
    let (rs, f) = at_clause Required a d v in
    let r : reading Required (a ++ (e ∷ h.after)) z ≡ refused unexpected e.place =
    refused_read Required a e h.after z (move_start Required) rs f unexpected e.place (semicolon_refused rs e i) in
    subst (Says Required ts z) (rw (h.parts, ← h.place) r) (reader_says Required ts z)

-- what is in order where clauses must stand lacks none
pub none_lacks : (a : List Placed) → Begins Required a → (p : ℕ) → ¬ Lacks a p
none_lacks a v p (b, (e, h, i, d)) =
    let w : Begins Required ((b ++ (e ∷ [])) ++ h.after) = rw (append_assoc b (e ∷ []) h.after) (subst (Begins Required) h.parts v) in
    let y : Begins Required (b ++ (e ∷ [])) = shorter Required (b ++ (e ∷ [])) h.after w in
    let (rs, f) = at_clause Required b d (shorter Required b (e ∷ []) y) in
    stands_not Required b e (move_start Required) rs f unexpected e.place (semicolon_refused rs e i) y

legal_begins : {ts : List Placed} {os : List ℕ} → Legal Required ts os → Begins Required ts
legal_begins {ts} {os} l = ([], os, subst (λ (k : List Placed). Legal Required k os) (sym (append-nil ts)) l)

-- ---- a transfer that lacks its clause, after statements that have theirs

module _ {ts : List Placed} {os : List ℕ} (few : length os ≤ statements) (l : Lacking (File Required) ts os) where
  abbrev up_to : List Placed
  up_to = l.before ++ l.opened

  -- its keyword begins one more statement
  begun : (o : ℕ) (rs : List ℕ) (k : Placed) → length (o ∷ rs) < statements → step (between Required) k.class ≡ move_file Required
      → move Required (on done (o ∷ rs)) k ≡ on (move_file Required) (o ∷ (rs ++ (k.place ∷ [])))
  begun o rs k n e = rw (lt-ltb _ _ n, e)

  then : (o : ℕ) (rs : List ℕ) (k f t : Placed) {x : read.Source} → moves Required start l.before ≡ on done (o ∷ rs)
      → move Required (on done (o ∷ rs)) k ≡ on (move_file Required) (o ∷ (rs ++ (k.place ∷ []))) → Is string f → Source t x
      → Begins Required (l.before ++ (k ∷ f ∷ t ∷ []))
  then o rs k f t e b i s =
      on_begins Required (l.before ++ (k ∷ f ∷ t ∷ [])) (move_start Required) (o ∷ (rs ++ (k.place ∷ [])))
      (moves_append Required start l.before (k ∷ f ∷ t ∷ [])
      ∙ ap (λ (v : State). moves Required v (k ∷ f ∷ t ∷ [])) e
      ∙ ap (λ (v : State). moves Required v (f ∷ t ∷ [])) b
      ∙ after_source Required f t (o ∷ (rs ++ (k.place ∷ []))) i s)

  in_order : Begins Required up_to
  in_order =
      let f = l.fewer in
      let n : length l.offsets ≤ statements = omega arith in
      let e : moves Required start l.before ≡ on done l.offsets = file_read Required l.whole n in
      let (o, rs, h) = has_one Required l.whole in
      let m : length l.offsets < statements = omega arith in
      let g : length (o ∷ rs) < statements = rw h at m in
      go o rs g (e ∙ ap (on done) h) l.transfer
    where
      go : (o : ℕ) (rs : List ℕ) → length (o ∷ rs) < statements → moves Required start l.before ≡ on done (o ∷ rs) → {m : List Placed} → Transfer m
          → Begins Required (l.before ++ m)
      go o rs n e (transfer.upload {k = k} {f = f} {t = t} h i s) = then o rs k f t e (begun o rs k n (rw h)) i s
      go o rs n e (transfer.download {k = k} {f = f} {t = t} h i s) = then o rs k f t e (begun o rs k n (rw h)) i s

  there : LacksAfter ts up_to l.last.place
  there = (
    l.last,
    record { after = l.after; parts = l.parts ∙ sym (append_assoc l.before l.opened _); place = refl },
    l.is_last,
    (l.before, l.opened, l.transfer, refl),
  )

  first_there : FirstLacks ts l.last.place
  first_there = (up_to, there, none_lacks up_to in_order)

-- two tokens of one list: the same, or one before the other
data Order (a : List Placed) (e : Placed) (b : List Placed) (d : Placed) : Type 0 where
  same : a ≡ b → e ≡ d → Order a e b d
  earlier : (m : List Placed) → b ≡ a ++ (e ∷ m) → Order a e b d
  later : (m : List Placed) → a ≡ b ++ (d ∷ m) → Order a e b d

order : (a : List Placed) (e : Placed) (r b : List Placed) (d : Placed) (s : List Placed) → a ++ (e ∷ r) ≡ b ++ (d ∷ s) → Order a e b d
order [] e r [] d s q = same refl (cc)
order [] e r (y ∷ b) d s q = let f : e ≡ y = cc in earlier b (ap (λ (x : Placed). x ∷ b) (sym f))
order (x ∷ a) e r [] d s q = let f : x ≡ d = cc in later a (ap (λ (z : Placed). z ∷ a) f)
order (x ∷ a) e r (y ∷ b) d s q = go (order a e r b d s (cc))
  where
    f : x ≡ y
    f = cc

    go : Order a e b d → Order (x ∷ a) e (y ∷ b) d
    go (same g h) = same (ap₂ (λ (u : Placed) (v : List Placed). u ∷ v) f g) h
    go (earlier m g) = earlier m (ap₂ (λ (u : Placed) (v : List Placed). u ∷ v) (sym f) g)
    go (later m g) = later m (ap₂ (λ (u : Placed) (v : List Placed). u ∷ v) f g)

-- there is one first
one_first : (ts : List Placed) (p q : ℕ) → FirstLacks ts p → FirstLacks ts q → p ≡ q
one_first ts p q (a, (e, h, i, d), none-a) (b, (f, k, j, c), none-b) = go (order a e h.after b f k.after (sym h.parts ∙ k.parts))
  where
    go : Order a e b f → p ≡ q
    go (same x y) = sym h.place ∙ ap (λ (t : Placed). t.place) y ∙ k.place
    go (earlier m x) = absurd (none-b e.place (a, (e, record { after = m; parts = x; place = refl }, i, d)))
    go (later m x) = absurd (none-a f.place (b, (f, record { after = m; parts = x; place = refl }, j, c)))

-- ---- a file that is legal where clauses may be missing

-- it is legal where they must stand, or one is the first that is missing
pub data Clauses (ts : List Placed) (os : List ℕ) : Type 0 where
  all_stand : Legal Required ts os → Clauses ts os
  one_lacks : (p : ℕ) → FirstLacks ts p → ((z : Last) → Says Required ts z (refused unexpected p)) → Clauses ts os

pub clauses : {ts : List Placed} {os : List ℕ} → Legal Optional ts os → Clauses ts os
clauses {ts} {os} v = go (file_parts v.file)
  where
    go : File Required ts os v.reads ⊎ Lacking (File Required) ts os → Clauses ts os
    go (inl f) = all_stand (record { reads = v.reads; file = f; few = v.few })
    go (inr l) =
        one_lacks l.last.place (first_there v.few l)
        (λ z. refused_there ts (up_to v.few l) l.last.place z (there v.few l) (in_order v.few l))

pub clause_is_all : {ts : List Placed} {os : List ℕ} → Legal Optional ts os → Legal Required ts os ↔ ((p : ℕ) → ¬ Lacks ts p)
clause_is_all {ts} {os} v = (λ l. none_lacks ts (legal_begins l), λ never. go never (clauses v))
  where
    go : ((p : ℕ) → ¬ Lacks ts p) → Clauses ts os → Legal Required ts os
    go never (all_stand l) = l
    go never (one_lacks p f r) = absurd (never p (f.0, f.1))

-- else it is refused there, whatever ends it
pub first_is_refused : {ts : List Placed} {os : List ℕ} → Legal Optional ts os → (p : ℕ) → FirstLacks ts p → (z : Last)
    → Says Required ts z (refused unexpected p)
first_is_refused {ts} {os} v p f z = go (clauses v)
  where
    go : Clauses ts os → Says Required ts z (refused unexpected p)
    go (all_stand l) = absurd (none_lacks ts (legal_begins l) p (f.0, f.1))
    go (one_lacks q g r) = subst (λ (x : ℕ). Says Required ts z (refused unexpected x)) (one_first ts q p g f) (r z)
