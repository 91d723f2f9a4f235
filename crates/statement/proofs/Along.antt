-- A statement's reading goes along the edges of the grammar's table: one law for a token, whatever the point, and one where no token stands.
use Prim.Native.Nat.{ℕ, zero, suc, ◌≤◌}
use mathlib.Core.Path.{◌≡◌, refl, sym, ◌∙◌, ap, ap₂}
use mathlib.Core.Bool.{Bool, true, false, true≢false, cond, not, ◌&&◌, ◌||◌, and-false}
use mathlib.Core.List.{List, [], ◌∷◌}
use native.Mathlib.Omega.{arith}
use borrow.Author.Tests.{ne_eqb}
use lib.Dec.{eqb}
use Rattle.laws.proofs.Choose.{and_left, and_right}
use Rattle.counts.specs.Refusals.{unexpected, not_real}
use Rattle.counts.specs.Result.Result.{refused, done as whole}
use Rattle.grammar.specs.declared.StartClause.{StartClause}
use Rattle.grammar.specs.Grammar.{Class, Point, Edge, Each, next, look, step, class_no, is_class, is_point, shape}
use Rattle.grammar.specs.Grammar.Class.{date, unreal_date, time, unreal_time}
use Rattle.grammar.specs.Grammar.Point.{statement, done, dead}
use Rattle.grammar.specs.Productions.{Placed}
use Rattle.grammar.specs.Reading.{no_token_number, end_number}
use Rattle.grammar.proofs.Apart.{is_class_lem, class_below, every, at_point}
use Rattle.token.specs.declared.Why.{Why}
use Rattle.item.specs.Tokens.{next_item}
use Rattle.item.specs.Tokens.Next.{item, ended, no_token_next}
use Rattle.item.specs.Items.{code_no, end_no, no_token_no, item_at}
use Rattle.item.specs.declared.Item.{Item}
use Rattle.item.proofs.Classes.{by_class}
use Rattle.item.proofs.Shows.{Shows, shows, no_token_numbers, token_number}
use Rattle.item.proofs.Shows.Shows.{a_token, the_end, no_token_here}
use Rattle.statement.specs.declared.Statement.{Statement}
use Rattle.statement.specs.Statement.{StatementRead, refuse, unexpected_at, otherwise, Begun, Held, Adds, adds, pick, on_item, or_whole, read_within, read_from, statement_of}

-- ---- 8 tokens are enough

-- from the point q on a statement has at most n tokens
abbrev deep : ℕ → Point → Bool
deep zero q = is_point q done
deep (suc n) q = is_point q done || every (λ (e : Edge). deep n e.to) (next q)

pub while_open : (A : Type 0) (b : Bool) (h : cond b Statement A) (at : ℕ) (x y : StatementRead) → (b ≡ false → x ≡ y) → or_whole A b h at x ≡ or_whole A b h at y
while_open A true h at x y e = refl
while_open A false h at x y e = e refl

not_whole : (A : Type 0) (b : Bool) (h : cond b Statement A) (at : ℕ) (x : StatementRead) → b ≡ false → or_whole A b h at x ≡ x
not_whole A true h at x e = absurd (true≢false e)
not_whole A false h at x e = refl

-- the rest is read alike after every edge to a point that passes a test
pick_alike : (q : Point) (t : Item) (h : Held q) (r : StatementRead) (k m : (p : Point) → Held p → StatementRead) (test : Point → Bool)
    → ((p : Point) (x : Held p) → test p ≡ true → k p x ≡ m p x) → (es : List Edge) (ws : Each (Adds q) es) → every (λ (e : Edge). test e.to) es ≡ true
    → pick q es ws t h k r ≡ pick q es ws t h m r
pick_alike q t h r k m test a [] ws l = refl
pick_alike q t h r k m test a (e ∷ es) ws l =
    ap₂ (cond (eqb (code_no t.class) (class_no e.class))) (a e.to (ws.0 t h) (and_left _ _ l))
    (pick_alike q t h r k m test a es ws.1 (and_right (test e.to) _ l))

pub on_alike : (q : Point) (t : Item) (h : Held q) (k m : (p : Point) → Held p → StatementRead) → ((p : Point) (x : Held p) → k p x ≡ m p x)
    → on_item q h t k ≡ on_item q h t m
on_alike q t h k m a =
    pick_alike q t h (otherwise q t) k m (λ p. true) (λ p x e. a p x) (next q) (adds q)
    (at_point (λ (p : Point). every (λ (e : Edge). true) (next p)) refl refl q)

module _ (base : ℕ) (s : List ℕ) where
  enough : (n : ℕ) (q : Point) (h : Held q) (at : ℕ) → deep n q ≡ true → read_within base s n q h at ≡ read_within base s (suc n) q h at
  unfolding read_within
  enough zero q h at d = while_open (Begun q) (is_point q done) h at _ _ (λ f. absurd (true≢false (sym d ∙ f)))
  enough (suc n) q h at d =
      while_open (Begun q) (is_point q done) h at _ _
      (λ f. pick_alike q (item_at base s at) h _ _ _ (deep n) (λ p x e. enough n p x (item_at base s at).next e) (next q) (adds q) (rw f at d))

  pub from : (q : Point) (h : Held q) (at : ℕ)
      → read_from base s q h at ≡ or_whole (Begun q) (is_point q done) h at (on_item q h (item_at base s at) (λ p k. read_from base s p k (item_at base s at).next))
  unfolding read_from read_within
  from q h at = enough 8 q h at (at_point (deep 8) refl refl q)

-- a function at the point q reads the item t, and the rest from the next point on
pub reads : (q : Point) (base : ℕ) (s : List ℕ) (h : Held q) (at : ℕ) {t : Item} {r : StatementRead} → t ≡ item_at base s at
    → r ≡ or_whole (Begun q) (is_point q done) h at (on_item q h t (λ p k. read_from base s p k t.next)) → r ≡ read_from base s q h at
reads q base s h at e a =
    a ∙ ap (λ (u : Item). or_whole (Begun q) (is_point q done) h at (on_item q h u (λ p k. read_from base s p k u.next))) e ∙ sym (from base s q h at)

-- and after its `;` the statement is whole
pub is_whole : (base : ℕ) (s : List ℕ) (x : Statement) (at : ℕ) → read_from base s done x at ≡ whole (x, at)
is_whole base s x at = from base s done x at

pub reads_whole : (base : ℕ) (s : List ℕ) (x : Statement) (at : ℕ) (r : StatementRead) → r ≡ whole (x, at) → r ≡ read_from base s done x at
reads_whole base s x at r e = e ∙ sym (is_whole base s x at)

pub ruleset along = (by_class, reads_whole)

-- ---- what stands next in the file s

-- what is held after a token of class c
abbrev either : (b : Bool) (p r : Point) → Held p → Held r → Held (cond b p r)
either true p r x y = x
either false p r x y = y

abbrev after_edge : (q : Point) (c : Class) (es : List Edge) → Each (Adds q) es → Item → Held q → Held (look c es)
after_edge q c [] ws t h = tt
after_edge q c (e ∷ es) ws t h = either (is_class c e.class) e.to (look c es) (ws.0 t h) (after_edge q c es ws.1 t h)

abbrev pub after : (q : Point) (c : Class) → Item → Held q → Held (step q c)
after q c t h = after_edge q c (next q) (adds q) t h

-- no edge leads to `dead`
abbrev alive : List Edge → Bool
alive es = every (λ (e : Edge). not (is_point e.to dead)) es

is_not : (b : Bool) → not b ≡ true → b ≡ false
is_not true e = sym e
is_not false e = refl

module _ (q : Point) (t : Item) (h : Held q) (k : (p : Point) → Held p → StatementRead) (r : StatementRead) where
  pick_edge : (c : Class) → code_no t.class ≡ class_no c → (es : List Edge) (ws : Each (Adds q) es) → alive es ≡ true
      → pick q es ws t h k r ≡ cond (is_point (look c es) dead) r (k (look c es) (after_edge q c es ws t h))
  pick_edge c ec [] ws l = refl
  pick_edge c ec (e ∷ es) ws l =
      ap (λ (n : ℕ). cond (eqb n (class_no e.class)) (k e.to (ws.0 t h)) (pick q es ws.1 t h k r)) ec
      ∙ go (pick_edge c ec es ws.1 (and_right (not (is_point e.to dead)) _ l)) (is_class c e.class)
    where
      go : pick q es ws.1 t h k r ≡ cond (is_point (look c es) dead) r (k (look c es) (after_edge q c es ws.1 t h)) → (b : Bool)
          → cond b (k e.to (ws.0 t h)) (pick q es ws.1 t h k r)
          ≡ cond (is_point (cond b e.to (look c es)) dead) r
          (k (cond b e.to (look c es)) (either b e.to (look c es) (ws.0 t h) (after_edge q c es ws.1 t h)))
      go later true = rw (is_not (is_point e.to dead) (and_left _ _ l))
      go later false = later

  pick_none : ((c : Class) → eqb (code_no t.class) (class_no c) ≡ false) → (es : List Edge) (ws : Each (Adds q) es) → pick q es ws t h k r ≡ r
  pick_none f [] ws = refl
  pick_none f (e ∷ es) ws = rw (f e.class) (pick_none f es ws.1)

-- 5 at a time, at a date, and nowhere else
at_time : (a b : Bool) (x y : StatementRead) → cond (not a && true) x (cond (not b && false) x y) ≡ cond a y x
at_time true b x y = rw (and-false (not b))
at_time false b x y = refl

at_date : (a b : Bool) (x y : StatementRead) → cond (not a && false) x (cond (not b && true) x y) ≡ cond b y x
at_date a true x y = rw (and-false (not a))
at_date a false x y = rw (and-false (not a))

refuses : (q : Point) (t : Item) (c : Class) → code_no t.class ≡ class_no c → is_point (step q c) dead ≡ true
    → otherwise q t ≡ cond (is_point (step q (shape c)) dead) (refuse unexpected t) (refuse not_real t)
refuses q t c ec d = rw (ec, token_number c) (go (is_class c unreal_time) (is_class c unreal_date) refl refl)
  where
    go : (x y : Bool) → is_class c unreal_time ≡ x → is_class c unreal_date ≡ y
        → cond (not (is_point (step q time) dead) && x) (refuse not_real t)
        (cond (not (is_point (step q date) dead) && y) (refuse not_real t) (refuse unexpected t))
        ≡ cond (is_point (step q (cond x time (cond y date c))) dead) (refuse unexpected t) (refuse not_real t)
    go true y e f =
        let z : y ≡ false = sym f ∙ ap (λ (b : Class). is_class b unreal_date) (is_class_lem c unreal_time e) in
        rw z (at_time (is_point (step q time) dead) (is_point (step q date) dead) (refuse not_real t) (refuse unexpected t))
    go false true e f = at_date (is_point (step q time) dead) (is_point (step q date) dead) (refuse not_real t) (refuse unexpected t)
    go false false e f = rw (d, and-false (not (is_point (step q time) dead)), and-false (not (is_point (step q date) dead)))

-- a number that no class has
outside : (t : Item) (n : ℕ) → code_no t.class ≡ n → 22 ≤ n → (c : Class) → eqb (code_no t.class) (class_no c) ≡ false
outside t n e l c = ne_eqb (code_no t.class) (class_no c) (λ x. omega (arith, class_below c))

-- the token u at the point q, where r is read after it
abbrev pub on_placed : Point → Placed → StatementRead → StatementRead
on_placed q u r =
    cond (is_point (step q u.class) dead)
    (cond (is_point (step q (shape u.class)) dead) (refused unexpected u.place) (refused not_real u.place)) r

module _ (s : List ℕ) (q : Point) (h : Held q) (o : is_point q done ≡ false) (i : ℕ) where
  abbrev rest : Item → (p : Point) → Held p → StatementRead
  rest t p x = read_from 0 s p x t.next

  opened : read_from 0 s q h i ≡ on_item q h (item_at 0 s i) (rest (item_at 0 s i))
  opened = from 0 s q h i ∙ not_whole (Begun q) (is_point q done) h i _ o

  -- a token goes along its edge; it is refused where there is none
  shown : (t : Item) (u : Placed) → Shows t (item u) → on_item q h t (rest t) ≡ on_placed q u (read_from 0 s (step q u.class) (after q u.class t h) u.end)
  shown t u (a_token ec ep en) =
      pick_edge q t h (rest t) (otherwise q t) u.class ec (next q) (adds q) (at_point (λ (p : Point). alive (next p)) refl refl q)
      ∙ go (is_point (step q u.class) dead) refl
    where
      go : (b : Bool) → is_point (step q u.class) dead ≡ b
          → cond b (otherwise q t) (rest t (step q u.class) (after q u.class t h))
          ≡ cond b (cond (is_point (step q (shape u.class)) dead) (refused unexpected u.place) (refused not_real u.place))
          (read_from 0 s (step q u.class) (after q u.class t h) u.end)
      go true d = refuses q t u.class ec d ∙ rw ep
      go false d = rw en

  pub on_token : (u : Placed) → next_item s i ≡ item u
      → read_from 0 s q h i ≡ on_placed q u (read_from 0 s (step q u.class) (after q u.class (item_at 0 s i) h) u.end)
  on_token u e = opened ∙ shown (item_at 0 s i) u (rw e at (shows s i))

  no_edge : ((c : Class) → eqb (code_no (item_at 0 s i).class) (class_no c) ≡ false) → read_from 0 s q h i ≡ unexpected_at (item_at 0 s i)
  no_edge f =
      opened
      ∙ pick_none q (item_at 0 s i) h (rest (item_at 0 s i)) (otherwise q (item_at 0 s i)) f (next q) (adds q)
      ∙ rw (f unreal_time, f unreal_date, and-false (not (is_point (step q time) dead)), and-false (not (is_point (step q date) dead)))

  pub on_end : (p : ℕ) → next_item s i ≡ ended p → read_from 0 s q h i ≡ refused end_number p
  on_end p e = go (rw e at (shows s i))
    where
      go : Shows (item_at 0 s i) (ended p) → read_from 0 s q h i ≡ refused end_number p
      go (the_end c r) = no_edge (outside (item_at 0 s i) end_no c (omega arith)) ∙ rw (c, r)

  pub on_no_token : (why : Why) (p : ℕ) → next_item s i ≡ no_token_next why p → read_from 0 s q h i ≡ refused (no_token_number why) p
  on_no_token why p e = go (rw e at (shows s i))
    where
      go : Shows (item_at 0 s i) (no_token_next why p) → read_from 0 s q h i ≡ refused (no_token_number why) p
      go (no_token_here c r) =
          no_edge (outside (item_at 0 s i) (no_token_no why) c (omega (arith, (no_token_numbers why).0))) ∙ rw (c, r, (no_token_numbers why).1)

-- a statement of any kind
pub any_kind : (clause : StartClause) (s : List ℕ) (i : ℕ) → statement_of 0 s clause (item_at 0 s i) ≡ read_from 0 s (statement clause) tt i
unfolding statement_of
any_kind clause s i = sym (from 0 s (statement clause) tt i)
