-- Every history of one vector meets demand 3, and what demand 3 says of a place in a history.
-- Assumes nothing.
use Rattle.std.specs.Prelude.{◌≡◌, ◌≢◌, ◌↔◌, Bool, ◌&&◌, ℕ, ◌<◌, get_or, replicate, eqb}
use Rattle.std.proofs.Math.Path.{refl, sym, ap}
use Rattle.std.proofs.Common.{◌∙◌, arith}
use Rattle.std.proofs.Math.Bool.{true, false}
use Rattle.std.proofs.Math.Option.{none, some-ne-none}
use mathlib.Core.List.{List, [], ◌∷◌, ◌++◌, append_assoc, cons≢nil}
use Rattle.std.proofs.lemmas.List.{get_or-replicate}
use Rattle.rules.specs.Vector.{Write, Op, start, put, stop, Cause, rewritten, complete, ended, Item, began, wrote, shown, over, Vec, all, any, fresh, fires, clashes, stored, act, history}
use Rattle.rules.proofs.Vector.Laws.{by_test, and_true_both, all_mark, fired_any, fired_clash, clashed}
use Rattle.rules.specs.History.{is_closing, Without, since, last_shown, writes, heard}
use Rattle.rules.specs.Owned.{latest, value_or, Allowed, by_rewrite, by_completion, by_end, Owner, Owned, Inside}
use Rattle.rules.proofs.Owned.Latest.{found_some}
use Rattle.rules.specs.Owned.Tracks.{Tracks}
use Rattle.rules.proofs.Owned.Tracks.{tracks_fresh, tracks_put, tracks_fires, none_waits, some_waits, marked_waits}
use Rattle.rules.specs.Owned.Laws.{EventFirst}

-- ---- operations whose writes name bits of the vector

pub inside_nil : (w : ℕ) → Inside w []
unfolding Inside
inside_nil w = tt

pub inside_start : (w t : ℕ) (ops : List Op) → Inside w (start t ∷ ops) ↔ Inside w ops
unfolding Inside
inside_start w t ops = (λ i. i, λ i. i)

pub inside_put : (w : ℕ) (x : Write) (ops : List Op) → Inside w (put x ∷ ops) ↔ ((x.bit < w) × Inside w ops)
unfolding Inside
inside_put w x ops = (λ i. i, λ i. i)

pub inside_stop : (w : ℕ) (ops : List Op) → Inside w (stop ∷ ops) ↔ Inside w ops
unfolding Inside
inside_stop w ops = (λ i. i, λ i. i)

-- ---- a vector's machine meets it

module _ (early : Bool) (w : ℕ) (before : List ℕ) (waiting : List Write) (v : Vec) (tr : Tracks w before waiting v) where
  owner : {c : Cause} {next : List Item} → waiting ≢ [] → Allowed early w waiting c next → Owner early w before waiting c v.vals next
  owner some-wait rule = record {
    owns = some-wait;
    agree = λ x y mx my e. sym (tr.same x mx) ∙ ap (λ (b : ℕ). get_or v.vals b 0) e ∙ tr.same y my;
    wide = tr.vals_wide;
    shows = tr.value_is;
    rule = rule;
  }

  -- an event is made, or not
  fired : (t : Bool) (c : Cause) (rest : List Item) → (t ≡ true → waiting ≢ []) → (t ≡ true → Allowed early w waiting c rest)
      → Owned early w (last_shown before (fires t c v).0) (since waiting (fires t c v).0) rest → Owned early w before waiting ((fires t c v).0 ++ rest)
  unfolding fires Owned last_shown since
  fired true c rest some-wait rule o = (owner (some-wait refl) (rule refl), o)
  fired false c rest some-wait rule o = o

  -- rule (a) acts: the latest waiting write of that bit has another value
  by_a : (x : Write) (next : List Item) → x.bit < w → clashes v x ≡ true → Allowed early w waiting rewritten (wrote x ∷ next)
  unfolding value_or
  by_a x next l h =
      let (m, d) = clashed v x h in
      let (y, e) = found_some (latest x.bit waiting) (sym (tr.mark_is x.bit l) ∙ m) in
      by_rewrite e (λ p. d (sym p ∙ sym (tr.value_is x.bit l ∙ ap (value_or _) e)))

  a_waits : (x : Write) → x.bit < w → clashes v x ≡ true → waiting ≢ []
  a_waits x l h = marked_waits w before waiting v tr x.bit l (clashed v x h).0

  -- rule (c) acts: every bit has a waiting write
  by_c : (next : List Item) → (early && all v.marks) ≡ true → Allowed early w waiting complete next
  by_c next h =
      let (e, m) = and_true_both early (all v.marks) h in
      let some-write : (b : ℕ) → b < w → latest b waiting ≢ none = λ b l n.
      let (y, f) = found_some (latest b waiting) (sym (tr.mark_is b l) ∙ all_mark v.marks b m (omega arith)) in
      some-ne-none y (sym f ∙ n) in
      by_completion (rw e tt) some-write

  -- the step ends: after the event, if one is made, nothing waits
  ends_step : (rest : List Item)
      → (let e = fires (any v.marks) ended v in (since waiting e.0 ≡ []) → Owned early w (last_shown before e.0) [] rest)
      → Owned early w before waiting ((fires (any v.marks) ended v).0 ++ over ∷ rest)
  unfolding Owned
  ends_step rest k =
      let e = none_waits w _ _ _ (tracks_fires w before waiting v tr (any v.marks) ended) (fired_any _ ended v refl) in
      fired (any v.marks) ended (over ∷ rest) (some_waits w before waiting v tr) (λ h. by_end) (e, k e)

-- operations that end with a step's end, from any state that a history leads to
owned_from : (early : Bool) (w : ℕ) (before : List ℕ) (waiting : List Write) (v : Vec) (ops : List Op) → Inside w ops → Tracks w before waiting v
    → Owned early w before waiting (history early v (ops ++ stop ∷ []))
unfolding Inside Owned history act
owned_from early w before waiting v [] i tr = rw append_assoc (ends_step early w before waiting v tr _ (λ e. refl))
owned_from early w before waiting v (start t ∷ ops) i tr = owned_from early w before waiting v ops i tr
owned_from early w before waiting v (put x ∷ ops) i tr =
    let first = fires (clashes v x) rewritten v in
    let then = fires (early && all (stored first.1 x).marks) complete (stored first.1 x) in
    let a = tracks_fires w before waiting v tr (clashes v x) rewritten in
    let b = tracks_put w _ _ _ a x i.0 (fired_clash _ rewritten v x refl) in
    rw append_assoc
    (fired early w before waiting v tr _ rewritten _ (a_waits early w before waiting v tr x i.0) (by_a early w before waiting v tr x _ i.0)
    (fired early w _ _ _ b _ complete _ (λ h. cons≢nil) (by_c early w _ _ _ b _) (owned_from early w (last_shown (last_shown before first.0) then.0) (since (x ∷ since waiting first.0) then.0) then.1 ops i.1 (tracks_fires w _ _ _ b _ complete))))
owned_from early w before waiting v (stop ∷ ops) i tr =
    rw append_assoc
    (ends_step early w before waiting v tr _ (λ e. owned_from early w (last_shown before (fires (any v.marks) ended v).0) [] (fires (any v.marks) ended v).1 ops i (rw e at (tracks_fires w before waiting v tr (any v.marks) ended))))

-- demand 3 for one vector of any width, in any mode
pub owned : (early : Bool) (w : ℕ) (ops : List Op) → Inside w ops → Owned early w (replicate w 0) [] (history early (fresh w) (ops ++ stop ∷ []))
owned early w ops i = owned_from early w (replicate w 0) [] (fresh w) ops i (tracks_fresh w)

-- .. and for one that was told nothing
pub owned_nothing : (early : Bool) (w : ℕ) → Owned early w (replicate w 0) [] []
unfolding Owned
owned_nothing early w = refl

module _ (early : Bool) (w : ℕ) where
  -- an event owns the writes since the one before it
  pub at_event : (before : List ℕ) (ws : List Write) (a : List Item) (c : Cause) (l : List ℕ) (b : List Item)
      → Owned early w before ws (a ++ shown c l ∷ b) → Owner early w (last_shown before a) (since ws a) c l b
  unfolding Owned since last_shown
  at_event before ws [] c l b o = o.0
  at_event before ws (began t ∷ a) c l b o = at_event before ws a c l b o
  at_event before ws (wrote x ∷ a) c l b o = at_event before (x ∷ ws) a c l b o
  at_event before ws (shown d u ∷ a) c l b o = at_event u [] a c l b o.1
  at_event before ws (over ∷ a) c l b o = rw o.0 (at_event before [] a c l b o.1)

  shown_soon : (before : List ℕ) (ws : List Write) (b : List Item) → ws ≢ [] → Owned early w before ws b → EventFirst b
  unfolding Owned Without is_closing
  shown_soon before ws [] ne o = absurd (ne o)
  shown_soon before ws (began t ∷ b) ne o = let (m, c, l, r, e, q) = shown_soon before ws b ne o in (began t ∷ m, c, l, r, ap (λ h. began t ∷ h) e, (refl, q))
  shown_soon before ws (wrote x ∷ b) ne o = let (m, c, l, r, e, q) = shown_soon before (x ∷ ws) b cons≢nil o in (wrote x ∷ m, c, l, r, ap (λ h. wrote x ∷ h) e, (refl, q))
  shown_soon before ws (shown c l ∷ b) ne o = ([], c, l, b, refl, tt)
  shown_soon before ws (over ∷ b) ne o = absurd (ne o.0)

  -- every write has a first event after it, before its step ends
  pub after_write : (before : List ℕ) (ws : List Write) (a : List Item) (x : Write) (b : List Item) → Owned early w before ws (a ++ wrote x ∷ b) → EventFirst b
  unfolding Owned
  after_write before ws [] x b o = shown_soon before (x ∷ ws) b cons≢nil o
  after_write before ws (began t ∷ a) x b o = after_write before ws a x b o
  after_write before ws (wrote y ∷ a) x b o = after_write before (y ∷ ws) a x b o
  after_write before ws (shown c l ∷ a) x b o = after_write l [] a x b o.1
  after_write before ws (over ∷ a) x b o = after_write before [] a x b o.1

  -- a bit of an event shows its latest write of all, and zero where there is none
  explains : (before : List ℕ) (ws past : List Write) (a : List Item) (c : Cause) (l : List ℕ) (b : List Item) (k : ℕ) → k < w
      → value_or (get_or before k 0) (latest k ws) ≡ value_or 0 (latest k past)
      → Owned early w before ws (a ++ shown c l ∷ b) → get_or l k 0 ≡ value_or 0 (latest k (writes past a))
  unfolding Owned writes latest value_or
  explains before ws past [] c l b k i e o = o.0.shows k i ∙ e
  explains before ws past (began t ∷ a) c l b k i e o = explains before ws past a c l b k i e o
  explains before ws past (wrote x ∷ a) c l b k i e o = explains before (x ∷ ws) (x ∷ past) a c l b k i (by_test (eqb k x.bit) (λ q. rw q) (λ q. rw q e)) o
  explains before ws past (shown d u ∷ a) c l b k i e o = explains u [] past a c l b k i (o.0.shows k i ∙ e) o.1
  explains before ws past (over ∷ a) c l b k i e o = explains before [] past a c l b k i (rw o.0 at e) o.1

  pub explained : (a : List Item) (c : Cause) (l : List ℕ) (b : List Item) (k : ℕ) → k < w
      → Owned early w (replicate w 0) [] (a ++ shown c l ∷ b) → get_or l k 0 ≡ value_or 0 (latest k (writes [] a))
  unfolding latest value_or
  explained a c l b k i o = explains (replicate w 0) [] [] a c l b k i (get_or-replicate w k 0 0 i) o

-- a write that was told names a bit of the vector
pub inside_heard : (w : ℕ) (a : List Item) (x : Write) (b : List Item) → Inside w (heard (a ++ wrote x ∷ b)) → x.bit < w
unfolding Inside heard
inside_heard w [] x b i = i.0
inside_heard w (began t ∷ a) x b i = inside_heard w a x b i
inside_heard w (wrote y ∷ a) x b i = inside_heard w a x b i.1
inside_heard w (shown c l ∷ a) x b i = inside_heard w a x b i
inside_heard w (over ∷ a) x b i = inside_heard w a x b i
