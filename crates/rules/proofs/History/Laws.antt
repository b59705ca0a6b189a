-- Laws of places in a history.
-- Assumes nothing.
use Rattle.std.specs.Prelude.{◌≡◌, refl, ◌≢◌, ◌↔◌, ◌⊎◌, Bool, true, false, ℕ}
use Rattle.std.proofs.Common.{sym, ap, ◌∙◌, inl, inr, ⊎_elim, true≢false}
use Rattle.std.proofs.lemmas.Bool.{false≢true}
use mathlib.Core.List.Memᴰ
use mathlib.Core.List.{List, [], ◌∷◌, ◌++◌, append_assoc, Memᴰ}
use Rattle.rules.specs.Vector.{Write, Op, start, put, stop, Cause, Item, began, wrote, shown, over, Vec, fires, act, history}
use Rattle.rules.specs.Owned.{latest}
use Rattle.rules.proofs.Owned.Latest.{latest_cons}
use Rattle.rules.specs.History.{is_event, is_closing, writes_bit, Without, since, last_shown, heard}
use Rattle.rules.specs.History.Laws.{IsFirst, Waits}

-- ---- one part of a history after the other

pub without_append : (p : Item → Bool) (a b : List Item) → Without p (a ++ b) ↔ (Without p a × Without p b)
unfolding Without
without_append p [] b = (λ h. (tt, h), λ h. h.1)
without_append p (i ∷ a) b = let r = without_append p a b in (λ h. ((h.0, (r.0 h.1).0), (r.0 h.1).1), λ h. (h.0.0, r.1 (h.0.1, h.1)))

pub since_append : (ws : List Write) (a b : List Item) → since ws (a ++ b) ≡ since (since ws a) b
unfolding since
since_append ws [] b = refl
since_append ws (began t ∷ a) b = since_append ws a b
since_append ws (wrote x ∷ a) b = since_append (x ∷ ws) a b
since_append ws (shown c l ∷ a) b = since_append [] a b
since_append ws (over ∷ a) b = since_append ws a b

pub last_shown_append : (l : List ℕ) (a b : List Item) → last_shown l (a ++ b) ≡ last_shown (last_shown l a) b
unfolding last_shown
last_shown_append l [] b = refl
last_shown_append l (began t ∷ a) b = last_shown_append l a b
last_shown_append l (wrote x ∷ a) b = last_shown_append l a b
last_shown_append l (shown c u ∷ a) b = last_shown_append u a b
last_shown_append l (over ∷ a) b = last_shown_append l a b

-- ---- stretches without an event

-- a stretch without an event or a step's end is one without an event
pub closing_event : (m : List Item) → Without is_closing m → Without is_event m
unfolding Without is_closing is_event
closing_event [] q = tt
closing_event (began t ∷ m) q = (refl, closing_event m q.1)
closing_event (wrote x ∷ m) q = (refl, closing_event m q.1)
closing_event (shown c l ∷ m) q = absurd (true≢false q.0)
closing_event (over ∷ m) q = absurd (true≢false q.0)

-- it leaves the last event as it was
pub last_shown_quiet : (l : List ℕ) (m : List Item) → Without is_event m → last_shown l m ≡ l
unfolding Without is_event last_shown
last_shown_quiet l [] q = refl
last_shown_quiet l (began t ∷ m) q = last_shown_quiet l m q.1
last_shown_quiet l (wrote x ∷ m) q = last_shown_quiet l m q.1
last_shown_quiet l (shown c u ∷ m) q = absurd (true≢false q.0)
last_shown_quiet l (over ∷ m) q = last_shown_quiet l m q.1

-- .. every write before it still waits
pub since_quiet : (x : Write) (ws : List Write) (m : List Item) → Without is_event m → Memᴰ x ws → Memᴰ x (since ws m)
unfolding Without is_event since
since_quiet x ws [] q h = h
since_quiet x ws (began t ∷ m) q h = since_quiet x ws m q.1 h
since_quiet x ws (wrote y ∷ m) q h = since_quiet x (y ∷ ws) m q.1 (Memᴰ.tail h)
since_quiet x ws (shown c l ∷ m) q h = absurd (true≢false q.0)
since_quiet x ws (over ∷ m) q h = since_quiet x ws m q.1 h

-- .. and a bit that it does not write keeps its latest write
pub latest_quiet : (k : ℕ) (ws : List Write) (m : List Item) → Without is_event m → Without (writes_bit k) m → latest k (since ws m) ≡ latest k ws
unfolding Without is_event writes_bit since
latest_quiet k ws [] q n = refl
latest_quiet k ws (began t ∷ m) q n = latest_quiet k ws m q.1 n.1
latest_quiet k ws (wrote x ∷ m) q n = latest_quiet k (x ∷ ws) m q.1 n.1 ∙ rw (latest_cons, n.0)
latest_quiet k ws (shown c l ∷ m) q n = absurd (true≢false q.0)
latest_quiet k ws (over ∷ m) q n = latest_quiet k ws m q.1 n.1

one_first : (m n : List Item) (c d : Cause) (l u : List ℕ) (r s : List Item) → Without is_event m → Without is_event n → m ++ shown c l ∷ r ≡ n ++ shown d u ∷ s
    → (m ≡ n) × (c ≡ d) × (l ≡ u) × (r ≡ s)
unfolding Without is_event
one_first [] [] c d l u r s p q e = (refl, (cc), (cc), (cc))
one_first [] (i ∷ n) c d l u r s p q e = let f : i ≡ shown c l = cc in absurd (false≢true (sym q.0 ∙ rw f))
one_first (i ∷ m) [] c d l u r s p q e = let f : i ≡ shown d u = cc in absurd (false≢true (sym p.0 ∙ rw f))
one_first (i ∷ m) (j ∷ n) c d l u r s p q e =
    let f : i ≡ j = cc in
    let (a, b, g, h) = one_first m n c d l u r s p.1 q.1 (cc) in
    (cc, b, g, h)

-- .. and there is one first only
pub first_is_one : (h m n : List Item) (c d : Cause) (l u : List ℕ) (r s : List Item) → IsFirst h m c l r → IsFirst h n d u s → (m ≡ n) × (c ≡ d) × (l ≡ u) × (r ≡ s)
first_is_one h m n c d l u r s p q = one_first m n c d l u r s p.1 q.1 (sym p.0 ∙ q.0)

waits_cons : {x : Write} (i : Item) {h : List Item} → Waits x h → Waits x (i ∷ h)
waits_cons i (a, m, e, q) = (i ∷ a, m, ap (λ l. i ∷ l) e, q)

-- one that waited before, and goes on waiting
Kept : Write → List Write → List Item → Type 0
Kept x ws h = Memᴰ x ws × Without is_event h

since_of : (x : Write) (ws : List Write) (h : List Item) → Memᴰ x (since ws h) → Kept x ws h ⊎ Waits x h
unfolding since Without is_event Kept
since_of x ws [] m = inl (m, tt)
since_of x ws (began t ∷ h) m = ⊎_elim (λ (r : Kept x ws h). inl (r.0, (refl, r.1))) (λ (r : Waits x h). inr (waits_cons (began t) r)) (since_of x ws h m)
since_of x ws (wrote y ∷ h) m =
    ⊎_elim
    (λ (r : Kept x (y ∷ ws) h). ⊎_elim (λ (p : x ≡ y). inr ([], h, ap (λ z. wrote z ∷ h) (sym p), r.1)) (λ (i : Memᴰ x ws). inl (i, (refl, r.1))) (Memᴰ.cases_cons r.0))
    (λ (r : Waits x h). inr (waits_cons (wrote y) r))
    (since_of x (y ∷ ws) h m)
since_of x ws (shown c l ∷ h) m = ⊎_elim (λ (r : Kept x [] h). absurd (Memᴰ.not-nil r.0)) (λ (r : Waits x h). inr (waits_cons (shown c l) r)) (since_of x [] h m)
since_of x ws (over ∷ h) m = ⊎_elim (λ (r : Kept x ws h). inl (r.0, (refl, r.1))) (λ (r : Waits x h). inr (waits_cons over r)) (since_of x ws h m)

-- `since` holds exactly the writes that no event followed
pub since_waits : (x : Write) (h : List Item) → Memᴰ x (since [] h) ↔ Waits x h
unfolding since Kept
since_waits x h = (
  λ m. ⊎_elim (λ (r : Kept x [] h). absurd (Memᴰ.not-nil r.0)) (λ (r : Waits x h). r) (since_of x [] h m),
  λ (a, m, e, q). rw (e, since_append [] a (wrote x ∷ m)) (since_quiet x (x ∷ since [] a) m q (Memᴰ.head refl)),
)

-- .. and where it holds any, such a write is there
pub since_some : (h : List Item) → since [] h ≢ [] → (x : Write) × Waits x h
since_some h n = go (since [] h) refl
  where
    go : (ws : List Write) → since [] h ≡ ws → (x : Write) × Waits x h
    go [] e = absurd (n e)
    go (x ∷ ws) e = (x, (since_waits x h).0 (rw e (Memᴰ.head refl)))

-- ---- nothing lost

heard_fires : (t : Bool) (c : Cause) (v : Vec) (h : List Item) → heard ((fires t c v).0 ++ h) ≡ heard h
unfolding heard fires
heard_fires true c v h = refl
heard_fires false c v h = refl

-- without its events a history is what the vector was told: no step, write or step end is lost or made up
pub heard_history : (early : Bool) (v : Vec) (ops : List Op) → heard (history early v ops) ≡ ops
unfolding heard history act
heard_history early v [] = refl
heard_history early v (start t ∷ ops) = ap (λ l. start t ∷ l) (heard_history early v ops)
heard_history early v (put x ∷ ops) = rw append_assoc (heard_fires _ _ v _ ∙ ap (λ l. put x ∷ l) (heard_fires _ _ _ _ ∙ heard_history early (act early v (put x)).1 ops))
heard_history early v (stop ∷ ops) = rw append_assoc (heard_fires _ _ v _ ∙ ap (λ l. stop ∷ l) (heard_history early (act early v stop).1 ops))
