-- What the order of writes to different vectors within steps can't change: each vector's own times and values.
-- Assumes nothing.
use Rattle.std.specs.Prelude.{◌≡◌, refl, Bool, true, false, ◌&&◌, List, [], ◌∷◌, ◌++◌, ℕ, suc, eqb}
use Rattle.std.proofs.Common.{sym, ap, ◌∙◌, append_assoc, eqb-true, ne_eqb}
use Rattle.rules.specs.Vector.{Op, start, put, stop, Cause, rewritten, complete, ended, Item, began, Vec, all, any, fresh, fires, clashes, stored, act, history}
use Rattle.rules.proofs.Vector.Laws.{by_test}
use Rattle.rules.specs.Gather.{Tables, width, Act, write, bit_write, told}
use Rattle.rules.proofs.Gather.Own.{told_time, told_write, told_stop, own_history}
use Rattle.rules.specs.Steps.Owned.{history_of}
use Rattle.rules.specs.Swapped.{Swapped, both_end, both_nil, both_time, both_write, sights, swap, then}

unplaced : List Op → List Op
unplaced [] = []
unplaced (start u ∷ ops) = start u ∷ unplaced ops
unplaced (put x ∷ ops) = put (record { bit = x.bit; value = x.value; pos = 0 }) ∷ unplaced ops
unplaced (stop ∷ ops) = stop ∷ unplaced ops

sights_fires : (t : Bool) (c : Cause) (v : Vec) (h : List Item) → sights ((fires t c v).0 ++ h) ≡ sights (fires t c v).0 ++ sights h
unfolding sights fires
sights_fires true c v h = refl
sights_fires false c v h = refl

sights_unplaced : (early : Bool) (v : Vec) (ops : List Op) → sights (history early v ops) ≡ sights (history early v (unplaced ops))
unfolding sights unplaced history act clashes stored
sights_unplaced early v [] = refl
sights_unplaced early v (start t ∷ ops) = ap (λ h. began t ∷ h) (sights_unplaced early v ops)
sights_unplaced early v (put x ∷ ops) =
    let a = fires (clashes v x) rewritten v in
    let b = stored a.1 x in
    let c = fires (early && all b.marks) complete b in
    simp (append_assoc, sights_fires) (ap (λ h. sights a.0 ++ (sights c.0 ++ h)) (sights_unplaced early c.1 ops))
sights_unplaced early v (stop ∷ ops) =
    let e = fires (any v.marks) ended v in
    simp (append_assoc, sights_fires) (ap (λ h. sights e.0 ++ h) (sights_unplaced early e.1 ops))

told_swapped : (t : Tables) (v : ℕ) {a b : List Act} → Swapped t a b → unplaced (told t v a) ≡ unplaced (told t v b)
unfolding unplaced bit_write
told_swapped t v both_nil = refl
told_swapped t v (both_time {u = u} {a = a} {b = b} s) = rw (told_time t v u a, told_time t v u b) (ap (λ l. start u ∷ l) (told_swapped t v s))
told_swapped t v (both_write {i = i} {x = x} {p = p} {q = q} {a = a} {b = b} s) =
    rw (told_write t v i x p a, told_write t v i x q b)
    (by_test (eqb (t.vector i) (suc v)) (λ e. rw e (ap (λ l. put (bit_write t v i x 0) ∷ l) (told_swapped t v s))) (λ e. rw e (told_swapped t v s)))
told_swapped t v (both_end {a = a} {b = b} s) = rw (told_stop t v a, told_stop t v b) (ap (λ l. stop ∷ l) (told_swapped t v s))
told_swapped t v (swap {i = i} {x = x} {p = p} {j = j} {y = y} {q = q} {a = a} d) =
    rw (told_write t v i x p (write j y q ∷ a), told_write t v j y q a, told_write t v j y q (write i x p ∷ a), told_write t v i x p a)
    (by_test (eqb (t.vector i) (suc v))
    (λ e. let n : eqb (t.vector j) (suc v) ≡ false = ne_eqb _ _ (λ k. d (eqb-true _ _ e ∙ sym k)) in rw (e, n))
    (λ e. rw e))
told_swapped t v (then r s) = told_swapped t v r ∙ told_swapped t v s

-- each vector's own times and values are the same in both
pub order_of_vectors : (early : ℕ → Bool) (t : Tables) {a b : List Act} → Swapped t a b → (v : ℕ) → sights (history_of early t a v) ≡ sights (history_of early t b v)
order_of_vectors early t {a} {b} s v =
    let e = early (width t v) in
    let o = fresh (width t v) in
    rw (own_history early t v a, own_history early t v b)
    (sights_unplaced e o (told t v a) ∙ ap (λ ops. sights (history e o ops)) (told_swapped t v s) ∙ sym (sights_unplaced e o (told t v b)))
