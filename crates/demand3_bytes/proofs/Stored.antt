-- Every value that a vector stores fits its field, where every value that is written to a signal of kind 1 or 3
-- is in its kind's range.
-- Assumes nothing.
use Prim.Native.Nat.{ℕ, zero, suc, ◌-◌, ◌^◌, ◌≤◌, ◌<◌}
use Rattle.std.specs.Prelude.{◌≡◌, Bool, eqb, set}
use Rattle.std.proofs.Math.Logic.{⊎_elim}
use Rattle.std.proofs.Math.Bool.{true, false}
use mathlib.Core.List.{List, [], ◌∷◌, ◌++◌, append_assoc}
use native.Mathlib.Omega.{arith}
use Rattle.std.proofs.Math.Decide.{ℕ_discrete}
use Rattle.std.proofs.Common.{eqb-true, pow_pos}
use Rattle.std.proofs.Math.ListN.{length, get_or}
use Rattle.slices.specs.Choice.{cond_ind, le_or_lt}
use Rattle.states.specs.Kind.{bits}
use Rattle.states.specs.Packed.Bytes.{get_d_past}
use Rattle.tables.specs.Lists.{Lists, nth}
use Rattle.tables.specs.Good.{Sized, Signals, Bit}
use Rattle.values.specs.Value.{most_of}
use Rattle.rules.specs.Vector.{Write, Op, start, put, stop, Cause, rewritten, complete, ended, Item, began, wrote, shown, over, Vec, fresh, cleared, fires, clashes, stored, act, history}
use Rattle.rules.specs.Gather.{width, Act, time, write, step_end, begin, bit_write, happens, own, told}
use Rattle.rules.proofs.Gather.Own.{told_nil, told_time, told_write, told_stop, own_history}
use Rattle.gather.specs.Run.{gathers}
use Rattle.demand3_bytes.specs.Statements.{state_in}
use Rattle.demand3_bytes.specs.Stored.{Fitting, SmallItems, SmallOps}

pub small_at : (m : ℕ) (a : List Item) (c : Cause) (l : List ℕ) (b : List Item) → SmallItems m (a ++ shown c l ∷ b)
    → (k : ℕ) → get_or l k 0 < m
unfolding SmallItems
small_at m [] c l b s = s.0
small_at m (began u ∷ a) c l b s = small_at m a c l b s
small_at m (wrote x ∷ a) c l b s = small_at m a c l b s
small_at m (shown d w ∷ a) c l b s = small_at m a c l b s.1
small_at m (over ∷ a) c l b s = small_at m a c l b s

set_small : (m : ℕ) (l : List ℕ) (i x : ℕ) → ((k : ℕ) → get_or l k 0 < m) → x < m → (k : ℕ) → get_or (set l i x) k 0 < m
set_small m [] i x s h k = s k
set_small m (y ∷ l) zero x s h zero = h
set_small m (y ∷ l) zero x s h (suc k) = s (suc k)
set_small m (y ∷ l) (suc i) x s h zero = s 0
set_small m (y ∷ l) (suc i) x s h (suc k) = set_small m l i x (λ j. s (suc j)) h k

module _ (m : ℕ) where
  SmallVec : Vec → Type 0
  SmallVec v = (k : ℕ) → get_or v.vals k 0 < m

  small_fires : (b : Bool) (c : Cause) (v : Vec) (rest : List Item) → SmallVec v → SmallItems m rest
      → SmallItems m ((fires b c v).0 ++ rest)
  unfolding fires SmallItems SmallVec
  small_fires true c v rest s r = (s, r)
  small_fires false c v rest s r = r

  fires_small : (b : Bool) (c : Cause) (v : Vec) → SmallVec v → SmallVec (fires b c v).1
  unfolding fires cleared SmallVec
  fires_small true c v s = s
  fires_small false c v s = s

  stored_small : (v : Vec) (x : Write) → SmallVec v → x.value < m → SmallVec (stored v x)
  unfolding stored SmallVec
  stored_small v x s h = set_small m v.vals x.bit x.value s h

  history_small : (early : Bool) (v : Vec) (ops : List Op) → SmallVec v → SmallOps m ops
      → SmallItems m (history early v ops)
  unfolding history act SmallOps SmallItems
  history_small early v [] s o = tt
  history_small early v (start u ∷ ops) s o = history_small early v ops s o
  history_small early v (put x ∷ ops) s o =
      let a = fires_small (clashes v x) rewritten v s in
      let b = stored_small (fires (clashes v x) rewritten v).1 x a o.0 in
      rw append_assoc
      (small_fires (clashes v x) rewritten v _ s
      (small_fires _ complete (stored (fires (clashes v x) rewritten v).1 x) _ b
      (history_small early (act early v (put x)).1 ops (fires_small _ complete (stored (fires (clashes v x) rewritten v).1 x) b) o.1)))
  history_small early v (stop ∷ ops) s o =
      rw append_assoc (small_fires _ ended v _ s (history_small early (act early v stop).1 ops (fires_small _ ended v s) o))

  fresh_small : (w : ℕ) → 0 < m → SmallVec (fresh w)
  unfolding fresh SmallVec
  fresh_small zero h k = h
  fresh_small (suc w) h zero = h
  fresh_small (suc w) h (suc k) = fresh_small w h k

module _ (t : Lists) (z : Sized t) (g : Signals t) where
  -- "kinds 1 and 3 name a vector .. whose state matches"; no other kind names one
  bit_fits : (i v x : ℕ) → i < length t.kinds → get_or t.vecs i 0 ≡ suc v → (get_or t.kinds i 0 ≡ 1 → x ≤ most_of 1)
      → (get_or t.kinds i 0 ≡ 3 → x ≤ most_of 3) → x < 2 ^ bits (state_in t v)
  unfolding most_of
  bit_fits i v x h e one three = go (ℕ_discrete (get_or t.kinds i 0) 1) (ℕ_discrete (get_or t.kinds i 0) 3)
    where
      less : get_or t.vecs i 0 - 1 ≡ v
      less = omega arith

      state : {n : ℕ} → Bit t n i → get_or t.states v 0 ≡ n
      state b = rw less at b.matches

      go : Dec (get_or t.kinds i 0 ≡ 1) → Dec (get_or t.kinds i 0 ≡ 3) → x < 2 ^ bits (state_in t v)
      go (yes k) o = let m : x ≤ 8 = one k in rw (state (g.nine i h k)) (omega arith)
      go (no n) (yes k) = let m : x ≤ 1 = three k in rw (state (g.two i h k)) (omega arith)
      go (no n) (no o) = absurd (omega (arith, g.alone i h n o))

  field_fits : (i v x : ℕ) → nth t.vecs i ≡ suc v → (nth t.kinds i ≡ 1 → x ≤ most_of 1)
      → (nth t.kinds i ≡ 3 → x ≤ most_of 3) → x < 2 ^ bits (state_in t v)
  unfolding nth
  field_fits zero v x e one three = absurd (omega arith)
  field_fits (suc i) v x e one three =
      ⊎_elim (λ (o : length t.kinds ≤ i). absurd (omega (arith, get_d_past t.vecs i (rw z.vecs_long o))))
      (λ (o : i < length t.kinds). bit_fits i v x o e one three) (le_or_lt (length t.kinds) i)

  told_small : (v : ℕ) (acts : List Act) → Fitting t 1 acts → Fitting t 3 acts
      → SmallOps (2 ^ bits (state_in t v)) (told (gathers t) v acts)
  unfolding Fitting SmallOps gathers bit_write
  told_small v [] f q = rw told_nil tt
  told_small v (time u ∷ acts) f q = rw told_time (told_small v acts f q)
  told_small v (write i x p ∷ acts) f q =
      rw told_write
      (cond_ind (eqb (nth t.vecs i) (suc v)) _ _ (SmallOps (2 ^ bits (state_in t v)))
      (λ e. (field_fits i v x (eqb-true _ _ e) f.0 q.0, told_small v acts f.1 q.1))
      (λ e. told_small v acts f.1 q.1))
  told_small v (step_end ∷ acts) f q = rw told_stop (told_small v acts f q)

  -- every value that an event of a vector shows fits its field
  pub shown_small : (early : ℕ → Bool) (acts : List Act) → Fitting t 1 acts → Fitting t 3 acts → (v : ℕ)
      → SmallItems (2 ^ bits (state_in t v)) (own v (happens early (gathers t) (begin (gathers t)) acts))
  shown_small early acts f q v =
      rw own_history (history_small (2 ^ bits (state_in t v)) _ _ _
      (fresh_small (2 ^ bits (state_in t v)) (width (gathers t) v) (pow_pos (bits (state_in t v))))
      (told_small v acts f q))
