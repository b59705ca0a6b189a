-- The two laws by which an act goes on in parts, and how it ends.
-- Assumes nothing.
use Rattle.std.specs.Prelude.{ℕ, suc, ◌≡◌, refl, Bool, true, false, cond, ◌&&◌, List, [], ◌∷◌, map, eqb}
use Rattle.std.proofs.Common.{sym, ap, ◌∙◌, append_assoc, eqb-true}
use Rattle.std.proofs.Math.Path.{fun_ext}
use Rattle.rules.specs.Vector.{Write, put, Cause, rewritten, complete, ended, wrote, shown, Vec, all, any, cleared, fires, clashes, stored, act}
use Rattle.rules.proofs.Vector.Laws.{cleared_clash}
use Rattle.rules.specs.Gather.{Tables, width, write, step_end, single, of, ends, State, with, list, end_all, bit_write, to_vector, toward, does}
use Rattle.rules.proofs.Gather.Laws.{with_same}
use Rattle.vecbuffer.specs.Stands.{storing, clearing}
use Rattle.turns.specs.Parts.{Leaves, Closes, firing, without}

-- ---- one vector

-- a write that clashes is an event of the stored vector, and then the same write over the cleared vector
pub clash_act : (early : Bool) (y : Vec) (x : Write) → clashes y x ≡ true
    → act early y (put x) ≡ (shown rewritten y.vals ∷ (act early (cleared y) (put x)).0, (act early (cleared y) (put x)).1)
unfolding act fires
clash_act early y x c = rw (c, cleared_clash y x)

-- a write that does not is made, and (c) may act
pub store_act : (early : Bool) (y : Vec) (x : Write) → clashes y x ≡ false
    → let c = fires (early && all (stored y x).marks) complete (stored y x) in act early y (put x) ≡ (wrote x ∷ c.0, c.1)
unfolding act fires
store_act early y x c = rw c

-- ---- all vectors

with_twice : (vecs : ℕ → Vec) (v : ℕ) (x y : Vec) → with (with vecs v x) v y ≡ with vecs v y
unfolding with
with_twice vecs v x y = fun_ext (λ w. go w (eqb w v))
  where
    go : (w : ℕ) (m : Bool) → cond m y (cond m x (vecs w)) ≡ cond m y (vecs w)
    go w true = refl
    go w false = refl

with_self : (vecs : ℕ → Vec) (v : ℕ) → with vecs v (vecs v) ≡ vecs
unfolding with
with_self vecs v = fun_ext (λ w. go w (eqb w v) refl)
  where
    go : (w : ℕ) (m : Bool) → eqb w v ≡ m → cond m (vecs v) (vecs w) ≡ vecs w
    go w true e = sym (ap vecs (eqb-true w v e))
    go w false e = refl

-- where a rule may act on one of them
fired_is : (b : Bool) (cause : Cause) (v : ℕ) (vecs : ℕ → Vec) (us : List ℕ)
    → record { vecs = with vecs v (fires b cause (vecs v)).1; listed = us } ≡ firing b v (record { vecs = vecs; listed = us })
unfolding fires firing clearing
fired_is true cause v vecs us = refl
fired_is false cause v vecs us = ap (λ (f : ℕ → Vec). record { vecs = f; listed = us }) (with_self vecs v)

module _ (early : ℕ → Bool) (t : Tables) (g : State) where
  -- (i) a write that clashes is an event of the stored vector, and then the same write over the cleared vector
  module _ (i v x p : ℕ) (number : t.vector i ≡ suc v) where
    abbrev w : Write
    w = bit_write t v i x p

    pub clash_leaves : clashes (g.vecs v) w ≡ true → Leaves early t (write i x p) g (of v (shown rewritten (g.vecs v).vals) ∷ []) (clearing g v)
    unfolding does toward to_vector clearing
    clash_leaves c =
        record {
          happen = rw (number, with_same g.vecs v (cleared (g.vecs v)), clash_act (early (width t v)) (g.vecs v) w c);
          state = rw (number, with_same g.vecs v (cleared (g.vecs v)), clash_act (early (width t v)) (g.vecs v) w c, with_twice g.vecs v (cleared (g.vecs v)));
        }

    -- a write that does not is (b), and (c) may act
    abbrev full : Bool
    full = early (width t v) && all (stored (g.vecs v) w).marks

    pub store_closes : clashes (g.vecs v) w ≡ false
        → Closes early t (write i x p) g (of v (wrote w) ∷ map (of v) (fires full complete (stored (g.vecs v) w)).0) (firing full v (storing g v w))
    unfolding does toward to_vector storing
    store_closes c =
        record {
          happen = rw (number, store_act (early (width t v)) (g.vecs v) w c);
          state = rw (number, store_act (early (width t v)) (g.vecs v) w c) (once ∙ fired_is full complete v (with g.vecs v y) (list v g.listed));
        }
      where
        y : Vec
        y = stored (g.vecs v) w

        once :
            ◌≡◌ {A = State} (record { vecs = with g.vecs v (fires full complete y).1; listed = list v g.listed })
            (record { vecs = with (with g.vecs v y) v (fires full complete (with g.vecs v y v)).1; listed = list v g.listed })
        once = rw (with_same g.vecs v y, with_twice g.vecs v y)

  -- a write to a signal outside vectors is its event
  pub plain_closes : (i x p : ℕ) → t.vector i ≡ 0 → Closes early t (write i x p) g (single i x p ∷ []) g
  unfolding does toward
  plain_closes i x p number = record { happen = rw number; state = rw number }

  -- (ii) a step's end over listed `v ∷ us` is v's end, and then the step's end over `us`
  module _ (v : ℕ) (us : List ℕ) (e : g.listed ≡ v ∷ us) where
    abbrev next : State
    next = record { vecs = with g.vecs v (fires (any (g.vecs v).marks) ended (g.vecs v)).1; listed = us }

    next_is : next ≡ firing (any (g.vecs v).marks) v (without us g)
    unfolding without
    next_is = fired_is (any (g.vecs v).marks) ended v g.vecs us

    pub end_leaves : Leaves early t step_end g (map (of v) (fires (any (g.vecs v).marks) ended (g.vecs v)).0) (firing (any (g.vecs v).marks) v (without us g))
    unfolding does end_all
    end_leaves =
        record {
          happen = rw (← next_is, e) (append_assoc (map (of v) (fires (any (g.vecs v).marks) ended (g.vecs v)).0) _ (ends ∷ []));
          state = rw (← next_is, e);
        }

  -- a step's end that comes to no vector
  pub end_closes : g.listed ≡ [] → Closes early t step_end g (ends ∷ []) g
  unfolding does end_all
  end_closes e = record { happen = rw e; state = rw e }
