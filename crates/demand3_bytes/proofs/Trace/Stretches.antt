-- Stretches of a trace without an event of a vector, a step's end or a write of a bit, and the same of that
-- vector's own part.
-- Assumes nothing.
use Prim.Native.Nat.{ℕ, suc, ◌+◌, ◌-◌}
use Rattle.std.specs.Prelude.{◌≡◌, false, eqb}
use Rattle.std.proofs.Math.Path.{refl, ap}
use Rattle.std.proofs.Common.{sym, ◌∙◌, true≢false, arith}
use mathlib.Core.List.{List, [], ◌∷◌, ◌++◌}
use Rattle.std.proofs.Math.Dec.{eqb-zero-suc}
use borrow.Author.Tests.{eqb-true, eqb-false, eq-eqb, ne_eqb}
use Rattle.tables.specs.Lists.{Lists, nth}
use Rattle.rules.specs.Vector.{Write, began, wrote, shown, over}
use Rattle.rules.proofs.Vector.Laws.{by_test}
use Rattle.rules.specs.Gather.{Happening, at, single, of, ends, own}
use Rattle.rules.proofs.Gather.Laws.{own_same, own_append}
use Rattle.rules.specs.History as history
use Rattle.rules.specs.History.{is_event, is_closing}
use Rattle.rules.specs.History.Laws as histories
use Rattle.gather.specs.Run.{gathers}
use Rattle.demand3_bytes.specs.Statements.{label_of, is_event_of, is_step_end, writes_bit, Without, Waits}
use Rattle.demand3_bytes.specs.Own.{is_inner}
use Rattle.demand3_bytes.proofs.Own.{own_at, own_single, own_ends, own_of, own_not, own_place}
use Rattle.demand3_bytes.specs.Trace.{labelled}
use Rattle.demand3_bytes.proofs.Trace.{item_moments, moments, size, trace, trace_append}
use Rattle.demand3_bytes.specs.Trace.Named.{Named}
use Rattle.demand3_bytes.proofs.Trace.Named.{named_append}
use Rattle.demand3_bytes.proofs.Trace.Cuts.{alone_label, at_write}

module _ (t : Lists) (v : ℕ) where
  -- whether or not a happening is of this vector
  of_either : {P : Type 0} (u : ℕ) → (v ≡ u → P) → (eqb v u ≡ false → P) → P
  of_either u f g = by_test (eqb v u) (λ e. f (eqb-true v u e)) g

  other_label : (u : ℕ) → eqb v u ≡ false → eqb (suc u) (suc v) ≡ false
  other_label u e = ne_eqb (suc u) (suc v) (λ z. let d : v ≡ u = omega arith in eqb-false v u e d)

  -- ---- no event

  pub quiet_own : (s : ℕ) (h : List Happening) → Without (is_event_of v) (trace t s h) → history.Without is_event (own v h)
  unfolding trace moments item_moments labelled label_of is_event_of Without history.Without is_event
  quiet_own s [] q = rw (own_same v []) tt
  quiet_own s (at u ∷ h) q = rw own_at (refl, quiet_own (s + size t (at u ∷ [])) h q.1.1)
  quiet_own s (single i x p ∷ h) q = rw own_single (quiet_own (s + size t (single i x p ∷ [])) h q.1.1)
  quiet_own s (of u (began w) ∷ h) q =
      of_either u (λ e. rw (← e, own_of) (refl, quiet_own (s + size t (of u (began w) ∷ [])) h q.1))
      (λ e. rw (own_not v h u (began w) (eqb-false v u e)) (quiet_own (s + size t (of u (began w) ∷ [])) h q.1))
  quiet_own s (of u (wrote w) ∷ h) q =
      of_either u (λ e. rw (← e, own_of) (refl, quiet_own (s + size t (of u (wrote w) ∷ [])) h q.1))
      (λ e. rw (own_not v h u (wrote w) (eqb-false v u e)) (quiet_own (s + size t (of u (wrote w) ∷ [])) h q.1))
  quiet_own s (of u (shown c l) ∷ h) q =
      of_either u (λ e. absurd (eqb-false (suc u) (suc v) q.0 (ap suc (sym e))))
      (λ e. rw (own_not v h u (shown c l) (eqb-false v u e)) (quiet_own (s + size t (of u (shown c l) ∷ [])) h q.1))
  quiet_own s (of u over ∷ h) q =
      of_either u (λ e. rw (← e, own_of) (refl, quiet_own (s + size t (of u over ∷ [])) h q.1))
      (λ e. rw (own_not v h u over (eqb-false v u e)) (quiet_own (s + size t (of u over ∷ [])) h q.1))
  quiet_own s (ends ∷ h) q = rw own_ends (refl, quiet_own (s + size t (ends ∷ [])) h q.1)

  pub quiet_trace : (s : ℕ) (h : List Happening) → history.Without is_event (own v h)
      → Without (is_event_of v) (trace t s h)
  unfolding trace moments item_moments labelled label_of is_event_of Without history.Without is_event
  quiet_trace s [] q = tt
  quiet_trace s (at u ∷ h) q = let r = rw own_at at q in (refl, (eqb-zero-suc v, quiet_trace (s + size t (at u ∷ [])) h r.1))
  quiet_trace s (single i x p ∷ h) q = (
    refl,
    (
      rw (alone_label (nth t.kinds i) (nth t.refs i) x) (eqb-zero-suc v),
      quiet_trace (s + size t (single i x p ∷ [])) h
          (rw own_single at q),
    ),
  )
  quiet_trace s (of u (began w) ∷ h) q =
      of_either u (λ e. let r = rw (← e, own_of) at q in (refl, quiet_trace (s + size t (of u (began w) ∷ [])) h r.1))
      (λ e. (refl, quiet_trace (s + size t (of u (began w) ∷ [])) h (rw (own_not v h u (began w) (eqb-false v u e)) at q)))
  quiet_trace s (of u (wrote w) ∷ h) q =
      of_either u (λ e. let r = rw (← e, own_of) at q in (refl, quiet_trace (s + size t (of u (wrote w) ∷ [])) h r.1))
      (λ e. (refl, quiet_trace (s + size t (of u (wrote w) ∷ [])) h (rw (own_not v h u (wrote w) (eqb-false v u e)) at q)))
  quiet_trace s (of u (shown c l) ∷ h) q =
      of_either u (λ e. let r = rw (← e, own_of) at q in absurd (true≢false r.0))
      (λ e. (other_label u e, quiet_trace (s + size t (of u (shown c l) ∷ [])) h (rw (own_not v h u (shown c l) (eqb-false v u e)) at q)))
  quiet_trace s (of u over ∷ h) q =
      of_either u (λ e. let r = rw (← e, own_of) at q in (refl, quiet_trace (s + size t (of u over ∷ [])) h r.1))
      (λ e. (refl, quiet_trace (s + size t (of u over ∷ [])) h (rw (own_not v h u over (eqb-false v u e)) at q)))
  quiet_trace s (ends ∷ h) q = let r = rw own_ends at q in (refl, quiet_trace (s + size t (ends ∷ [])) h r.1)

  -- ---- no step's end

  pub within_step : (s : ℕ) (h : List Happening) → Named (gathers t) h → history.Without is_closing (own v h)
      → Without is_step_end (trace t s h)
  unfolding trace moments item_moments is_step_end Without history.Without is_closing Named
  within_step s [] n q = tt
  within_step s (at u ∷ h) n q = let r = rw own_at at q in (refl, (refl, within_step (s + size t (at u ∷ [])) h n r.1))
  within_step s (single i x p ∷ h) n q = (refl, (refl, within_step (s + size t (single i x p ∷ [])) h n.1 (rw own_single at q)))
  within_step s (of u (began w) ∷ h) n q = absurd n
  within_step s (of u (wrote w) ∷ h) n q =
      of_either u (λ e. let r = rw (← e, own_of) at q in (refl, within_step (s + size t (of u (wrote w) ∷ [])) h n.1 r.1))
      (λ e. (refl, within_step (s + size t (of u (wrote w) ∷ [])) h n.1 (rw (own_not v h u (wrote w) (eqb-false v u e)) at q)))
  within_step s (of u (shown c l) ∷ h) n q =
      of_either u (λ e. let r = rw (← e, own_of) at q in absurd (true≢false r.0))
      (λ e. (refl, within_step (s + size t (of u (shown c l) ∷ [])) h n (rw (own_not v h u (shown c l) (eqb-false v u e)) at q)))
  within_step s (of u over ∷ h) n q = absurd n
  within_step s (ends ∷ h) n q = let r = rw own_ends at q in absurd (true≢false r.0)

  -- ---- no write of a bit

  pub unwritten : (k s : ℕ) (h : List Happening) → Named (gathers t) h
      → Without (writes_bit (gathers t) v k) (trace t s h) → history.Without (history.writes_bit k) (own v h)
  unfolding trace moments item_moments writes_bit Without history.Without history.writes_bit Named
  unwritten k s [] n q = rw (own_same v []) tt
  unwritten k s (at u ∷ h) n q = rw own_at (refl, unwritten k (s + size t (at u ∷ [])) h n q.1.1)
  unwritten k s (single i x p ∷ h) n q = rw own_single (unwritten k (s + size t (single i x p ∷ [])) h n.1 q.1.1)
  unwritten k s (of u (began w) ∷ h) n q = absurd n
  unwritten k s (of u (wrote w) ∷ h) n q =
      of_either u
      (λ e.
      let p = rw (← e) at n.0 in
      let o = rw (← e, eq-eqb _ _ p.0, p.1) at q.0 in
      rw (← e, own_of) (o, unwritten k (s + size t (of u (wrote w) ∷ [])) h n.1 q.1))
      (λ e. rw (own_not v h u (wrote w) (eqb-false v u e)) (unwritten k (s + size t (of u (wrote w) ∷ [])) h n.1 q.1))
  unwritten k s (of u (shown c l) ∷ h) n q =
      of_either u (λ e. rw (← e, own_of) (refl, unwritten k (s + size t (of u (shown c l) ∷ [])) h n q.1))
      (λ e. rw (own_not v h u (shown c l) (eqb-false v u e)) (unwritten k (s + size t (of u (shown c l) ∷ [])) h n q.1))
  unwritten k s (of u over ∷ h) n q = absurd n
  unwritten k s (ends ∷ h) n q = rw own_ends (refl, unwritten k (s + size t (ends ∷ [])) h n q.1)

  -- ---- a write that waits

  -- one that no event followed in the vector's own part, in the trace ..
  pub waits_trace : (h : List Happening) → Named (gathers t) h → (w : Write) → histories.Waits w (own v h)
      → Waits (gathers t) v (trace t 0 h) w.bit w.value
  unfolding trace moments item_moments Named is_inner
  waits_trace h n w (a, m, e, q) =
      let o = own_place v h a (wrote w) m refl e in
      let b = (named_append (gathers t) o.before (of v (wrote w) ∷ o.behind) (rw o.split at n)).1 in
      record {
        id = (gathers t).max v - w.bit;
        pos = w.pos;
        before = trace t 0 o.before;
        since = trace t (0 + size t o.before + size t (of v (wrote w) ∷ [])) o.behind;
        split = ap (trace t 0) o.split ∙ trace_append t 0 o.before (of v (wrote w) ∷ o.behind);
        vector = b.0.0;
        bit = b.0.1;
        none = quiet_trace _ o.behind (rw o.back q);
      }

  -- .. and back
  pub waits_own : (h : List Happening) → Named (gathers t) h → (k x : ℕ) → Waits (gathers t) v (trace t 0 h) k x
      → (w : Write) × histories.Waits w (own v h) × (w.bit ≡ k) × (w.value ≡ x)
  waits_own h n k x q =
      let o = at_write t h n v q.before q.id x q.pos q.since q.split q.vector in (
        o.write,
        (
          own v o.before,
          own v o.behind,
          ap (own v) o.split ∙ own_append v o.before (of v (wrote o.write) ∷ o.behind) ∙ ap
              (λ l. own v o.before ++ l) (own_of v o.behind (wrote o.write)),
          quiet_own o.from o.behind (rw o.right at q.none),
        ),
        o.bit ∙ q.bit,
        o.value,
      )
