-- What comes next in a trace: the first event of a vector, and events up to a step's end.
-- Assumes nothing.
use Rattle.std.specs.Prelude.{ℕ, suc, ◌+◌, ◌≡◌, refl, Bool, List, [], ◌∷◌, ◌++◌}
use Rattle.std.proofs.Common.{sym, ap, ◌∙◌}
use Rattle.std.proofs.Math.Option.{none}
use Rattle.std.proofs.lemmas.Bool.{eqb-false}
use Rattle.tables.specs.Lists.{Lists}
use Rattle.rules.specs.Vector.{began, wrote, shown, over}
use Rattle.rules.specs.Gather.{Tables, Happening, at, single, of, ends, own}
use Rattle.rules.proofs.History.Laws.{closing_event}
use Rattle.rules.specs.Owned.Laws.{EventFirst}
use Rattle.gather.specs.Run.{gathers}
use Rattle.demand3_bytes.specs.Statements.{Labelled, Moment, made, label_of, is_event_of, is_said, Without, First, Waits, ByEnd}
use Rattle.demand3_bytes.specs.Own.{is_inner}
use Rattle.demand3_bytes.proofs.Own.{own_place}
use Rattle.demand3_bytes.specs.Trace.{labelled}
use Rattle.demand3_bytes.proofs.Trace.{event_of, item_moments, moments, size, trace, trace_append}
use Rattle.demand3_bytes.specs.Trace.Named.{Named}
use Rattle.demand3_bytes.proofs.Trace.Named.{named_append}
use Rattle.demand3_bytes.proofs.Trace.Stretches.{quiet_trace, within_step}
use Rattle.demand3_bytes.specs.Causes.{UntilEnd}
use Rattle.demand3_bytes.specs.Trace.Nexts.{Comes}

-- ---- two first events of a vector are one

one_first : (v : ℕ) (m n : List Moment) (r q : Labelled) (rest others : List Moment) → Without (is_event_of v) m
    → Without (is_event_of v) n
    → r.label ≡ suc v → q.label ≡ suc v → m ++ made r ∷ rest ≡ n ++ made q ∷ others
    → (m ≡ n) × (r ≡ q) × (rest ≡ others)
unfolding Without is_event_of
one_first v [] [] r q rest others a b e f p = (refl, (cc), (cc))
one_first v [] (x ∷ n) r q rest others a b e f p =
    let d : x ≡ made r = cc in absurd (eqb-false r.label (suc v) (rw d at b.0) e)
one_first v (x ∷ m) [] r q rest others a b e f p =
    let d : x ≡ made q = cc in absurd (eqb-false q.label (suc v) (rw d at a.0) f)
one_first v (x ∷ m) (y ∷ n) r q rest others a b e f p =
    let d : x ≡ y = cc in
    let (g, h, k) = one_first v m n r q rest others a.1 b.1 e f (cc) in
    (rw (d, g), h, k)

pub one_event : (v : ℕ) (b m n : List Moment) (r q : Labelled) (rest others : List Moment) → First v b m r rest
    → First v b n q others → (m ≡ n) × (r ≡ q) × (rest ≡ others)
one_event v b m n r q rest others x y =
    one_first v m n r q rest others x.none y.none x.label y.label (sym x.split ∙ y.split)

-- ---- up to a step's end

pub by_end : (t : Lists) (s : ℕ) (h : List Happening) → UntilEnd h → ByEnd (trace t s h)
unfolding UntilEnd trace moments item_moments Without is_said
by_end t s [] u = absurd u
by_end t s (at w ∷ h) u = absurd u
by_end t s (single i x p ∷ h) u = absurd u
by_end t s (of v (began w) ∷ h) u = absurd u
by_end t s (of v (wrote x) ∷ h) u = absurd u
by_end t s (of v (shown c l) ∷ h) u =
    let k = by_end t (s + size t (of v (shown c l) ∷ [])) h u in
    record {
      records = made (labelled s (event_of t v l)) ∷ k.records;
      rest = k.rest;
      next = ap
          (λ z. made (labelled s (event_of t v l)) ∷ z) k.next;
      only = (refl, k.only);
    }
by_end t s (of v over ∷ h) u = absurd u
by_end t s (ends ∷ h) u = record { records = []; rest = trace t (s + size t (ends ∷ [])) h; next = refl; only = tt }

pub comes : (t : Lists) (v s : ℕ) (h : List Happening) → Named (gathers t) h → EventFirst (own v h)
    → Comes v (trace t s h)
unfolding trace moments item_moments is_inner labelled label_of
comes t v s h n (m, c, l, rest, q, w) =
    let o = own_place v h m (shown c l) rest refl q in (
      trace t s o.before,
      labelled (s + size t o.before) (event_of t v l),
      trace t (s + size t o.before + size t (of v (shown c l) ∷ [])) o.behind,
      record {
        split = ap (trace t s) o.split ∙ trace_append t s o.before (of v (shown c l) ∷ o.behind);
        label = refl;
        none = quiet_trace t v s o.before (rw o.front (closing_event m w));
      },
      within_step t v s o.before (named_append (gathers t) o.before (of v (shown c l) ∷ o.behind)
          (rw o.split at n)).0 (rw o.front w),
    )

pub comes_left : {v : ℕ} {a b : List Moment} → a ≡ b → Comes v b → Comes v a
comes_left e w = rw e w

pub waits_left : {t : Tables} {v : ℕ} {a b : List Moment} {k x : ℕ} → a ≡ b → Waits t v b k x → Waits t v a k x
waits_left e w = rw e w

pub waits_bit : {t : Tables} {v : ℕ} {a : List Moment} {j k x : ℕ} → k ≡ j → Waits t v a j x → Waits t v a k x
waits_bit e w = rw e w

pub still : (p q : Moment → Bool) {m n : List Moment} → p ≡ q → m ≡ n → Without p m → Without q n
still p q e f w = rw (e, f) at w
