-- What a step's end does, taken apart once for every theorem about it.
-- Assumes nothing.
use Rattle.std.specs.Prelude.{◌≡◌, ℕ, ◌+◌, ◌<◌, Bool, ◌&&◌, List, [], ◌∷◌, ◌++◌, ◌⊎◌, ltb, leb, eqb}
use Rattle.std.proofs.Math.Path.{refl}
use Rattle.std.proofs.Math.Bool.{true, false}
use Rattle.std.proofs.Math.Logic.{inl, inr}
use Rattle.std.proofs.Common.{arith}
use borrow.Author.Tests.{ltb-true}
use Rattle.std.proofs.Math.ListN.{length}
use Rattle.slices.specs.Choice.{cond_ind}
use Rattle.step_ends.specs.declared.Watch.{Watch}
use Rattle.step_ends.specs.Steps.{rose}
use Rattle.sessions.specs.declared.Bench.{Bench}
use Rattle.sessions.specs.Places.{place_of, place_for, counted, dropped}
use Rattle.sessions.specs.Places.Laws.{Most, counted_most, dropped_most}
use Rattle.fragment_records.specs.Output.{Out, fragment, out_bytes, bytes_of}
use Rattle.fragments.specs.Counting.{Does, went, stops, seated, closes, closed_of, behind, and_then, counting, closing, step_end}

-- what holds of the bench and the records after something that was done
abbrev pub After : (Bench → List Out → Type 0) → Does → Type 0
After R (went b outs) = R b outs
After R (stops n p) = Unit {0}

-- why a step's end is refused, and where
abbrev pub Stops : (at next : ℕ) → Does → Type 0
Stops at next (went b outs) = Unit {0}
Stops at next (stops n p) = ((n ≡ 16) × (p ≡ next)) ⊎ ((n ≡ 21) × (p ≡ at))

module _ (room n : ℕ) (before : Watch) (b : Bench) (w : Watch) (at next : ℕ) where
  abbrev o : Out
  o = fragment w.time w.session

  counting_after : (R : Bench → List Out → Type 0) (m : Bool) → (m ≡ false → R b []) → (m ≡ true → place_for b w.session < 32 → R (counted b (place_for b w.session) w.session) (o ∷ []))
      → After R (counting room m n b w at next)
  unfolding counting seated
  counting_after R false f g = f refl
  counting_after R true f g =
      cond_ind (leb (n + length (out_bytes o)) room) _ _ (After R)
      (λ e. cond_ind (ltb (place_for b w.session) 32) _ _ (After R) (λ l. g refl (ltb-true (place_for b w.session) 32 l)) (λ l. tt)) (λ e. tt)

  closing_by : (R : Bench → List Out → Type 0) (k : ℕ) (c : Bench) (x y : Bool) → (y ≡ true → place_of c w.session < 32) → R c [] → (place_of c w.session < 32 → R (dropped c (place_of c w.session)) (closed_of c w ∷ []))
      → After R (closing room (x && y) k c w next)
  unfolding closing
  closing_by R k c false y h f g = f
  closing_by R k c true false h f g = f
  closing_by R k c true true h f g = cond_ind (leb (k + length (out_bytes (closed_of c w))) room) _ _ (After R) (λ e. g (h refl)) (λ e. tt)

  closing_after : (R : Bench → List Out → Type 0) (k : ℕ) (c : Bench) → R c [] → (place_of c w.session < 32 → R (dropped c (place_of c w.session)) (closed_of c w ∷ []))
      → After R (closing room (closes c w) k c w next)
  unfolding closes
  closing_after R k c f g = closing_by R k c (eqb w.close 1) (ltb (place_of c w.session) 32) (λ e. ltb-true (place_of c w.session) 32 e) f g

  behind_after : (R : Bench → List Out → Type 0) (outs : List Out) (d : Does) → After (λ c more. R c (outs ++ more)) d → After R (behind outs d)
  unfolding behind
  behind_after R outs (went c more) h = h
  behind_after R outs (stops m p) h = h

  -- a step's end: what holds after counting, and then after closing
  module _ (Q R : Bench → List Out → Type 0) (none : rose before w ≡ false → Q b [])
      (one : rose before w ≡ true → place_for b w.session < 32 → Q (counted b (place_for b w.session) w.session) (o ∷ []))
      (stays : (c : Bench) (outs : List Out) → Q c outs → R c (outs ++ []))
      (closes : (c : Bench) (outs : List Out) → Q c outs → place_of c w.session < 32 → R (dropped c (place_of c w.session)) (outs ++ closed_of c w ∷ [])) where
    pub step_after : After R (step_end room n before b w at next)
    unfolding step_end and_then
    step_after = by (counting room (rose before w) n b w at next) (counting_after Q (rose before w) none one)
      where
        by : (d : Does) → After Q d → After R (and_then d (λ c outs. closing room (Rattle.fragments.specs.Counting.closes c w) (n + length (bytes_of outs)) c w next))
        by (went c outs) q = behind_after R outs _ (closing_after (λ d more. R d (outs ++ more)) (n + length (bytes_of outs)) c (stays c outs q) (λ l. closes c outs q l))
        by (stops m p) q = tt

  -- "16 .. next unread byte"; "21 .. at the record ending the step"
  counting_stops : (m : Bool) → Stops at next (counting room m n b w at next)
  unfolding counting seated
  counting_stops false = tt
  counting_stops true =
      cond_ind (leb (n + length (out_bytes o)) room) _ _ (Stops at next)
      (λ e. cond_ind (ltb (place_for b w.session) 32) _ _ (Stops at next) (λ l. tt) (λ l. inr (refl, refl))) (λ e. inl (refl, refl))

  closing_stops : (x : Bool) (k : ℕ) (c : Bench) → Stops at next (closing room x k c w next)
  unfolding closing
  closing_stops false k c = tt
  closing_stops true k c = cond_ind (leb (k + length (out_bytes (closed_of c w))) room) _ _ (Stops at next) (λ e. tt) (λ e. inl (refl, refl))

  behind_stops : (outs : List Out) (d : Does) → Stops at next d → Stops at next (behind outs d)
  unfolding behind
  behind_stops outs (went c more) h = h
  behind_stops outs (stops m p) h = h

  pub step_stops : Stops at next (step_end room n before b w at next)
  unfolding step_end and_then
  step_stops = by (counting room (rose before w) n b w at next) (counting_stops (rose before w))
    where
      by : (d : Does) → Stops at next d → Stops at next (and_then d (λ c outs. closing room (closes c w) (n + length (bytes_of outs)) c w next))
      by (went c outs) h = behind_stops outs _ (closing_stops (closes c w) (n + length (bytes_of outs)) c)
      by (stops m p) h = h

  -- one more at the most
  pub step_most : (m : ℕ) → Most m b → After (λ c outs. Most (m + 1) c) (step_end room n before b w at next)
  step_most m h =
      step_after (λ c outs. Most (m + 1) c) (λ c outs. Most (m + 1) c) (λ e i. omega (arith, h i)) (λ e l. counted_most b (place_for b w.session) w.session m h) (λ c outs q. q)
      (λ c outs q l. dropped_most c (place_of c w.session) (m + 1) q)
