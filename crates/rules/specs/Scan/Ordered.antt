-- Scans whose acts are whole steps: what each act may follow, where the scan may end, and with what it may be refused.
-- Assumes nothing.
use Rattle.std.specs.Prelude.{ℕ, ◌<◌, ◌≡◌, refl, Bool}
use Rattle.std.proofs.Common.{sym, ap}
use Rattle.std.proofs.Math.Path.{subst}
use Rattle.std.proofs.Math.Bool.{true, false}
use Rattle.rules.specs.Gather.{time, write, step_end}
use Rattle.rules.specs.Steps.{Steps}
use Rattle.rules.specs.Once.{Rising}
use Rattle.rules.specs.Scan.{Scan, say, done, fault, acts, and_then, Ends, Faults}

module _ (follows : ℕ → ℕ → Type 0) (ends_at refuses : ℕ → Type 0) where
  -- from inside a step (true) or from between steps (false), where n was the last id written in the step, 0 for none
  unfoldable pub Ordered : Scan → Bool → ℕ → Type 0
  Ordered (say (time u) p sc) false n = Ordered sc true n
  Ordered (say (time u) p sc) true n = ⊥
  Ordered (say (write i x q) p sc) false n = ⊥
  Ordered (say (write i x q) p sc) true n = follows n i × Ordered sc true i
  Ordered (say step_end p sc) false n = ⊥
  Ordered (say step_end p sc) true n = Ordered sc false 0
  Ordered (done i) false n = ends_at i
  Ordered (done i) true n = ⊥
  Ordered (fault m p) open? n = refuses m

  -- whole steps, where the scan was read to its end
  pub ordered_steps : (sc : Scan) (open? : Bool) (n i : ℕ) → Ordered sc open? n → Ends i sc → Steps open? (acts sc)
  unfolding Ordered Ends Steps acts
  ordered_steps (say (time u) p sc) false n i o e = ordered_steps sc true n i o e
  ordered_steps (say (time u) p sc) true n i o e = absurd o
  ordered_steps (say (write j x q) p sc) false n i o e = absurd o
  ordered_steps (say (write j x q) p sc) true n i o e = ordered_steps sc true j i o.1 e
  ordered_steps (say step_end p sc) false n i o e = absurd o
  ordered_steps (say step_end p sc) true n i o e = ordered_steps sc false 0 i o e
  ordered_steps (done j) false n i o e = tt
  ordered_steps (done j) true n i o e = absurd o
  ordered_steps (fault m p) open? n i o e = absurd e

  pub ordered_end : (sc : Scan) (open? : Bool) (n i : ℕ) → Ordered sc open? n → Ends i sc → ends_at i
  unfolding Ordered Ends
  ordered_end (say (time u) p sc) false n i o e = ordered_end sc true n i o e
  ordered_end (say (time u) p sc) true n i o e = absurd o
  ordered_end (say (write j x q) p sc) false n i o e = absurd o
  ordered_end (say (write j x q) p sc) true n i o e = ordered_end sc true j i o.1 e
  ordered_end (say step_end p sc) false n i o e = absurd o
  ordered_end (say step_end p sc) true n i o e = ordered_end sc false 0 i o e
  ordered_end (done j) false n i o e = subst ends_at (sym e) o
  ordered_end (done j) true n i o e = absurd o
  ordered_end (fault m p) open? n i o e = absurd e

  pub ordered_fault : (sc : Scan) (open? : Bool) (n m p : ℕ) → Ordered sc open? n → Faults m p sc → refuses m
  unfolding Ordered Faults
  ordered_fault (say (time u) q sc) false n m p o e = ordered_fault sc true n m p o e
  ordered_fault (say (time u) q sc) true n m p o e = absurd o
  ordered_fault (say (write j x r) q sc) false n m p o e = absurd o
  ordered_fault (say (write j x r) q sc) true n m p o e = ordered_fault sc true j m p o.1 e
  ordered_fault (say step_end q sc) false n m p o e = absurd o
  ordered_fault (say step_end q sc) true n m p o e = ordered_fault sc false 0 m p o e
  ordered_fault (done j) open? n m p o e = absurd e
  ordered_fault (fault k q) open? n m p o e = subst refuses (sym e.0) o

-- "ids rise within a list"
pub ordered_rising : (ends_at refuses : ℕ → Type 0) (sc : Scan) (open? : Bool) (n : ℕ) → Ordered ◌<◌ ends_at refuses sc open? n → Rising n (acts sc)
unfolding Ordered Rising acts
ordered_rising d f (say (time u) p sc) false n o = ordered_rising d f sc true n o
ordered_rising d f (say (time u) p sc) true n o = absurd o
ordered_rising d f (say (write j x q) p sc) false n o = absurd o
ordered_rising d f (say (write j x q) p sc) true n o = (o.0, ordered_rising d f sc true j o.1)
ordered_rising d f (say step_end p sc) false n o = absurd o
ordered_rising d f (say step_end p sc) true n o = ordered_rising d f sc false 0 o
ordered_rising d f (done j) open? n o = tt
ordered_rising d f (fault m p) open? n o = tt

-- what follows a part that something follows already
pub then_then : (sc : Scan) (f k : ℕ → Scan) → and_then (and_then sc f) k ≡ and_then sc (λ i. and_then (f i) k)
unfolding and_then
then_then (say a p sc) f k = ap (say a p) (then_then sc f k)
then_then (done i) f k = refl
then_then (fault n p) f k = refl
