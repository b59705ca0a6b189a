-- What acts cost, and scans whose acts never cost more than a budget for the bytes that were read.
-- Assumes nothing.
use Rattle.std.specs.Prelude.{ℕ, ◌+◌, ◌≤◌}
use mathlib.Core.List.{List, [], ◌∷◌, ◌++◌}
use native.Mathlib.Omega.{arith}
use Rattle.rules.specs.Gather.{Act}
use Rattle.rules.specs.Scan.{Scan, say, done, fault, Says}
pub mod Sections
pub mod Changes

module _ (cost : Act → ℕ) where
  unfoldable pub costs : List Act → ℕ
  costs [] = 0
  costs (a ∷ l) = cost a + costs l

  -- of all acts of a scan
  unfoldable pub costs_of : Scan → ℕ
  costs_of (say a p rest) = cost a + costs_of rest
  costs_of (done i) = 0
  costs_of (fault m p) = 0

  -- behind acts that cost n: after each act all have cost no more than the budget of the bytes read, and these lie in
  -- the input
  module _ (budget : ℕ → ℕ) (input : ℕ) where
    unfoldable pub Covers : ℕ → Scan → Type 0
    Covers n (say a p rest) = (n + cost a ≤ budget p) × (p ≤ input) × Covers (n + cost a) rest
    Covers n (done i) = Unit {0}
    Covers n (fault m p) = Unit {0}

    pub covers_said : (sc : Scan) (n : ℕ) (before : List Act) (a : Act) (p : ℕ) → Covers n sc → Says sc before a p
        → (n + costs (before ++ a ∷ []) ≤ budget p) × (p ≤ input)
    unfolding Covers Says costs
    covers_said (say b q rest) n [] a p c (e, f) = rw (← e, ← f) (omega (arith, c.0), c.1)
    covers_said (say b q rest) n (d ∷ before) a p c (e, f) =
        let r = covers_said rest (n + cost b) before a p c.2 f in
        rw (← e) (omega (arith, r.0), r.1)
    covers_said (done i) n before a p c e = absurd e
    covers_said (fault m q) n before a p c e = absurd e

    pub covers_all : ((i j : ℕ) → i ≤ j → budget i ≤ budget j) → (sc : Scan) (n : ℕ) → n ≤ budget input → Covers n sc
        → n + costs_of sc ≤ budget input
    unfolding Covers costs_of
    covers_all more (say a p rest) n l c =
        let r = covers_all more rest (n + cost a) (omega (arith, c.0, more p input c.1)) c.2 in
        omega (arith, r)
    covers_all more (done i) n l c = omega arith
    covers_all more (fault m p) n l c = omega arith
