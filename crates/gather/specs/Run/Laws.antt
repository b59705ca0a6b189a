-- A part of the input, and what comes after it.
-- Assumes nothing.
use Rattle.std.specs.Prelude.{◌≡◌, refl, ℕ}
use Rattle.std.proofs.Math.Option.{Option, none, some}
use Rattle.tables.specs.Lists.{Lists}
use Rattle.rules.specs.Gather.{State}
use Rattle.event_rooms.specs.Out.{Rooms, Out}
use Rattle.rules.specs.Scan.{Scan, say, done, fault, and_then}
use Rattle.gather.specs.Run.{Went, went, out, fitted, acted, after, run}

-- what follows where a part was read
unfoldable pub went_on : Lists → Rooms → Went → (ℕ → Scan) → Went
went_on t r (went i g o) k = run t r (k i) g o
went_on t r (out n p) k = out n p

pub run_and_then : (t : Lists) (r : Rooms) (sc : Scan) (k : ℕ → Scan) (g : State) (o : Out) → run t r (and_then sc k) g o ≡ went_on t r (run t r sc g o) k
unfolding run and_then went_on fitted
run_and_then t r (say a p rest) k g o = go (acted t r g o a) (λ o'. run_and_then t r rest k (after t r g a) o')
  where
    go : (x : Option Out)
        → ((o' : Out) → run t r (and_then rest k) (after t r g a) o' ≡ went_on t r (run t r rest (after t r g a) o') k)
        → fitted p x out (λ o'. run t r (and_then rest k) (after t r g a) o') ≡ went_on t r (fitted p x out (λ o'. run t r rest (after t r g a) o')) k
    go none rec = refl
    go (some o') rec = rec o'
run_and_then t r (done i) k g o = refl
run_and_then t r (fault n p) k g o = refl
