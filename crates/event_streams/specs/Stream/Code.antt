-- A record of a known kind at a place of a stream.
-- Assumes nothing.
use Rattle.std.specs.Prelude.{◌≡◌, ℕ, ◌+◌, ◌-◌, ◌≤◌, ◌<◌, List, length, get_or}
use Rattle.std.proofs.Common.{arith}
use Rattle.event_streams.specs.Stream.{event_length}

-- a whole record of a known kind stands at `at`
pub record Whole (s : List ℕ) (at : ℕ) : Type 0 where
  pub known : 0 < event_length (get_or s at 0)
  pub whole : at + event_length (get_or s at 0) ≤ length s

-- the first byte of a record of a known kind stands at `at`, and the record is to be `size` bytes long
pub record Known (s : List ℕ) (at size : ℕ) : Type 0 where
  pub begins : at < length s
  pub known : 0 < size
  pub sized : size ≡ event_length (get_or s at 0)

pub known : {s : List ℕ} {at size : ℕ} → at < length s → size ≡ event_length (get_or s at 0) → (size ≡ 0 → ⊥) → Known s at size
known h k n = record { begins = h; known = omega arith; sized = k }

pub whole : {s : List ℕ} {at size : ℕ} → Known s at size → size ≤ length s - at → Whole s at
whole k h = record { known = omega (arith, k.sized, k.known); whole = omega (arith, k.sized, k.begins) }
