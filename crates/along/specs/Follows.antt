-- Changes that follow one another along the bits of one vector, and make no event.
-- Assumes nothing.
use Rattle.std.specs.Prelude.{ℕ, ◌+◌, ◌-◌, ◌<◌, ◌≤◌, ◌≡◌, Bool, true, ◌&&◌, List, ltb, length, get_or}
use Rattle.states.specs.declared.States.{States}
use Rattle.rules.specs.Gather.{write}
use Rattle.vecmarks.specs.declared.VecBufferInfo.{VecBufferInfo}
use Rattle.vecmarks.specs.Info.{Inside, is_quiet}
use Rattle.gather.specs.declared.VecInfo.{VecInfo}
use Rattle.rules.specs.Scan.{Scan, say}
use Rattle.quiet_changes.specs.Along.{bit_map, Taken}
use Rattle.along.specs.declared.Reached.{Reached}
pub mod Code
pub mod Laws

-- from the room with `left` bits left at `at`, such changes lead to the room after them, the bits that are left then, and the place behind
pub data Along (i : VecBufferInfo) (s : List ℕ) (room : List ℕ) (left at : ℕ) : List ℕ → ℕ → ℕ → Type 0 where
  none : Along i s room left at room left at
  more : {room₁ room₂ : List ℕ} {left₁ left₂ at₁ at₂ d : ℕ} → Along i s room left at room₁ left₁ at₁ → at₁ + 2 ≤ length s → Taken i s left₁ at₁ room₁ room₂ d → left₂ ≡ left₁ - d → at₂ ≡ at₁ + 2
      → Along i s room left at room₂ left₂ at₂

pub record FollowAsks (k : States) (i : VecBufferInfo) (s : List ℕ) (bit at : ℕ) (room : List ℕ) : Type 0 where
  pub inside : Inside room i
  pub kind : k ≡ i.states
  pub wide : bit ≤ i.width
  pub within : at ≤ length s

pub record Followed (i : VecBufferInfo) (s room : List ℕ) (bit at : ℕ) (room' : List ℕ) (r : Reached) : Type 0 where
  pub ran : Along i s room bit at room' r.left r.at
  pub ahead : at ≤ r.at

-- whether a change of some delta below `left` may lie at a place
unfoldable pub is_near : List ℕ → (left at : ℕ) → Bool
is_near s left at = ltb at (length s) && (ltb 0 (get_or s at 0) && ltb (get_or s at 0) left)

pub record AlongAsks (room : List ℕ) (x : VecInfo) (bit : ℕ) : Type 0 where
  pub vector : Inside room x.info
  pub flags : Inside room x.flags
  pub known : x.v < x.flags.width
  pub inside : bit < x.info.width

-- nothing was read, or the vector is such that short changes to bits that are not marked make no event, and some were
pub data Ran (x : VecInfo) (s : List ℕ) (bit at : ℕ) (room : List ℕ) : List ℕ → Reached → Type 0 where
  stays : Ran x s bit at room room (record { left = bit; at = at })
  follows : {room' : List ℕ} {r : Reached} → is_quiet x.info x.flags x.v room ≡ true → Followed x.info s room bit at room' r → Ran x s bit at room room' r

-- the writes of such changes, as they are said before the rest: bit b is that of the id `max - b`
unfoldable pub said : {i : VecBufferInfo} {s room : List ℕ} {left at : ℕ} {room' : List ℕ} {left' at' : ℕ} (max : ℕ) → Along i s room left at room' left' at' → Scan → Scan
said max none rest = rest
said {i} {s} max (more {left₂ = left₂} {at₁ = at₁} {at₂ = at₂} a h k p q) rest = said max a (say (write (max - left₂) (bit_map i.states (get_or s (at₁ + 1) 0)) (at₁ + 1)) at₂ rest)
