-- What the operations on a vector and its flags do to the room and to the numbers.
-- Assumes nothing.
use Rattle.std.specs.Prelude.{ℕ, ◌+◌, ◌^◌, ◌<◌, ◌≤◌, ◌≡◌, false, cond, List, length}
use Rattle.slices.specs.Splice.{splice}
use Rattle.states.specs.Kind.{bits}
use Rattle.vecmarks.specs.declared.VecBufferInfo.{VecBufferInfo}
use Rattle.vecmarks.specs.Info.{Inside, end_of, with_value, is_marked, with_mark, without_marks, values_of}
use Rattle.vecstarts.specs.Numbers.{listing}

-- the room, the numbers, and how many vectors are listed
pub data Lent : Type 0 where
  mk : List ℕ → List ℕ → ℕ → Lent

-- the flags f say that vector v has marks, and it is listed where it was not yet: "keep each once per step with its own listed flag"
unfoldable pub marked : VecBufferInfo → ℕ → ℕ → List ℕ → List ℕ → Lent
marked f v k room nums =
    cond (is_marked f v room)
    (mk (with_value f v 1 room) nums k)
    (mk (with_value f v 1 (with_mark f v 1 room)) (listing nums k v) (k + 1))

pub record Marks (room nums : List ℕ) (f : VecBufferInfo) (v k : ℕ) : Type 0 where
  pub flags : Inside room f
  pub known : v < f.width
  pub few : v < 16384
  pub short : k < 16384
  pub list : is_marked f v room ≡ false → k < length nums

-- (b) "store and mark"
unfoldable pub updated : VecBufferInfo → VecBufferInfo → ℕ → ℕ → ℕ → ℕ → List ℕ → List ℕ → Lent
updated i f v k b x room nums = marked f v k (with_mark i b 1 (with_value i b x room)) nums

pub record Updates (room nums : List ℕ) (i f : VecBufferInfo) (v k b x : ℕ) : Type 0 where
  pub marks : Marks room nums f v k
  pub vector : Inside room i
  pub inside : b < i.width
  pub small : x < 2 ^ bits i.states
  pub before : end_of i ≤ f.start

-- "make an event of the stored vector and clear its marks": the room, and the value buffer with the value at `at`
unfoldable pub taken : VecBufferInfo → VecBufferInfo → ℕ → ℕ → List ℕ → List ℕ → List ℕ × List ℕ
taken i f v at room values = (with_value f v 0 (without_marks i room), splice values at (values_of i room))

pub record Takes (room : List ℕ) (i f : VecBufferInfo) (v : ℕ) (values : List ℕ) (at : ℕ) : Type 0 where
  pub vector : Inside room i
  pub flags : Inside room f
  pub known : v < f.width
  pub space : at + i.bytes ≤ length values
