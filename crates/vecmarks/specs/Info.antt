-- The values and marks of one vector in the room, by where its bytes lie.
-- Assumes nothing.
use Rattle.std.specs.Prelude.{ℕ, ◌+◌, ◌*◌, ◌<◌, ◌≤◌, ◌≡◌, Bool, true, false, not, ◌&&◌, List, eqb, length, replicate}
use Rattle.slices.specs.Splice.{splice, part}
use Rattle.states.specs.declared.States.TheVariants.{Two}
use Rattle.states.specs.Kind.{bits, per_byte, bytes_required}
use Rattle.states.specs.Packed.{field_at, set_at, value_place}
use Rattle.tables.specs.Layout.{Layout, value_bytes, start}
use Rattle.vecmarks.specs.declared.VecBufferInfo.{VecBufferInfo}

-- a mark as a bit
abbrev pub num : Bool → ℕ
num true = 1
num false = 0

-- what is looked up of a vector; at `count`, of the flags
abbrev pub info_at : Layout → ℕ → VecBufferInfo
info_at t v = record { start = start t v; bytes = value_bytes t v; width = t.width v; states = t.state v }

-- "mask bytes (width divided by 8, rounded up)"
abbrev pub mask_bytes_of : VecBufferInfo → ℕ
mask_bytes_of i = bytes_required Two i.width

-- the value of a bit: "Bit 0 lies lowest in the last byte"
unfoldable pub value_of : VecBufferInfo → ℕ → List ℕ → ℕ
value_of i b room = field_at (bits i.states) (value_place i.states i.start i.bytes b) room

unfoldable pub with_value : VecBufferInfo → ℕ → ℕ → List ℕ → List ℕ
with_value i b x room = set_at (bits i.states) (value_place i.states i.start i.bytes b) room x

-- the mark of a bit: that of bit 0 lies lowest in the first mask byte
abbrev pub mark_place : VecBufferInfo → ℕ → ℕ
mark_place i b = 8 * (i.start + i.bytes) + b

unfoldable pub mark_of : VecBufferInfo → ℕ → List ℕ → ℕ
mark_of i b room = field_at 1 (mark_place i b) room

unfoldable pub with_mark : VecBufferInfo → ℕ → ℕ → List ℕ → List ℕ
with_mark i b x room = set_at 1 (mark_place i b) room x

unfoldable pub is_marked : VecBufferInfo → ℕ → List ℕ → Bool
is_marked i b room = eqb (mark_of i b room) 1

-- (a) "if that bit was written since the vector's last event and the new value differs"
unfoldable pub is_second : VecBufferInfo → ℕ → ℕ → List ℕ → Bool
is_second i b x room = is_marked i b room && not (eqb x (value_of i b room))

-- of the flags: whether a vector has marks
unfoldable pub has_marks : VecBufferInfo → ℕ → List ℕ → Bool
has_marks f v room = eqb (value_of f v room) 1

-- vector v has marks and is listed, by the flags f, and bit 0 is not marked: a write to another bit that is not marked either makes no event and lists nothing
unfoldable pub is_quiet : (i f : VecBufferInfo) → ℕ → List ℕ → Bool
is_quiet i f v room = has_marks f v room && (is_marked f v room && not (is_marked i 0 room))

-- a bit stored and marked
abbrev pub with_bit : VecBufferInfo → (b x : ℕ) → List ℕ → List ℕ
with_bit i b x room = with_mark i b 1 (with_value i b x room)

-- all value bytes, and all mask bytes
abbrev pub values_of : VecBufferInfo → List ℕ → List ℕ
values_of i room = part room i.start i.bytes

abbrev pub marks_of : VecBufferInfo → List ℕ → List ℕ
marks_of i room = part room (i.start + i.bytes) (mask_bytes_of i)

-- no bit is marked
unfoldable pub without_marks : VecBufferInfo → List ℕ → List ℕ
without_marks i room = splice room (i.start + i.bytes) (replicate (mask_bytes_of i) 0)

-- where the bytes of a vector end
abbrev pub end_of : VecBufferInfo → ℕ
end_of i = i.start + i.bytes + mask_bytes_of i

-- the bytes of a vector lie inside the room
pub record Inside (room : List ℕ) (i : VecBufferInfo) : Type 0 where
  pub bytes : i.bytes ≡ bytes_required i.states i.width
  pub fits : end_of i ≤ length room
  pub low : end_of i ≤ 1073741823

-- the bytes of two vectors have none in common: those of i come first, or those of j
pub data Apart (i j : VecBufferInfo) : Type 0 where
  first : end_of i ≤ j.start → Apart i j
  last : end_of j ≤ i.start → Apart i j

-- the places of a vector's values and marks, also those above its width
pub record HasValue (i : VecBufferInfo) (b : ℕ) : Type 0 where
  pub within : b < per_byte i.states * i.bytes

pub record HasMark (i : VecBufferInfo) (b : ℕ) : Type 0 where
  pub within : b < 8 * mask_bytes_of i
