-- What the code of one vector's fields asks, and says.
-- Assumes nothing.
use Rattle.std.specs.Prelude.{◌≡◌, ℕ, ◌+◌, ◌*◌, ◌/◌, ◌<◌, ◌≤◌, Bool, true, false, not, cond, List, eqb, length}
use Rattle.std.proofs.Common.{◌∙◌, arith, Fits}
use borrow.Author.Tests.{not-true, not-false}
use Rattle.std.specs.Int.{w64}
use Rattle.states.specs.declared.States.TheVariants.{Two}
use Rattle.states.specs.Kind.{bits, per_byte}
use Rattle.states.specs.Packed.{field_at, set_at, value_place}
use Rattle.states.specs.Packed.Laws.{bit_fits}
use Rattle.vecmarks.specs.declared.VecBufferInfo.{VecBufferInfo}
use Rattle.vecmarks.specs.Info.{value_of, with_value, mark_place, mark_of, with_mark, is_marked, is_second, has_marks, is_quiet, with_bit, Inside}

-- what the code of a field asks
module _ {room : List ℕ} {i : VecBufferInfo} (h : Inside room i) where
  pub ask_room : i.start + i.bytes ≤ length room
  ask_room = omega (arith, h.fits)

  pub ask_low : i.start + i.bytes ≤ 1073741823
  ask_low = omega (arith, h.low)

  pub fits_sum : Fits w64 (i.start + i.bytes)
  fits_sum = omega (arith, h.low)

  pub fits_times : Fits w64 (8 * (i.start + i.bytes))
  fits_times = omega (arith, h.low)

  module _ {b : ℕ} (o : b < i.width) where
    pub ask_value : b < per_byte i.states * i.bytes
    ask_value = rw h.bytes (bit_fits i.states i.width b o)

    pub ask_mark : mark_place i b / 8 < length room
    ask_mark = omega (arith, bit_fits Two i.width b o, h.fits)

    pub fits_place : Fits w64 (mark_place i b)
    fits_place = omega (arith, bit_fits Two i.width b o, h.low)

module _ (room : List ℕ) (i : VecBufferInfo) (b : ℕ) where
  pub says_value : {r : ℕ} → r ≡ field_at (bits i.states) (value_place i.states i.start i.bytes b) room → r ≡ value_of i b room
  unfolding value_of
  says_value e = e

  pub says_has : {r : ℕ} → r ≡ value_of i b room → eqb r 1 ≡ has_marks i b room
  unfolding has_marks
  says_has e = rw e

  pub says_stored : (x : ℕ) {room' : List ℕ} → room' ≡ set_at (bits i.states) (value_place i.states i.start i.bytes b) room x → room' ≡ with_value i b x room
  unfolding with_value
  says_stored x e = e

  pub says_mark : {r : ℕ} → r ≡ field_at 1 (8 * (i.start + i.bytes) + b) room → eqb r 1 ≡ is_marked i b room
  unfolding is_marked mark_of
  says_mark e = rw e

  pub says_marked : (x : ℕ) {room' : List ℕ} → room' ≡ set_at 1 (8 * (i.start + i.bytes) + b) room x → room' ≡ with_mark i b x room
  unfolding with_mark
  says_marked x e = e

  module _ {m : Bool} (e : m ≡ is_marked i b room) (x : ℕ) where
    pub says_first : m ≡ false → false ≡ is_second i b x room
    unfolding is_second
    says_first z = rw (← e, z)

    pub says_second : m ≡ true → {r : ℕ} → r ≡ value_of i b room → not (eqb x r) ≡ is_second i b x room
    unfolding is_second
    says_second z d = rw (← e, z, d)

-- ---- writes that make no event

module _ (room : List ℕ) (i f : VecBufferInfo) (v : ℕ) {m : Bool} (p : m ≡ has_marks f v room) where
  pub says_unwritten : not m ≡ true → false ≡ is_quiet i f v room
  unfolding is_quiet
  says_unwritten z = rw (← p, not-true m z)

  module _ (y : not m ≡ false) {n : Bool} (q : n ≡ is_marked f v room) where
    pub says_unlisted : not n ≡ true → false ≡ is_quiet i f v room
    unfolding is_quiet
    says_unlisted z = rw (← p, not-false m y, ← q, not-true n z)

    pub says_quiet : not n ≡ false → {k : Bool} → k ≡ is_marked i 0 room → not k ≡ is_quiet i f v room
    unfolding is_quiet
    says_quiet z d = rw (← p, not-false m y, ← q, not-false n z, d)

module _ (room : List ℕ) (i : VecBufferInfo) (b : ℕ) {m : Bool} (e : m ≡ is_marked i b room) where
  pub says_old : not m ≡ false → false ≡ not (is_marked i b room)
  says_old z = rw (← e, not-false m z)

  pub says_fresh : not m ≡ true → true ≡ not (is_marked i b room)
  says_fresh z = rw (← e, not-true m z)

  pub says_kept : (x : ℕ) → not m ≡ false → room ≡ cond (is_marked i b room) room (with_bit i b x room)
  says_kept x z = rw (← e, not-false m z)

  pub says_written : (x : ℕ) → not m ≡ true → {r₁ r₂ : List ℕ} → r₁ ≡ with_value i b x room → r₂ ≡ with_mark i b 1 r₁ → r₂ ≡ cond (is_marked i b room) room (with_bit i b x room)
  says_written x z p q = rw (← e, not-true m z) (q ∙ rw p)

-- ---- what the proofs of the functions search

pub ruleset quiet_laws = (says_unwritten, says_unlisted, says_quiet)

pub ruleset new_laws = (says_old, says_fresh, says_kept, says_written)

pub ruleset field_laws = (ask_room, ask_low, ask_value, ask_mark, fits_sum, fits_times, fits_place, says_value, says_has, says_stored, says_mark, says_marked, says_first, says_second)
