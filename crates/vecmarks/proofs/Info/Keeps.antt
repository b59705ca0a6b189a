-- What stands in the room after a value or a mark was set, or marks were cleared: in the same vector, and in any other.
-- Assumes nothing.
use Rattle.std.specs.Prelude.{◌≡◌, ℕ, ◌+◌, ◌*◌, ◌/◌, ◌%◌, ◌^◌, ◌<◌, ◌≤◌, Bool, cond, List, ◌⊎◌, eqb, length, replicate}
use Rattle.std.proofs.Math.Path.{refl, ap}
use Rattle.std.proofs.Math.Bool.{false}
use Rattle.std.proofs.Common.{inl, inr, eq-eqb, ne_eqb, lit<}
use Rattle.std.proofs.Math.Logic.{⊎_elim}
use Rattle.std.proofs.Math.Nat.{zero-div, zero-mod}
use native.Mathlib.Omega.{arith}
use Rattle.std.proofs.Math.ListN.{length-replicate, get_or-replicate}
use Rattle.slices.specs.Choice.{tri, apart}
use Rattle.slices.specs.Splice.Laws.{length_splice, get_d_before, get_d_within, get_d_behind}
use Rattle.states.specs.Kind.{bits}
use Rattle.states.specs.Field.{field_get}
use Rattle.states.specs.Packed.{field_at, set_at, value_place}
use Rattle.states.specs.Packed.Laws.{Seen, it, behind, before, one_set, length_set_at, value_byte, value_in, value_seen, bits_some}
use Rattle.vecmarks.specs.declared.VecBufferInfo.{VecBufferInfo}
use Rattle.vecmarks.specs.Info.{mask_bytes_of, value_of, with_value, mark_place, mark_of, with_mark, without_marks, Inside, end_of, Apart, first, last, HasValue, HasMark}

-- a field among the bytes of a vector
record In (i : VecBufferInfo) (b p : ℕ) : Type 0 where
  low : 8 * i.start ≤ p
  high : p + b ≤ 8 * end_of i
  byte : p % 8 + b ≤ 8

module _ {i : VecBufferInfo} {b : ℕ} where
  in_value : HasValue i b → In i (bits i.states) (value_place i.states i.start i.bytes b)
  in_value h =
      let k = value_in i.states i.start i.bytes b h.within in
      record { low = k.0; high = omega (arith, k.1); byte = value_byte i.states i.start i.bytes b }

  in_mark : HasMark i b → In i 1 (mark_place i b)
  in_mark h = record { low = omega arith; high = omega (arith, h.within); byte = omega arith }

-- ---- lengths

module _ (i : VecBufferInfo) (b x : ℕ) (room : List ℕ) where
  pub length_value : length (with_value i b x room) ≡ length room
  unfolding with_value
  length_value = length_set_at (bits i.states) _ room x

  pub length_mark : length (with_mark i b x room) ≡ length room
  unfolding with_mark
  length_mark = length_set_at 1 _ room x

pub length_cleared : {room : List ℕ} {i : VecBufferInfo} → Inside room i → length (without_marks i room) ≡ length room
unfolding without_marks
length_cleared {room} {i} h = length_splice room (i.start + i.bytes) (replicate (mask_bytes_of i) 0) (rw length-replicate h.fits)

-- a room of the same length serves as well
pub inside_as : {room room' : List ℕ} {i : VecBufferInfo} → length room' ≡ length room → Inside room i → Inside room' i
inside_as e h = record { bytes = h.bytes; fits = rw e h.fits; low = h.low }

-- ---- a field is set

module _ {room : List ℕ} {i : VecBufferInfo} (h : Inside room i) where
  module _ {b p x : ℕ} (k : In i b p) (some : 0 < b) (small : x < 2 ^ b) where
    set_seen : {b' q : ℕ} (c : Bool) → q % 8 + b' ≤ 8 → Seen b p b' q c → field_at b' q (set_at b p room x) ≡ cond c x (field_at b' q room)
    set_seen {b'} {q} c o s = one_set b p room x (omega (arith, k.high, h.fits)) small k.byte b' q c o s

    -- in another vector
    set_apart : {j : VecBufferInfo} {b' q : ℕ} → Apart i j → In j b' q → field_at b' q (set_at b p room x) ≡ field_at b' q room
    set_apart (first u) m = set_seen false m.byte (behind (omega (arith, k.high, m.low)))
    set_apart (last u) m = set_seen false m.byte (before (omega (arith, k.low, m.high)))

  module _ {b x : ℕ} (o : HasValue i b) (small : x < 2 ^ bits i.states) where
    pub value_value : {c : ℕ} → HasValue i c → value_of i c (with_value i b x room) ≡ cond (eqb c b) x (value_of i c room)
    unfolding value_of with_value
    value_value {c} u = set_seen (in_value o) (bits_some i.states) small (eqb c b) (in_value u).byte (value_seen i.states i.start i.bytes b c o.within u.within)

    pub mark_value : {c : ℕ} → HasMark i c → mark_of i c (with_value i b x room) ≡ mark_of i c room
    unfolding mark_of with_value
    mark_value u = set_seen (in_value o) (bits_some i.states) small false (in_mark u).byte (behind (omega (arith, value_in i.states i.start i.bytes b o.within)))

    module _ {j : VecBufferInfo} (a : Apart i j) {c : ℕ} where
      pub value_value_apart : HasValue j c → value_of j c (with_value i b x room) ≡ value_of j c room
      unfolding value_of with_value
      value_value_apart u = set_apart (in_value o) (bits_some i.states) small a (in_value u)

      pub mark_value_apart : HasMark j c → mark_of j c (with_value i b x room) ≡ mark_of j c room
      unfolding mark_of with_value
      mark_value_apart u = set_apart (in_value o) (bits_some i.states) small a (in_mark u)

  module _ {b x : ℕ} (o : HasMark i b) (small : x < 2) where
    pub value_mark : {c : ℕ} → HasValue i c → value_of i c (with_mark i b x room) ≡ value_of i c room
    unfolding value_of with_mark
    value_mark {c} u = set_seen (in_mark o) (lit< tt) small false (in_value u).byte (before (omega (arith, value_in i.states i.start i.bytes c u.within)))

    pub mark_mark : {c : ℕ} → HasMark i c → mark_of i c (with_mark i b x room) ≡ cond (eqb c b) x (mark_of i c room)
    unfolding mark_of with_mark
    mark_mark {c} u = set_seen (in_mark o) (lit< tt) small (eqb c b) (in_mark u).byte seen
      where
        seen : Seen 1 (mark_place i b) 1 (mark_place i c) (eqb c b)
        seen =
            ⊎_elim (λ (e : c ≡ b). rw (eq-eqb c b e) (it refl (rw e)))
            (λ (d : (c < b) ⊎ (b < c)). rw (ne_eqb c b (apart d)) (⊎_elim (λ (l : c < b). before (omega arith)) (λ (l : b < c). behind (omega arith)) d))
            (tri c b)

    module _ {j : VecBufferInfo} (a : Apart i j) {c : ℕ} where
      pub value_mark_apart : HasValue j c → value_of j c (with_mark i b x room) ≡ value_of j c room
      unfolding value_of with_mark
      value_mark_apart u = set_apart (in_mark o) (lit< tt) small a (in_value u)

      pub mark_mark_apart : HasMark j c → mark_of j c (with_mark i b x room) ≡ mark_of j c room
      unfolding mark_of with_mark
      mark_mark_apart u = set_apart (in_mark o) (lit< tt) small a (in_mark u)

  -- ---- the marks are cleared

  zeros_fit : i.start + i.bytes + length {A = ℕ} (replicate (mask_bytes_of i) 0) ≤ length room
  zeros_fit = rw length-replicate h.fits

  clear_outside : (b q : ℕ) → (q / 8 < i.start + i.bytes) ⊎ (end_of i ≤ q / 8) → field_at b q (without_marks i room) ≡ field_at b q room
  unfolding field_at without_marks
  clear_outside b q o =
      ap (field_get b (q % 8))
      (⊎_elim (get_d_before room (i.start + i.bytes) (replicate (mask_bytes_of i) 0) zeros_fit (q / 8))
      (λ (u : end_of i ≤ q / 8). get_d_behind room (i.start + i.bytes) (replicate (mask_bytes_of i) 0) zeros_fit (q / 8) (rw length-replicate u)) o)

  pub value_clear : {c : ℕ} → HasValue i c → value_of i c (without_marks i room) ≡ value_of i c room
  unfolding value_of
  value_clear {c} u = clear_outside _ _ (inl (omega (arith, value_in i.states i.start i.bytes c u.within, bits_some i.states)))

  pub mark_clear : {c : ℕ} → HasMark i c → mark_of i c (without_marks i room) ≡ 0
  unfolding mark_of field_at field_get without_marks
  mark_clear {c} u =
      let e : mark_place i c / 8 ≡ i.start + i.bytes + c / 8 = omega arith in
      let o : c / 8 < mask_bytes_of i = omega (arith, u.within) in
      rw (e, get_d_within room (i.start + i.bytes) (replicate (mask_bytes_of i) 0) zeros_fit (c / 8) (rw length-replicate o), get_or-replicate {A = ℕ} (mask_bytes_of i) (c / 8) 0 0 o, zero-div, zero-mod)

  clear_apart : {j : VecBufferInfo} → Apart i j → {b q : ℕ} → In j b q → 0 < b → field_at b q (without_marks i room) ≡ field_at b q room
  clear_apart (first u) m some = clear_outside _ _ (inr (omega (arith, m.low)))
  clear_apart (last u) m some = clear_outside _ _ (inl (omega (arith, m.high)))

  module _ {j : VecBufferInfo} (a : Apart i j) {c : ℕ} where
    pub value_clear_apart : HasValue j c → value_of j c (without_marks i room) ≡ value_of j c room
    unfolding value_of
    value_clear_apart u = clear_apart a (in_value u) (bits_some j.states)

    pub mark_clear_apart : HasMark j c → mark_of j c (without_marks i room) ≡ mark_of j c room
    unfolding mark_of
    mark_clear_apart u = clear_apart a (in_mark u) (lit< tt)
