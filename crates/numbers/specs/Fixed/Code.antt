-- What the proofs of `house` and `fixed` search.
-- Assumes nothing.
use Rattle.std.specs.Prelude.{◌≡◌, refl, ℕ, ◌+◌, ◌-◌, ◌*◌, ◌≤◌, ◌<◌, Bool, true, false, length, get_or, None, Some}
use Rattle.std.proofs.Math.Path.{ap}
use Rattle.std.proofs.Common.{sym, ◌∙◌}
use mathlib.Core.List.{List, [], ◌∷◌}
use Rattle.std.proofs.Math.Nat.{div-one}
use native.Mathlib.Omega.{arith}
use borrow.Author.Tests.{le-leb, lt-leb}
use Rattle.std.specs.Int.{w32, w64, from_be_bytes, from_le_bytes, to_be_bytes}
use Rattle.slices.specs.Splice.{splice, part}
use Rattle.slices.specs.Splice.Writes.{put_part}
use borrow.Rule.Slice.PartMut.{put_mid}
use Rattle.slices.specs.Splice.Laws.{length_part, part_join}
use Rattle.numbers.specs.Fixed.{little, big, fixed, big_bytes, negative, positive}
use Rattle.numbers.specs.Fixed.Laws.{big_append, little_append, part_four}

-- ---- reading

abbrev pub four : List ℕ → ℕ → List ℕ
four s at = get_or s at 0 ∷ get_or s (at + 1) 0 ∷ get_or s (at + 2) 0 ∷ get_or s (at + 3) 0 ∷ []

module _ (s : List ℕ) (at : ℕ) (h : at + 4 ≤ length s) where
  pub get_u32_is : {r : ℕ} → r ≡ from_be_bytes w32 (four s at) → r ≡ big (part s at 4)
  unfolding big
  get_u32_is e = rw (part_four s at h) (omega arith)

  pub little_u32_is : {r : ℕ} → r ≡ from_le_bytes w32 (four s at) → r ≡ little (part s at 4)
  unfolding little
  little_u32_is e = rw (part_four s at h) (omega arith)

module _ (s : List ℕ) (at : ℕ) (h : at + 8 ≤ length s) where
  first_four : length (part s at 4) ≡ 4
  first_four = length_part s at 4 (omega arith)

  last_four : length (part s (at + 4) 4) ≡ 4
  last_four = length_part s (at + 4) 4 (omega arith)

  joined_big : {a b : ℕ} → a ≡ big (part s at 4) → b ≡ big (part s (at + 4) 4) → a * 4294967296 + b ≡ big (part s at 8)
  joined_big e f = rw (e, f) (sym (rw last_four at (big_append (part s at 4) (part s (at + 4) 4))) ∙ ap big (part_join s at 4 4))

  pub get_u64_is : {r : ℕ}
      → r ≡ from_be_bytes w64 (get_or s at 0 ∷ get_or s (at + 1) 0 ∷ get_or s (at + 2) 0 ∷ get_or s (at + 3) 0 ∷ get_or s (at + 4) 0 ∷ get_or s (at + 5) 0 ∷ get_or s (at + 6) 0 ∷ get_or s (at + 7) 0 ∷ [])
      → r ≡ big (part s at 8)
  get_u64_is e =
      let a : from_be_bytes w32 (four s at) ≡ big (part s at 4) = get_u32_is s at (omega arith) refl in
      let b : from_be_bytes w32 (four s (at + 4)) ≡ big (part s (at + 4) 4) = get_u32_is s (at + 4) (omega arith) refl in
      let c : at + 4 + 1 ≡ at + 5 = omega arith in
      let d : at + 4 + 2 ≡ at + 6 = omega arith in
      let f : at + 4 + 3 ≡ at + 7 = omega arith in
      let j = joined_big a (rw (c, d, f) at b) in omega (arith, j)

  -- two halves by the flag, the first the higher or the lower
  module _ {flag : Bool} {a b : ℕ} (e : a ≡ fixed flag (part s at 4)) (f : b ≡ fixed flag (part s (at + 4) 4)) where
    pub halves_big : flag ≡ true → a * 4294967296 + b ≡ fixed flag (part s at 8)
    unfolding fixed
    halves_big t = rw t (joined_big (rw t at e) (rw t at f))

    pub halves_little : flag ≡ false → b * 4294967296 + a ≡ fixed flag (part s at 8)
    unfolding fixed
    halves_little t =
        let g : a ≡ little (part s at 4) = rw t at e in
        let h : b ≡ little (part s (at + 4) 4) = rw t at f in
        rw t (omega (arith, g, h, rw first_four at (little_append (part s at 4) (part s (at + 4) 4)), ap little (part_join s at 4 4)))

-- ---- the flag and the sign

module _ {flag : Bool} {r : ℕ} (l : List ℕ) where
  pub fixed_big : flag ≡ true → r ≡ big l → r ≡ fixed flag l
  unfolding fixed
  fixed_big f e = rw f e

  pub fixed_little : flag ≡ false → r ≡ little l → r ≡ fixed flag l
  unfolding fixed
  fixed_little f e = rw f e

module _ {v x : ℕ} (e : v ≡ x) where
  pub positive_number : v < 2147483648 → Some v ≡ positive x
  unfolding positive negative
  positive_number h = simp (← e, lt-leb 2147483648 v h)

  pub positive_negative : 2147483648 ≤ v → None ≡ positive x
  unfolding positive negative
  positive_negative h = simp (← e, le-leb 2147483648 v h)

-- ---- writing

-- the library's bytes of a number, copied
pub put_u32_is : (d w : List ℕ) (at v : ℕ) {bs : List ℕ} → bs ≡ to_be_bytes w32 v → w ≡ bs → put_mid at (at + 4 - at) d w ≡ splice d at (big_bytes 4 v)
unfolding big_bytes
put_u32_is d w at v e f =
    let g : w ≡ big_bytes 4 v = f ∙ rw (e, div-one) in
    rw g (put_part d (big_bytes 4 v) at _ (omega arith))

pub put_u64_is : (d w : List ℕ) (at v : ℕ) {bs : List ℕ} → bs ≡ to_be_bytes w64 v → w ≡ bs → put_mid at (at + 8 - at) d w ≡ splice d at (big_bytes 8 v)
unfolding big_bytes
put_u64_is d w at v e f =
    let g : w ≡ big_bytes 8 v = f ∙ rw (e, div-one) in
    rw g (put_part d (big_bytes 8 v) at _ (omega arith))

pub ruleset house_laws = (get_u32_is, get_u64_is, put_u32_is, put_u64_is)

pub ruleset fixed_laws = (little_u32_is, halves_big, halves_little, fixed_big, fixed_little, positive_number, positive_negative)
