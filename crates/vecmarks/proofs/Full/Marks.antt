-- Mask bytes whose unused bits are zero: the test holds where "the width is at most 7 or a multiple of 8 and every bit is marked", and never on widths such as 9 or 12.
-- Assumes nothing.
use Rattle.std.proofs.Math.Path.{◌≡◌, refl, sym}
use Rattle.std.proofs.Common.{ap, ◌∙◌, ⊎_elim, mod-eq_of_lt, add-zero, zero-add, pow_pos, get_or-drop}
use Prim.Native.Nat.{ℕ, zero, suc, ◌+◌, ◌-◌, ◌*◌, ◌/◌, ◌%◌, ◌^◌, ◌<◌, ◌≤◌}
use Rattle.std.specs.Prelude.{Bool, ◌&&◌, ◌||◌, ◌⊎◌, eqb, leb}
use Rattle.std.proofs.Math.Bool.{true, false}
use mathlib.Core.List.{List, [], ◌∷◌}
use Rattle.std.proofs.Math.Nat.{div-one, mod-one}
use native.Mathlib.Omega.{arith}
use borrow.Author.Tests.{eq-eqb, ne_eqb, eqb-true, eqb-false, le-leb, lt-leb}
use Rattle.std.proofs.Math.ListN.{length, get_or, drop, length-drop, drop_of_length-le, get_or-eq_default}
use Rattle.std.proofs.Math.Pow.{shr-shr}
use Rattle.std.proofs.lemmas.Nat.{mod-pow-add}
use Rattle.slices.specs.Choice.{le_or_lt, tri, apart}
use Rattle.states.specs.declared.States.TheVariants.{Two}
use Rattle.states.specs.Kind.{bytes_required}
use Rattle.states.specs.Field.{field_get}
use Rattle.rules.specs.Vector.{all, acts_early}
use Rattle.vecmarks.specs.Info.{num}
use Rattle.vecmarks.specs.Full.{all_full, full_in}

-- n marks from a on are all set
every : (ℕ → Bool) → ℕ → ℕ → Bool
every f a zero = true
every f a (suc n) = f a && every f (suc a) n

every_add : (f : ℕ → Bool) (a m n : ℕ) → every f a (m + n) ≡ (every f a m && every f (a + m) n)
unfolding every
every_add f a zero n = rw (zero-add, add-zero)
every_add f a (suc m) n =
    let e : suc m + n ≡ suc (m + n) = omega arith in
    let d : a + suc m ≡ suc a + m = omega arith in
    rw (e, d, every_add f (suc a) m n) (go (f a) (every f (suc a) m) (every f (suc a + m) n))
  where
    go : (x y z : Bool) → (x && (y && z)) ≡ ((x && y) && z)
    go true y z = refl
    go false y z = refl

every_list : (f : ℕ → Bool) (a : ℕ) (ms : List Bool) → ((b : ℕ) → get_or ms b false ≡ f (a + b)) → all ms ≡ every f a (length ms)
unfolding every all
every_list f a [] h = refl
every_list f a (m ∷ ms) h =
    let d : (b : ℕ) → suc a + b ≡ a + suc b = λ b. omega arith in
    rw (rw add-zero at (h 0), every_list f (suc a) ms (λ b. rw (d b) (h (suc b))))

-- ---- the low bits of a number

module _ (x : ℕ) where
  bit_next : (k : ℕ) → field_get 1 (suc k) x ≡ field_get 1 k (x / 2)
  unfolding field_get
  bit_next k = let e : 1 + k ≡ suc k = omega arith in sym (ap (λ (y : ℕ). y % 2) (rw e at (shr-shr x 1 k)))

  bit_first : field_get 1 0 x ≡ x % 2
  unfolding field_get
  bit_first = rw div-one

  low_next : (m : ℕ) → x % 2 ^ suc m ≡ (x / 2 % 2 ^ m) * 2 + x % 2
  low_next m = let e : m + 1 ≡ suc m = omega arith in rw e at (mod-pow-add x m 1)

low_ones : (m x : ℕ) (f : ℕ → Bool) (a : ℕ) → ((k : ℕ) → k < m → field_get 1 k x ≡ num (f (a + k))) → eqb (x % 2 ^ m) (2 ^ m - 1) ≡ every f a m
unfolding every
low_ones zero x f a g = eq-eqb (x % 2 ^ 0) (2 ^ 0 - 1) (mod-one x)
low_ones (suc m) x f a g =
    let d : (b : ℕ) → suc a + b ≡ a + suc b = λ b. omega arith in
    by (f a) (sym (bit_first x) ∙ rw add-zero at (g 0 (omega arith))) (low_ones m (x / 2) f (suc a) (λ k o. rw (d k) (sym (bit_next x k) ∙ g (suc k) (omega arith))))
  where
    same : x % 2 ≡ 1 → (c : Bool) → eqb (x / 2 % 2 ^ m) (2 ^ m - 1) ≡ c → eqb (x % 2 ^ suc m) (2 ^ suc m - 1) ≡ c
    same z true q = eq-eqb (x % 2 ^ suc m) (2 ^ suc m - 1) (omega (arith, eqb-true (x / 2 % 2 ^ m) (2 ^ m - 1) q, low_next x m, pow_pos m))
    same z false q = ne_eqb (x % 2 ^ suc m) (2 ^ suc m - 1) (λ (d : x % 2 ^ suc m ≡ 2 ^ suc m - 1). eqb-false (x / 2 % 2 ^ m) (2 ^ m - 1) q (omega (arith, low_next x m, pow_pos m)))

    by : (c : Bool) → x % 2 ≡ num c → eqb (x / 2 % 2 ^ m) (2 ^ m - 1) ≡ every f (suc a) m → eqb (x % 2 ^ suc m) (2 ^ suc m - 1) ≡ (c && every f (suc a) m)
    by false z e = ne_eqb (x % 2 ^ suc m) (2 ^ suc m - 1) (λ (d : x % 2 ^ suc m ≡ 2 ^ suc m - 1). omega (arith, low_next x m, pow_pos m))
    by true z e = same z (every f (suc a) m) e

low_zeros : (m x : ℕ) → ((k : ℕ) → k < m → field_get 1 k x ≡ 0) → x % 2 ^ m ≡ 0
low_zeros zero x g = mod-one x
low_zeros (suc m) x g = omega (arith, low_next x m, low_zeros m (x / 2) (λ k o. sym (bit_next x k) ∙ g (suc k) (omega arith)), sym (bit_first x) ∙ g 0 (omega arith))

-- ---- the mask bytes

full_every : (f : ℕ → Bool) (l : List ℕ) (a : ℕ) → ((j : ℕ) → j < length l → eqb (get_or l j 0) 255 ≡ every f (a + 8 * j) 8) → all_full l ≡ every f a (8 * length l)
unfolding all_full every
full_every f [] a h = refl
full_every f (x ∷ l) a h =
    let e : 8 * suc (length l) ≡ 8 + 8 * length l = omega arith in
    let z : a + 8 * 0 ≡ a = omega arith in
    let d : (j : ℕ) → a + 8 + 8 * j ≡ a + 8 * suc j = λ j. omega arith in
    rw (e, every_add f a 8 (8 * length l), rw z at (h 0 (omega arith)), full_every f l (a + 8) (λ j o. rw (d j) (h (suc j) (omega arith))))

-- a byte that is not full
full_not : (l : List ℕ) (j : ℕ) → j < length l → (get_or l j 0 ≡ 255 → ⊥) → all_full l ≡ false
unfolding all_full
full_not [] j o n = absurd (omega arith)
full_not (x ∷ l) zero o n = rw (ne_eqb x 255 n)
full_not (x ∷ l) (suc j) o n = rw (full_not l j (omega arith) n) (and_false (eqb x 255))
  where
    and_false : (m : Bool) → (m && false) ≡ false
    and_false true = refl
    and_false false = refl

abbrev mark_at : List Bool → ℕ → Bool
mark_at ms b = get_or ms b false

module _ (w : ℕ) (l : List ℕ) (ms : List Bool) (long : length l ≡ bytes_required Two w) (wide : length ms ≡ w) (small : (j : ℕ) → j < length l → get_or l j 0 < 256)
    (held : (j k : ℕ) → j < length l → k < 8 → field_get 1 k (get_or l j 0) ≡ num (get_or ms (8 * j + k) false)) where
  past : (b : ℕ) → w ≤ b → get_or ms b false ≡ false
  past b h = get_or-eq_default ms false (rw wide h)

  byte_full : (j : ℕ) → j < length l → eqb (get_or l j 0) 255 ≡ every (mark_at ms) (0 + 8 * j) 8
  byte_full j o = let e : get_or l j 0 % 2 ^ 8 ≡ get_or l j 0 = mod-eq_of_lt (small j o) in rw zero-add (rw e at (low_ones 8 (get_or l j 0) (mark_at ms) (8 * j) (λ k u. held j k o u)))

  marks_all : all ms ≡ every (mark_at ms) 0 w
  marks_all = rw wide at (every_list (mark_at ms) 0 ms (λ b. rw zero-add))

  whole : w % 8 ≡ 0 → full_in w l ≡ (acts_early w && all ms)
  unfolding full_in acts_early bytes_required
  whole z =
      let e : 8 * length l ≡ w = omega arith in
      rw (z, or_true (leb w 7), marks_all, ← e) (full_every (mark_at ms) l 0 byte_full)
    where
      or_true : (m : Bool) → (m || true) ≡ true
      or_true true = refl
      or_true false = refl

  -- an unused bit
  unused : (j k : ℕ) → j < length l → k < 8 → w ≤ 8 * j + k → field_get 1 k (get_or l j 0) ≡ 0
  unused j k o u h = held j k o u ∙ ap num (past (8 * j + k) h)

  upper : 0 < length l → (k : ℕ) → w + k < 8 → field_get 1 k (get_or l 0 0 / 2 ^ w) ≡ 0
  unfolding field_get
  upper s k o = rw shr-shr (unused 0 (w + k) s o (omega arith))

  -- the one byte of a narrow vector
  narrow : (w % 8 ≡ 0 → ⊥) → w ≤ 7 → full_in w l ≡ (acts_early w && all ms)
  unfolding full_in acts_early bytes_required all_full
  narrow n h =
      let one : length l ≡ 1 = omega (arith, n) in
      let r : w % 8 ≡ w = omega arith in
      let top : get_or l 0 0 / 2 ^ w % 2 ^ (8 - w) ≡ 0 = low_zeros (8 - w) (get_or l 0 0 / 2 ^ w) (λ k o. upper (omega arith) k (omega arith)) in
      let e : 8 - w + w ≡ 8 = omega arith in
      let x : get_or l 0 0 ≡ get_or l 0 0 % 2 ^ w = sym (mod-eq_of_lt (small 0 (omega arith))) ∙ (rw (e, top) at (mod-pow-add (get_or l 0 0) (8 - w) w)) ∙ omega arith in
      rw (ne_eqb (w % 8) 0 n, le-leb w 7 h, r, rest_none one, x, marks_all)
      (low_ones w (get_or l 0 0) (mark_at ms) 0 (λ k o. held 0 k (omega arith) (omega arith)))
    where
      rest_none : length l ≡ 1 → drop 1 l ≡ []
      rest_none o = drop_of_length-le l {i = 1} (omega arith)

  -- the last byte of a vector that does not fill it
  last_not : (j : ℕ) → j < length l → w ≤ 8 * j + 7 → get_or l j 0 ≡ 255 → ⊥
  unfolding field_get
  last_not j o h e = let z : ◌≡◌ {A = ℕ} 1 0 = rw e at (unused j 7 o (omega arith) h) in omega arith

  never : (w % 8 ≡ 0 → ⊥) → 7 < w → full_in w l ≡ (acts_early w && all ms)
  unfolding full_in acts_early bytes_required
  never n h =
      let j : 1 + (length l - 2) ≡ length l - 1 = omega (arith, n) in
      rw (ne_eqb (w % 8) 0 n, lt-leb w 7 h, full_not (drop 1 l) (length l - 2) (rw length-drop (omega (arith, n))) (rw (get_or-drop, j) (last_not (length l - 1) (omega (arith, n)) (omega (arith, n)))))

  pub full_marks : full_in w l ≡ (acts_early w && all ms)
  full_marks = ⊎_elim whole (λ (o : (w % 8 < 0) ⊎ (0 < w % 8)). ⊎_elim (narrow (apart o)) (never (apart o)) (le_or_lt w 7)) (tri (w % 8) 0)
