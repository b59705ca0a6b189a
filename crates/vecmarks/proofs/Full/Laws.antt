-- The test of the mask bytes.
-- Assumes nothing.
use Rattle.std.specs.Prelude.{◌≡◌, refl, ℕ, zero, suc, ◌+◌, ◌-◌, ◌*◌, ◌%◌, ◌^◌, ◌<◌, ◌≤◌, Bool, true, false, ◌&&◌, List, [], ◌∷◌, eqb, length, get_or, take, drop, IsTrue, EachIndex, ◌↔◌}
use Rattle.std.proofs.Math.Path.{sym}
use Rattle.std.proofs.Common.{◌∙◌, one-mul, arith, lit<, pow_pos, shl_exact, take_all, length-drop}
use borrow.Author.Tests.{eq-eqb, ne_eqb, eqb-true}
use Rattle.slices.specs.Splice.{part}
use Rattle.states.specs.declared.States.TheVariants.{Two}
use Rattle.states.specs.Kind.{bytes_required}
use Rattle.vecmarks.specs.declared.VecBufferInfo.{VecBufferInfo}
use Rattle.vecmarks.specs.Info.{marks_of}
use Rattle.vecmarks.specs.Full.{all_full, full_in}

-- ---- the mask of the lowest bits

shifted : (k : ℕ) → k < 8 → 1 * 2 ^ k % 256 ≡ 2 ^ k
shifted k h = shl_exact 1 k 8 (lit< tt) (omega arith) ∙ one-mul _

pub low_some : (k : ℕ) → k < 8 → 1 ≤ 1 * 2 ^ k % 256
low_some k h = rw (shifted k h) (pow_pos k)

pub low_is : (k : ℕ) → k < 8 → 1 * 2 ^ k % 256 - 1 ≡ 2 ^ k - 1
low_is k h = rw (shifted k h)

-- ---- all bytes

both : (x y : Bool) → (x && y) ≡ true → (x ≡ true) × (y ≡ true)
both true y e = (refl, e)
both false y e = absurd (cc)

full_each : (l : List ℕ) → all_full l ≡ true → (k : ℕ) → k < length l → get_or l k 0 ≡ 255
unfolding all_full
full_each [] e k h = absurd (omega arith)
full_each (b ∷ bs) e zero h = eqb-true b 255 (both (eqb b 255) (all_full bs) e).0
full_each (b ∷ bs) e (suc k) h = full_each bs (both (eqb b 255) (all_full bs) e).1 k (omega arith)

each_full : (l : List ℕ) → ((k : ℕ) → k < length l → get_or l k 0 ≡ 255) → all_full l ≡ true
unfolding all_full
each_full [] f = refl
each_full (b ∷ bs) f = rw (eq-eqb b 255 (f 0 (omega arith)), each_full bs (λ k h. f (suc k) (omega arith)))

-- what `all` answers
pub full_is : (l : List ℕ) (r : Bool) → (IsTrue r ↔ EachIndex l (λ k. get_or l k 0 ≡ 255)) → r ≡ all_full l
full_is l true e = sym (each_full l (e.0 refl))
full_is l false e = go (all_full l) refl
  where
    go : (b : Bool) → all_full l ≡ b → false ≡ all_full l
    go true q = e.1 (full_each l q) ∙ sym q
    go false q = sym q

-- ---- the last byte first

pub full_empty : (l : List ℕ) → length l < 1 → true ≡ all_full l
full_empty l h = sym (each_full l (λ k o. absurd (omega arith)))

front_last : (l : List ℕ) → 1 ≤ length l → all_full l ≡ (all_full (take (length l - 1) l) && eqb (get_or l (length l - 1) 0) 255)
unfolding all_full
front_last [] h = absurd (omega arith)
front_last (b ∷ []) h = and_one (eqb b 255)
  where
    and_one : (x : Bool) → (x && true) ≡ x
    and_one true = refl
    and_one false = refl
front_last (b ∷ (a ∷ l)) h =
    let e : length (b ∷ (a ∷ l)) - 1 ≡ suc (length (a ∷ l) - 1) = omega arith in
    rw e (rw (front_last (a ∷ l) (omega arith)) (and_and (eqb b 255) _ _))
  where
    and_and : (x y z : Bool) → (x && (y && z)) ≡ ((x && y) && z)
    and_and true y z = refl
    and_and false y z = refl

module _ (l : List ℕ) (h : 1 ≤ length l) where
  pub full_front : {r : Bool} → r ≡ all_full (take (length l - 1) l) → eqb (get_or l (length l - 1) 0) 255 ≡ true → r ≡ all_full l
  full_front {r} p q = p ∙ sym (front_last l h ∙ rw q (and_true _))
    where
      and_true : (x : Bool) → (x && true) ≡ x
      and_true true = refl
      and_true false = refl

  pub full_last : eqb (get_or l (length l - 1) 0) 255 ≡ false → eqb (get_or l (length l - 1) 0) 255 ≡ all_full l
  full_last q = q ∙ sym (front_last l h ∙ rw q (and_false _))
    where
      and_false : (x : Bool) → (x && false) ≡ false
      and_false true = refl
      and_false false = refl

-- ---- the whole test

pub marks_are : (room : List ℕ) (i : VecBufferInfo) {n : ℕ} → n ≡ bytes_required Two i.width → take (i.start + i.bytes + n - (i.start + i.bytes)) (drop (i.start + i.bytes) room) ≡ marks_of i room
unfolding part
marks_are room i {n} e = let d : i.start + i.bytes + n - (i.start + i.bytes) ≡ n = omega arith in rw (d, e)

module _ (w : ℕ) (m : List ℕ) (h : length m ≡ bytes_required Two w) where
  pub test_whole : w % 8 ≡ 0 → {r : Bool} → r ≡ all_full m → r ≡ full_in w m
  unfolding full_in
  test_whole z e = rw (eq-eqb _ _ z) e

  module _ (z : w % 8 ≡ 0 → ⊥) where
    pub some_byte : 1 ≤ length m
    unfolding bytes_required
    some_byte = omega (arith, h, z)

    module _ {r : Bool} (e : r ≡ all_full (take (length m - 1) (drop 1 m))) where
      rest : r ≡ all_full (drop 1 m)
      rest = rw (take_all (length m - 1) (drop 1 m) (rw length-drop (omega arith))) at e

      pub test_not : r ≡ false → r ≡ full_in w m
      unfolding full_in
      test_not y = rw (ne_eqb _ _ z, ← rest, y)

      pub test_first : r ≡ true → {v : ℕ} → v ≡ 2 ^ (w % 8) - 1 → eqb (get_or m 0 0) v ≡ full_in w m
      unfolding full_in
      test_first y d = rw (ne_eqb _ _ z, ← rest, y, d)

-- ---- what the proofs of the functions search

pub ruleset low_laws = (low_some, low_is)

pub ruleset last_laws = (full_empty, full_front, full_last)

pub ruleset test_laws = (test_whole, some_byte, test_not, test_first)

pub ruleset marks_laws = (marks_are)
