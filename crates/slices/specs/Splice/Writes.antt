-- What a write to a part of a slice leaves.
-- Assumes nothing.
use Rattle.std.specs.Prelude.{◌≡◌, refl, ℕ, ◌+◌, ◌-◌, ◌<◌, ◌≤◌, List, length, take, drop, replicate, get_or, set}
use Rattle.std.proofs.Common.{◌∙◌, arith, length-set, zero-add, drop-drop, take_all, drop_of_length-le, append-nil, length-take, length-drop}
use Rattle.std.proofs.lemmas.List.{length-replicate}
use Rattle.std.proofs.lemmas.List.Edits.{fill_from_more}
use borrow.Rule.Slice.PartMut.{put_mid}
use lib.Seq.{paste}
use Rattle.slices.specs.Splice.{splice, part}
use Rattle.slices.specs.Splice.Laws.{splice_nil, part_zero, part_all, copy_more}

pub put_part : {X : Type 0} (d w : List X) (at k : ℕ) → length w ≡ k → put_mid at k d w ≡ splice d at w
unfolding splice
put_part d w at k e = rw (drop-drop k at d, e)

-- how far a loop that copies has come
pub record Copying (s : List ℕ) (from n : ℕ) (d₀ : List ℕ) (at i : ℕ) (d : List ℕ) : Type 0 where
  pub done : d ≡ splice d₀ at (part s from i)
  pub long : length d ≡ length d₀

pub copy_none : (s : List ℕ) (from n : ℕ) (d : List ℕ) (at : ℕ) → Copying s from n d at 0 d
copy_none s from n d at = record { done = rw part_zero (splice_nil d at); long = refl }

module _ {s d₀ d : List ℕ} {from at n i : ℕ} (c : Copying s from n d₀ at i d) where
  pub copy_on : i < n → (from + n ≤ length s) × (at + n ≤ length d₀) → Copying s from n d₀ at (i + 1) (set d (at + i) (get_or s (from + i) 0))
  copy_on h o = record { done = rw c.done (copy_more d₀ at s from i (omega arith) (omega arith)); long = length-set d (at + i) _ ∙ c.long }

  pub copy_all : n ≡ i → d ≡ splice d₀ at (part s from n)
  copy_all e = rw e c.done

-- all of some bytes
pub write_all : (s d d' : List ℕ) (at : ℕ) → d' ≡ splice d at (part s 0 (length s)) → d' ≡ splice d at s
write_all s d d' at e = e ∙ rw part_all

-- so many of `xs` are `v`, the rest as they were
pub clear_on : {X : Type 0} (xs ys : List X) (v : X) (i : ℕ) → ys ≡ paste xs 0 (replicate i v) i → i < length xs → set ys i v ≡ paste xs 0 (replicate (i + 1) v) (i + 1)
clear_on xs ys v i e h = rw e (simp zero-add (simp zero-add at (fill_from_more xs 0 i v (rw zero-add h))))

-- what a loop that clears leaves
pub cleared : {X : Type 0} (d w : List X) (v : X) (at n i : ℕ) → at + n ≤ length d
    → w ≡ paste (take (at + n - at) (drop at d)) 0 (replicate i v) i
    → i ≤ length (take (at + n - at) (drop at d)) → length (take (at + n - at) (drop at d)) ≤ i
    → put_mid at (at + n - at) d w ≡ splice d at (replicate n v)
cleared d w v at n i o e h g =
    let b : at + n - at ≡ n = omega arith in
    let l : length (take n (drop at d)) ≡ n = simp (length-take, length-drop) (omega arith) in
    let k : i ≡ n = omega (arith, rw b at h, rw b at g, l) in
    let f : w ≡ replicate n v = rw (b, k) at e ∙ rw (take_all n (replicate n v) (rw length-replicate (omega arith)), drop_of_length-le (take n (drop at d)) {i = 0 + n} (omega arith), append-nil) in
    rw (b, f) (put_part d (replicate n v) at n (length-replicate n v))

pub ruleset write_laws = (write_all)

pub ruleset copy_laws = (copy_none, copy_on, copy_all)

pub ruleset clear_laws = (clear_on, cleared)
