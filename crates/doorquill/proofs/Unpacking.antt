-- How far the loop that makes records flat has come, and what its proof cites.
-- Assumes nothing.
use Rattle.std.specs.Prelude.{◌≡◌, refl, ℕ, ◌+◌, ◌<◌, ◌≤◌, List, length, get_or}
use Rattle.std.proofs.Common.{add-one, arith, length-set, below_more}
use Rattle.doorquill.specs.declared.Vector.{Vector}
use Rattle.doorquill.specs.Lent.Flat.{none, placed, upto, Unpacked}

pub record Unpacking (vs : List Vector) (n : ℕ) (l : List ℕ) (i : ℕ) (l' : List ℕ) : Type 0 where
  pub past : i ≤ n
  pub done : l' ≡ upto vs n l i
  pub long : length l' ≡ length l
  pub bytes : (k : ℕ) → k < i → (get_or vs k none).state < 256

pub unpack_none : (vs : List Vector) (n : ℕ) (l : List ℕ) → Unpacking vs n l 0 l
unfolding upto
unpack_none vs n l = record { past = omega arith; done = refl; long = refl; bytes = λ k h. absurd (omega arith) }

module _ {vs : List Vector} {n i : ℕ} {l l' : List ℕ} (u : Unpacking vs n l i l') where
  pub unpack_more : i < n → (get_or vs i none).state < 256
      → Unpacking vs n l (i + 1) (placed n l' i (get_or vs i none))
  unfolding upto placed
  unpack_more h s =
      record {
        past = omega arith;
        done = rw (add-one, ← u.done);
        long = rw length-set (rw length-set (rw length-set (rw length-set u.long)));
        bytes = below_more _ _ u.bytes s;
      }

  pub unpack_all : n ≤ i → Unpacked vs n l l'
  unpack_all h =
      let e : i ≡ n = omega (arith, u.past) in
      record { are = rw e at u.done; bytes = λ k m. u.bytes k (omega arith) }
