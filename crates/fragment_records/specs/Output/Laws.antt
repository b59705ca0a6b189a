-- The laws of the records that the bench writes.
-- Assumes nothing.
use Rattle.std.specs.Prelude.{◌≡◌, List, [], ◌∷◌, ◌++◌, length, drop}
use Rattle.std.proofs.Math.Path.{refl}
use Prim.Native.Nat.{ℕ, zero, suc, ◌+◌}
use Rattle.std.proofs.Common.{append_assoc, append-nil, arith, drop_of_length-le}
use borrow.Author.Tests.{eqb-true}
use Rattle.std.proofs.Math.ListN.{get_or}
use Rattle.std.proofs.Math.Seq.{drop-cons}
use Rattle.slices.specs.Choice.{cond_ind}
use Rattle.sessions.specs.declared.Bench.{Bench}
use Rattle.sessions.specs.Places.{is_free}
use Rattle.sessions.specs.Places.Laws.{total, Whole}
use Rattle.fragment_records.specs.Output.{Out, fragment, closed, held, out_bytes, bytes_of, held_at, held_from, held_of, fragments_of, counts_in}

pub bytes_append : (a b : List Out) → bytes_of (a ++ b) ≡ bytes_of a ++ bytes_of b
unfolding bytes_of
bytes_append [] b = refl
bytes_append (o ∷ a) b = rw (bytes_append a b, append_assoc)

pub bytes_one : (o : Out) → bytes_of (o ∷ []) ≡ out_bytes o
unfolding bytes_of
bytes_one o = append-nil (out_bytes o)

pub fragments_append : (a b : List Out) → fragments_of (a ++ b) ≡ fragments_of a ++ fragments_of b
unfolding fragments_of
fragments_append [] b = refl
fragments_append (fragment u x ∷ a) b = rw (fragments_append a b)
fragments_append (closed u x n ∷ a) b = fragments_append a b
fragments_append (held x n ∷ a) b = fragments_append a b

pub counts_append : (a b : List Out) → counts_in (a ++ b) ≡ counts_in a + counts_in b
unfolding counts_in
counts_append [] b = omega arith
counts_append (fragment u x ∷ a) b = counts_append a b
counts_append (closed u x n ∷ a) b = rw (counts_append a b) (omega arith)
counts_append (held x n ∷ a) b = rw (counts_append a b) (omega arith)

-- ---- what is held at the end

module _ (b : Bench) where
  held_count : (k : ℕ) → counts_in (held_at b k) ≡ get_or b.counts k 0
  unfolding held_at is_free counts_in
  held_count k = cond_ind (is_free b k) _ _ (λ outs. counts_in outs ≡ get_or b.counts k 0) (λ e. omega (arith, eqb-true (get_or b.counts k 0) 0 e)) (λ e. omega arith)

  held_none : (k : ℕ) → fragments_of (held_at b k) ≡ []
  unfolding held_at fragments_of
  held_none k = cond_ind (is_free b k) _ _ (λ outs. fragments_of outs ≡ []) (λ e. refl) (λ e. refl)

  held_from_lem : (n k : ℕ) → k + n ≡ length b.counts → counts_in (held_from b n k) ≡ total (drop k b.counts)
  unfolding held_from counts_in total
  held_from_lem zero k h = rw (drop_of_length-le b.counts {i = k} (omega arith))
  held_from_lem (suc n) k h = rw (counts_append (held_at b k) (held_from b n (suc k)), held_count k, held_from_lem n (suc k) (omega arith), drop-cons b.counts k 0 (omega arith))

  -- the counts held are all that there are
  pub held_total : Whole b → counts_in (held_of b) ≡ total b.counts
  held_total w = held_from_lem 32 0 (omega (arith, w.counts))

  fragments_from : (n k : ℕ) → fragments_of (held_from b n k) ≡ []
  unfolding held_from fragments_of
  fragments_from zero k = refl
  fragments_from (suc n) k = rw (fragments_append (held_at b k) (held_from b n (suc k)), held_none k, fragments_from n (suc k))

  pub held_fragments : fragments_of (held_of b) ≡ []
  held_fragments = fragments_from 32 0
