-- What is known of a change record that was read: whether a step is open, that its numbers fit 64 bits, and of a byte write its byte.
-- Assumes nothing.
use Rattle.std.specs.Prelude.{◌≡◌, refl, ℕ, ◌+◌, ◌-◌, ◌^◌, ◌≤◌, ◌<◌, Bool, true, false, ◌&&◌, List, length, get_or, eqb}
use Rattle.std.proofs.Common.{sym, zero-lt-suc}
use Rattle.std.proofs.Math.Path.{subst}
use Rattle.std.proofs.Math.Nat.{pow-le-pow_right}
use native.Mathlib.Omega.{arith}
use borrow.Author.Tests.{leb-true}
use Rattle.std.proofs.Math.ListN.{length-take}
use Rattle.std.proofs.Math.Dec.{leb}
use Rattle.slices.specs.Choice.{cond_ind}
use Rattle.slices.specs.Splice.{part}
use Rattle.numbers.specs.Fixed.{big}
use Rattle.numbers.specs.Fixed.Laws.{Bytes, big_below, part_bytes}
use Rattle.tables.specs.Lists.{Lists, nth, signals}
use Rattle.values.specs.Read.{Read}
use Rattle.values.specs.Read as read
use Rattle.values.specs.Value.{on_read, narrow}
use Rattle.values.specs.Value.Reads.{Reads, narrow_reads}
use Rattle.changes.specs.Change.{ChangeFound, Time, Write, StepEnd, End, Bad}
use Rattle.changes.specs.Changes.{record_length, written, write_record, in_order, change_record, next_change}

-- of a write: a byte write's value is that of its last byte, and a wide one fits 64 bits
pub record Writes (kind : ℕ) (s : List ℕ) (v j : ℕ) : Type 0 where
  pub byte : kind ≤ 4 → narrow kind s (j - 1) ≡ read.Value v j
  pub wide : 5 ≤ kind → v < 2 ^ 64

abbrev pub Known : Lists → List ℕ → Bool → ChangeFound → Type 0
Known t s inside (Time u j) = (inside ≡ false) × (u < 2 ^ 64)
Known t s inside (Write id v j) = (inside ≡ true) × (id < 2 ^ 64) × Writes (nth t.kinds id) s v j
Known t s inside (StepEnd j) = inside ≡ true
Known t s inside (End j) = inside ≡ false
Known t s inside (Bad n p) = Unit {0}

module _ (t : Lists) (s : List ℕ) (b : Bytes s) where
  -- the number of at most 8 bytes
  part_short : (at n : ℕ) → length (part s at n) ≤ n
  unfolding part
  part_short at n = rw length-take (omega arith)

  big_fits : (at n : ℕ) → n ≤ 8 → big (part s at n) < 2 ^ 64
  big_fits at n h =
      let l : length (part s at n) ≤ 8 = omega (arith, part_short at n) in
      let w : 256 ^ length (part s at n) ≤ 256 ^ 8 = pow-le-pow_right (zero-lt-suc 255) l in
      omega (arith, big_below (part s at n) (part_bytes s at n b))

  module _ (inside : Bool) (open? : inside ≡ true) (id i : ℕ) (f : id < 2 ^ 64) where
    next_byte : (kind v j : ℕ) → narrow kind s (i + 5) ≡ read.Value v j → j - 1 ≡ i + 5
    unfolding Reads
    next_byte kind v j e = let r : j ≡ i + 5 + 1 = subst (Reads (λ x. x ≡ i + 5 + 1)) e (narrow_reads (λ x. x ≡ i + 5 + 1) kind s (i + 5) refl) in omega arith

    byte_known : nth t.kinds id ≤ 4 → (r : Read) → r ≡ narrow (nth t.kinds id) s (i + 5) → Known t s inside (on_read r Bad (λ v j. Write id v j))
    unfolding on_read
    byte_known h (read.Value v j) e =
        (open?, f, record { byte = λ k. rw (next_byte (nth t.kinds id) v j (sym e)) (sym e); wide = λ k. absurd (omega arith) })
    byte_known h (read.Bad n p) e = tt

    written_known : (k : ℕ) → Known t s inside (written t s k id i)
    unfolding written
    written_known k =
        cond_ind (eqb k 2) _ _ (Known t s inside)
        (λ e. cond_ind (leb (nth t.kinds id) 4) _ _ (Known t s inside) (λ g. byte_known (leb-true _ _ g) (narrow (nth t.kinds id) s (i + 5)) refl) (λ g. tt))
        (λ e. cond_ind (leb 5 (nth t.kinds id)) _ _ (Known t s inside)
        (λ g. let h = leb-true 5 (nth t.kinds id) g in (open?, f, record { byte = λ k. absurd (omega arith); wide = λ k. big_fits (i + 5) 8 (omega arith) }))
        (λ g. tt))

    write_known : (k : ℕ) → Known t s inside (write_record t s k id i)
    unfolding write_record
    write_known k = cond_ind (leb 1 id && leb id (signals t)) _ _ (Known t s inside) (λ e. written_known k) (λ e. tt)

  module _ (inside : Bool) (i : ℕ) where
    order_known : (k : ℕ) → Known t s inside (in_order t s inside k i)
    unfolding in_order
    order_known k =
        cond_ind (eqb k 1) _ _ (Known t s inside)
        (λ e. cond_ind inside _ _ (Known t s inside) (λ o. tt) (λ o. (o, big_fits (i + 1) 8 (omega arith))))
        (λ e. cond_ind inside _ _ (Known t s inside)
        (λ o. cond_ind (eqb k 4) _ _ (Known t s inside) (λ f. o) (λ f. write_known inside o (big (part s (i + 1) 4)) i (big_fits (i + 1) 4 (omega arith)) k))
        (λ o. tt))

    pub next_known : Known t s inside (next_change t s inside i)
    unfolding next_change change_record
    next_known =
        cond_ind (leb (length s) i) _ _ (Known t s inside)
        (λ e. cond_ind inside _ _ (Known t s inside) (λ o. tt) (λ o. o))
        (λ e. cond_ind (eqb (record_length (get_or s i 0)) 0) _ _ (Known t s inside) (λ f. tt)
        (λ f. cond_ind (leb (i + record_length (get_or s i 0)) (length s)) _ _ (Known t s inside) (λ g. order_known (get_or s i 0)) (λ g. tt)))
