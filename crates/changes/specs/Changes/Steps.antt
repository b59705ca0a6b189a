-- The acts of change records are whole steps; where a reading ends, and with what it can be refused.
-- Assumes nothing.
use Prim.Native.Nat.{ℕ, zero, suc, ◌+◌, ◌≤◌, ◌<◌}
use Rattle.std.specs.Prelude.{◌≡◌, ◌≢◌, Bool, ◌&&◌, List, length, get_or, eqb}
use Rattle.std.proofs.Math.Path.{refl}
use Rattle.std.proofs.Math.Bool.{true, false}
use Rattle.std.proofs.Common.{true≢false}
use Rattle.std.proofs.lemmas.Bool.{false≢true}
use native.Mathlib.Omega.{arith}
use borrow.Author.Tests.{leb-true, eqb-false}
use Rattle.std.proofs.Math.Dec.{leb}
use Rattle.slices.specs.Choice.{cond_ind}
use Rattle.slices.specs.Splice.{part}
use Rattle.numbers.specs.Fixed.{big}
use Rattle.tables.specs.Lists.{Lists, nth, signals}
use Rattle.values.specs.Read.{Read}
use Rattle.values.specs.Read as read
use Rattle.values.specs.Value.{on_read}
use Rattle.values.specs.Value.Reads.{Reads, narrow_reads}
use Rattle.rules.specs.Steps.{Stepped}
use Rattle.rules.specs.Scan.{Scan, done, acts, Ends, Faults}
use Rattle.rules.specs.Scan.Ordered.{Ordered, ordered_steps, ordered_end, ordered_fault}
use Rattle.changes.specs.Change.{ChangeFound, Time, Write, StepEnd, End, Bad}
use Rattle.changes.specs.Changes.{record_length, written, write_record, in_order, change_record, next_change, one_record, changes, scan_changes}

-- the numbers with which change records are refused: not 16, which only an event gives
abbrev pub ChangeNumber : ℕ → Type 0
ChangeNumber n = (7 ≤ n) × (n ≤ 19) × (n ≢ 16)

-- ---- the lengths of records

time_length : (k : ℕ) → eqb k 1 ≡ true → record_length k ≡ 9
unfolding record_length
time_length k e = rw e

byte_length : (k : ℕ) → eqb k 1 ≡ false → eqb k 2 ≡ true → record_length k ≡ 6
unfolding record_length
byte_length k a e = rw (a, e)

wide_length : (k : ℕ) → eqb k 1 ≡ false → eqb k 2 ≡ false → eqb k 4 ≡ false → record_length k ≢ 0 → record_length k ≡ 13
unfolding record_length
wide_length k a b c = rw (a, b, c) (cond_ind (eqb k 3) 13 0 (λ n. n ≢ 0 → n ≡ 13) (λ e h. refl) (λ e h. absurd (h refl)))

module _ (t : Lists) (s : List ℕ) where
  -- ---- what stands at a place: a record that is in order there, and ends in the input

  Found : Bool → ℕ → ChangeFound → Type 0
  Found inside i (Time u j) = (inside ≡ false) × (i < j) × (j ≤ length s)
  Found inside i (Write id v j) = (inside ≡ true) × (i < j) × (j ≤ length s)
  Found inside i (StepEnd j) = (inside ≡ true) × (i < j) × (j ≤ length s)
  Found inside i (End j) = (inside ≡ false) × (j ≡ i) × (length s ≤ i)
  Found inside i (Bad n p) = ChangeNumber n

  bad_7 : ChangeNumber 7
  bad_7 = (omega arith, omega arith, λ e. omega arith)

  module _ (i : ℕ) where
    abbrev kind : ℕ
    kind = get_or s i 0

    read_found : (id : ℕ) (r : Read) → Reads (λ j. (i < j) × (j ≤ length s)) r → Found true i (on_read r Bad (λ v j. Write id v j))
    unfolding on_read Reads Found
    read_found id (read.Value v j) h = (refl, h.0, h.1)
    read_found id (read.Bad n p) h = (h.0, omega arith, λ e. omega arith)

    module _ (some : record_length kind ≢ 0) (l : i + record_length kind ≤ length s) where
      written_found : (id : ℕ) → eqb kind 1 ≡ false → eqb kind 4 ≡ false → Found true i (written t s kind id i)
      unfolding written Found
      written_found id a c =
          cond_ind (eqb kind 2) _ _ (Found true i)
          (λ b. cond_ind (leb (nth t.kinds id) 4) _ _ (Found true i)
          (λ k. read_found id _ (narrow_reads _ _ s (i + 5) (omega arith, omega (arith, byte_length kind a b))))
          (λ k. (omega arith, omega arith, λ e. omega arith)))
          (λ b. cond_ind (leb 5 (nth t.kinds id)) _ _ (Found true i) (λ k. (refl, omega arith, omega (arith, wide_length kind a b c some))) (λ k. (omega arith, omega arith, λ e. omega arith)))

      write_found : (id : ℕ) → eqb kind 1 ≡ false → eqb kind 4 ≡ false → Found true i (write_record t s kind id i)
      unfolding write_record Found
      write_found id a c = cond_ind (leb 1 id && leb id (signals t)) _ _ (Found true i) (λ d. written_found id a c) (λ d. (omega arith, omega arith, λ e. omega arith))

      order_found : (inside : Bool) → Found inside i (in_order t s inside kind i)
      unfolding in_order Found
      order_found true =
          cond_ind (eqb kind 1) _ _ (Found true i) (λ a. (omega arith, omega arith, λ e. omega arith))
          (λ a. cond_ind (eqb kind 4) _ _ (Found true i) (λ c. (refl, omega arith, omega (arith, some)))
          (λ c. write_found (big (part s (i + 1) 4)) a c))
      order_found false = cond_ind (eqb kind 1) _ _ (Found false i) (λ a. (refl, omega arith, omega (arith, time_length kind a))) (λ a. (omega arith, omega arith, λ e. omega arith))

    record_found : (inside : Bool) → Found inside i (change_record t s inside i)
    unfolding change_record Found
    record_found inside =
        cond_ind (eqb (record_length kind) 0) _ _ (Found inside i) (λ a. (omega arith, omega arith, λ e. omega arith))
        (λ a. cond_ind (leb (i + record_length kind) (length s)) _ _ (Found inside i) (λ l. order_found (eqb-false _ _ a) (leb-true _ _ l) inside) (λ l. bad_7))

    next_found : (inside : Bool) → Found inside i (next_change t s inside i)
    unfolding next_change Found
    next_found true = cond_ind (leb (length s) i) _ _ (Found true i) (λ a. bad_7) (λ a. record_found true)
    next_found false = cond_ind (leb (length s) i) _ _ (Found false i) (λ a. (refl, refl, leb-true _ _ a)) (λ a. record_found false)

  -- ---- one record after the other

  abbrev Goes : Scan → Bool → ℕ → Type 0
  Goes = Ordered (λ n i. Unit {0}) (λ i. i ≡ length s) ChangeNumber

  one_record_lem : (inside : Bool) (i m : ℕ) (c : ChangeFound) (more : Bool → ℕ → Scan) → Found inside i c → i ≤ length s
      → ((b : Bool) (j n : ℕ) → i < j → j ≤ length s → Goes (more b j) b n) → Goes (one_record t s c i more) inside m
  unfolding one_record Found Ordered
  one_record_lem false i m (Time u j) more o l rec = rec true j m o.1 o.2
  one_record_lem true i m (Time u j) more o l rec = absurd (true≢false o.0)
  one_record_lem false i m (Write id v j) more o l rec = absurd (false≢true o.0)
  one_record_lem true i m (Write id v j) more o l rec = (tt, rec true j id o.1 o.2)
  one_record_lem false i m (StepEnd j) more o l rec = absurd (false≢true o.0)
  one_record_lem true i m (StepEnd j) more o l rec = rec false j 0 o.1 o.2
  one_record_lem false i m (End j) more o l rec = omega arith
  one_record_lem true i m (End j) more o l rec = absurd (true≢false o.0)
  one_record_lem false i m (Bad n p) more o l rec = o
  one_record_lem true i m (Bad n p) more o l rec = o

  in_changes : (fuel : ℕ) (inside : Bool) (i m : ℕ) → length s ≤ i + fuel → i ≤ length s → Goes (changes t s fuel inside i) inside m
  unfolding changes
  in_changes zero inside i m h l = one_record_lem inside i m _ (λ b j. done j) (next_found i inside) l (λ b j n p q. absurd (omega arith))
  in_changes (suc fuel) inside i m h l = one_record_lem inside i m _ _ (next_found i inside) l (λ b j n p q. in_changes fuel b j n (omega arith) q)

  -- ---- change reading

  ordered : Goes (scan_changes t s) false 0
  unfolding scan_changes
  ordered = in_changes (length s) false 0 0 (omega arith) (omega arith)

  -- "1 time opens a step; .. 4 step end"; "Input ends only between steps; empty input is good."
  pub changes_stepped : (i : ℕ) → Ends i (scan_changes t s) → Stepped (acts (scan_changes t s))
  changes_stepped i = ordered_steps _ _ _ (scan_changes t s) false 0 i ordered

  -- all of the input is read
  pub changes_end : (i : ℕ) → Ends i (scan_changes t s) → i ≡ length s
  changes_end i = ordered_end _ _ _ (scan_changes t s) false 0 i ordered

  pub changes_number : (n p : ℕ) → Faults n p (scan_changes t s) → ChangeNumber n
  changes_number n p = ordered_fault _ _ _ (scan_changes t s) false 0 n p ordered
