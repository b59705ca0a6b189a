-- The acts of change records are covered.
-- Assumes nothing.
use Prim.Native.Nat.{ℕ, zero, suc, ◌+◌, ◌≤◌}
use Rattle.std.specs.Prelude.{◌≡◌, refl, Bool, ◌&&◌, List, length, get_or, eqb}
use Rattle.std.proofs.Math.Bool.{true, false}
use native.Mathlib.Omega.{arith}
use Rattle.std.proofs.Common.{leb-true, eqb-true}
use Rattle.std.proofs.lemmas.Bool.{eqb-false}
use Rattle.std.proofs.Math.Dec.{leb}
use Rattle.slices.specs.Choice.{cond_ind}
use Rattle.slices.specs.Splice.{part}
use Rattle.numbers.specs.Fixed.{big}
use Rattle.tables.specs.Lists.{Lists, nth, signals}
use Rattle.tables.specs.Checks.Laws.{both}
use Rattle.values.specs.Read.{Read}
use Rattle.values.specs.Read as read
use Rattle.values.specs.Value.{on_read, narrow}
use Rattle.values.specs.Value.Laws.{Ahead, narrow_ahead}
use Rattle.rules.specs.Gather.{Act, time, write, step_end}
use Rattle.rules.specs.Scan.{Scan, done}
use Rattle.changes.specs.Change.{ChangeFound, Time, Write, StepEnd, End, Bad}
use Rattle.changes.specs.Changes.{record_length, written, write_record, in_order, change_record, next_change, one_record, changes, scan_changes}
use Rattle.room_bounds.specs.Costs.{Covers}

pub record Pays (cost : Act → ℕ) (budget : ℕ → ℕ) : Type 0 where
  pub of_write : (id v q i j : ℕ) → i + 6 ≤ j → budget i + cost (write id v q) ≤ budget j
  pub of_time : (u i j : ℕ) → i + 9 ≤ j → budget i + cost (time u) ≤ budget j
  pub of_end : (i j : ℕ) → i + 1 ≤ j → budget i + cost step_end ≤ budget j

-- ---- how long a record is

time_length : (k : ℕ) → eqb k 1 ≡ true → record_length k ≡ 9
unfolding record_length
time_length k e = rw e

end_length : (k : ℕ) → eqb k 4 ≡ true → record_length k ≡ 1
unfolding record_length
end_length k e = rw (eqb-true k 4 e)

wide_length : (k : ℕ) → eqb k 1 ≡ false → eqb k 2 ≡ false → eqb k 4 ≡ false → (record_length k ≡ 0 → ⊥)
    → record_length k ≡ 13
unfolding record_length
wide_length k a b c =
    rw (a, b, c) (cond_ind (eqb k 3) 13 0 (λ n. (n ≡ 0 → ⊥) → n ≡ 13) (λ e h. refl) (λ e h. absurd (h refl)))

module _ (t : Lists) (s : List ℕ) where
  -- 9 bytes, 6 or (of a kind that is wide) 13, and 1; a time stands between steps, a write is of a signal
  abbrev pub Long : Bool → ℕ → ChangeFound → Type 0
  Long inside i (Time u j) = (i + 9 ≤ j) × (j ≤ length s) × (inside ≡ false)
  Long inside i (Write id v j) = (i + 6 ≤ j) × (j ≤ length s) × (5 ≤ nth t.kinds id → i + 13 ≤ j) × (id ≤ signals t)
  Long inside i (StepEnd j) = (i + 1 ≤ j) × (j ≤ length s)
  Long inside i (End j) = Unit {0}
  Long inside i (Bad n p) = Unit {0}

  module _ (i : ℕ) where
    abbrev kind : ℕ
    kind = get_or s i 0

    read_long : (id : ℕ) → id ≤ signals t → nth t.kinds id ≤ 4 → (inside : Bool) (r : Read) → Ahead s (i + 5) r
        → Long inside i (on_read r Bad (λ v j. Write id v j))
    unfolding on_read
    read_long id n k inside (read.Value v j) h = (omega (arith, h.0), h.1, (λ w. absurd (omega arith)), n)
    read_long id n k inside (read.Bad m p) h = tt

    module _ (some : record_length kind ≡ 0 → ⊥) (l : i + record_length kind ≤ length s) where
      written_long : (id : ℕ) → id ≤ signals t → eqb kind 1 ≡ false → eqb kind 4 ≡ false → (inside : Bool)
          → Long inside i (written t s kind id i)
      unfolding written
      written_long id n a c inside =
          cond_ind (eqb kind 2) _ _ (Long inside i)
          (λ b. cond_ind (leb (nth t.kinds id) 4) _ _ (Long inside i)
          (λ k. read_long id n (leb-true _ _ k) inside (narrow (nth t.kinds id) s (i + 5))
          (narrow_ahead (nth t.kinds id) s (i + 5))) (λ k. tt))
          (λ b. cond_ind (leb 5 (nth t.kinds id)) _ _ (Long inside i)
          (λ k. (omega arith, omega (arith, wide_length kind a b c some), (λ w. omega arith), n)) (λ k. tt))

      order_long : (inside : Bool) → Long inside i (in_order t s inside kind i)
      unfolding in_order write_record
      order_long inside =
          cond_ind (eqb kind 1) _ _ (Long inside i)
          (λ a. cond_ind inside _ _ (Long inside i) (λ b. tt)
          (λ b. (omega arith, omega (arith, time_length kind a), b)))
          (λ a. cond_ind inside _ _ (Long inside i)
          (λ b. cond_ind (eqb kind 4) _ _ (Long inside i) (λ c. (omega arith, omega (arith, end_length kind c)))
          (λ c. cond_ind (leb 1 (big (part s (i + 1) 4)) && leb (big (part s (i + 1) 4)) (signals t))
          _ _ (Long inside i) (λ d. written_long (big (part s (i + 1) 4))
          (leb-true _ _ (both (leb 1 (big (part s (i + 1) 4))) _ d).1) a c inside) (λ d. tt)))
          (λ b. tt))

    pub next_long : (inside : Bool) → Long inside i (next_change t s inside i)
    unfolding next_change change_record
    next_long inside =
        cond_ind (leb (length s) i) _ _ (Long inside i) (λ a. cond_ind inside _ _ (Long inside i) (λ b. tt) (λ b. tt))
        (λ a. cond_ind (eqb (record_length kind) 0) _ _ (Long inside i) (λ b. tt)
        (λ b. cond_ind (leb (i + record_length kind) (length s)) _ _ (Long inside i)
        (λ l. order_long (eqb-false _ _ b) (leb-true _ _ l) inside) (λ l. tt)))

  module _ (cost : Act → ℕ) (budget : ℕ → ℕ) (pays : Pays cost budget) where
    abbrev Cov : ℕ → Scan → Type 0
    Cov = Covers cost budget (length s)

    one_covered : (inside : Bool) (i n : ℕ) (c : ChangeFound) (more : Bool → ℕ → Scan) → Long inside i c → n ≤ budget i
        → ((b : Bool) (j m : ℕ) → m ≤ budget j → Cov m (more b j)) → Cov n (one_record t s c i more)
    unfolding one_record Covers
    one_covered inside i n (Time u j) more o l rec = let f =
        pays.of_time u i j o.0 in (omega arith, o.1, rec true j (n + cost (time u)) (omega arith))
    one_covered inside i n (Write id v j) more o l rec = let f =
        pays.of_write id v i i j o.0 in (omega arith, o.1, rec true j (n + cost (write id v i)) (omega arith))
    one_covered inside i n (StepEnd j) more o l rec = let f =
        pays.of_end i j o.0 in (omega arith, o.1, rec false j (n + cost step_end) (omega arith))
    one_covered inside i n (End j) more o l rec = tt
    one_covered inside i n (Bad m p) more o l rec = tt

    all_covered : (fuel : ℕ) (inside : Bool) (i n : ℕ) → n ≤ budget i → Cov n (changes t s fuel inside i)
    unfolding changes Covers
    all_covered zero inside i n l =
        one_covered inside i n (next_change t s inside i) (λ b j. done j) (next_long i inside) l (λ b j m h. tt)
    all_covered (suc fuel) inside i n l =
        one_covered inside i n (next_change t s inside i) (λ b j. changes t s fuel b j) (next_long i inside) l
        (λ b j m h. all_covered fuel b j m h)

    pub changes_covered : Covers cost budget (length s) 0 (scan_changes t s)
    unfolding scan_changes
    changes_covered = all_covered (length s) false 0 0 (omega arith)
