-- What a change record says, test by test.
-- Assumes nothing.
use Rattle.std.specs.Prelude.{◌≡◌, refl, ℕ, zero, suc, ◌+◌, ◌-◌, ◌≤◌, ◌<◌, Bool, true, false, List, [], length, get_or}
use Rattle.std.proofs.Math.Path.{sym}
use Rattle.std.proofs.Common.{ap, ◌∙◌, arith}
use Rattle.std.proofs.Math.Bool.{and-false}
use borrow.Author.Tests.{le-leb, lt-leb, ne_eqb}
use Rattle.slices.specs.Splice.{part}
use Rattle.numbers.specs.Fixed.{big}
use Rattle.tables.specs.Lists.{Lists, lists, nth, signals}
use Rattle.values.specs.Read.{Read}
use Rattle.values.specs.Read as read
use Rattle.values.specs.Value.{on_read, narrow}
use Rattle.changes.specs.Change.{ChangeFound, Time, Write, StepEnd, End, Bad}
use Rattle.changes.specs.Changes.{record_length, written, write_record, in_order, change_record, next_change}
use Rattle.changes.specs.Changes.Whole.{Whole, whole_time, whole_id, whole_write, writes_byte, writes_wide}

-- of the tables a record asks the kinds alone
abbrev pub of_kinds : List ℕ → Lists
of_kinds kinds = lists kinds [] [] [] [] [] []

pub kinds_only : (t : Lists) (s : List ℕ) (inside : Bool) (i : ℕ) → next_change (of_kinds t.kinds) s inside i ≡ next_change t s inside i
unfolding next_change change_record in_order write_record written signals
kinds_only t s inside i = refl

-- the kind of a signal stands at its id less one
pub nth_is : (l : List ℕ) (id : ℕ) → 1 ≤ id → get_or l (id - 1) 0 ≡ nth l id
unfolding nth
nth_is l zero h = absurd (omega arith)
nth_is l (suc id) h = let e : suc id - 1 ≡ id = omega arith in ap (λ (n : ℕ). get_or l n 0) e

module _ (t : Lists) (s : List ℕ) (id i : ℕ) where
  module _ {kind : ℕ} (e : kind ≡ nth t.kinds id) where
    pub byte_unsuited : 4 < kind → Bad 19 i ≡ written t s 2 id i
    unfolding written
    byte_unsuited h = rw (← e, lt-leb kind 4 h)

    module _ (h : kind ≤ 4) {r : Read} (p : r ≡ narrow kind s (i + 5)) where
      pub byte_written : {v j : ℕ} → r ≡ read.Value v j → Write id v j ≡ written t s 2 id i
      unfolding written on_read
      byte_written d = rw (← e, le-leb kind 4 h, sym p ∙ d)

      pub byte_bad : {n q : ℕ} → r ≡ read.Bad n q → Bad n q ≡ written t s 2 id i
      unfolding written on_read
      byte_bad d = rw (← e, le-leb kind 4 h, sym p ∙ d)

    pub wide_unsuited : kind < 5 → Bad 19 i ≡ written t s 3 id i
    unfolding written
    wide_unsuited h = rw (← e, lt-leb 5 kind h)

    pub wide_written : 5 ≤ kind → {v : ℕ} → v ≡ big (part s (i + 5) 8) → Write id v (i + 13) ≡ written t s 3 id i
    unfolding written
    wide_written h d = rw (← e, le-leb 5 kind h, d)

  module _ (k : ℕ) where
    pub id_past : length t.kinds < id → Bad 13 i ≡ write_record t s k id i
    unfolding write_record signals
    id_past h = rw (lt-leb id (length t.kinds) h, and-false)

    module _ (h : id ≤ length t.kinds) where
      pub id_none : id < 1 → Bad 13 i ≡ write_record t s k id i
      unfolding write_record
      id_none l = rw (lt-leb 1 id l)

      module _ (l : 1 ≤ id) {r : ChangeFound} where
        pub write_byte : k ≡ 2 → r ≡ written t s 2 id i → r ≡ write_record t s k id i
        unfolding write_record signals
        write_byte e d = rw (le-leb 1 id l, le-leb id (length t.kinds) h, e) d

        pub write_wide : (k ≡ 2 → ⊥) → r ≡ written t s 3 id i → r ≡ write_record t s k id i
        unfolding write_record written signals
        write_wide n d = rw (le-leb 1 id l, le-leb id (length t.kinds) h, ne_eqb k 2 n) d

module _ (t : Lists) (s : List ℕ) (k i : ℕ) where
  pub time_inside : {inside : Bool} → k ≡ 1 → inside ≡ true → Bad 18 i ≡ in_order t s inside k i
  unfolding in_order
  time_inside e b = rw (e, b)

  pub time_outside : {inside : Bool} → k ≡ 1 → inside ≡ false → {v : ℕ} → v ≡ big (part s (i + 1) 8) → Time v (i + 9) ≡ in_order t s inside k i
  unfolding in_order
  time_outside e b d = rw (e, b, d)

  module _ {inside : Bool} (n : k ≡ 1 → ⊥) where
    pub others_outside : inside ≡ false → Bad 18 i ≡ in_order t s inside k i
    unfolding in_order
    others_outside b = rw (ne_eqb k 1 n, b)

    pub step_end_lem : inside ≡ true → k ≡ 4 → StepEnd (i + 1) ≡ in_order t s inside k i
    unfolding in_order
    step_end_lem b e = rw (b, e)

    pub a_write_is : inside ≡ true → (k ≡ 4 → ⊥) → {id : ℕ} → id ≡ big (part s (i + 1) 4) → {r : ChangeFound} → r ≡ write_record t s k id i → r ≡ in_order t s inside k i
    unfolding in_order
    a_write_is b n₄ p d = rw (ne_eqb k 1 n, b, ne_eqb k 4 n₄, ← p) d

module _ (t : Lists) (s : List ℕ) (inside : Bool) (i : ℕ) where
  module _ {n : ℕ} (e : n ≡ record_length (get_or s i 0)) where
    pub kind_unknown : n ≡ 0 → Bad 17 i ≡ change_record t s inside i
    unfolding change_record
    kind_unknown z = rw (← e, z)

    module _ (h : i < length s) (z : n ≡ 0 → ⊥) where
      pub record_cut : length s - i < n → Bad 7 i ≡ change_record t s inside i
      unfolding change_record
      record_cut l = rw (← e, ne_eqb n 0 z, lt-leb (i + n) (length s) (omega arith))

      module _ (l : n ≤ length s - i) where
        pub record_whole : Whole s (get_or s i 0) i
        record_whole = record { known = λ y. z (e ∙ y); begins = h; ends = rw (← e) (omega arith) }

        pub record_read : {r : ChangeFound} → r ≡ in_order t s inside (get_or s i 0) i → r ≡ change_record t s inside i
        unfolding change_record
        record_read d = rw (← e, ne_eqb n 0 z, le-leb (i + n) (length s) (omega arith)) d

  pub ends_inside : length s ≤ i → inside ≡ true → Bad 7 i ≡ next_change t s inside i
  unfolding next_change
  ends_inside h b = rw (le-leb (length s) i h, b)

  pub ends_outside : length s ≤ i → inside ≡ false → End i ≡ next_change t s inside i
  unfolding next_change
  ends_outside h b = rw (le-leb (length s) i h, b)

  pub reads_on : i < length s → {r : ChangeFound} → r ≡ change_record t s inside i → r ≡ next_change t s inside i
  unfolding next_change
  reads_on h d = rw (lt-leb (length s) i h) d

pub ruleset written_laws = (nth_is, byte_unsuited, byte_written, byte_bad, wide_unsuited, wide_written)

pub ruleset write_laws = (writes_byte, writes_wide, id_past, id_none, write_byte, write_wide)

pub ruleset order_laws = (whole_time, whole_id, whole_write, time_inside, time_outside, others_outside, step_end_lem, a_write_is)

pub ruleset record_laws = (kind_unknown, record_cut, record_whole, record_read, ends_inside, ends_outside, reads_on)
