-- What the proofs of the functions below `next_event` search.
-- Assumes nothing.
use Rattle.std.specs.Prelude.{◌≡◌, ℕ, ◌+◌, ◌-◌, ◌≤◌, ◌<◌, Bool, true, false, cond, ◌||◌, List, eqb, leb, length, get_or}
use Rattle.std.proofs.Common.{sym, ◌∙◌, arith}
use Rattle.std.proofs.Math.Logic.{⊎_elim}
use borrow.Author.Tests.{le-leb, lt-leb, eq-eqb, ne_eqb}
use Rattle.slices.specs.Choice.{tri}
use Rattle.slices.specs.Splice.{part}
use Rattle.numbers.specs.Fixed.{big}
use Rattle.states.specs.declared.States.{States}
use Rattle.states.specs.declared.States.TheVariants.{Two, Nine}
use Rattle.records.specs.declared.Record.{Record}
use Rattle.records.specs.declared.Record.TheVariants.{Time, Value, Real}
use Rattle.event_streams.specs.Next.{Next, Event, End, Bad}
use Rattle.event_streams.specs.Stream.{event_length, record_at, is_time, in_values, judged, next_event}
use Rattle.event_streams.specs.Stream.Code.{Known, Whole, known, whole}

-- ---- kinds

module _ {k : ℕ} where
  pub kind_time : k ≡ 1 → 9 ≡ event_length k
  unfolding event_length
  kind_time e = rw (eq-eqb k 1 e)

  pub kind_zero : k < 1 → 0 ≡ event_length k
  unfolding event_length
  kind_zero h = rw (ne_eqb k 1 (λ e. omega arith), ne_eqb k 2 (λ e. omega arith), ne_eqb k 3 (λ e. omega arith), ne_eqb k 4 (λ e. omega arith))

  pub kind_high : 5 ≤ k → 0 ≡ event_length k
  unfolding event_length
  kind_high h = rw (ne_eqb k 1 (λ e. omega arith), ne_eqb k 2 (λ e. omega arith), ne_eqb k 3 (λ e. omega arith), ne_eqb k 4 (λ e. omega arith))

  pub kind_value : (k ≡ 1 → ⊥) → 1 ≤ k → k < 5 → 13 ≡ event_length k
  unfolding event_length
  kind_value n l h =
      ⊎_elim (λ (e : k ≡ 3). rw (ne_eqb k 1 n, ne_eqb k 2 (λ o. omega arith), eq-eqb k 3 e))
      (λ o. ⊎_elim (λ (e : k < 3). rw (ne_eqb k 1 n, eq-eqb k 2 (two e)))
      (λ (e : 3 < k). rw (ne_eqb k 1 n, ne_eqb k 2 (λ o. omega arith), ne_eqb k 3 (λ o. omega arith), eq-eqb k 4 (omega arith))) o)
      (tri k 3)
    where
      two : k < 3 → k ≡ 2
      two e = ⊎_elim (λ (o : k ≡ 2). o) (λ o. ⊎_elim (λ (b : k < 2). absurd (n (omega arith))) (λ (b : 2 < k). omega arith) o) (tri k 2)

pub states_two : {k : ℕ} → k ≡ 2 → Two ≡ cond (eqb k 2) Two Nine
states_two {k} e = rw (eq-eqb k 2 e)

pub states_nine : {k : ℕ} → (k ≡ 2 → ⊥) → Nine ≡ cond (eqb k 2) Two Nine
states_nine {k} n = rw (ne_eqb k 2 n)

-- ---- a whole record

module _ (s : List ℕ) (at : ℕ) where
  pub record_time : get_or s at 0 ≡ 1 → {u : ℕ} → u ≡ big (part s (at + 1) 8) → Time u ≡ record_at s at
  unfolding record_at
  record_time e p = rw (eq-eqb _ 1 e, p)

  pub record_real : get_or s at 0 ≡ 4 → {a b : ℕ} → a ≡ big (part s (at + 1) 4) → b ≡ big (part s (at + 5) 8) → Real a b ≡ record_at s at
  unfolding record_at
  record_real e p q = rw (ne_eqb (get_or s at 0) 1 (λ o. omega arith), eq-eqb (get_or s at 0) 4 e, p, q)

  pub record_value : (get_or s at 0 ≡ 1 → ⊥) → (get_or s at 0 ≡ 4 → ⊥) → {st : States} {r : Record} → st ≡ cond (eqb (get_or s at 0) 2) Two Nine
      → r ≡ Value st (big (part s (at + 1) 4)) (big (part s (at + 5) 4)) (big (part s (at + 9) 4)) → r ≡ record_at s at
  unfolding record_at
  record_value n m p q = q ∙ rw (ne_eqb (get_or s at 0) 1 n, ne_eqb (get_or s at 0) 4 m, p)

  module _ (w : Whole s at) where
    pub whole_begins : at < length s
    whole_begins = omega arith

    pub whole_time : get_or s at 0 ≡ 1 → at + 1 + 8 ≤ length s
    whole_time e = omega (arith, kind_time e)

    pub whole_value : (get_or s at 0 ≡ 1 → ⊥) → at + 13 ≤ length s
    whole_value n =
        ⊎_elim (λ (o : get_or s at 0 ≡ 0). omega (arith, kind_zero {k = get_or s at 0} (omega arith))) (λ o. ⊎_elim (λ (h : get_or s at 0 < 0). omega arith) (λ (h : 0 < get_or s at 0). up h) o)
        (tri (get_or s at 0) 0)
      where
        up : 0 < get_or s at 0 → at + 13 ≤ length s
        up h =
            ⊎_elim (λ (o : get_or s at 0 ≡ 5). omega (arith, kind_high {k = get_or s at 0} (omega arith)))
            (λ o. ⊎_elim (λ (l : get_or s at 0 < 5). omega (arith, kind_value {k = get_or s at 0} n h l)) (λ (l : 5 < get_or s at 0). omega (arith, kind_high {k = get_or s at 0} (omega arith))) o)
            (tri (get_or s at 0) 5)

    pub whole_real_reference : get_or s at 0 ≡ 4 → at + 1 + 4 ≤ length s
    whole_real_reference e = omega (arith, whole_value (λ o. omega arith))

    pub whole_real_bits : get_or s at 0 ≡ 4 → at + 5 + 8 ≤ length s
    whole_real_bits e = omega (arith, whole_value (λ o. omega arith))

-- ---- what is judged

module _ {e : Record} where
  pub stands_time : {u : ℕ} → e ≡ Time u → (begun : Bool) → true ≡ (is_time e || begun)
  unfolding is_time
  stands_time p begun = rw p

  pub stands_value : {st : States} {a b c : ℕ} → e ≡ Value st a b c → (begun : Bool) → begun ≡ (is_time e || begun)
  unfolding is_time
  stands_value p begun = rw p

  pub stands_real : {a b : ℕ} → e ≡ Real a b → (begun : Bool) → begun ≡ (is_time e || begun)
  unfolding is_time
  stands_real p begun = rw p

  pub inside_time : {u : ℕ} → e ≡ Time u → (values : ℕ) → true ≡ in_values values e
  unfolding in_values
  inside_time p values = rw p

  pub inside_value : {st : States} {a b c : ℕ} → e ≡ Value st a b c → (values x y : ℕ) → x ≡ b → y ≡ c → leb (x + y) values ≡ in_values values e
  unfolding in_values
  inside_value p values x y f g = rw (p, f, g)

  pub inside_real : {a b : ℕ} → e ≡ Real a b → (values : ℕ) → true ≡ in_values values e
  unfolding in_values
  inside_real p values = rw p

module _ (values : ℕ) (begun : Bool) (e : Record) (i j : ℕ) {m : Bool} (a : m ≡ (is_time e || begun)) where
  pub judged_before : m ≡ false → Bad 18 i ≡ judged values begun e i j
  unfolding judged
  judged_before h = rw (← a, h)

  module _ (h : m ≡ true) {n : Bool} (b : n ≡ in_values values e) where
    pub judged_past : n ≡ false → Bad 20 i ≡ judged values begun e i j
    unfolding judged
    judged_past g = rw (← a, h, ← b, g)

    pub judged_good : n ≡ true → Event e j ≡ judged values begun e i j
    unfolding judged
    judged_good g = rw (← a, h, ← b, g)

-- ---- what stands at a place

module _ (s : List ℕ) (values : ℕ) (begun : Bool) (at : ℕ) where
  pub next_end : length s ≤ at → End ≡ next_event s values begun at
  unfolding next_event
  next_end h = rw (le-leb (length s) at h)

  module _ {size : ℕ} (h : at < length s) (k : size ≡ event_length (get_or s at 0)) where
    pub next_unknown : size ≡ 0 → Bad 17 at ≡ next_event s values begun at
    unfolding next_event
    next_unknown z = rw (lt-leb (length s) at h, ← k, eq-eqb size 0 z)

  module _ {size : ℕ} (k : Known s at size) where
    opened : next_event s values begun at ≡ cond (leb (at + size) (length s)) (judged values begun (record_at s at) at (at + size)) (Bad 7 at)
    unfolding next_event
    opened = rw (lt-leb (length s) at k.begins, ← k.sized, ne_eqb size 0 (λ e. omega (arith, k.known)))

    pub next_short : length s - at < size → Bad 7 at ≡ next_event s values begun at
    next_short h = sym (opened ∙ rw (lt-leb (at + size) (length s) (omega (arith, k.begins))))

    pub next_whole : size ≤ length s - at → {e : Record} → e ≡ record_at s at → {r : Next} → r ≡ judged values begun e at (at + size) → r ≡ next_event s values begun at
    next_whole h p q = q ∙ rw p (sym (opened ∙ rw (le-leb (at + size) (length s) (omega (arith, k.begins)))))

pub ruleset kind_laws = (kind_time, kind_zero, kind_high, kind_value, states_two, states_nine)

pub ruleset record_laws = (record_time, record_real, record_value, whole_begins, whole_time, whole_value, whole_real_reference, whole_real_bits)

pub ruleset test_laws = (stands_time, stands_value, stands_real, inside_time, inside_value, inside_real)

pub ruleset judge_laws = (judged_before, judged_past, judged_good)

pub ruleset next_laws = (next_end, next_unknown, next_short, next_whole, known, whole)
