-- The next id and the next time: what their readers find, and where they end.
-- Assumes nothing.
use Rattle.std.specs.Prelude.{◌≡◌, refl, ℕ, ◌+◌, ◌-◌, ◌^◌, ◌≤◌, ◌<◌, cond, List, length, ltb, leb, eqb}
use Rattle.std.proofs.Common.{arith}
use borrow.Author.Tests.{le-leb, lt-leb, ne_eqb, lt-ltb, le-ltb, leb-true, eqb-false}
use Rattle.slices.specs.Choice.{cond_ind}
use Rattle.numbers.specs.Fixed.{negative}
use Rattle.leb128.specs.Leb128.{unsigned_tenth, value}
use Rattle.leb128.specs.Leb128.Laws.{leb_past}
use Rattle.tables.specs.Lists.{Lists, signals}
use Rattle.values.specs.Read.{Read, Value, Bad}
use Rattle.values.specs.Value.{on_read, number, unsigned, signed}
use Rattle.values.specs.Value.Laws.{Ahead, unsigned_ahead, signed_ahead}
use Rattle.section_scan.specs.Sections.{with_kinds, next_id, next_time}
use Rattle.section_scan.specs.FoundId.{FoundId}
use Rattle.section_scan.specs.FoundTime.{FoundTime}
use Rattle.section_scan.specs.FoundId as ids
use Rattle.section_scan.specs.FoundTime as times

-- ---- what the readers find

module _ (kinds s : List ℕ) (id i : ℕ) {r : Read} (e : r ≡ unsigned s i) where
  abbrev t : Lists
  t = with_kinds kinds

  pub id_bad : {n p : ℕ} → r ≡ Bad n p → ids.Bad n p ≡ next_id t s id i
  unfolding next_id on_read
  id_bad b = rw (← e, b)

  module _ {d j : ℕ} (v : r ≡ Value d j) where
    pub id_end : d ≡ 0 → ids.End j ≡ next_id t s id i
    unfolding next_id on_read
    id_end z = rw (← e, v, z)

    module _ (z : d ≡ 0 → ⊥) (h : id ≤ length kinds) where
      pub id_found : d ≤ length kinds - id → ids.Id (id + d) j ≡ next_id t s id i
      unfolding next_id on_read signals
      id_found l = rw (← e, v, ne_eqb d 0 z, le-leb (id + d) (length kinds) (omega arith))

      pub id_past : length kinds - id < d → ids.Bad 13 i ≡ next_id t s id i
      unfolding next_id on_read signals
      id_past l = rw (← e, v, ne_eqb d 0 z, lt-leb (id + d) (length kinds) (omega arith))

module _ (s : List ℕ) (u i : ℕ) {r : Read} (e : r ≡ signed s i) where
  pub time_bad : {n p : ℕ} → r ≡ Bad n p → times.Bad n p ≡ next_time s u i
  unfolding next_time on_read
  time_bad b = rw (← e, b)

  module _ {d j : ℕ} (v : r ≡ Value d j) where
    pub time_end : 0x8000_0000_0000_0000 ≤ d → times.End j ≡ next_time s u i
    unfolding next_time on_read negative
    time_end h = rw (← e, v, le-leb (2 ^ 63) d h)

    module _ (h : d < 0x8000_0000_0000_0000) (k : u < 2 ^ 64) where
      pub time_found : d ≤ 0xffff_ffff_ffff_ffff - u → times.Time (u + d) j ≡ next_time s u i
      unfolding next_time on_read negative
      time_found l = rw (← e, v, lt-leb (2 ^ 63) d h, lt-ltb (u + d) (2 ^ 64) (omega arith))

      pub time_past : 0xffff_ffff_ffff_ffff - u < d → times.Bad 15 i ≡ next_time s u i
      unfolding next_time on_read negative
      time_past l = rw (← e, v, lt-leb (2 ^ 63) d h, le-ltb (u + d) (2 ^ 64) (omega arith))

-- ---- where they end

-- an id is one of a signal, and its delta is not empty
abbrev pub IdAhead : Lists → List ℕ → ℕ → FoundId → Type 0
IdAhead t s i (ids.Id id j) = (1 ≤ id) × (id ≤ length t.kinds) × (i < j) × (j ≤ length s)
IdAhead t s i (ids.End j) = (i < j) × (j ≤ length s)
IdAhead t s i (ids.Bad n p) = Unit {0}

abbrev pub TimeAhead : List ℕ → ℕ → FoundTime → Type 0
TimeAhead s i (times.Time u j) = (i < j) × (j ≤ length s)
TimeAhead s i (times.End j) = (i < j) × (j ≤ length s)
TimeAhead s i (times.Bad n p) = Unit {0}

pub id_ahead : (t : Lists) (s : List ℕ) (id i : ℕ) → IdAhead t s i (next_id t s id i)
unfolding next_id on_read signals
id_ahead t s id i = go (unsigned s i) (unsigned_ahead s i)
  where
    go : (r : Read) → Ahead s i r → IdAhead t s i (on_read r ids.Bad (λ d j. cond (eqb d 0) (ids.End j) (cond (leb (id + d) (length t.kinds)) (ids.Id (id + d) j) (ids.Bad 13 i))))
    go (Value d j) a =
        cond_ind (eqb d 0) _ _ (IdAhead t s i) (λ z. a)
        (λ z. cond_ind (leb (id + d) (length t.kinds)) _ _ (IdAhead t s i)
        (λ h. let n : d ≡ 0 → ⊥ = eqb-false d 0 z in let l = leb-true (id + d) (length t.kinds) h in (omega arith, l, a.0, a.1))
        (λ h. tt))
    go (Bad n p) a = tt

-- only the number of signals matters
pub id_same : (t : Lists) (s : List ℕ) (id i : ℕ) → next_id (with_kinds t.kinds) s id i ≡ next_id t s id i
unfolding next_id signals
id_same t s id i = refl

-- past the end there is none
pub id_none : (t : Lists) (s : List ℕ) (id i : ℕ) → length s ≤ i → next_id t s id i ≡ ids.Bad 7 i
unfolding next_id on_read unsigned number
id_none t s id i h = rw (leb_past unsigned_tenth value s i h)

pub time_ahead : (s : List ℕ) (u i : ℕ) → TimeAhead s i (next_time s u i)
unfolding next_time on_read
time_ahead s u i = go (signed s i) (signed_ahead s i)
  where
    go : (r : Read) → Ahead s i r → TimeAhead s i (on_read r times.Bad (λ d j. cond (negative 64 d) (times.End j) (cond (ltb (u + d) (2 ^ 64)) (times.Time (u + d) j) (times.Bad 15 i))))
    go (Value d j) a =
        cond_ind (negative 64 d) _ _ (TimeAhead s i) (λ n. a)
        (λ n. cond_ind (ltb (u + d) (2 ^ 64)) _ _ (TimeAhead s i) (λ h. a) (λ h. tt))
    go (Bad n p) a = tt
