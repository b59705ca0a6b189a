-- What the proofs of the readers of items search.
-- Assumes nothing.
use Rattle.std.specs.Prelude.{◌≡◌, refl, ℕ, zero, suc, ◌+◌, ◌-◌, ◌≤◌, ◌<◌, ◌^◌, Bool, true, false, List, length, get_or, ltb}
use Rattle.std.proofs.Math.Path.{sym, ap}
use Rattle.std.proofs.Common.{subst, ◌∙◌, arith}
use borrow.Author.Tests.{lt-ltb, le-ltb, ne_eqb, ltb-true}
use Rattle.slices.specs.Choice.{cond_ind}
use Rattle.tables.specs.Lists.{nth}
use Rattle.values.specs.Read.{Read}
use Rattle.values.specs.Value.{on_read, unsigned, value, signed}
use Rattle.section_scan.specs.Sections.{with_kinds}
use Rattle.section_scan.specs.Sections.{next_id, next_time}
use Rattle.section_scan.specs.Sections.Deltas.{IdAhead, id_ahead, id_bad, id_end, id_found, id_past, time_bad, time_end, time_found, time_past}
use Rattle.section_scan.specs.FoundId.{FoundId}
use Rattle.values.specs.declared.How.{How}
use Rattle.section_heads.specs.declared.Phase.{Phase}
use Rattle.section_heads.specs.declared.Phase.TheVariants.{Each, Closing, Between, Entries, Listed}
use Rattle.section_heads.specs.declared.Stand.{Stand}
use Rattle.section_heads.specs.declared.Said.TheVariants.{Write, StepEnd}
use Rattle.section_heads.specs.declared.Item.{Item}
use Rattle.numbers.specs.Marks.{ecy, esn}
use Rattle.section_scan.specs.FoundTime.{FoundTime}
use Rattle.values.specs.Read as read
use Rattle.section_scan.specs.FoundId as ids
use Rattle.section_scan.specs.FoundTime as times
use Rattle.section_heads.specs.Heads.{standing, goes, begins, bad, end_item, entry_item}
use Rattle.sections.specs.Item.{time_item, head_of, head_item, in_values, is_each, after_values, id_of, id_in, each_id, next_of, write_item, found_item, value_item, next_item}

-- ---- an id

-- an id of a signal
pub record IdOf (kinds : List ℕ) (id : ℕ) : Type 0 where
  pub low : 1 ≤ id
  pub high : id ≤ length kinds

pub kind_is : (kinds : List ℕ) (id : ℕ) → IdOf kinds id → get_or kinds (id - 1) 0 ≡ nth kinds id
unfolding nth
kind_is kinds zero h = absurd (omega (arith, h.low))
kind_is kinds (suc id) h = let e : suc id - 1 ≡ id = omega arith in ap (λ (n : ℕ). get_or kinds n 0) e

pub ruleset kind_laws = (kind_is)

module _ (kinds s : List ℕ) (id i : ℕ) {r : Read} (e : r ≡ unsigned s i) where
  pub in_bad : {n p : ℕ} → r ≡ read.Bad n p → read.Bad n p ≡ id_in kinds s id i
  unfolding id_in id_of
  in_bad b = ap id_of (id_bad kinds s id i e b)

  module _ {d j : ℕ} (v : r ≡ read.Value d j) where
    pub in_end : d ≡ 0 → read.Value 0 j ≡ id_in kinds s id i
    unfolding id_in id_of
    in_end z = ap id_of (id_end kinds s id i e v z)

    module _ (z : d ≡ 0 → ⊥) (h : id ≤ length kinds) where
      pub in_found : d ≤ length kinds - id → read.Value (id + d) j ≡ id_in kinds s id i
      unfolding id_in id_of
      in_found l = ap id_of (id_found kinds s id i e v z h l)

      pub in_past : length kinds - id < d → read.Bad 13 i ≡ id_in kinds s id i
      unfolding id_in id_of
      in_past l = ap id_of (id_past kinds s id i e v z h l)

pub ruleset in_laws = (in_bad, in_end, in_found, in_past)

-- an id that was found is one of a signal
abbrev RangedBy : List ℕ → Read → Type 0
RangedBy kinds (read.Value id j) = (id ≡ 0 → ⊥) → IdOf kinds id
RangedBy kinds (read.Bad n p) = Unit {0}

in_ranged : (kinds s : List ℕ) (id i : ℕ) → RangedBy kinds (id_in kinds s id i)
unfolding id_in id_of
in_ranged kinds s id i = go (next_id (with_kinds kinds) s id i) (id_ahead (with_kinds kinds) s id i)
  where
    go : (c : FoundId) → IdAhead (with_kinds kinds) s i c → RangedBy kinds (id_of c)
    go (ids.Id id j) h = λ n. record { low = h.0; high = h.1 }
    go (ids.End j) h = λ n. absurd (n refl)
    go (ids.Bad n p) h = tt

each_ranged : (kinds s : List ℕ) (id i : ℕ) → RangedBy kinds (each_id kinds s id i)
unfolding each_id
each_ranged kinds s id i =
    cond_ind (ltb id (length kinds)) _ _ (RangedBy kinds)
    (λ t. λ n. let h = ltb-true id (length kinds) t in record { low = omega arith; high = omega arith })
    (λ t. λ n. absurd (n refl))

of_ranged : (kinds s : List ℕ) (p : Phase) (id i : ℕ) → RangedBy kinds (next_of kinds s p id i)
unfolding next_of
of_ranged kinds s p id i = cond_ind (is_each p) _ _ (RangedBy kinds) (λ t. each_ranged kinds s id i) (λ t. in_ranged kinds s id i)

module _ (p : Phase) where
  pub after_each : p ≡ Each → Closing ≡ after_values p
  unfolding after_values
  after_each d = rw d

  pub after_other : is_each p ≡ false → Between ≡ after_values p
  unfolding after_values
  after_other d = rw d

module _ (kinds s : List ℕ) (p : Phase) (id i : ℕ) where
  module _ (d : p ≡ Each) where
    pub each_more : id < length kinds → read.Value (id + 1) i ≡ next_of kinds s p id i
    unfolding next_of each_id
    each_more h = rw (d, lt-ltb id (length kinds) h)

    pub each_none : length kinds ≤ id → read.Value 0 i ≡ next_of kinds s p id i
    unfolding next_of each_id
    each_none h = rw (d, le-ltb id (length kinds) h)

  pub of_other : is_each p ≡ false → {r : Read} → r ≡ id_in kinds s id i → r ≡ next_of kinds s p id i
  unfolding next_of
  of_other d e = e ∙ rw d

pub ruleset each_laws = (each_more, each_none)

-- ---- a value

module _ (kinds : List ℕ) (how : How) (s : List ℕ) (x : Stand) (id i : ℕ) {k : ℕ} (q : k ≡ nth kinds id) {r : Read} (e : r ≡ value how k s i) {y : Item} where
  pub write_found : {v j : ℕ} → r ≡ read.Value v j → {z : Stand} → z ≡ standing x.phase id x.time → y ≡ goes j (Write v id) z → y ≡ write_item kinds how s x id i
  unfolding write_item on_read
  write_found {v} {j} d g w = w ∙ (ap (goes j (Write v id)) g ∙ rw (← q, sym e ∙ d))

  pub write_bad : {n p : ℕ} → r ≡ read.Bad n p → y ≡ bad n p → y ≡ write_item kinds how s x id i
  unfolding write_item on_read
  write_bad d w = w ∙ rw (← q, sym e ∙ d)

pub ruleset write_laws = (write_found, write_bad)

module _ (kinds : List ℕ) (how : How) (s : List ℕ) (x : Stand) (i : ℕ) {c : Read} (e : c ≡ next_of kinds s x.phase x.id i) where
  pub value_id : {id j : ℕ} → c ≡ read.Value id j → (id ≡ 0 → ⊥) → IdOf kinds id
  value_id d n = subst (RangedBy kinds) (sym e ∙ d) (of_ranged kinds s x.phase x.id i) n

  module _ {r : Item} where
    pub value_end : {id j : ℕ} → c ≡ read.Value id j → id ≡ 0 → {p : Phase} → p ≡ after_values x.phase → {z : Stand} → z ≡ standing p 0 x.time → r ≡ goes j StepEnd z → r ≡ value_item kinds how s x i
    unfolding value_item on_read found_item
    value_end {id} {j} d n {p} a g w = w ∙ (ap (goes j StepEnd) (g ∙ ap (λ p. standing p 0 x.time) a) ∙ rw (sym e ∙ d, n))

    pub value_found : {id j : ℕ} → c ≡ read.Value id j → (id ≡ 0 → ⊥) → r ≡ write_item kinds how s x id j → r ≡ value_item kinds how s x i
    unfolding value_item on_read found_item
    value_found {id} d n w = w ∙ rw (sym e ∙ d, ne_eqb id 0 n)

    pub value_bad : {n p : ℕ} → c ≡ read.Bad n p → r ≡ bad n p → r ≡ value_item kinds how s x i
    unfolding value_item on_read
    value_bad d w = w ∙ rw (sym e ∙ d)

pub ruleset value_laws = (value_id, value_end, value_found, value_bad)

-- ---- a delta

module _ (s : List ℕ) (u i : ℕ) {r : Read} (e : r ≡ signed s i) where
  pub to_bad : {n p : ℕ} → r ≡ read.Bad n p → times.Bad n p ≡ next_time s u i
  to_bad b = time_bad s u i e b

  module _ {d j : ℕ} (v : r ≡ read.Value d j) where
    pub to_end : 0x8000_0000_0000_0000 ≤ d → times.End j ≡ next_time s u i
    to_end h = time_end s u i e v h

    module _ (h : d < 0x8000_0000_0000_0000) (k : u < 2 ^ 64) where
      pub to_found : d ≤ 0xffff_ffff_ffff_ffff - u → times.Time (u + d) j ≡ next_time s u i
      to_found l = time_found s u i e v h k l

      pub to_past : 0xffff_ffff_ffff_ffff - u < d → times.Bad 15 i ≡ next_time s u i
      to_past l = time_past s u i e v h k l

pub ruleset to_laws = (to_bad, to_end, to_found, to_past)

module _ (s : List ℕ) {d : FoundTime} {c : FoundTime} (e : c ≡ d) {r : Item} where
  pub delta_time : {u j : ℕ} → c ≡ times.Time u j → r ≡ begins j u Listed → r ≡ time_item s d
  unfolding time_item
  delta_time g w = w ∙ rw (sym e ∙ g)

  pub delta_end : {j : ℕ} → c ≡ times.End j → r ≡ end_item ecy s j → r ≡ time_item s d
  unfolding time_item
  delta_end g w = w ∙ rw (sym e ∙ g)

  pub delta_bad : {p n : ℕ} → c ≡ times.Bad n p → r ≡ bad n p → r ≡ time_item s d
  unfolding time_item
  delta_bad g w = w ∙ rw (sym e ∙ g)

pub ruleset delta_laws = (delta_time, delta_end, delta_bad)

-- ---- between the values of steps

module _ (how : How) (s : List ℕ) (x : Stand) (i : ℕ) {r : Item} where
  pub head_entry : x.phase ≡ Entries → r ≡ entry_item how s x.id i → r ≡ head_item how s x i
  unfolding head_item head_of
  head_entry d e = rw d e

  pub head_closing : x.phase ≡ Closing → r ≡ end_item esn s i → r ≡ head_item how s x i
  unfolding head_item head_of
  head_closing d e = rw d e

  pub head_delta : x.phase ≡ Between → r ≡ time_item s (next_time s x.time i) → r ≡ head_item how s x i
  unfolding head_item head_of
  head_delta d e = rw d e

pub ruleset head_laws = (head_entry, head_closing, head_delta)

-- ---- any item

-- where a reading can stand: in values, after an id or at the first
abbrev pub Stood : List ℕ → Stand → Type 0
Stood kinds x = in_values x.phase ≡ true → x.id ≤ length kinds

pub record Stands (kinds : List ℕ) (x : Stand) : Type 0 where
  pub stood : Stood kinds x

module _ (kinds : List ℕ) (how : How) (s : List ℕ) (x : Stand) (i : ℕ) {m : Bool} (e : m ≡ in_values x.phase) {r : Item} where
  pub item_value : m ≡ true → r ≡ value_item kinds how s x i → r ≡ next_item kinds how s x i
  unfolding next_item
  item_value d w = w ∙ rw (sym e ∙ d)

  pub item_head : m ≡ false → r ≡ head_item how s x i → r ≡ next_item kinds how s x i
  unfolding next_item
  item_head d w = w ∙ rw (sym e ∙ d)

pub item_stood : {kinds : List ℕ} {x : Stand} → Stands kinds x → {m : Bool} → m ≡ in_values x.phase → m ≡ true → x.id ≤ length kinds
item_stood w e d = w.stood (sym e ∙ d)

pub ruleset item_laws = (item_stood, item_value, item_head)
