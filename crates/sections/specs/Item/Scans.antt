-- The items of section bytes, one after the other, are what section reading scans.
-- Assumes nothing.
use Rattle.std.specs.Prelude.{◌≡◌, Bool, cond, List, replicate, ltb, None, Some}
use Rattle.std.proofs.Math.Path.{refl, subst}
use Rattle.std.proofs.Common.{sym, ap, add-one, leb-true, ltb-true, ltb-false, ne_eqb}
use Prim.Native.Nat.{ℕ, zero, suc, ◌+◌, ◌-◌, ◌*◌, ◌≤◌, ◌<◌}
use Rattle.std.proofs.Math.Bool.{true, false}
use Rattle.std.proofs.lemmas.Bool.{false≢true}
use native.Mathlib.Omega.{arith}
use Rattle.std.proofs.Math.ListN.{length}
use Rattle.std.proofs.Math.Dec.{leb}
use Rattle.slices.specs.Splice.{part}
use Rattle.slices.specs.Field.{field_of}
use Rattle.numbers.specs.Fixed.{negative, positive}
use Rattle.numbers.specs.Marks.{same, ecy, eod, esn, section_of}
use Rattle.numbers.specs.declared.marks.Section.{Section}
use Rattle.numbers.specs.declared.marks.Section.TheVariants as section
use Rattle.tables.specs.Lists.{Lists, nth, signals}
use Rattle.values.specs.Read.{Read}
use Rattle.values.specs.Read as read
use Rattle.values.specs.Value.{on_read, value, Suits}
use Rattle.values.specs.Value.Laws.{Ahead, value_ahead, value_suits}
use Rattle.rules.specs.Gather.{time, write, step_end}
use Rattle.rules.specs.Scan.{Scan, say, done, fault, and_then}
use Rattle.section_scan.specs.Sections.{field, end_mark, each_value, next_id, one_change, change_list, next_time, snapshot, one_step, steps, cycle, entries, directory, one_section, sections, scan_sections}
use Rattle.section_scan.specs.Sections.Deltas.{IdAhead, id_ahead, id_none, id_same, TimeAhead, time_ahead}
use Rattle.section_scan.specs.FoundId.{FoundId}
use Rattle.section_scan.specs.FoundTime.{FoundTime}
use Rattle.section_scan.specs.FoundId as ids
use Rattle.section_scan.specs.FoundTime as times
use Rattle.values.specs.declared.How.{How}
use Rattle.section_heads.specs.declared.Phase.{Phase}
use Rattle.section_heads.specs.declared.Phase.TheVariants.{Mark, Entries, Each, Closing, Listed, Between}
use Rattle.section_heads.specs.declared.Stand.{Stand}
use Rattle.section_heads.specs.declared.Said.{Said}
use Rattle.section_heads.specs.declared.Said.TheVariants.{Nothing, Time, Write, StepEnd, Over, Bad}
use Rattle.section_heads.specs.declared.Item.{Item}
use Rattle.sections.specs.Item.Code.{IdOf, Stood}
use Rattle.section_heads.specs.Heads.{standing, goes, passes, begins, bad, within, end_item, counted, fixed_at, open_tailer, open_snapshot, open_cycle, open_directory, opens, section_item, entry_item}
use Rattle.sections.specs.Item.{time_item, head_of, head_item, after_values, id_of, id_in, each_id, next_of, write_item, found_item, value_item, next_item}

-- what is said before the rest
unfoldable pub say_of : Said → (p j : ℕ) → Scan → Scan
say_of Nothing p j rest = rest
say_of (Time u) p j rest = say (time u) j rest
say_of (Write v id) p j rest = say (write id v p) j rest
say_of StepEnd p j rest = say step_end j rest
say_of Over p j rest = rest
say_of (Bad n) p j rest = rest

-- whether a reading ends with what is said
abbrev pub ends : Said → Bool
ends Nothing = false
ends (Time u) = false
ends (Write v id) = false
ends StepEnd = false
ends Over = true
ends (Bad n) = true

-- a write is to a signal, its value within its kind's range
abbrev pub Sound : List ℕ → Said → Type 0
Sound kinds Nothing = Unit {0}
Sound kinds (Time u) = Unit {0}
Sound kinds (Write v id) = IdOf kinds id × Suits (nth kinds id) v
Sound kinds StepEnd = Unit {0}
Sound kinds Over = Unit {0}
Sound kinds (Bad n) = Unit {0}

-- a snapshot's last item takes no bytes
unfoldable pub rank : Phase → ℕ
rank Mark = 0
rank Entries = 0
rank Each = 1
rank Closing = 0
rank Listed = 0
rank Between = 0

rank_most : (p : Phase) → rank p ≤ 1
unfolding rank
rank_most Mark = omega arith
rank_most Entries = omega arith
rank_most Each = omega arith
rank_most Closing = omega arith
rank_most Listed = omega arith
rank_most Between = omega arith

-- how many times that is
unfoldable pub said_times : Said → ℕ
said_times Nothing = 0
said_times (Time u) = 1
said_times (Write v id) = 0
said_times StepEnd = 0
said_times Over = 0
said_times (Bad n) = 0

times_most : (a : Said) → said_times a ≤ 1
unfolding said_times
times_most Nothing = omega arith
times_most (Time u) = omega arith
times_most (Write v id) = omega arith
times_most StepEnd = omega arith
times_most Over = omega arith
times_most (Bad n) = omega arith

-- a measure for those who read on: bytes left, and then a snapshot's last item
unfoldable pub to_read : List ℕ → Stand → ℕ → ℕ
to_read s x i = 2 * (length s - i) + rank x.phase

module _ (t : Lists) (how : How) (s : List ℕ) where
  -- what section reading scans from a phase on
  unfoldable pub scan_from : (f_l f_s f_t : ℕ) → Phase → (id u i : ℕ) → Scan
  scan_from f_l f_s f_t Mark id u i = sections t how s f_t i
  scan_from f_l f_s f_t Entries n u i = and_then (and_then (entries t how s n i) (λ k. end_mark eod s k)) (λ k. sections t how s f_t k)
  scan_from f_l f_s f_t Each id u i = and_then (and_then (each_value t how s (signals t - id) (suc id) i) (λ k. say step_end k (end_mark esn s k))) (λ k. sections t how s f_t k)
  scan_from f_l f_s f_t Closing id u i = and_then (end_mark esn s i) (λ k. sections t how s f_t k)
  scan_from f_l f_s f_t Listed id u i =
      and_then (and_then (change_list t how s f_l id i) (λ j. say step_end j (one_step t how s (next_time s u j) (λ u' e. steps t how s f_s u' e)))) (λ k. sections t how s f_t k)
  scan_from f_l f_s f_t Between id u i = and_then (one_step t how s (next_time s u i) (λ u' e. steps t how s f_s u' e)) (λ k. sections t how s f_t k)

  -- fuel for more items than are left
  pub record Enough (i f_l f_s f_t : ℕ) : Type 0 where
    pub lists : length s ≤ i + f_l
    pub cycles : length s ≤ i + f_s
    pub all : length s ≤ i + f_t

  -- of section reading's scan, `sc` is what is left where a reading stands at `x` and `i`
  pub record Left (x : Stand) (i : ℕ) (sc : Scan) : Type 0 where
    pub f_l : ℕ
    pub f_s : ℕ
    pub f_t : ℕ
    pub enough : Enough i f_l f_s f_t
    pub scans : sc ≡ scan_from f_l f_s f_t x.phase x.id x.time i
    pub inside : i ≤ length s
    pub stood : Stood t.kinds x

  -- what goes on after an item: it is said, a write with the place of its value, and then the rest
  pub record GoesOn (r i : ℕ) (sc : Scan) (j : ℕ) (a : Said) (y : Stand) : Type 0 where
    pub place : ℕ
    pub rest : Scan
    pub scans : sc ≡ say_of a place j rest
    pub left : Left y j rest
    pub sound : Sound t.kinds a
    pub less : to_read s y j < 2 * (length s - i) + r
    pub ahead : i + said_times a ≤ j

  abbrev pub FollowsBy : (r i : ℕ) → Scan → (j : ℕ) → Stand → Said → Type 0
  FollowsBy r i sc j y Nothing = GoesOn r i sc j Nothing y
  FollowsBy r i sc j y (Time u) = GoesOn r i sc j (Time u) y
  FollowsBy r i sc j y (Write v id) = GoesOn r i sc j (Write v id) y
  FollowsBy r i sc j y StepEnd = GoesOn r i sc j StepEnd y
  FollowsBy r i sc j y Over = sc ≡ done j
  FollowsBy r i sc j y (Bad n) = sc ≡ fault n.0 n.1

  abbrev pub Follows : (r i : ℕ) → Scan → Item → Type 0
  Follows r i sc x = FollowsBy r i sc x.at x.then x.said

  -- where it doesn't end, it goes on
  pub follows_on : {r i : ℕ} {sc : Scan} {j : ℕ} {y : Stand} (a : Said) → ends a ≡ false → FollowsBy r i sc j y a → GoesOn r i sc j a y
  follows_on Nothing e f = f
  follows_on (Time u) e f = f
  follows_on (Write v id) e f = f
  follows_on StepEnd e f = f
  follows_on Over e f = absurd (false≢true (sym e))
  follows_on (Bad n) e f = absurd (false≢true (sym e))

  -- an item further on
  module _ (r i : ℕ) (sc : Scan) (a : Said) (y : Stand) (j f_l f_s f_t place : ℕ) (l : i < j) (h : j ≤ length s) where
    on : Enough j f_l f_s f_t → sc ≡ say_of a place j (scan_from f_l f_s f_t y.phase y.id y.time j) → Sound t.kinds a → Stood t.kinds y → GoesOn r i sc j a y
    unfolding to_read
    on e q o w =
        record {
          place = place;
          rest = scan_from f_l f_s f_t y.phase y.id y.time j;
          scans = q;
          left = record { f_l = f_l; f_s = f_s; f_t = f_t; enough = e; scans = refl; inside = h; stood = w };
          sound = o;
          less = omega (arith, rank_most y.phase);
          ahead = omega (arith, times_most a);
        }

  -- outside values an id is asked nothing
  free : {id : ℕ} → false ≡ true → id ≤ length t.kinds
  free e = absurd (false≢true e)

  field_both : (P : Scan → Item → Type 0) (n i : ℕ) (k' : ℕ → Scan) (k : ℕ → Item) → (i + n ≤ length s → P (k' (i + n)) (k (i + n))) → P (fault 7 i) (bad 7 i) → P (field n s i k') (within (field_of n s i) k i)
  unfolding field field_of within
  field_both P n i k' k f g = by (leb (i + n) (length s)) refl
    where
      by : (b : Bool) → leb (i + n) (length s) ≡ b → P (cond b (k' (i + n)) (fault 7 i)) (within (cond b (Some (i + n)) None) k i)
      by true e = f (leb-true _ _ e)
      by false e = g

  cond_both : (P : Scan → Item → Type 0) (b : Bool) {x y : Scan} {x' y' : Item} → P x x' → P y y' → P (cond b x y) (cond b x' y')
  cond_both P true f g = f
  cond_both P false f g = g

  -- a number that must not be negative
  counted_both : (P : Scan → Item → Type 0) (v i : ℕ) (x : Scan) (k : ℕ → Item) → P (fault 11 i) (bad 11 i) → P x (k v) → P (cond (negative 32 v) (fault 11 i) x) (counted (positive v) i k)
  unfolding positive counted
  counted_both P v i x k f g = by (negative 32 v)
    where
      by : (b : Bool) → P (cond b (fault 11 i) x) (counted (cond b None (Some v)) i k)
      by true = f
      by false = g

  later : {i f_l f_s f_t : ℕ} → Enough i f_l f_s f_t → (j : ℕ) → i ≤ j → Enough j f_l f_s f_t
  later e j l = record { lists = omega (arith, e.lists); cycles = omega (arith, e.cycles); all = omega (arith, e.all) }

  further : {i f_l f_s f_t : ℕ} → Enough i (suc f_l) f_s f_t → (j : ℕ) → i < j → Enough j f_l f_s f_t
  further e j l = record { lists = omega (arith, e.lists); cycles = omega (arith, e.cycles); all = omega (arith, e.all) }

  module _ (r : ℕ) where
    -- a scan with the sections after it
    abbrev Goes : (i f_t : ℕ) → Scan → Item → Type 0
    Goes i f_t sc x = Follows r i (and_then sc (λ k. sections t how s f_t k)) x

    -- ---- an end mark

    end_follows : (mark : List ℕ) (i₀ i f_l f_s f_t : ℕ) → i₀ ≤ i → Enough i f_l f_s f_t → Goes i₀ f_t (end_mark mark s i) (end_item mark s i)
    unfolding end_mark end_item and_then say_of scan_from
    end_follows mark i₀ i f_l f_s f_t l e =
        field_both (Goes i₀ f_t) 4 i _ _
        (λ h. cond_both (Goes i₀ f_t) (same (part s i 4) mark)
        (on r i₀ _ Nothing (standing Mark 0 0) (i + 4) f_l f_s f_t 0 (omega arith) h (later e (i + 4) (omega arith)) refl tt free) refl) refl

    -- ---- a step of a cycle is entered

    enters : (u i j f f_t : ℕ) → i < j → length s ≤ i + f → length s ≤ j + f_t
        → (f_l : ℕ) × (f_s : ℕ) × Enough j f_l f_s f_t × (and_then (steps t how s f u j) (λ k. sections t how s f_t k) ≡ scan_from f_l f_s f_t Listed 0 u j)
    unfolding steps scan_from change_list and_then
    enters u i j zero f_t d h l = (0, 0, record { lists = omega arith; cycles = omega arith; all = l }, refl)
    enters u i j (suc f) f_t d h l = (length s, f, record { lists = omega arith; cycles = omega arith; all = l }, refl)

    -- ---- a section

    module _ (i f_t : ℕ) (h : length s ≤ i + suc f_t) where
      snapshot_follows : (at : ℕ) → i < at → Goes i f_t (snapshot t how s at) (open_snapshot how s at)
      unfolding snapshot open_snapshot and_then say_of scan_from
      snapshot_follows at l =
          field_both (Goes i f_t) 12 at _ _
          (λ g. cond_both (Goes i f_t) (same (part s at 4) (replicate 4 0))
          (on r i _ (Time (fixed_at how s (at + 4) 8)) (standing Each 0 (fixed_at how s (at + 4) 8)) (at + 12) (length s) (length s) f_t 0 (omega arith) g
          (record { lists = omega arith; cycles = omega arith; all = omega arith })
          (ap (λ (n : ℕ). say (time (fixed_at how s (at + 4) 8)) (at + 12) (and_then (and_then (each_value t how s n 1 (at + 12)) (λ k. say step_end k (end_mark esn s k))) (λ k. sections t how s f_t k))) (omega arith)) tt (λ e. omega arith))
          refl) refl

      cycle_follows : (at : ℕ) → i < at → Goes i f_t (cycle t how s at) (open_cycle how s at)
      unfolding cycle open_cycle and_then say_of
      cycle_follows at l =
          field_both (Goes i f_t) 8 at _ _
          (λ g.
          let u = fixed_at how s at 8 in
          let e = enters u at (at + 8) (length s) f_t (omega arith) (omega arith) (omega arith) in
          on r i _ (Time u) (standing Listed 0 u) (at + 8) e.0 e.1 f_t 0 (omega arith) g e.2 (ap (say (time u) (at + 8)) e.3) tt (λ z. omega arith))
          refl

      directory_follows : (at : ℕ) → i < at → Goes i f_t (directory t how s at) (open_directory how s at)
      unfolding directory open_directory and_then say_of scan_from
      directory_follows at l =
          field_both (Goes i f_t) 8 at _ _
          (λ g. counted_both (Goes i f_t) (fixed_at how s (at + 4) 4) (at + 4) _ (λ n. passes (at + 8) Entries n) refl
          (on r i _ Nothing (standing Entries (fixed_at how s (at + 4) 4) 0) (at + 8) (length s) (length s) f_t 0 (omega arith) g
          (record { lists = omega arith; cycles = omega arith; all = omega arith }) refl tt free)) refl

      opens_follows : (k : Section) (at : ℕ) → i < at → Follows r i (one_section t how s k i at (λ k. sections t how s f_t k)) (opens how s k i at)
      unfolding one_section opens open_tailer
      opens_follows section.Snapshot at l = snapshot_follows at l
      opens_follows section.Cycle at l = cycle_follows at l
      opens_follows section.Directory at l = directory_follows at l
      opens_follows section.Tailer at l = field_both (λ sc x. Follows r i sc x) 8 at _ _ (λ g. refl) refl
      opens_follows section.Unknown at l = refl

    section_follows : (i f_t : ℕ) → length s ≤ i + f_t → Follows r i (sections t how s f_t i) (section_item how s i)
    unfolding sections section_item
    section_follows i zero h = field_both (λ sc x. Follows r i (fault 7 i) x) 4 i (λ j. done j) _ (λ g. absurd (omega arith)) refl
    section_follows i (suc f_t) h = field_both (λ sc x. Follows r i sc x) 4 i _ _ (λ g. opens_follows i f_t h (section_of (part s i 4)) (i + 4) (omega arith)) refl

    -- ---- an entry of a directory

    entry_follows : (n i f_l f_s f_t : ℕ) → Enough i f_l f_s f_t → Goes i f_t (and_then (entries t how s n i) (λ k. end_mark eod s k)) (entry_item how s n i)
    unfolding entries entry_item and_then say_of scan_from
    entry_follows zero i f_l f_s f_t e = end_follows eod i i f_l f_s f_t (omega arith) e
    entry_follows (suc n) i f_l f_s f_t e =
        field_both P 4 i _ _
        (λ g. field_both P 4 (i + 4) _ _
        (λ f. counted_both P (fixed_at how s (i + 4) 4) (i + 4) _ (λ m. passes (i + 4 + 4) Entries n) refl
        (on r i _ Nothing (standing Entries n 0) (i + 4 + 4) f_l f_s f_t 0 (omega arith) f (later e (i + 4 + 4) (omega arith)) refl tt free)) refl) refl
      where
        P : Scan → Item → Type 0
        P sc x = Goes i f_t (and_then sc (λ k. end_mark eod s k)) x

    -- ---- a delta between steps

    delta_follows : (u i f_l f_s f_t : ℕ) → Enough i f_l f_s f_t
        → Goes i f_t (one_step t how s (next_time s u i) (λ u' e. steps t how s f_s u' e)) (time_item s (next_time s u i))
    unfolding one_step time_item and_then say_of
    delta_follows u i f_l f_s f_t e = by (next_time s u i) (time_ahead s u i)
      where
        by : (c : FoundTime) → TimeAhead s i c → Goes i f_t (one_step t how s c (λ u' e. steps t how s f_s u' e)) (time_item s c)
        by (times.Time v j) a =
            let w = enters v i j f_s f_t a.0 e.cycles (omega (arith, a.0, e.all)) in
            on r i _ (Time v) (standing Listed 0 v) j w.0 w.1 f_t 0 a.0 a.1 w.2 (ap (say (time v) j) w.3) tt (λ z. omega arith)
        by (times.End j) a = end_follows ecy i j f_l f_s f_t (omega (arith, a.0)) (later e j (omega (arith, a.0)))
        by (times.Bad n p) a = refl

    -- ---- a value

    value_follows : (x : Stand) (id i p : ℕ) (k g h : ℕ → Scan) (i₀ : ℕ)
        → ((v j : ℕ) → i < j → j ≤ length s → Suits (nth t.kinds id) v → GoesOn r i₀ (say (write id v p) j (and_then (and_then (k j) g) h)) j (Write v id) (standing x.phase id x.time))
        → Follows r i₀ (and_then (and_then (on_read (value how (nth t.kinds id) s i) fault (λ v j. say (write id v p) j (k j))) g) h) (write_item t.kinds how s x id i)
    unfolding write_item on_read and_then
    value_follows x id i p k g h i₀ f = by (value how (nth t.kinds id) s i) refl (value_ahead how (nth t.kinds id) s i)
      where
        by : (y : Read) → value how (nth t.kinds id) s i ≡ y → Ahead s i y
            → Follows r i₀ (and_then (and_then (on_read y fault (λ v j. say (write id v p) j (k j))) g) h) (on_read y bad (λ v j. goes j (Write v id) (standing x.phase id x.time)))
        by (read.Value v j) z a = f v j a.0 a.1 (value_suits how (nth t.kinds id) s i refl z)
        by (read.Bad n q) z a = refl

    -- ---- a change list

    module _ (u id i : ℕ) where
      -- what follows a delta
      abbrev listed : FoundId → Item
      listed c = on_read (id_of c) bad (λ id' j. found_item t.kinds how s (standing Listed id u) id' j)

      list_follows : (f_l f_s f_t : ℕ) → Enough i f_l f_s f_t → Follows r i (scan_from f_l f_s f_t Listed id u i) (listed (next_id t s id i))
      unfolding scan_from change_list one_change found_item after_values id_of on_read and_then say_of
      list_follows zero f_s f_t e = subst (λ c. Follows r i (fault 7 i) (listed c)) (sym (id_none t s id i (omega (arith, e.lists)))) refl
      list_follows (suc f_l) f_s f_t e = by (next_id t s id i) (id_ahead t s id i)
        where
          rest : ℕ → Scan
          rest j = say step_end j (one_step t how s (next_time s u j) (λ u' e. steps t how s f_s u' e))

          by : (c : FoundId) → IdAhead t s i c → Goes i f_t (and_then (one_change t how s c (λ id'' k. change_list t how s f_l id'' k)) rest) (listed c)
          by (ids.Id d j) a =
              rw (ne_eqb d 0 (λ z. omega (arith, a.0)))
              (value_follows (standing Listed id u) d j j (λ k. change_list t how s f_l d k) rest (λ k. sections t how s f_t k) i
              (λ v k l h y.
              on r i _ (Write v d) (standing Listed d u) k f_l f_s f_t j (omega (arith, a.2)) h (further e k (omega (arith, a.2))) refl (record { low = a.0; high = a.1 }, y) (λ z. a.1)))
          by (ids.End j) a = on r i _ StepEnd (standing Between 0 u) j f_l f_s f_t 0 a.0 a.1 (further e j a.0) refl tt free
          by (ids.Bad n p) a = refl

  listed_follows : (u id i f_l f_s f_t : ℕ) → Enough i f_l f_s f_t → Follows 0 i (scan_from f_l f_s f_t Listed id u i) (value_item t.kinds how s (standing Listed id u) i)
  unfolding value_item next_of id_in
  listed_follows u id i f_l f_s f_t e =
      subst (λ c. Follows 0 i (scan_from f_l f_s f_t Listed id u i) (listed 0 u id i c)) (sym (id_same t s id i)) (list_follows 0 u id i f_l f_s f_t e)

  -- ---- a snapshot

  each_follows : (u id i f_l f_s f_t : ℕ) → i ≤ length s → Enough i f_l f_s f_t → Follows 1 i (scan_from f_l f_s f_t Each id u i) (value_item t.kinds how s (standing Each id u) i)
  unfolding scan_from value_item next_of each_id found_item after_values on_read say_of and_then each_value rank said_times to_read signals
  each_follows u id i f_l f_s f_t w e = by (ltb id (length t.kinds)) refl
    where
      rest : ℕ → Scan
      rest k = say step_end k (end_mark esn s k)

      scan : ℕ → Scan
      scan n = and_then (and_then (each_value t how s n (suc id) i) rest) (λ k. sections t how s f_t k)

      found : ℕ → Item
      found d = found_item t.kinds how s (standing Each id u) d i

      one_more : id < length t.kinds → length t.kinds - id ≡ suc (length t.kinds - suc id)
      one_more h = omega arith

      none_left : length t.kinds ≤ id → length t.kinds - id ≡ 0
      none_left h = omega arith

      some : id < length t.kinds → Follows 1 i (scan (suc (length t.kinds - suc id))) (found (suc id))
      some h =
          rw (ne_eqb (suc id) 0 (λ z. omega arith))
          (value_follows 1 (standing Each id u) (suc id) i i (λ j. each_value t how s (length t.kinds - suc id) (suc (suc id)) j) rest (λ k. sections t how s f_t k) i
          (λ v j l g y. on 1 i _ (Write v (suc id)) (standing Each (suc id) u) j f_l f_s f_t i l g (later e j (omega arith)) refl (record { low = omega arith; high = omega arith }, y) (λ z. omega arith)))

      none : Follows 1 i (scan 0) (found 0)
      none =
          record {
            place = 0;
            rest = and_then (end_mark esn s i) (λ k. sections t how s f_t k);
            scans = refl;
            left = record { f_l = f_l; f_s = f_s; f_t = f_t; enough = e; scans = refl; inside = w; stood = free };
            sound = tt;
            less = omega arith;
            ahead = omega arith;
          }

      by : (b : Bool) → ltb id (length t.kinds) ≡ b → Follows 1 i (scan (length t.kinds - id)) (on_read (cond b (read.Value (id + 1) i) (read.Value 0 i)) bad (λ d j. found_item t.kinds how s (standing Each id u) d j))
      by true q = let h = ltb-true id (length t.kinds) q in rw (one_more h, add-one id) (some h)
      by false q = let h = ltb-false id (length t.kinds) q in rw (none_left h) none

  -- ---- any item

  phase_follows : (p : Phase) (id u i f_l f_s f_t : ℕ) → i ≤ length s → Enough i f_l f_s f_t → Follows (rank p) i (scan_from f_l f_s f_t p id u i) (next_item t.kinds how s (standing p id u) i)
  unfolding scan_from next_item head_item head_of rank
  phase_follows Mark id u i f_l f_s f_t w e = section_follows 0 i f_t e.all
  phase_follows Entries n u i f_l f_s f_t w e = entry_follows 0 n i f_l f_s f_t e
  phase_follows Each id u i f_l f_s f_t w e = each_follows u id i f_l f_s f_t w e
  phase_follows Closing id u i f_l f_s f_t w e = end_follows 0 esn i i f_l f_s f_t (omega arith) e
  phase_follows Listed id u i f_l f_s f_t w e = listed_follows u id i f_l f_s f_t e
  phase_follows Between id u i f_l f_s f_t w e = delta_follows 0 u i f_l f_s f_t e

  -- what is left where a reading stands begins with its next item
  pub item_follows : (x : Stand) (i : ℕ) {sc : Scan} → Left x i sc → Follows (rank x.phase) i sc (next_item t.kinds how s x i)
  item_follows x i l =
      subst (λ sc. Follows (rank x.phase) i sc (next_item t.kinds how s x i)) (sym l.scans) (phase_follows x.phase x.id x.time i l.f_l l.f_s l.f_t l.inside l.enough)

  -- at the first mark all is left
  pub left_all : Left (standing Mark 0 0) 0 (scan_sections t how s)
  unfolding scan_sections scan_from
  left_all =
      record { f_l = length s; f_s = length s; f_t = length s; enough = record { lists = omega arith; cycles = omega arith; all = omega arith }; scans = refl; inside = omega arith; stood = free }

  -- at any place something is left
  pub left_some : (x : Stand) (i : ℕ) → i ≤ length s → Stood t.kinds x → Left x i (scan_from (length s) (length s) (length s) x.phase x.id x.time i)
  left_some x i h w =
      record { f_l = length s; f_s = length s; f_t = length s; enough = record { lists = omega arith; cycles = omega arith; all = omega arith }; scans = refl; inside = h; stood = w }
