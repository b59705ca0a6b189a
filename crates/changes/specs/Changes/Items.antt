-- A change record as an item, and what is left behind it.
-- Assumes nothing.
use Rattle.refusals.specs.Numbers.{Numbered}
use Rattle.std.specs.Prelude.{Err}
use Rattle.std.specs.Prelude.{◌≡◌, Bool, List}
use Rattle.std.proofs.Math.Path.{refl, ap}
use Rattle.std.proofs.Common.{sym, ◌∙◌, arith}
use Prim.Native.Nat.{ℕ, zero, suc, ◌+◌, ◌≤◌, ◌<◌}
use Rattle.std.proofs.Math.Bool.{true, false}
use Rattle.std.proofs.Math.ListN.{length}
use Rattle.tables.specs.Lists.{Lists, nth, signals}
use Rattle.values.specs.Value.{Suits}
use Rattle.rules.specs.Gather.{time, write, step_end}
use Rattle.rules.specs.Scan.{Scan, say, done, fault}
use Rattle.section_heads.specs.declared.Phase.TheVariants.{Mark}
use Rattle.section_heads.specs.declared.Stand.{Stand}
use Rattle.section_heads.specs.declared.Said.{Said}
use Rattle.section_heads.specs.declared.Said.TheVariants as said
use Rattle.section_heads.specs.declared.Item.{Item}
use Rattle.section_heads.specs.Heads.{standing, goes}
use Rattle.changes.specs.Change.{ChangeFound, Time, Write, StepEnd, End, Bad}
use Rattle.changes.specs.Changes.{next_change, one_record, changes, scan_changes}
use Rattle.changes.specs.Changes.Record.{of_kinds, kinds_only}
use Rattle.changes.specs.Changes.Found.{Found, change_found}

-- ---- a record as an item

abbrev pub of_record : (j : ℕ) → Said → (id : ℕ) → Item
of_record j a id = goes j a (standing Mark id 0)

pub item_made : (j : ℕ) (a : Said) (id : ℕ) {x : Stand} → x ≡ standing Mark id 0 → {r : Item} → r ≡ goes j a x → r ≡ of_record j a id
item_made j a id e d = d ∙ ap (goes j a) e

unfoldable pub item_of : ChangeFound → Item
item_of (Time u j) = of_record j (said.Time u) 0
item_of (Write id v j) = of_record j (said.Write v id) id
item_of (StepEnd j) = of_record j said.StepEnd 0
item_of (End j) = of_record j said.Over 0
item_of (Bad n p) = of_record p (said.Bad (n, p)) 0

unfoldable pub record_item : (kinds s : List ℕ) → Bool → ℕ → Item
record_item kinds s inside i = item_of (next_change (of_kinds kinds) s inside i)

module _ (kinds s : List ℕ) (inside : Bool) (i : ℕ) {r : ChangeFound} (e : r ≡ next_change (of_kinds kinds) s inside i) where
  pub item_time : {u j : ℕ} → r ≡ Time u j → {y : Item} → y ≡ of_record j (said.Time u) 0 → y ≡ record_item kinds s inside i
  unfolding record_item item_of
  item_time d z = z ∙ ap item_of (sym d ∙ e)

  pub item_write : {id v j : ℕ} → r ≡ Write id v j → {y : Item} → y ≡ of_record j (said.Write v id) id → y ≡ record_item kinds s inside i
  unfolding record_item item_of
  item_write d z = z ∙ ap item_of (sym d ∙ e)

  pub item_step_end : {j : ℕ} → r ≡ StepEnd j → {y : Item} → y ≡ of_record j said.StepEnd 0 → y ≡ record_item kinds s inside i
  unfolding record_item item_of
  item_step_end d z = z ∙ ap item_of (sym d ∙ e)

  pub item_over : {j : ℕ} → r ≡ End j → {y : Item} → y ≡ of_record j said.Over 0 → y ≡ record_item kinds s inside i
  unfolding record_item item_of
  item_over d z = z ∙ ap item_of (sym d ∙ e)

  pub item_bad : {x : Numbered} → r ≡ Err x → {p : ℕ} → p ≡ x.1 → {y : Item} → y ≡ of_record p (said.Bad x) 0 → y ≡ record_item kinds s inside i
  unfolding record_item item_of
  item_bad {x} d g z = z ∙ (ap (λ p. of_record p (said.Bad x) 0) g ∙ ap item_of (sym d ∙ e))

pub ruleset item_laws = (item_made, item_time, item_write, item_step_end, item_over, item_bad)

-- ---- what is left

-- of change reading's scan, `sc` is what is left at a place inside a step or between steps
pub record Left (t : Lists) (s : List ℕ) (inside : Bool) (i : ℕ) (sc : Scan) : Type 0 where
  pub fuel : ℕ
  pub enough : length s ≤ i + fuel
  pub scans : sc ≡ changes t s fuel inside i
  pub within : i ≤ length s

pub left_all : (t : Lists) (s : List ℕ) → Left t s false 0 (scan_changes t s)
unfolding scan_changes
left_all t s = record { fuel = length s; enough = omega arith; scans = refl; within = omega arith }

-- whatever stands at a place can be scanned
pub left_some : (t : Lists) (s : List ℕ) (inside : Bool) {i : ℕ} → i ≤ length s → Left t s inside i (changes t s (length s) inside i)
left_some t s inside h = record { fuel = length s; enough = omega arith; scans = refl; within = h }

-- a record is said, and then what is left behind it
pub record GoesOn (t : Lists) (s : List ℕ) (i : ℕ) (sc : Scan) (says : Scan → Scan) (j : ℕ) (inside : Bool) : Type 0 where
  pub rest : Scan
  pub scans : sc ≡ says rest
  pub left : Left t s inside j rest
  pub ahead : i < j

abbrev pub FollowsBy : Lists → List ℕ → ℕ → Scan → ChangeFound → Type 0
FollowsBy t s i sc (Time u j) = GoesOn t s i sc (say (time u) j) j true
FollowsBy t s i sc (Write id v j) = GoesOn t s i sc (say (write id v i) j) j true × (1 ≤ id) × (id ≤ signals t) × Suits (nth t.kinds id) v
FollowsBy t s i sc (StepEnd j) = GoesOn t s i sc (say step_end j) j false
FollowsBy t s i sc (End j) = sc ≡ done j
FollowsBy t s i sc (Bad n p) = sc ≡ fault n p

module _ (t : Lists) (s : List ℕ) (i : ℕ) where
  further : (sc : Scan) (says : Scan → Scan) (fuel j : ℕ) (b : Bool) → length s ≤ i + suc fuel → i < j → j ≤ length s → sc ≡ says (changes t s fuel b j) → GoesOn t s i sc says j b
  further sc says fuel j b h p q e = record { rest = changes t s fuel b j; scans = e; left = record { fuel = fuel; enough = omega arith; scans = refl; within = q }; ahead = p }

  follows_by : (fuel : ℕ) (c : ChangeFound) → Found t s i c → length s ≤ i + suc fuel → (sc : Scan) → sc ≡ one_record t s c i (λ b j. changes t s fuel b j) → FollowsBy t s i sc c
  unfolding one_record
  follows_by fuel (Time u j) f h sc e = further sc (say (time u) j) fuel j true h f.0 f.1 e
  follows_by fuel (Write id v j) f h sc e = (further sc (say (write id v i) j) fuel j true h f.0 f.1 e, f.2, f.3, f.4)
  follows_by fuel (StepEnd j) f h sc e = further sc (say step_end j) fuel j false h f.0 f.1 e
  follows_by fuel (End j) f h sc e = e
  follows_by fuel (Bad n p) f h sc e = e

  -- at the input's end no record is found
  ends_by : (c : ChangeFound) → Found t s i c → length s ≤ i → (sc : Scan) → sc ≡ one_record t s c i (λ b j. done j) → FollowsBy t s i sc c
  unfolding one_record
  ends_by (Time u j) f h sc e = absurd (omega (arith, f.0, f.1))
  ends_by (Write id v j) f h sc e = absurd (omega (arith, f.0, f.1))
  ends_by (StepEnd j) f h sc e = absurd (omega (arith, f.0, f.1))
  ends_by (End j) f h sc e = e
  ends_by (Bad n p) f h sc e = e

  pub record_follows : {inside : Bool} {sc : Scan} → Left t s inside i sc → FollowsBy t s i sc (next_change t s inside i)
  unfolding changes
  record_follows {inside} {sc} l = by l.fuel l.enough l.scans
    where
      by : (fuel : ℕ) → length s ≤ i + fuel → sc ≡ changes t s fuel inside i → FollowsBy t s i sc (next_change t s inside i)
      by zero h e = ends_by (next_change t s inside i) (change_found t s i inside refl refl) (omega arith) sc e
      by (suc fuel) h e = follows_by fuel (next_change t s inside i) (change_found t s i inside refl refl) h sc e

-- the item where a reading stands is that of the tables
pub item_is : (t : Lists) (s : List ℕ) (inside : Bool) (i : ℕ) → record_item t.kinds s inside i ≡ item_of (next_change t s inside i)
unfolding record_item
item_is t s inside i = ap item_of (kinds_only t s inside i)
