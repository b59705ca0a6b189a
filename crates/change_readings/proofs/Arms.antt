-- The last arm of a match on what is said, which names no variant: what it leaves.
-- Assumes nothing.
use Prim.Native.Nat.{ℕ}
use mathlib.Core.Path.{◌≡◌, refl, sym, subst}
use mathlib.Core.Bool.{Bool, true}
use mathlib.Core.List.{List}
use Rattle.section_heads.specs.declared.Item.{Item}
use Rattle.section_heads.specs.declared.Said.{Said}
use Rattle.section_heads.specs.declared.Said.TheVariants as said
use Rattle.changes.specs.Change.{ChangeFound, Time, Write, StepEnd, End, Bad}
use Rattle.changes.specs.Changes.{next_change}
use Rattle.changes.specs.Changes.Record.{of_kinds}
use Rattle.changes.specs.Changes.Items.{item_of, record_item}
use Rattle.change_readings.specs.Records.Laws as laws
use Rattle.change_readings.specs.Records.Laws.{is_mid}

-- neither a time nor the end
abbrev Mid : Said → Type 0
Mid a = ((u : ℕ) → a ≡ said.Time u → ⊥) × (a ≡ said.Over → ⊥)

mid_by : (k : ChangeFound) → Mid (item_of k).said → is_mid (item_of k).said ≡ true
unfolding item_of
mid_by (Time u j) h = absurd (h.0 u refl)
mid_by (Write id v j) h = refl
mid_by (StepEnd j) h = refl
mid_by (End j) h = absurd (h.1 refl)
mid_by (Bad n p) h = refl

pub other_mid : (kinds s : List ℕ) (inside : Bool) (i : ℕ) {y : Item} → y ≡ record_item kinds s inside i → ((u : ℕ) → y.said ≡ said.Time u → ⊥) → (y.said ≡ said.Over → ⊥) → is_mid y.said ≡ true
unfolding record_item
other_mid kinds s inside i {y} e t o =
    subst (λ (x : Item). is_mid x.said ≡ true) (sym e) (mid_by (next_change (of_kinds kinds) s inside i) (subst (λ (x : Item). Mid x.said) e (t, o)))

pub ruleset record_laws = (laws.record_laws, other_mid)
