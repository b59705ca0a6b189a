-- The last arm of a match on what is said, which names no variant: what it leaves.
-- Assumes nothing.
use Rattle.refusals.specs.Numbers.{Numbered}
use Prim.Native.Nat.{ℕ}
use mathlib.Core.Path.{◌≡◌, refl, sym, subst}
use mathlib.Core.List.{List}
use Rattle.values.specs.declared.How.{How}
use Rattle.section_heads.specs.declared.Stand.{Stand}
use Rattle.section_heads.specs.declared.Said.{Said}
use Rattle.section_heads.specs.declared.Said.TheVariants.{Nothing, Time, Write, StepEnd, Over, Bad}
use Rattle.section_heads.specs.declared.Item.{Item}
use Rattle.sections.specs.Item.{head_item}
use Rattle.readings.specs.Heads.{HeadBy, IsHead, head_says}
use Rattle.readings.specs.Whole as whole

-- between steps nothing else is said
head_nothing : (a : Said) (y : Stand) → HeadBy a y → ((u : ℕ) → a ≡ Time u → ⊥) → (a ≡ Over → ⊥) → ((n : Numbered) → a ≡ Bad n → ⊥) → a ≡ Nothing
head_nothing Nothing y q t o b = refl
head_nothing (Time u) y q t o b = absurd (t u refl)
head_nothing (Write v id) y q t o b = absurd q
head_nothing StepEnd y q t o b = absurd q
head_nothing Over y q t o b = absurd (o refl)
head_nothing (Bad n) y q t o b = absurd (b n refl)

pub other_nothing : (how : How) (s : List ℕ) (x : Stand) (i : ℕ) {y : Item} → y ≡ head_item how s x i → ((u : ℕ) → y.said ≡ Time u → ⊥) → (y.said ≡ Over → ⊥) → ((n : Numbered) → y.said ≡ Bad n → ⊥) → y.said ≡ Nothing
other_nothing how s x i {y} e = head_nothing y.said y.then (subst IsHead (sym e) (head_says how s x i))

pub ruleset sections_laws = (whole.sections_laws, other_nothing)
