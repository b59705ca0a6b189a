-- The last arm of a match on what is said, which names no variant: what it leaves.
-- Assumes nothing.
use Rattle.refusals.specs.Numbers.{Numbered}
use mathlib.Core.Path.{◌≡◌, refl}
use Prim.Native.Nat.{ℕ}
use Rattle.section_heads.specs.declared.Said.{Said}
use Rattle.section_heads.specs.declared.Said.TheVariants.{Nothing, Time, Write, StepEnd, Over, Bad}
use Rattle.gather.specs.declared.Gathered.{Gathered}
use Rattle.item_acts.specs.declared.Stage.TheVariants as stage
use Rattle.item_acts.specs.Acts.{stage_of}
use Rattle.item_acts.specs.Acts.Code as code

pub other_more : (a : Said) (g : Gathered) → (a ≡ StepEnd → ⊥) → ((n : Numbered) → a ≡ Bad n → ⊥) → stage.More ≡ stage_of a g
unfolding stage_of
other_more Nothing g e b = refl
other_more (Time u) g e b = refl
other_more (Write v id) g e b = refl
other_more StepEnd g e b = absurd (e refl)
other_more Over g e b = refl
other_more (Bad n) g e b = absurd (b n refl)

pub ruleset stage_laws = (code.stage_laws, other_more)
