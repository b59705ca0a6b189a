-- The last arms of matches on a phase or on what is said, which name no variant: what they leave.
-- Assumes nothing.
use mathlib.Core.Path.{◌≡◌, refl, ◌∙◌}
use mathlib.Core.Bool.{false}
use mathlib.Core.List.{[], ◌∷◌, List}
use types.Run.{OneOf, miss}
use denote.Enum.Declared.{tag_of}
use Rattle.section_heads.specs.contracts.Phase.{the_type}
use Rattle.section_heads.specs.declared.Said.{Said}
use Rattle.section_heads.specs.declared.Said.TheVariants.{Nothing, Time, Write, StepEnd, Over, Bad}
use Rattle.section_heads.specs.declared.Phase.{Phase}
use Rattle.section_heads.specs.declared.Phase.TheVariants.{Mark, Entries, Each, Closing, Listed, Between}
use Rattle.sections.specs.Item.Scans.{ends}
use Prim.Native.Nat.{ℕ}
use Rattle.values.specs.declared.How.{How}
use Rattle.section_heads.specs.declared.Stand.{Stand}
use Rattle.section_heads.specs.declared.Item.{Item}
use Rattle.section_heads.specs.contracts.Said as said
use Rattle.section_heads.specs.Heads.{section_item}
use Rattle.sections.specs.Item.{head_of, head_item, in_values, is_each}
use Rattle.sections.specs.Item.Code.{each_laws, head_laws, after_each, after_other, of_other}

pub other_each : (p : Phase) → OneOf (0 ∷ 1 ∷ 3 ∷ 4 ∷ 5 ∷ []) (tag_of the_type p) → is_each p ≡ false
other_each Mark h = refl
other_each Entries h = refl
other_each Each h = absurd (miss (0 ∷ 1 ∷ 3 ∷ 4 ∷ 5 ∷ []) 2 tt h)
other_each Closing h = refl
other_each Listed h = refl
other_each Between h = refl

pub out_of_values : (p : Phase) → OneOf (0 ∷ 1 ∷ 3 ∷ 5 ∷ []) (tag_of the_type p) → false ≡ in_values p
out_of_values Mark h = refl
out_of_values Entries h = refl
out_of_values Each h = absurd (miss (0 ∷ 1 ∷ 3 ∷ 5 ∷ []) 2 tt h)
out_of_values Closing h = refl
out_of_values Listed h = absurd (miss (0 ∷ 1 ∷ 3 ∷ 5 ∷ []) 4 tt h)
out_of_values Between h = refl

pub other_ends : (a : Said) → OneOf (0 ∷ 1 ∷ 2 ∷ 3 ∷ []) (tag_of said.the_type a) → ends a ≡ false
other_ends Nothing h = refl
other_ends (Time u) h = refl
other_ends (Write v id) h = refl
other_ends StepEnd h = refl
other_ends Over h = absurd (miss (0 ∷ 1 ∷ 2 ∷ 3 ∷ []) 4 tt h)
other_ends (Bad n) h = absurd (miss (0 ∷ 1 ∷ 2 ∷ 3 ∷ []) 5 tt h)

at_mark : (how : How) (s : List ℕ) (p : Phase) (id u i : ℕ) → OneOf (0 ∷ 2 ∷ 4 ∷ []) (tag_of the_type p) → section_item how s i ≡ head_of how s p id u i
unfolding head_of
at_mark how s Mark id u i h = refl
at_mark how s Entries id u i h = absurd (miss (0 ∷ 2 ∷ 4 ∷ []) 1 tt h)
at_mark how s Each id u i h = refl
at_mark how s Closing id u i h = absurd (miss (0 ∷ 2 ∷ 4 ∷ []) 3 tt h)
at_mark how s Listed id u i h = refl
at_mark how s Between id u i h = absurd (miss (0 ∷ 2 ∷ 4 ∷ []) 5 tt h)

pub head_mark : (how : How) (s : List ℕ) (x : Stand) (i : ℕ) → OneOf (0 ∷ 2 ∷ 4 ∷ []) (tag_of the_type x.phase) → {r : Item} → r ≡ section_item how s i → r ≡ head_item how s x i
unfolding head_item
head_mark how s x i h e = e ∙ at_mark how s x.phase x.id x.time i h

pub ruleset after_laws = (other_each, after_each, after_other)

pub ruleset in_values_laws = (out_of_values)

pub ruleset next_laws = (other_each, each_laws, of_other)

pub ruleset place_laws = (head_laws, head_mark)
