-- The last arms of matches on what is said, which name no variant: what they leave.
-- Assumes nothing.
use Rattle.refusals.specs.Numbers.{Numbered}
use mathlib.Core.Path.{◌≡◌, refl}
use mathlib.Core.Bool.{false}
use Prim.Native.Nat.{ℕ}
use mathlib.Core.List.{List, [], ◌∷◌}
use types.Run.{OneOf, miss}
use denote.Enum.Declared.{tag_of}
use Rattle.section_heads.specs.contracts.Said.{the_type}
use Rattle.section_heads.specs.declared.Said.{Said}
use Rattle.section_heads.specs.declared.Said.TheVariants.{Nothing, Time, Write, StepEnd, Over, Bad}
use Rattle.sections.specs.Item.Scans.{said_times, ends}
use Rattle.read_back.specs.ReadBack.Turn.{said_bytes, said_laws, times_laws}
use Rattle.read_back.specs.ReadBack.Loop.{ready_stands, ready_sounds, ready_counts, says_goes, says_over, says_bad}

pub other_bytes : (kinds : List ℕ) (a : Said) → OneOf (0 ∷ 4 ∷ 5 ∷ []) (tag_of the_type a) → said_bytes kinds a ≡ []
unfolding said_bytes
other_bytes kinds Nothing h = refl
other_bytes kinds (Time u) h = absurd (miss (0 ∷ 4 ∷ 5 ∷ []) 1 tt h)
other_bytes kinds (Write v id) h = absurd (miss (0 ∷ 4 ∷ 5 ∷ []) 2 tt h)
other_bytes kinds StepEnd h = absurd (miss (0 ∷ 4 ∷ 5 ∷ []) 3 tt h)
other_bytes kinds Over h = refl
other_bytes kinds (Bad n) h = refl

pub other_times : (a : Said) → OneOf (0 ∷ 2 ∷ 3 ∷ 4 ∷ 5 ∷ []) (tag_of the_type a) → 0 ≡ said_times a
unfolding said_times
other_times Nothing h = refl
other_times (Time u) h = absurd (miss (0 ∷ 2 ∷ 3 ∷ 4 ∷ 5 ∷ []) 1 tt h)
other_times (Write v id) h = refl
other_times StepEnd h = refl
other_times Over h = refl
other_times (Bad n) h = refl

pub other_ends : (a : Said) → (a ≡ Over → ⊥) → ((n : Numbered) → a ≡ Bad n → ⊥) → ends a ≡ false
other_ends Nothing o b = refl
other_ends (Time u) o b = refl
other_ends (Write v id) o b = refl
other_ends StepEnd o b = refl
other_ends Over o b = absurd (o refl)
other_ends (Bad n) o b = absurd (b n refl)

pub ruleset put_laws = (said_laws, other_bytes)

pub ruleset count_laws = (times_laws, other_times)

pub ruleset item_laws = (other_ends, ready_stands, ready_sounds, ready_counts, says_goes, says_over, says_bad)
