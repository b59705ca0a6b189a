-- The last arms of matches on what is said, which name no variant: what they leave.
-- Assumes nothing.
use Prim.Native.Nat.{ℕ}
use mathlib.Core.Path.{◌≡◌, refl}
use mathlib.Core.Bool.{true, false≢true}
use mathlib.Core.List.{List}
use Rattle.section_heads.specs.declared.Said.{Said}
use Rattle.section_heads.specs.declared.Said.TheVariants.{Nothing, Time, Write, StepEnd, Over, Bad}
use Rattle.section_heads.specs.declared.Item.{Item}
use Rattle.tables.specs.Lists.{Lists}
use Rattle.gather.specs.declared.Gathered.{Gathered}
use Rattle.vector_turns.specs.OneVector.{is_write}
use Rattle.item_turns.specs.declared.Went.{Went}
use Rattle.item_turns.specs.Turn.{PlainAsks, PlainTurns}
use Rattle.item_turns.specs.Turn.Code as code

no_write : (a : Said) → is_write a ≡ true → ((v id : ℕ) → a ≡ Write v id → ⊥) → ⊥
no_write Nothing e h = false≢true e
no_write (Time u) e h = false≢true e
no_write (Write v id) e h = h v id refl
no_write StepEnd e h = false≢true e
no_write Over e h = false≢true e
no_write (Bad n) e h = false≢true e

pub other_plain : {t : Lists} {events values : List ℕ} {c : Gathered} {y : Item} → PlainAsks t events values c y → ((v id : ℕ) → y.said ≡ Write v id → ⊥) → {events' values' : List ℕ} {u : Went} → PlainTurns t c y events values events' values' u
other_plain {y = y} q h = absurd (no_write y.said q.plain h)

pub ruleset plain_laws = (code.plain_laws, other_plain)
