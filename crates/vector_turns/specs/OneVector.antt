-- What an item of the input means to one vector: which vector it is for, and what it does to it.
-- Assumes nothing.
use Rattle.std.specs.Prelude.{ℕ, ◌-◌, ◌%◌, ◌<◌, ◌≤◌, Bool, true, false, not, List, eqb, length, get_or}
use Rattle.tables.specs.Lists.{nth}
use Rattle.rules.specs.Gather.{Act, write, step_end}
use Rattle.vecstarts.specs.Numbers.{listed_in}
use Rattle.gather.specs.declared.VecInfo.{VecInfo}
use Rattle.section_heads.specs.declared.Said.{Said}
use Rattle.section_heads.specs.declared.Said.TheVariants.{Nothing, Time, Write, StepEnd, Over, Bad}
use Rattle.gather.specs.declared.Gathered.{Gathered}
use Rattle.turns.specs.Turns.{Left, mk, turn_write, turn_end, Writing, Unlists}
pub mod Code
pub mod Laws

-- ---- ids and bits

pub record IdIn (vecs : List ℕ) (id : ℕ) : Type 0 where
  pub low : 1 ≤ id
  pub high : id ≤ length vecs

pub record BitIn (maxs : List ℕ) (v id : ℕ) : Type 0 where
  pub known : v < length maxs
  pub below : id ≤ get_or maxs v 0

-- ---- which vector

-- a write or a step's end, and no other item
abbrev pub is_act : Said → Bool
is_act Nothing = false
is_act (Time u) = false
is_act (Write v id) = true
is_act StepEnd = true
is_act Over = false
is_act (Bad n) = false

abbrev pub is_write : Said → Bool
is_write Nothing = false
is_write (Time u) = false
is_write (Write v id) = true
is_write StepEnd = false
is_write Over = false
is_write (Bad n) = false

-- as the gatherer takes it, a write with the place of its value
abbrev pub act_of : Said → ℕ → Act
act_of Nothing p = step_end
act_of (Time u) p = step_end
act_of (Write v id) p = write id v p
act_of StepEnd p = step_end
act_of Over p = step_end
act_of (Bad n) p = step_end

-- a write is to a signal of the table
abbrev pub NamedBy : List ℕ → Said → Type 0
NamedBy vecs Nothing = Unit {0}
NamedBy vecs (Time u) = Unit {0}
NamedBy vecs (Write v id) = IdIn vecs id
NamedBy vecs StepEnd = Unit {0}
NamedBy vecs Over = Unit {0}
NamedBy vecs (Bad n) = Unit {0}

pub record Named (vecs : List ℕ) (a : Said) : Type 0 where
  pub named : NamedBy vecs a

-- "and a vector number (0 for none)"
unfoldable pub for_vector : List ℕ → Said → Bool
for_vector vecs Nothing = true
for_vector vecs (Time u) = true
for_vector vecs (Write v id) = not (eqb (nth vecs id) 0)
for_vector vecs StepEnd = true
for_vector vecs Over = true
for_vector vecs (Bad n) = true

-- by index: the vector of a write, or at a step's end the first that is listed still
unfoldable pub vector_of : (vecs list : List ℕ) → Gathered → Said → ℕ
vector_of vecs list c Nothing = listed_in list c.ended
vector_of vecs list c (Time u) = listed_in list c.ended
vector_of vecs list c (Write v id) = nth vecs id - 1
vector_of vecs list c StepEnd = listed_in list c.ended
vector_of vecs list c Over = listed_in list c.ended
vector_of vecs list c (Bad n) = listed_in list c.ended

-- a write is to a signal that has a vector; else one is listed
abbrev pub ConcernedBy : (vecs list : List ℕ) → Gathered → Said → Type 0
ConcernedBy vecs list c Nothing = c.ended < length list
ConcernedBy vecs list c (Time u) = c.ended < length list
ConcernedBy vecs list c (Write v id) = IdIn vecs id × (1 ≤ nth vecs id)
ConcernedBy vecs list c StepEnd = c.ended < length list
ConcernedBy vecs list c Over = c.ended < length list
ConcernedBy vecs list c (Bad n) = c.ended < length list

pub record Concerned (vecs list : List ℕ) (c : Gathered) (a : Said) : Type 0 where
  pub concerned : ConcernedBy vecs list c a

-- ---- its turn

unfoldable pub end_turn : VecInfo → Gathered → (room list : List ℕ) → Left
end_turn x c room list = mk (turn_end x c room).0 list (turn_end x c room).1

-- rules (a), (b), (c) of a write to one of its bits; or the step's end of it
unfoldable pub turned : List ℕ → VecInfo → Gathered → Said → (room list : List ℕ) → Left
turned maxs x c Nothing room list = end_turn x c room list
turned maxs x c (Time u) room list = end_turn x c room list
turned maxs x c (Write v id) room list = turn_write x c (get_or maxs x.v 0 - id) (v % 256) room list
turned maxs x c StepEnd room list = end_turn x c room list
turned maxs x c Over room list = end_turn x c room list
turned maxs x c (Bad n) room list = end_turn x c room list

abbrev pub TurningBy : (room list maxs : List ℕ) → VecInfo → Gathered → Said → Type 0
TurningBy room list maxs x c Nothing = Unlists room x c
TurningBy room list maxs x c (Time u) = Unlists room x c
TurningBy room list maxs x c (Write v id) = BitIn maxs x.v id × Writing room list x c (get_or maxs x.v 0 - id) (v % 256)
TurningBy room list maxs x c StepEnd = Unlists room x c
TurningBy room list maxs x c Over = Unlists room x c
TurningBy room list maxs x c (Bad n) = Unlists room x c

pub record Turning (room list maxs : List ℕ) (x : VecInfo) (c : Gathered) (a : Said) : Type 0 where
  pub turning : TurningBy room list maxs x c a

-- ---- after a step

abbrev pub next_step : Gathered → Gathered
next_step c = record { ended = 0; listed = 0; counts = c.counts }
