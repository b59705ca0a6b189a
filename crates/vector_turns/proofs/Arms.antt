-- The last arms of matches on what is said, which name no variant: what they leave.
-- Assumes nothing.
use Prim.Native.Nat.{ℕ, ◌<◌}
use mathlib.Core.Path.{◌≡◌, refl, ap}
use mathlib.Core.Bool.{true}
use mathlib.Core.List.{List}
use lib.ListN.{length}
use Rattle.section_heads.specs.declared.Said.{Said}
use Rattle.section_heads.specs.declared.Said.TheVariants.{Nothing, Time, Write, StepEnd, Over, Bad}
use Rattle.vecstarts.specs.Numbers.{listed_in}
use Rattle.gather.specs.declared.VecInfo.{VecInfo}
use Rattle.gather.specs.declared.Gathered.{Gathered}
use Rattle.turns.specs.declared.Turned.{Turned}
use Rattle.turns.specs.Turns.{mk, turn_end, Unlists}
use Rattle.vector_turns.specs.OneVector.{for_vector, vector_of, ConcernedBy, Concerned, end_turn, turned, TurningBy, Turning}
use Rattle.vector_turns.specs.OneVector.Code as code

abbrev NoWrite : Said → Type 0
NoWrite a = (v id : ℕ) → a ≡ Write v id → ⊥

pub other_for : (vecs : List ℕ) (a : Said) → NoWrite a → true ≡ for_vector vecs a
unfolding for_vector
other_for vecs Nothing h = refl
other_for vecs (Time u) h = refl
other_for vecs (Write v id) h = absurd (h v id refl)
other_for vecs StepEnd h = refl
other_for vecs Over h = refl
other_for vecs (Bad n) h = refl

other_concerned : (vecs list : List ℕ) (c : Gathered) (a : Said) → NoWrite a → ConcernedBy vecs list c a → c.ended < length list
other_concerned vecs list c Nothing h q = q
other_concerned vecs list c (Time u) h q = q
other_concerned vecs list c (Write v id) h q = absurd (h v id refl)
other_concerned vecs list c StepEnd h q = q
other_concerned vecs list c Over h q = q
other_concerned vecs list c (Bad n) h q = q

pub ask_listed : {vecs list : List ℕ} {c : Gathered} {a : Said} → Concerned vecs list c a → NoWrite a → c.ended < length list
ask_listed {vecs} {list} {c} {a} q h = other_concerned vecs list c a h q.concerned

pub other_vector : (vecs list : List ℕ) (c : Gathered) (a : Said) → NoWrite a → {n : ℕ} → n ≡ listed_in list c.ended → n ≡ vector_of vecs list c a
unfolding vector_of
other_vector vecs list c Nothing h e = e
other_vector vecs list c (Time u) h e = e
other_vector vecs list c (Write v id) h e = absurd (h v id refl)
other_vector vecs list c StepEnd h e = e
other_vector vecs list c Over h e = e
other_vector vecs list c (Bad n) h e = e

other_turning : (room list maxs : List ℕ) (x : VecInfo) (c : Gathered) (a : Said) → NoWrite a → TurningBy room list maxs x c a → Unlists room x c
other_turning room list maxs x c Nothing h q = q
other_turning room list maxs x c (Time u) h q = q
other_turning room list maxs x c (Write v id) h q = absurd (h v id refl)
other_turning room list maxs x c StepEnd h q = q
other_turning room list maxs x c Over h q = q
other_turning room list maxs x c (Bad n) h q = q

pub ask_unlists : {room list maxs : List ℕ} {x : VecInfo} {c : Gathered} {a : Said} → Turning room list maxs x c a → NoWrite a → Unlists room x c
ask_unlists {room} {list} {maxs} {x} {c} {a} q h = other_turning room list maxs x c a h q.turning

end_is : (x : VecInfo) (c : Gathered) (room list : List ℕ) {room' : List ℕ} {w : Turned} → (room', w) ≡ turn_end x c room → mk room' list w ≡ end_turn x c room list
unfolding end_turn
end_is x c room list e = ap (λ (p : List ℕ × Turned). mk p.0 list p.1) e

pub other_turned : (maxs : List ℕ) (x : VecInfo) (c : Gathered) (a : Said) (room list : List ℕ) → NoWrite a → {room' : List ℕ} {w : Turned} → (room', w) ≡ turn_end x c room
    → mk room' list w ≡ turned maxs x c a room list
unfolding turned
other_turned maxs x c Nothing room list h e = end_is x c room list e
other_turned maxs x c (Time u) room list h e = end_is x c room list e
other_turned maxs x c (Write v id) room list h e = absurd (h v id refl)
other_turned maxs x c StepEnd room list h e = end_is x c room list e
other_turned maxs x c Over room list h e = end_is x c room list e
other_turned maxs x c (Bad n) room list h e = end_is x c room list e

pub ruleset for_laws = (code.for_laws, other_for)

pub ruleset vector_laws = (code.vector_laws, ask_listed, other_vector)

pub ruleset turn_laws = (code.turn_laws, ask_unlists, other_turned)
