-- Streams and their step ends, as one table under one statement: what the three show at each, the rises, and each refusal.
-- Assumes nothing.
use Rattle.std.specs.Prelude.{◌≡◌, refl, ℕ, true, List, [], ◌∷◌, ◌++◌}
use Rattle.slices.specs.Splice.{part}
use Rattle.numbers.specs.Fixed.{big, big_bytes}
use Rattle.event_streams.specs.Stream.{event_length, record_at, is_time, in_values, judged, next_event}
use Rattle.step_ends.specs.declared.Names.{Names}
use Rattle.step_ends.specs.declared.Watch.{Watch}
use Rattle.step_ends.specs.Steps.{line_of, two_of, suits, shows, see_time, see_value, see_real, see_event, see_next, see, Steps, step, done, refused, last_step, on_seen, steps_from, step_ends, rose, rises_from, rises}

-- event records: a time, a two-state and a nine-state value, a real
abbrev time : ℕ → List ℕ
time u = 1 ∷ big_bytes 8 u

abbrev two : (reference start n : ℕ) → List ℕ
two reference start n = 2 ∷ big_bytes 4 reference ++ big_bytes 4 start ++ big_bytes 4 n

abbrev nine : (reference start n : ℕ) → List ℕ
nine reference start n = 3 ∷ big_bytes 4 reference ++ big_bytes 4 start ++ big_bytes 4 n

abbrev real : (reference bits : ℕ) → List ℕ
real reference bits = 4 ∷ big_bytes 4 reference ++ big_bytes 8 bits

-- references 3 the session, 4 the strobe, 5 the close line
abbrev three : Names
three = record { session = 3; strobe = 4; close = 5 }

abbrev values : List ℕ
values = 0 ∷ 1 ∷ 2 ∷ 7 ∷ 9 ∷ []

abbrev shown : (time session strobe close : ℕ) → Watch
shown u a b c = record { begun = true; time = u; session = a; strobe = b; close = c }

abbrev Gives : List ℕ → Steps → Type 0
Gives s e = step_ends three s values ≡ e

abbrev Rise : List ℕ → ℕ → Type 0
Rise s n = rises (step_ends three s values) ≡ n

pub examples :
    Gives [] (done 0)
    × Gives (time 5) (step (shown 5 0 0 0) 9 9 (done 9))
    × Gives (time 5 ++ time 2) (step (shown 5 0 0 0) 9 18 (step (shown 2 0 0 0) 18 18 (done 18)))
    × Gives (time 5 ++ two 3 3 2 ++ two 4 1 1 ++ time 6 ++ two 4 0 1 ++ two 5 1 1 ++ two 3 0 4)
    (step (shown 5 1801 1 0) 35 44 (step (shown 6 66055 0 1) 83 83 (done 83)))
    × Gives (time 5 ++ two 3 0 0) (refused 34 9)
    × Gives (time 5 ++ two 3 0 5) (refused 34 9)
    × Gives (time 5 ++ two 3 0 6) (refused 20 9)
    × Gives (time 5 ++ two 9 0 5 ++ nine 9 0 0 ++ real 9 0) (step (shown 5 0 0 0) 48 48 (done 48))
    × Gives (time 5 ++ two 4 0 2) (refused 34 9)
    × Gives (time 5 ++ two 5 0 2) (refused 34 9)
    × Gives (time 5 ++ nine 5 0 1) (refused 34 9)
    × Gives (time 5 ++ real 4 0) (refused 34 9)
    × Gives (time 5 ++ time 6 ++ nine 3 0 1) (step (shown 5 0 0 0) 9 18 (refused 34 18))
    × Gives (two 3 0 5) (refused 18 0)
    × Rise (time 5 ++ two 4 1 1 ++ time 6 ++ time 7 ++ two 4 0 1 ++ two 4 1 1) 1
    × Rise (time 5 ++ two 4 1 1 ++ two 4 0 1 ++ time 6 ++ time 7 ++ two 4 0 1 ++ two 4 1 1) 1
    × Rise (time 5 ++ two 4 1 1 ++ time 6 ++ two 4 0 1 ++ time 7 ++ two 4 1 1) 2
    × Rise (time 5 ++ two 4 2 1 ++ time 6 ++ two 4 1 1) 0
unfolding
    step_ends steps_from last_step on_seen see see_next see_event see_time see_value see_real shows suits two_of line_of rises rises_from rose
    next_event judged in_values is_time record_at event_length
    part big big_bytes
examples = (refl, refl, refl, refl, refl, refl, refl, refl, refl, refl, refl, refl, refl, refl, refl, refl, refl, refl)
