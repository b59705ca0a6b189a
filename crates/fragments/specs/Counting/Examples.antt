-- Streams and what the bench writes of them, as one table under one statement; and the refusals of a full bench, in their order.
-- Assumes nothing.
use Rattle.std.specs.Prelude.{◌≡◌, refl, ℕ, ◌+◌, ◌-◌, true, List, [], ◌∷◌, ◌++◌, replicate}
use Rattle.slices.specs.Splice.{part}
use Rattle.numbers.specs.Fixed.{big, big_bytes}
use Rattle.event_streams.specs.Stream.{event_length, record_at, is_time, in_values, judged, next_event}
use Rattle.number_writer.specs.Ended.{Ended, wrote, refused}
use Rattle.step_ends.specs.declared.Names.{Names}
use Rattle.step_ends.specs.declared.Watch.{Watch}
use Rattle.step_ends.specs.Steps.{line_of, two_of, suits, shows, see_time, see_value, see_real, see_event, see_next, see, last_step, on_seen, unseen, steps_from, step_ends, rose}
use Rattle.sessions.specs.declared.Bench.{Bench}
use Rattle.sessions.specs.Places.{lowest, is_free, is_at, place_for, counted, dropped}
use Rattle.fragment_records.specs.Output.{Out, fragment, closed, held, out_bytes, bytes_of, held_at, held_from}
use Rattle.fragments.specs.Counting.{Does, went, stops, seated, closes, behind, and_then, counting, closing, step_end, finished, on_does, runs, count_fragments}

-- event records, of the references 3 the session, 4 the strobe, 5 the close line; the value buffer is 0 to 7
abbrev time : ℕ → List ℕ
time u = 1 ∷ big_bytes 8 u

abbrev two : (reference v : ℕ) → List ℕ
two reference v = 2 ∷ big_bytes 4 reference ++ big_bytes 4 v ++ big_bytes 4 1

abbrev session : ℕ → List ℕ
session v = two 3 v

abbrev strobe : ℕ → List ℕ
strobe v = two 4 v

abbrev close : ℕ → List ℕ
close v = two 5 v

abbrev three : Names
three = record { session = 3; strobe = 4; close = 5 }

abbrev Gives : List ℕ → (room : ℕ) → Ended → Type 0
Gives s room e = count_fragments three s (0 ∷ 1 ∷ 2 ∷ 3 ∷ 4 ∷ 5 ∷ 6 ∷ 7 ∷ []) room ≡ e

-- .. gives these records
abbrev Writes : List ℕ → (room read steps : ℕ) → List Out → Type 0
Writes s room read steps outs = Gives s room (wrote read (bytes_of outs) steps)

-- one fragment of session 7 in a step
abbrev rise : List ℕ
rise = time 5 ++ session 7 ++ strobe 1

pub examples :
    Writes [] 0 0 0 []
    × Writes (time 5 ++ session 7) 0 22 1 []
    × Writes rise 26 35 1 (fragment 5 7 ∷ held 7 1 ∷ [])
    × Gives rise 25 (refused 16 35)
    × Gives rise 12 (refused 16 35)
    × Gives (rise ++ time 6) 12 (refused 16 44)
    × Writes (rise ++ time 6 ++ time 7 ++ strobe 0 ++ strobe 1) 26 79 3 (fragment 5 7 ∷ held 7 1 ∷ [])
    × Writes (rise ++ strobe 0 ++ strobe 1) 26 61 1 (fragment 5 7 ∷ held 7 1 ∷ [])
    × Writes (rise ++ strobe 0) 0 48 1 []
    × Writes (time 5 ++ strobe 1 ++ session 2 ++ session 7) 26 48 1 (fragment 5 7 ∷ held 7 1 ∷ [])
    × Writes (rise ++ close 1) 34 48 1 (fragment 5 7 ∷ closed 5 7 1 ∷ [])
    × Gives (rise ++ close 1) 33 (refused 16 48)
    × Writes (time 5 ++ session 7 ++ close 1) 0 35 1 []
    × Writes (rise ++ time 6 ++ strobe 0 ++ close 1 ++ time 7 ++ session 2 ++ close 0 ++ strobe 1) 99 118 3 (fragment 5 7 ∷ closed 6 7 1 ∷ fragment 7 2 ∷ held 2 1 ∷ [])
    × Writes (rise ++ time 6 ++ strobe 0 ++ time 7 ++ strobe 1) 99 79 3 (fragment 5 7 ∷ fragment 7 7 ∷ held 7 2 ∷ [])
    × Gives (rise ++ time 6 ++ two 4 7 ++ time 7 ++ two 3 8) 99 (refused 20 66)
unfolding
    count_fragments runs on_does finished step_end closing counting and_then behind closes seated
    dropped counted place_for is_at is_free lowest held_from held_at bytes_of out_bytes
    step_ends steps_from last_step on_seen see see_next see_event see_time see_value see_real shows suits two_of line_of rose
    next_event judged in_values is_time record_at event_length
    part big big_bytes
examples = (refl, refl, refl, refl, refl, refl, refl, refl, refl, refl, refl, refl, refl, refl, refl, refl)

-- ---- 32 live sessions, all but one of them 9, and 7 at the last place

abbrev full : Bench
full = record { sessions = replicate 31 9 ++ 7 ∷ []; counts = replicate 32 1 }

abbrev shows' : (session close : ℕ) → Watch
shows' x c = record { begun = true; time = 5; session = x; strobe = 1; close = c }

abbrev Ends : (room : ℕ) → Watch → Does → Type 0
Ends room w d = step_end room 0 unseen full w 40 49 ≡ d

pub full_bench :
    Ends 99 (shows' 8 0) (stops 21 40)
    × Ends 13 (shows' 8 1) (stops 21 40)
    × Ends 12 (shows' 8 0) (stops 16 49)
    × Ends 13 (shows' 7 0) (went (record { sessions = replicate 31 9 ++ 7 ∷ []; counts = replicate 31 1 ++ 2 ∷ [] }) (fragment 5 7 ∷ []))
    × Ends 33 (shows' 7 1) (stops 16 49)
    × Ends 34 (shows' 7 1) (went (record { sessions = replicate 31 9 ++ 7 ∷ []; counts = replicate 31 1 ++ 0 ∷ [] }) (fragment 5 7 ∷ closed 5 7 2 ∷ []))
unfolding step_end closing counting and_then behind closes seated dropped counted place_for is_at is_free lowest bytes_of out_bytes big_bytes rose
full_bench = (refl, refl, refl, refl, refl, refl)
