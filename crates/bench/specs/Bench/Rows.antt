-- Rows that try the bench's entry on small inputs, each by computation: an accepted one, each refusal, and the order of refusals.
-- Assumes nothing.
use Rattle.std.specs.Prelude.{◌≡◌, refl, ℕ, ◌+◌, List, [], ◌∷◌, ◌++◌, replicate}
use Rattle.slices.specs.Splice.{part}
use Rattle.numbers.specs.Fixed.{big, big_bytes}
use Rattle.event_streams.specs.Stream as stream
use Rattle.tables.specs.Checks.{within_limit}
use Rattle.step_ends.specs.Steps as steps
use Rattle.sessions.specs.Places as places
use Rattle.fragment_records.specs.Output as outputs
use Rattle.fragment_records.specs.Output.{fragment, closed, held, bytes_of}
use Rattle.fragments.specs.Counting as counting
use Rattle.answers.specs.declared.Answer.{Answer}
use Rattle.answers.specs.Outcome.{answer, event_bytes, padded, LeftKept, leaves_kept}
use Rattle.answers.specs.Filled.{filled}
use Rattle.bench.specs.Bench.{limits_of, apart, benched, bench}

unfoldable all : Unit {0}
unfolding
    bench benched apart limits_of within_limit filled leaves_kept padded event_bytes answer
    counting.count_fragments counting.runs counting.on_does counting.finished counting.step_end counting.closing counting.counting counting.and_then counting.behind counting.closes counting.seated
    places.dropped places.counted places.place_for places.is_at places.is_free places.lowest outputs.held_from outputs.held_at bytes_of outputs.out_bytes
    steps.step_ends steps.steps_from steps.last_step steps.on_seen steps.see steps.see_next steps.see_event steps.see_time steps.see_value steps.see_real steps.shows steps.suits steps.two_of steps.line_of steps.rose
    stream.next_event stream.judged stream.in_values stream.is_time stream.record_at stream.event_length
    part big big_bytes
all = tt

-- event records; the value buffer is 0 to 7
abbrev time : ℕ → List ℕ
time u = 1 ∷ big_bytes 8 u

abbrev value : (kind reference start n : ℕ) → List ℕ
value kind reference start n = kind ∷ big_bytes 4 reference ++ big_bytes 4 start ++ big_bytes 4 n

abbrev two : (reference v : ℕ) → List ℕ
two reference v = value 2 reference v 1

abbrev real : ℕ → List ℕ
real reference = 4 ∷ big_bytes 4 reference ++ big_bytes 8 0

abbrev values : List ℕ
values = 0 ∷ 1 ∷ 2 ∷ 3 ∷ 4 ∷ 5 ∷ 6 ∷ 7 ∷ []

-- references 3 the session, 4 the strobe, 5 the close line
abbrev tried : List ℕ → (room : ℕ) → LeftKept
tried s room = bench s values 3 4 5 room

abbrev says : (number place read bytes steps : ℕ) → Answer
says n p i b k = record { number = n; place = p; read = i; events = b; values = 0; steps = k }

abbrev left : (number place read bytes steps : ℕ) → List ℕ → LeftKept
left n p i b k out = record { answer = says n p i b k; kept = out }

abbrev Refuses : LeftKept → (number place : ℕ) → Type 0
Refuses x n p = x.answer ≡ says n p 0 0 0

-- session 0102 rises at 5, is closed at 6; session 7 rises at 7
abbrev worked : List ℕ
worked = time 5 ++ value 2 3 1 2 ++ two 4 1 ++ time 6 ++ two 4 0 ++ two 5 1 ++ time 7 ++ two 5 0 ++ two 3 7 ++ two 4 1

-- what lies past the reported bytes is zero, and so is all after a refusal
pub accepted :
    (tried worked 62 ≡ left 0 0 118 60 3 (bytes_of (fragment 5 258 ∷ closed 6 258 1 ∷ fragment 7 7 ∷ held 7 1 ∷ []) ++ (0 ∷ 0 ∷ [])))
    × (tried worked 59 ≡ left 16 118 0 0 0 (replicate 59 0))
    × (tried worked 46 ≡ left 16 118 0 0 0 (replicate 46 0))
    × (tried worked 33 ≡ left 16 79 0 0 0 (replicate 33 0))
    × (tried worked 12 ≡ left 16 44 0 0 0 (replicate 12 0))
    × (tried [] 1 ≡ left 0 0 0 0 0 (0 ∷ []))
    × (bench (time 5 ++ two 0 7 ++ two 4 1) values 0 4 5 26 ≡ left 0 0 35 26 1 (bytes_of (fragment 5 7 ∷ held 7 1 ∷ [])))
unfolding all
accepted = (refl, refl, refl, refl, refl, refl, refl)

-- "34 two references equal (place 0, after 1)": before any record is read
pub equal_references :
    Refuses (bench [] [] 3 3 5 9) 34 0
    × Refuses (bench [] [] 3 4 3 9) 34 0
    × Refuses (bench [] [] 3 5 5 9) 34 0
    × Refuses (bench [] [] 3 3 3 9) 34 0
    × Refuses (bench (9 ∷ []) [] 3 3 5 9) 34 0
    × Refuses (bench [] [] 3 3 5 1073741824) 1 0
    × Refuses (bench (9 ∷ []) [] 3 4 5 1073741824) 1 0
unfolding all
equal_references = (refl, refl, refl, refl, refl, refl, refl)

-- 01's checks of a record, and then 34, at the record
pub records_refused :
    Refuses (tried (time 5 ++ 9 ∷ []) 99) 17 9
    × Refuses (tried (time 5 ++ 2 ∷ []) 99) 7 9
    × Refuses (tried (value 3 3 0 9) 99) 18 0
    × Refuses (tried (time 5 ++ value 3 3 0 9) 99) 20 9
    × Refuses (tried (time 5 ++ value 3 3 0 8) 99) 34 9
    × Refuses (tried (time 5 ++ value 2 3 0 0) 99) 34 9
    × Refuses (tried (time 5 ++ value 2 3 0 5) 99) 34 9
    × Refuses (tried (time 5 ++ value 2 4 0 0) 99) 34 9
    × Refuses (tried (time 5 ++ value 2 4 0 2) 99) 34 9
    × Refuses (tried (time 5 ++ value 3 4 0 1) 99) 34 9
    × Refuses (tried (time 5 ++ real 4) 99) 34 9
    × Refuses (tried (time 5 ++ value 2 5 0 2) 99) 34 9
    × Refuses (tried (time 5 ++ value 3 5 0 1) 99) 34 9
    × Refuses (tried (time 5 ++ real 3) 99) 34 9
    × (tried (time 5 ++ value 3 9 0 8 ++ real 9 ++ value 2 3 0 4) 0 ≡ left 0 0 48 0 1 [])
unfolding all
records_refused = (refl, refl, refl, refl, refl, refl, refl, refl, refl, refl, refl, refl, refl, refl, refl)

-- a step's end comes before the next record's refusal, and after that of the record that ends it
pub in_order :
    Refuses (tried (time 5 ++ two 4 1 ++ time 6 ++ real 3) 12) 16 31
    × Refuses (tried (time 5 ++ two 4 1 ++ time 6 ++ real 3) 13) 34 31
    × Refuses (tried (time 5 ++ two 4 1 ++ 1 ∷ []) 12) 7 22
unfolding all
in_order = (refl, refl, refl)
