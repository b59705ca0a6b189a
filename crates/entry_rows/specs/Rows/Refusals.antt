-- Each refusal at its limit: what just passes, and what is one too many or one short.
-- Assumes nothing.
use Rattle.std.specs.Prelude.{ℕ, ◌≡◌, refl, true, List, [], ◌∷◌, length, replicate}
use Rattle.numbers.specs.Fixed.{big_bytes}
use Rattle.tables.specs.Lists.{Lists}
use Rattle.values.specs.Value.{ordinary}
use Rattle.rules.specs.Scan.{done}
use Rattle.answers.specs.Outcome.{accepted, refused}
use Rattle.entries.specs.Entries.{reads, read_sections, read_changes, apply_time_rule}
use Rattle.entry_rows.specs.Rows.{Refuses, Gives, Fully, Keeps, lent, ample, tables, no_signals, lone, plain, two_state, nine_state, small, sections, tailer, changes, rule}
use Rattle.entries.specs.Opened.{opened}

-- each of the ids 1, 2, .. is a vector of its own
abbrev singles : (ids : List ℕ) → Lists
singles ids = tables (replicate (length ids) 3) (replicate (length ids) 1) ids ids ids (replicate (length ids) 1) (replicate (length ids) 1)

-- 1: "16,777,215 section or change bytes, 1,073,741,823 bytes or numbers in any other buffer, the time rule's event and value inputs among them";
-- `reads` takes the length of the input, for no list of that length is computed
pub over_limit :
    Gives (tailer no_signals (lent 1073741823 1073741823 1073741823 1073741823)) (0, 0, 12, 0, 0, 0) []
    × Refuses (tailer no_signals (lent 1073741824 0 0 0)).answer 1 0
    × Refuses (tailer no_signals (lent 0 1073741824 0 0)).answer 1 0
    × Refuses (tailer no_signals (lent 0 0 1073741824 0)).answer 1 0
    × Refuses (tailer no_signals (lent 0 0 0 1073741824)).answer 1 0
    × Refuses (changes no_signals 0 0 (lent 1073741824 0 0 0)).answer 1 0
    × Refuses (changes no_signals 0 0 (lent 0 1073741824 0 0)).answer 1 0
    × Refuses (changes no_signals 0 0 (lent 0 0 1073741824 0)).answer 1 0
    × Refuses (changes no_signals 0 0 (lent 0 0 0 1073741824)).answer 1 0
    × (reads no_signals 16777215 ample (done 0) ≡ accepted 0 [] [] 0)
    × (reads no_signals 16777216 ample (done 0) ≡ refused 1 0)
    × Keeps (rule 0 0 1073741823 1073741823) (0, 0, 0, 0, 0, 0) []
    × Refuses (rule 1 0x05 1073741824 0).answer 1 0
    × Refuses (rule 1 0x05 0 1073741824).answer 1 0
unfolding opened
over_limit = (refl, refl, refl, refl, refl, refl, refl, refl, refl, refl, refl, refl, refl, refl)

-- .. of any input of that length
pub input_over_limit : (s : List ℕ) → length s ≡ 16777216 → Refuses (read_changes no_signals s ample).answer 1 0
unfolding opened
input_over_limit s h = rw h refl

pub stream_over_limit : (s : List ℕ) → length s ≡ 1073741824 → Refuses (apply_time_rule s 0 0).answer 1 0
unfolding opened
stream_over_limit s h = rw h refl

-- 2: "lists of one table of unequal length"; the same lists of equal length pass
pub lists_unequal :
    Gives (tailer (two_state 1) ample) (0, 0, 12, 0, 0, 0) []
    × Refuses (tailer (tables (3 ∷ 3 ∷ []) (1 ∷ []) (1 ∷ []) (1 ∷ []) (1 ∷ []) (1 ∷ []) (1 ∷ [])) ample).answer 2 0
    × Refuses (tailer (tables (3 ∷ []) (1 ∷ 1 ∷ []) (1 ∷ []) (1 ∷ []) (1 ∷ []) (1 ∷ []) (1 ∷ [])) ample).answer 2 0
    × Refuses (tailer (tables (3 ∷ []) (1 ∷ []) (1 ∷ 1 ∷ []) (1 ∷ []) (1 ∷ []) (1 ∷ []) (1 ∷ [])) ample).answer 2 0
    × Refuses (tailer (tables (3 ∷ []) (1 ∷ []) (1 ∷ []) (1 ∷ 1 ∷ []) (1 ∷ []) (1 ∷ []) (1 ∷ [])) ample).answer 2 0
    × Refuses (tailer (tables (3 ∷ []) (1 ∷ []) (1 ∷ []) (1 ∷ []) (1 ∷ 1 ∷ []) (1 ∷ []) (1 ∷ [])) ample).answer 2 0
    × Refuses (tailer (tables (3 ∷ []) (1 ∷ []) (1 ∷ []) (1 ∷ []) (1 ∷ []) (1 ∷ 1 ∷ []) (1 ∷ [])) ample).answer 2 0
    × Refuses (tailer (tables (3 ∷ []) (1 ∷ []) (1 ∷ []) (1 ∷ []) (1 ∷ []) (1 ∷ []) (1 ∷ 1 ∷ [])) ample).answer 2 0
unfolding opened
lists_unequal = (refl, refl, refl, refl, refl, refl, refl, refl)

-- 2: "or too many records": "65,535 signals pass, 65,536 give 2", and so with 16,383 vectors; what passes here, a later check refuses
pub too_many :
    Refuses (tailer (tables (replicate 65535 7) (replicate 65535 7) (replicate 65535 7) [] [] [] []) ample).answer 4 1
    × Refuses (tailer (tables (replicate 65536 7) (replicate 65536 7) (replicate 65536 7) [] [] [] []) ample).answer 2 0
    × Refuses (tailer (tables [] [] [] (replicate 16383 0) (replicate 16383 0) (replicate 16383 0) (replicate 16383 0)) ample).answer 3 1
    × Refuses (tailer (tables [] [] [] (replicate 16384 0) (replicate 16384 0) (replicate 16384 0) (replicate 16384 0)) ample).answer 2 0
unfolding opened
too_many = (refl, refl, refl, refl)

-- 3: "A vector record is good when 1 <= min <= max <= n, state is 0 or 1 and the reference isn't 0."; the place is the lowest vector number
pub bad_vector :
    Gives (tailer (two_state 2) ample) (0, 0, 12, 0, 0, 0) []
    × Refuses (tailer (tables (3 ∷ 3 ∷ []) (1 ∷ 1 ∷ []) (1 ∷ 1 ∷ []) (0 ∷ []) (2 ∷ []) (1 ∷ []) (1 ∷ [])) ample).answer 3 1
    × Refuses (tailer (tables (3 ∷ 3 ∷ []) (1 ∷ 1 ∷ []) (1 ∷ 1 ∷ []) (3 ∷ []) (2 ∷ []) (1 ∷ []) (1 ∷ [])) ample).answer 3 1
    × Refuses (tailer (tables (3 ∷ 3 ∷ []) (1 ∷ 1 ∷ []) (1 ∷ 1 ∷ []) (1 ∷ []) (3 ∷ []) (1 ∷ []) (1 ∷ [])) ample).answer 3 1
    × Refuses (tailer (tables (3 ∷ 3 ∷ []) (1 ∷ 1 ∷ []) (1 ∷ 1 ∷ []) (1 ∷ []) (2 ∷ []) (2 ∷ []) (1 ∷ [])) ample).answer 3 1
    × Refuses (tailer (tables (3 ∷ 3 ∷ []) (1 ∷ 1 ∷ []) (1 ∷ 1 ∷ []) (1 ∷ []) (2 ∷ []) (1 ∷ []) (0 ∷ [])) ample).answer 3 1
    × Refuses (tailer (tables (3 ∷ 3 ∷ []) (1 ∷ 1 ∷ []) (1 ∷ 2 ∷ []) (1 ∷ 2 ∷ []) (1 ∷ 3 ∷ []) (1 ∷ 1 ∷ []) (1 ∷ 1 ∷ [])) ample).answer 3 2
    × Refuses (tailer (tables (3 ∷ 3 ∷ []) (1 ∷ 1 ∷ []) (1 ∷ 2 ∷ []) (0 ∷ 2 ∷ []) (1 ∷ 3 ∷ []) (1 ∷ 1 ∷ []) (1 ∷ 1 ∷ [])) ample).answer 3 1
unfolding opened
bad_vector = (refl, refl, refl, refl, refl, refl, refl, refl)

-- 4: "A signal record is good when its kind is at most 6, its reference isn't 0, and: kinds 1 and 3 name a vector 1..V whose range holds the id,
-- whose state matches (kind 1 nine, kind 3 two) and whose reference is the same; other kinds have vector number 0."; the place is the lowest id
pub bad_signal :
    Gives (tailer (lone 6) ample) (0, 0, 12, 0, 0, 0) []
    × Refuses (tailer (tables (7 ∷ []) (1 ∷ []) (0 ∷ []) [] [] [] []) ample).answer 4 1
    × Refuses (tailer (tables (7 ∷ 3 ∷ []) (1 ∷ 1 ∷ []) (1 ∷ 1 ∷ []) (1 ∷ []) (2 ∷ []) (1 ∷ []) (1 ∷ [])) ample).answer 4 1
    × Refuses (tailer (tables (2 ∷ []) (0 ∷ []) (0 ∷ []) [] [] [] []) ample).answer 4 1
    × Refuses (tailer (tables (3 ∷ 3 ∷ []) (0 ∷ 1 ∷ []) (1 ∷ 1 ∷ []) (1 ∷ []) (2 ∷ []) (1 ∷ []) (1 ∷ [])) ample).answer 4 1
    × Refuses (tailer (tables (3 ∷ 3 ∷ []) (1 ∷ 1 ∷ []) (0 ∷ 1 ∷ []) (1 ∷ []) (2 ∷ []) (1 ∷ []) (1 ∷ [])) ample).answer 4 1
    × Refuses (tailer (tables (3 ∷ 3 ∷ []) (1 ∷ 1 ∷ []) (2 ∷ 1 ∷ []) (1 ∷ []) (2 ∷ []) (1 ∷ []) (1 ∷ [])) ample).answer 4 1
    × Refuses (tailer (tables (3 ∷ 3 ∷ []) (1 ∷ 1 ∷ []) (1 ∷ 1 ∷ []) (2 ∷ []) (2 ∷ []) (1 ∷ []) (1 ∷ [])) ample).answer 4 1
    × Refuses (tailer (tables (3 ∷ 3 ∷ []) (1 ∷ 1 ∷ []) (1 ∷ 1 ∷ []) (1 ∷ []) (1 ∷ []) (1 ∷ []) (1 ∷ [])) ample).answer 4 2
    × Gives (tailer (nine_state 2) ample) (0, 0, 12, 0, 0, 0) []
    × Refuses (tailer (tables (3 ∷ 3 ∷ []) (1 ∷ 1 ∷ []) (1 ∷ 1 ∷ []) (1 ∷ []) (2 ∷ []) (0 ∷ []) (1 ∷ [])) ample).answer 4 1
    × Refuses (tailer (tables (1 ∷ 1 ∷ []) (1 ∷ 1 ∷ []) (1 ∷ 1 ∷ []) (1 ∷ []) (2 ∷ []) (1 ∷ []) (1 ∷ [])) ample).answer 4 1
    × Refuses (tailer (tables (3 ∷ 3 ∷ []) (1 ∷ 1 ∷ []) (1 ∷ 1 ∷ []) (1 ∷ []) (2 ∷ []) (1 ∷ []) (2 ∷ [])) ample).answer 4 1
    × Refuses (tailer (tables (3 ∷ 3 ∷ []) (1 ∷ 2 ∷ []) (1 ∷ 1 ∷ []) (1 ∷ []) (2 ∷ []) (1 ∷ []) (1 ∷ [])) ample).answer 4 2
    × Refuses (tailer (tables (2 ∷ 3 ∷ []) (1 ∷ 1 ∷ []) (1 ∷ 1 ∷ []) (1 ∷ []) (2 ∷ []) (1 ∷ []) (1 ∷ [])) ample).answer 4 1
    × Refuses (tailer (tables (7 ∷ 7 ∷ []) (1 ∷ 1 ∷ []) (0 ∷ 0 ∷ []) [] [] [] []) ample).answer 4 1
unfolding opened
bad_signal = (refl, refl, refl, refl, refl, refl, refl, refl, refl, refl, refl, refl, refl, refl, refl, refl)

-- 5: "Every id inside a vector's range must name that vector."
pub vector_unnamed :
    Gives (tailer small ample) (0, 0, 12, 0, 0, 0) []
    × Refuses (tailer (tables (2 ∷ 3 ∷ []) (1 ∷ 1 ∷ []) (0 ∷ 1 ∷ []) (1 ∷ []) (2 ∷ []) (1 ∷ []) (1 ∷ [])) ample).answer 5 1
    × Refuses (changes (tables (3 ∷ 2 ∷ []) (1 ∷ 1 ∷ []) (1 ∷ 0 ∷ []) (1 ∷ []) (2 ∷ []) (1 ∷ []) (1 ∷ [])) 0 0 (lent 500 500 0 0)).answer 5 2
    × Refuses (tailer (tables (3 ∷ 3 ∷ []) (1 ∷ 1 ∷ []) (1 ∷ 2 ∷ []) (1 ∷ 1 ∷ []) (2 ∷ 2 ∷ []) (1 ∷ 1 ∷ []) (1 ∷ 1 ∷ [])) ample).answer 5 1
    × Refuses (tailer (tables (3 ∷ 2 ∷ 3 ∷ []) (1 ∷ 1 ∷ 1 ∷ []) (1 ∷ 0 ∷ 2 ∷ []) (1 ∷ 3 ∷ []) (2 ∷ 3 ∷ []) (1 ∷ 1 ∷ []) (1 ∷ 1 ∷ [])) ample).answer 5 2
unfolding opened
vector_unnamed = (refl, refl, refl, refl, refl)

-- 6: "all value bytes, all mask bytes (width divided by 8, rounded up) and two flag runs, each V/8 rounded up; another of V 4-byte numbers"
-- of width 8 and 9, of three nine-state values, of eight and of nine vectors
pub room_short :
    Gives (tailer (two_state 8) (lent 0 0 4 1)) (0, 0, 12, 0, 0, 0) []
    × Refuses (tailer (two_state 8) (lent 0 0 3 1)).answer 6 0
    × Gives (tailer (two_state 9) (lent 0 0 6 1)) (0, 0, 12, 0, 0, 0) []
    × Refuses (tailer (two_state 9) (lent 0 0 5 1)).answer 6 0
    × Refuses (tailer (two_state 9) (lent 0 0 6 0)).answer 6 0
    × Gives (tailer (nine_state 3) (lent 0 0 5 1)) (0, 0, 12, 0, 0, 0) []
    × Refuses (tailer (nine_state 3) (lent 0 0 4 1)).answer 6 0
    × Gives (tailer (singles (1 ∷ 2 ∷ 3 ∷ 4 ∷ 5 ∷ 6 ∷ 7 ∷ 8 ∷ [])) (lent 0 0 18 8)) (0, 0, 12, 0, 0, 0) []
    × Refuses (tailer (singles (1 ∷ 2 ∷ 3 ∷ 4 ∷ 5 ∷ 6 ∷ 7 ∷ 8 ∷ [])) (lent 0 0 17 8)).answer 6 0
    × Gives (tailer (singles (1 ∷ 2 ∷ 3 ∷ 4 ∷ 5 ∷ 6 ∷ 7 ∷ 8 ∷ 9 ∷ [])) (lent 0 0 22 9)) (0, 0, 12, 0, 0, 0) []
    × Refuses (tailer (singles (1 ∷ 2 ∷ 3 ∷ 4 ∷ 5 ∷ 6 ∷ 7 ∷ 8 ∷ 9 ∷ [])) (lent 0 0 21 9)).answer 6 0
    × Refuses (tailer (singles (1 ∷ 2 ∷ 3 ∷ 4 ∷ 5 ∷ 6 ∷ 7 ∷ 8 ∷ 9 ∷ [])) (lent 0 0 22 8)).answer 6 0
    × Gives (changes (two_state 9) 0 0 (lent 0 0 6 1)) (0, 0, 0, 0, 0, 0) []
    × Refuses (changes (two_state 9) 0 0 (lent 0 0 5 1)).answer 6 0
    × Refuses (changes (two_state 9) 0 0 (lent 0 0 6 0)).answer 6 0
unfolding opened
room_short = (refl, refl, refl, refl, refl, refl, refl, refl, refl, refl, refl, refl, refl, refl, refl)

-- "Checks 1 to 6 come first, in that order": each row has all the later faults too, and an input that ends at once
pub checks_in_order :
    Refuses (sections (tables (7 ∷ 2 ∷ []) (1 ∷ 1 ∷ []) (0 ∷ []) (0 ∷ []) (2 ∷ []) (1 ∷ []) (1 ∷ [])) 0 0 (lent 1073741824 0 0 0)).answer 1 0
    × Refuses (sections (tables (7 ∷ 2 ∷ []) (1 ∷ 1 ∷ []) (0 ∷ []) (0 ∷ []) (2 ∷ []) (1 ∷ []) (1 ∷ [])) 0 0 (lent 0 0 0 0)).answer 2 0
    × Refuses (sections (tables (7 ∷ 2 ∷ []) (1 ∷ 1 ∷ []) (0 ∷ 0 ∷ []) (0 ∷ []) (2 ∷ []) (1 ∷ []) (1 ∷ [])) 0 0 (lent 0 0 0 0)).answer 3 1
    × Refuses (sections (tables (7 ∷ 2 ∷ []) (1 ∷ 1 ∷ []) (0 ∷ 0 ∷ []) (1 ∷ []) (2 ∷ []) (1 ∷ []) (1 ∷ [])) 0 0 (lent 0 0 0 0)).answer 4 1
    × Refuses (sections (tables (2 ∷ 2 ∷ []) (1 ∷ 1 ∷ []) (0 ∷ 0 ∷ []) (1 ∷ []) (2 ∷ []) (1 ∷ []) (1 ∷ [])) 0 0 (lent 0 0 0 0)).answer 5 1
    × Refuses (sections (two_state 2) 0 0 (lent 0 0 0 0)).answer 6 0
    × Refuses (sections (two_state 2) 0 0 (lent 0 0 4 1)).answer 7 0
unfolding opened
checks_in_order = (refl, refl, refl, refl, refl, refl, refl)

-- 7: "input ends inside a mark, head, field, number or record: its first byte", one byte short of each;
-- "input ends where a mark, field or record must still follow: input length", with that byte
pub ends_in_section :
    Refuses (sections no_signals 3 0x534e50 ample).answer 7 0
    × Refuses (sections no_signals 4 0x534e5000 ample).answer 7 4
    × Refuses (sections no_signals 15 0x534e50000000000000000000000000 ample).answer 7 4
    × Refuses (sections no_signals 16 0x534e5000000000000000000000000000 ample).answer 7 16
    × Refuses (sections no_signals 19 0x534e500000000000000000000000000045534e ample).answer 7 16
    × Refuses (sections no_signals 20 0x534e500000000000000000000000000045534e00 ample).answer 7 20
    × Refuses (sections no_signals 11 0x4359430000000000000000 ample).answer 7 4
    × Refuses (sections no_signals 12 0x435943000000000000000000 ample).answer 7 12
    × Refuses (sections no_signals 13 0x43594300000000000000000080 ample).answer 7 12
    × Refuses (sections no_signals 14 0x4359430000000000000000008000 ample).answer 7 14
    × Refuses (sections no_signals 14 0x4359430000000000000000000080 ample).answer 7 13
    × Refuses (sections no_signals 15 0x43594300000000000000000000807f ample).answer 7 15
    × Refuses (sections no_signals 17 0x435943000000000000000000007f454359 ample).answer 7 14
    × Refuses (sections no_signals 18 0x435943000000000000000000007f45435900 ample).answer 7 18
    × Refuses (sections no_signals 11 0x4449520000000000000000 ample).answer 7 4
    × Refuses (sections no_signals 12 0x444952000000000000000000 ample).answer 7 12
    × Refuses (sections no_signals 15 0x444952000000000001000000000000 ample).answer 7 12
    × Refuses (sections no_signals 16 0x44495200000000000100000000000000 ample).answer 7 16
    × Refuses (sections no_signals 19 0x44495200000000000100000000000000000000 ample).answer 7 16
    × Refuses (sections no_signals 20 0x4449520000000000010000000000000000000000 ample).answer 7 20
    × Refuses (sections no_signals 15 0x444952000000000000000000454f44 ample).answer 7 12
    × Refuses (sections no_signals 16 0x444952000000000000000000454f4400 ample).answer 7 16
    × Refuses (sections no_signals 11 0x5441490000000000000000 ample).answer 7 4
    × Gives (tailer no_signals ample) (0, 0, 12, 0, 0, 0) []
unfolding opened
ends_in_section = (refl, refl, refl, refl, refl, refl, refl, refl, refl, refl, refl, refl, refl, refl, refl, refl, refl, refl, refl, refl, refl, refl, refl, refl)

-- .. of a value of each kind
pub ends_in_value :
    Refuses (sections (lone 0) 13 0x43594300000000000000000001 ample).answer 7 13
    × Refuses (sections (lone 0) 14 0x4359430000000000000000000102 ample).answer 7 14
    × Refuses (sections (nine_state 1) 13 0x43594300000000000000000001 ample).answer 7 13
    × Refuses (sections (nine_state 1) 14 0x4359430000000000000000000102 ample).answer 7 14
    × Refuses (sections (lone 2) 13 0x43594300000000000000000001 ample).answer 7 13
    × Refuses (sections (lone 2) 14 0x4359430000000000000000000101 ample).answer 7 14
    × Refuses (sections (two_state 1) 13 0x43594300000000000000000001 ample).answer 7 13
    × Refuses (sections (two_state 1) 14 0x4359430000000000000000000101 ample).answer 7 14
    × Refuses (sections (lone 4) 13 0x43594300000000000000000001 ample).answer 7 13
    × Refuses (sections (lone 4) 14 0x43594300000000000000000001ff ample).answer 7 14
    × Refuses (sections (lone 5) 14 0x43594300000000000000000001ff ample).answer 7 13
    × Refuses (sections (lone 5) 15 0x43594300000000000000000001ff00 ample).answer 7 15
    × Refuses (sections (lone 6) 20 0x4359430000000000000000000100000000000000 ample).answer 7 13
    × Refuses (sections (lone 6) 21 0x435943000000000000000000010000000000000000 ample).answer 7 21
    × Refuses (sections (lone 4) 16 0x534e5000000000000000000000000000 ample).answer 7 16
    × Refuses (sections (lone 4) 17 0x534e500000000000000000000000000005 ample).answer 7 17
unfolding opened
ends_in_value = (refl, refl, refl, refl, refl, refl, refl, refl, refl, refl, refl, refl, refl, refl, refl, refl)

-- .. of a change record of each kind, and of an event record
pub ends_in_record :
    Refuses (changes no_signals 8 0x0100000000000000 ample).answer 7 0
    × Refuses (changes no_signals 9 0x010000000000000000 ample).answer 7 9
    × Refuses (changes (lone 4) 14 0x0100000000000000000200000001 ample).answer 7 9
    × Refuses (changes (lone 4) 15 0x010000000000000000020000000105 ample).answer 7 15
    × Refuses (changes (lone 6) 21 0x010000000000000000030000000100000000000000 ample).answer 7 9
    × Refuses (changes (lone 6) 22 0x01000000000000000003000000010000000000000000 ample).answer 7 22
    × Gives (changes no_signals 10 0x01000000000000000004 ample) (0, 0, 10, 9, 0, 1) []
    × Refuses (rule 8 0x0100000000000000 0 500).answer 7 0
    × Keeps (rule 9 0x010000000000000000 0 500) (0, 0, 9, 9, 0, 1) (big_bytes 9 0x010000000000000000)
    × Refuses (rule 21 0x010000000000000000020000000000000000000000 0 500).answer 7 9
    × Keeps (rule 22 0x01000000000000000002000000000000000000000000 0 500) (0, 0, 22, 22, 0, 1) (big_bytes 22 0x01000000000000000002000000000000000000000000)
    × Refuses (rule 21 0x010000000000000000030000000000000000000000 0 500).answer 7 9
    × Keeps (rule 22 0x01000000000000000003000000000000000000000000 0 500) (0, 0, 22, 22, 0, 1) (big_bytes 22 0x01000000000000000003000000000000000000000000)
    × Refuses (rule 21 0x010000000000000000040000000000000000000000 0 500).answer 7 9
    × Keeps (rule 22 0x01000000000000000004000000000000000000000000 0 500) (0, 0, 22, 22, 0, 1) (big_bytes 22 0x01000000000000000004000000000000000000000000)
unfolding opened
ends_in_record = (refl, refl, refl, refl, refl, refl, refl, refl, refl, refl, refl, refl, refl, refl, refl)

-- 8: "unknown section mark: mark"
pub unknown_mark :
    Refuses (sections no_signals 4 0x534e5001 ample).answer 8 0
    × Refuses (sections no_signals 4 0x736e7000 ample).answer 8 0
    × Refuses (sections no_signals 12 0x544149010000000000000000 ample).answer 8 0
    × Refuses (sections no_signals 4 0x45534e00 ample).answer 8 0
    × Refuses (sections no_signals 4 0x45435900 ample).answer 8 0
    × Refuses (sections no_signals 4 0x454f4400 ample).answer 8 0
    × Refuses (sections no_signals 20 0x444952000000000000000000454f440000000000 ample).answer 8 16
unfolding opened
unknown_mark = (refl, refl, refl, refl, refl, refl, refl)

-- 9: "snapshot zeros wrong: head"
pub wrong_zeros :
    Refuses (sections no_signals 16 0x534e5000010000000000000000000000 ample).answer 9 4
    × Refuses (sections no_signals 16 0x534e5000000100000000000000000000 ample).answer 9 4
    × Refuses (sections no_signals 16 0x534e5000000001000000000000000000 ample).answer 9 4
    × Refuses (sections no_signals 16 0x534e5000000000010000000000000000 ample).answer 9 4
    × Refuses (sections no_signals 16 0x534e5000000000000100000000000000 ample).answer 7 16
unfolding opened
wrong_zeros = (refl, refl, refl, refl, refl)

-- 10: "wrong end mark: mark"
pub wrong_end_mark :
    Refuses (sections no_signals 20 0x534e500000000000000000000000000045435900 ample).answer 10 16
    × Refuses (sections no_signals 20 0x534e500000000000000000000000000045534e01 ample).answer 10 16
    × Refuses (sections no_signals 18 0x435943000000000000000000007f45534e00 ample).answer 10 14
    × Refuses (sections no_signals 16 0x44495200000000000000000045435900 ample).answer 10 12
    × Refuses (sections no_signals 16 0x44495200000000000000000054414900 ample).answer 10 12
unfolding opened
wrong_end_mark = (refl, refl, refl, refl, refl)

-- 11: "negative directory number: that number": 2^31-1 passes, 2^31 is negative, by either flag
pub negative_number :
    Refuses (sections no_signals 12 0x4449520000000000ffffff7f ample).answer 7 12
    × Refuses (sections no_signals 12 0x444952000000000000000080 ample).answer 11 8
    × Refuses (sections no_signals 20 0x44495200000000000100000000000000ffffff7f ample).answer 7 20
    × Refuses (sections no_signals 20 0x4449520000000000010000000000000000000080 ample).answer 11 16
    × Refuses (sections no_signals 28 0x44495200000000000200000000000000ffffff7f0000000000000080 ample).answer 11 24
    × Refuses (read_sections no_signals (ordinary true) (big_bytes 12 0x44495200000000007fffffff) ample).answer 7 12
    × Refuses (read_sections no_signals (ordinary true) (big_bytes 12 0x444952000000000080000000) ample).answer 11 8
    × Refuses (read_sections no_signals (ordinary true) (big_bytes 20 0x444952000000000000000001000000007fffffff) ample).answer 7 20
    × Refuses (read_sections no_signals (ordinary true) (big_bytes 20 0x4449520000000000000000010000000080000000) ample).answer 11 16
unfolding opened
negative_number = (refl, refl, refl, refl, refl, refl, refl, refl, refl)

-- 12: "The tenth must be 0 or 1 (unsigned), 0 or 127 (signed)."; an unsigned 1 there is 2^63, and so an id past n
pub number_too_large :
    Refuses (sections no_signals 22 0x435943000000000000000000ffffffffffffffffff01 ample).answer 13 12
    × Refuses (sections no_signals 22 0x435943000000000000000000ffffffffffffffffff02 ample).answer 12 12
    × Gives (sections (lone 4) 41 0x4359430000000000000000008180808080808080800005007f45435900544149000000000000000000 ample) (0, 0, 41, 22, 1, 1) (big_bytes 1 0x05)
    × Refuses (sections (lone 4) 41 0x4359430000000000000000008180808080808080800105007f45435900544149000000000000000000 ample).answer 13 12
    × Refuses (sections (lone 4) 41 0x4359430000000000000000008180808080808080800205007f45435900544149000000000000000000 ample).answer 12 12
    × Refuses (sections (lone 4) 41 0x4359430000000000000000008180808080808080808005007f45435900544149000000000000000000 ample).answer 12 12
    × Gives (sections (lone 5) 41 0x4359430000000000000000000180808080808080808000007f45435900544149000000000000000000 ample) (0, 0, 41, 22, 8, 1) (big_bytes 8 0x0000000000000000)
    × Gives (sections (lone 5) 41 0x435943000000000000000000018080808080808080807f007f45435900544149000000000000000000 ample) (0, 0, 41, 22, 8, 1) (big_bytes 8 0x8000000000000000)
    × Refuses (sections (lone 5) 41 0x4359430000000000000000000180808080808080808001007f45435900544149000000000000000000 ample).answer 12 13
    × Refuses (sections (lone 5) 41 0x435943000000000000000000018080808080808080807e007f45435900544149000000000000000000 ample).answer 12 13
    × Refuses (sections (lone 5) 41 0x4359430000000000000000000180808080808080808080007f45435900544149000000000000000000 ample).answer 12 13
    × Refuses (sections (lone 5) 41 0x43594300000000000000000001808080808080808080ff007f45435900544149000000000000000000 ample).answer 12 13
    × Gives (sections no_signals 41 0x4359430000000000000000000080808080808080808000007f45435900544149000000000000000000 ample) (0, 0, 41, 18, 0, 2) []
    × Gives (sections no_signals 39 0x435943000000000000000000008080808080808080807f45435900544149000000000000000000 ample) (0, 0, 39, 9, 0, 1) []
    × Refuses (sections no_signals 41 0x4359430000000000000000000080808080808080808001007f45435900544149000000000000000000 ample).answer 12 13
    × Refuses (sections no_signals 41 0x435943000000000000000000008080808080808080807e007f45435900544149000000000000000000 ample).answer 12 13
    × Refuses (sections no_signals 41 0x4359430000000000000000000080808080808080808080007f45435900544149000000000000000000 ample).answer 12 13
unfolding opened
number_too_large = (refl, refl, refl, refl, refl, refl, refl, refl, refl, refl, refl, refl, refl, refl, refl, refl, refl)

-- 13: "id is 0 or past n: delta or record"
pub past_ids :
    Gives (sections (plain (4 ∷ 4 ∷ []) (1 ∷ 2 ∷ [])) 32 0x4359430000000000000000000205007f45435900544149000000000000000000 ample) (0, 0, 32, 22, 1, 1) (big_bytes 1 0x05)
    × Refuses (sections (plain (4 ∷ 4 ∷ []) (1 ∷ 2 ∷ [])) 13 0x43594300000000000000000003 ample).answer 13 12
    × Gives (sections (plain (4 ∷ 4 ∷ []) (1 ∷ 2 ∷ [])) 34 0x43594300000000000000000001050106007f45435900544149000000000000000000 ample) (0, 0, 34, 35, 2, 1) (big_bytes 2 0x0506)
    × Refuses (sections (plain (4 ∷ 4 ∷ []) (1 ∷ 2 ∷ [])) 15 0x435943000000000000000000010502 ample).answer 13 14
    × Gives (changes small 16 0x01000000000000000002000000040504 ample) (0, 0, 16, 22, 1, 1) (big_bytes 1 0x05)
    × Refuses (changes small 15 0x010000000000000000020000000500 ample).answer 13 9
    × Refuses (changes small 15 0x010000000000000000020000000000 ample).answer 13 9
    × Refuses (changes (plain (4 ∷ 4 ∷ []) (1 ∷ 2 ∷ [])) 15 0x010000000000000000020100000105 ample).answer 13 9
    × Gives (changes (plain (4 ∷ 5 ∷ []) (1 ∷ 2 ∷ [])) 23 0x0100000000000000000300000002000000000000000004 ample) (0, 0, 23, 22, 8, 1) (big_bytes 8 0x0000000000000000)
    × Refuses (changes (plain (4 ∷ 4 ∷ []) (1 ∷ 2 ∷ [])) 22 0x01000000000000000003000000030000000000000000 ample).answer 13 9
    × Refuses (changes (plain (4 ∷ 4 ∷ []) (1 ∷ 2 ∷ [])) 22 0x01000000000000000003000000000000000000000000 ample).answer 13 9
unfolding opened
past_ids = (refl, refl, refl, refl, refl, refl, refl, refl, refl, refl, refl)

-- 14: "value out of its kind's range: value byte"
pub value_out_of_range :
    Gives (sections (lone 0) 32 0x4359430000000000000000000108007f45435900544149000000000000000000 ample) (0, 0, 32, 22, 1, 1) (big_bytes 1 0x08)
    × Refuses (sections (lone 0) 14 0x4359430000000000000000000109 ample).answer 14 13
    × Gives (changes (lone 0) 16 0x01000000000000000002000000010804 ample) (0, 0, 16, 22, 1, 1) (big_bytes 1 0x08)
    × Refuses (changes small 15 0x010000000000000000020000000109 ample).answer 14 14
    × Gives (sections (nine_state 1) 32 0x4359430000000000000000000108007f45435900544149000000000000000000 ample) (0, 0, 32, 22, 1, 1) (big_bytes 1 0x08)
    × Refuses (sections (nine_state 1) 14 0x4359430000000000000000000109 ample).answer 14 13
    × Gives (changes (nine_state 1) 16 0x01000000000000000002000000010804 ample) (0, 0, 16, 22, 1, 1) (big_bytes 1 0x08)
    × Refuses (changes (nine_state 1) 15 0x010000000000000000020000000109 ample).answer 14 14
    × Gives (sections (lone 2) 32 0x4359430000000000000000000101007f45435900544149000000000000000000 ample) (0, 0, 32, 22, 1, 1) (big_bytes 1 0x01)
    × Refuses (sections (lone 2) 14 0x4359430000000000000000000102 ample).answer 14 13
    × Gives (changes (lone 2) 16 0x01000000000000000002000000010104 ample) (0, 0, 16, 22, 1, 1) (big_bytes 1 0x01)
    × Refuses (changes (lone 2) 15 0x010000000000000000020000000102 ample).answer 14 14
    × Gives (sections (two_state 1) 32 0x4359430000000000000000000101007f45435900544149000000000000000000 ample) (0, 0, 32, 22, 1, 1) (big_bytes 1 0x01)
    × Refuses (sections (two_state 1) 14 0x4359430000000000000000000102 ample).answer 14 13
    × Gives (changes (two_state 1) 16 0x01000000000000000002000000010104 ample) (0, 0, 16, 22, 1, 1) (big_bytes 1 0x01)
    × Refuses (changes (two_state 1) 15 0x010000000000000000020000000102 ample).answer 14 14
    × Gives (sections (lone 4) 32 0x43594300000000000000000001ff007f45435900544149000000000000000000 ample) (0, 0, 32, 22, 1, 1) (big_bytes 1 0xff)
    × Gives (changes (lone 4) 16 0x0100000000000000000200000001ff04 ample) (0, 0, 16, 22, 1, 1) (big_bytes 1 0xff)
    × Refuses (sections (lone 2) 17 0x534e500000000000000000000000000002 ample).answer 14 16
unfolding opened
value_out_of_range = (refl, refl, refl, refl, refl, refl, refl, refl, refl, refl, refl, refl, refl, refl, refl, refl, refl, refl, refl)

-- 15: "time passes 2^64-1: time delta"
pub time_passes :
    Fully (sections no_signals 32 0x43594300feffffffffffffff0001007f45435900544149000000000000000000 ample) (0, 0, 32, 18, 0, 2) (big_bytes 18 0x01fffffffffffffffe01ffffffffffffffff) []
    × Refuses (sections no_signals 14 0x43594300ffffffffffffffff0001 ample).answer 15 13
    × Fully (sections no_signals 41 0x43594300000000000000008000ffffffffffffffffff00007f45435900544149000000000000000000 ample) (0, 0, 41, 18, 0, 2) (big_bytes 18 0x01800000000000000001ffffffffffffffff) []
    × Refuses (sections no_signals 23 0x43594300010000000000008000ffffffffffffffffff00 ample).answer 15 13
    × Gives (sections no_signals 30 0x43594300ffffffffffffffff007f45435900544149000000000000000000 ample) (0, 0, 30, 9, 0, 1) []
unfolding opened
time_passes = (refl, refl, refl, refl, refl)

-- 16: "next event doesn't fit event or value room: next unread byte", of a time and of a signal of each kind: just enough, and one byte less of either room
pub no_room_in_section :
    Gives (sections no_signals 30 0x435943000000000000000000007f45435900544149000000000000000000 (lent 9 0 0 0)) (0, 0, 30, 9, 0, 1) []
    × Refuses (sections no_signals 18 0x435943000000000000000000007f45435900 (lent 8 0 0 0)).answer 16 12
    × Gives (sections no_signals 32 0x534e500000000000000000000000000045534e00544149000000000000000000 (lent 9 0 0 0)) (0, 0, 32, 9, 0, 1) []
    × Refuses (sections no_signals 20 0x534e500000000000000000000000000045534e00 (lent 8 0 0 0)).answer 16 16
    × Gives (sections no_signals 32 0x4359430000000000000000000000007f45435900544149000000000000000000 (lent 18 0 0 0)) (0, 0, 32, 18, 0, 2) []
    × Refuses (sections no_signals 20 0x4359430000000000000000000000007f45435900 (lent 17 0 0 0)).answer 16 14
    × Gives (sections (lone 0) 32 0x4359430000000000000000000108007f45435900544149000000000000000000 (lent 22 1 0 0)) (0, 0, 32, 22, 1, 1) (big_bytes 1 0x08)
    × Refuses (sections (lone 0) 20 0x4359430000000000000000000108007f45435900 (lent 21 1 0 0)).answer 16 14
    × Refuses (sections (lone 0) 20 0x4359430000000000000000000108007f45435900 (lent 22 0 0 0)).answer 16 14
    × Gives (sections (lone 2) 32 0x4359430000000000000000000101007f45435900544149000000000000000000 (lent 22 1 0 0)) (0, 0, 32, 22, 1, 1) (big_bytes 1 0x01)
    × Refuses (sections (lone 2) 20 0x4359430000000000000000000101007f45435900 (lent 21 1 0 0)).answer 16 14
    × Refuses (sections (lone 2) 20 0x4359430000000000000000000101007f45435900 (lent 22 0 0 0)).answer 16 14
    × Gives (sections (lone 4) 32 0x43594300000000000000000001ff007f45435900544149000000000000000000 (lent 22 1 0 0)) (0, 0, 32, 22, 1, 1) (big_bytes 1 0xff)
    × Refuses (sections (lone 4) 20 0x43594300000000000000000001ff007f45435900 (lent 21 1 0 0)).answer 16 14
    × Refuses (sections (lone 4) 20 0x43594300000000000000000001ff007f45435900 (lent 22 0 0 0)).answer 16 14
    × Gives (sections (lone 5) 32 0x435943000000000000000000017e007f45435900544149000000000000000000 (lent 22 8 0 0)) (0, 0, 32, 22, 8, 1) (big_bytes 8 0xfffffffffffffffe)
    × Refuses (sections (lone 5) 20 0x435943000000000000000000017e007f45435900 (lent 21 8 0 0)).answer 16 14
    × Refuses (sections (lone 5) 20 0x435943000000000000000000017e007f45435900 (lent 22 7 0 0)).answer 16 14
    × Gives (sections (lone 6) 39 0x435943000000000000000000010000000000000000007f45435900544149000000000000000000 (lent 22 0 0 0)) (0, 0, 39, 22, 0, 1) []
    × Refuses (sections (lone 6) 27 0x435943000000000000000000010000000000000000007f45435900 (lent 21 0 0 0)).answer 16 21
unfolding opened
no_room_in_section = (refl, refl, refl, refl, refl, refl, refl, refl, refl, refl, refl, refl, refl, refl, refl, refl, refl, refl, refl, refl)

-- .. of a vector: at the step's end, by rule (c), by rule (a); and of change records, behind the record
pub no_room_for_vector :
    Gives (sections (two_state 9) 32 0x4359430000000000000000000101007f45435900544149000000000000000000 (lent 22 2 6 1)) (0, 0, 32, 22, 2, 1) (big_bytes 2 0x0100)
    × Refuses (sections (two_state 9) 20 0x4359430000000000000000000101007f45435900 (lent 21 2 6 1)).answer 16 15
    × Refuses (sections (two_state 9) 20 0x4359430000000000000000000101007f45435900 (lent 22 1 6 1)).answer 16 15
    × Gives (sections (two_state 2) 34 0x43594300000000000000000001010100007f45435900544149000000000000000000 (lent 22 1 4 1)) (0, 0, 34, 22, 1, 1) (big_bytes 1 0x02)
    × Refuses (sections (two_state 2) 22 0x43594300000000000000000001010100007f45435900 (lent 21 1 4 1)).answer 16 16
    × Refuses (sections (two_state 2) 22 0x43594300000000000000000001010100007f45435900 (lent 22 0 4 1)).answer 16 16
    × Gives (changes (two_state 2) 22 0x01000000000000000002000000010102000000010004 (lent 35 2 4 1)) (0, 0, 22, 35, 2, 1) (big_bytes 2 0x0200)
    × Refuses (changes (two_state 2) 22 0x01000000000000000002000000010102000000010004 (lent 34 2 4 1)).answer 16 22
    × Refuses (changes (two_state 2) 22 0x01000000000000000002000000010102000000010004 (lent 35 1 4 1)).answer 16 22
    × Refuses (changes (two_state 2) 22 0x01000000000000000002000000010102000000010004 (lent 21 1 4 1)).answer 16 21
    × Refuses (changes (two_state 2) 22 0x01000000000000000002000000010102000000010004 (lent 22 0 4 1)).answer 16 21
    × Gives (changes no_signals 10 0x01000000000000000004 (lent 9 0 0 0)) (0, 0, 10, 9, 0, 1) []
    × Refuses (changes no_signals 10 0x01000000000000000004 (lent 8 0 0 0)).answer 16 9
    × Gives (changes (lone 5) 23 0x0100000000000000000300000001000000000000000004 (lent 22 8 0 0)) (0, 0, 23, 22, 8, 1) (big_bytes 8 0x0000000000000000)
    × Refuses (changes (lone 5) 23 0x0100000000000000000300000001000000000000000004 (lent 22 7 0 0)).answer 16 22
unfolding opened
no_room_for_vector = (refl, refl, refl, refl, refl, refl, refl, refl, refl, refl, refl, refl, refl, refl, refl)

-- .. of kept events
pub no_room_for_kept :
    Keeps (rule 9 0x010000000000000000 0 9) (0, 0, 9, 9, 0, 1) (big_bytes 9 0x010000000000000000)
    × Refuses (rule 9 0x010000000000000000 0 8).answer 16 9
    × Keeps (rule 22 0x01000000000000000002000000000000000000000000 0 22) (0, 0, 22, 22, 0, 1) (big_bytes 22 0x01000000000000000002000000000000000000000000)
    × Refuses (rule 22 0x01000000000000000002000000000000000000000000 0 21).answer 16 22
    × Keeps (rule 22 0x01000000000000000003000000000000000000000000 0 22) (0, 0, 22, 22, 0, 1) (big_bytes 22 0x01000000000000000003000000000000000000000000)
    × Refuses (rule 22 0x01000000000000000003000000000000000000000000 0 21).answer 16 22
    × Keeps (rule 22 0x01000000000000000004000000000000000000000000 0 22) (0, 0, 22, 22, 0, 1) (big_bytes 22 0x01000000000000000004000000000000000000000000)
    × Refuses (rule 22 0x01000000000000000004000000000000000000000000 0 21).answer 16 22
    × Keeps (rule 18 0x010000000000000000010000000000000000 0 9) (0, 0, 18, 9, 0, 1) (big_bytes 9 0x010000000000000000)
    × Refuses (rule 18 0x010000000000000000010000000000000001 0 17).answer 16 18
    × Keeps (rule 18 0x010000000000000000010000000000000001 0 18) (0, 0, 18, 18, 0, 2) (big_bytes 18 0x010000000000000000010000000000000001)
unfolding opened
no_room_for_kept = (refl, refl, refl, refl, refl, refl, refl, refl, refl, refl, refl)

-- 17: "unknown house kind: record"
pub unknown_kind :
    Refuses (changes no_signals 1 0x00 ample).answer 17 0
    × Refuses (changes no_signals 1 0x05 ample).answer 17 0
    × Refuses (changes no_signals 21 0xff0000000000000000000000000000000000000000 ample).answer 17 0
    × Refuses (changes small 10 0x01000000000000000000 ample).answer 17 9
    × Refuses (changes no_signals 10 0x01000000000000000005 ample).answer 17 9
    × Refuses (rule 1 0x00 0 500).answer 17 0
    × Refuses (rule 1 0x05 0 500).answer 17 0
    × Refuses (rule 21 0xff0000000000000000000000000000000000000000 0 500).answer 17 0
    × Refuses (rule 10 0x01000000000000000005 0 500).answer 17 9
unfolding opened
unknown_kind = (refl, refl, refl, refl, refl, refl, refl, refl, refl)

-- 18: "time inside an open step; write or step end outside one; value or real event before any time: record"
pub out_of_order :
    Refuses (changes small 18 0x010000000000000000010000000000000000 ample).answer 18 9
    × Gives (changes no_signals 20 0x0100000000000000000401000000000000000004 ample) (0, 0, 20, 18, 0, 2) []
    × Refuses (changes (lone 4) 6 0x020000000105 ample).answer 18 0
    × Refuses (changes (lone 6) 13 0x03000000010000000000000000 ample).answer 18 0
    × Refuses (changes no_signals 1 0x04 ample).answer 18 0
    × Refuses (changes (lone 4) 16 0x01000000000000000004020000000105 ample).answer 18 10
    × Refuses (changes no_signals 11 0x0100000000000000000404 ample).answer 18 10
    × Refuses (rule 13 0x02000000000000000000000000 0 500).answer 18 0
    × Refuses (rule 13 0x03000000000000000000000000 0 500).answer 18 0
    × Refuses (rule 13 0x04000000000000000000000000 0 500).answer 18 0
unfolding opened
out_of_order = (refl, refl, refl, refl, refl, refl, refl, refl, refl, refl)

-- 19: "2 byte write .. for signal kinds 0..4; 3 wide write .. for 5 and 6", of each kind
pub unsuited_write :
    Gives (changes (lone 0) 16 0x01000000000000000002000000010004 ample) (0, 0, 16, 22, 1, 1) (big_bytes 1 0x05)
    × Refuses (changes small 22 0x01000000000000000003000000010000000000000000 ample).answer 19 9
    × Gives (changes (nine_state 1) 16 0x01000000000000000002000000010004 ample) (0, 0, 16, 22, 1, 1) (big_bytes 1 0x05)
    × Refuses (changes (nine_state 1) 23 0x0100000000000000000300000001000000000000000004 ample).answer 19 9
    × Gives (changes (lone 2) 16 0x01000000000000000002000000010004 ample) (0, 0, 16, 22, 1, 1) (big_bytes 1 0x00)
    × Refuses (changes (lone 2) 23 0x0100000000000000000300000001000000000000000004 ample).answer 19 9
    × Gives (changes (two_state 1) 16 0x01000000000000000002000000010004 ample) (0, 0, 16, 22, 1, 1) (big_bytes 1 0x00)
    × Refuses (changes (two_state 1) 23 0x0100000000000000000300000001000000000000000004 ample).answer 19 9
    × Gives (changes (lone 4) 16 0x01000000000000000002000000010004 ample) (0, 0, 16, 22, 1, 1) (big_bytes 1 0x00)
    × Refuses (changes (lone 4) 23 0x0100000000000000000300000001000000000000000004 ample).answer 19 9
    × Refuses (changes (lone 5) 16 0x01000000000000000002000000010004 ample).answer 19 9
    × Gives (changes (lone 5) 23 0x0100000000000000000300000001000000000000000004 ample) (0, 0, 23, 22, 8, 1) (big_bytes 8 0x0000000000000000)
    × Refuses (changes (lone 6) 16 0x01000000000000000002000000010004 ample).answer 19 9
    × Gives (changes (lone 6) 23 0x0100000000000000000300000001000000000000000004 ample) (0, 0, 23, 22, 0, 1) []
unfolding opened
unsuited_write = (refl, refl, refl, refl, refl, refl, refl, refl, refl, refl, refl, refl, refl, refl)

-- 20: "event's start plus length is past the value buffer's end: record"; a real has none
pub past_values :
    Keeps (rule 22 0x01000000000000000002000000010000000200000003 5 500) (0, 0, 22, 22, 0, 1) (big_bytes 22 0x01000000000000000002000000010000000200000003)
    × Refuses (rule 22 0x01000000000000000002000000010000000200000003 4 500).answer 20 9
    × Keeps (rule 22 0x01000000000000000003000000010000000200000003 5 500) (0, 0, 22, 22, 0, 1) (big_bytes 22 0x01000000000000000003000000010000000200000003)
    × Refuses (rule 22 0x01000000000000000003000000010000000200000003 4 500).answer 20 9
    × Keeps (rule 22 0x0100000000000000000400000001ffffffffffffffff 0 500) (0, 0, 22, 22, 0, 1) (big_bytes 22 0x0100000000000000000400000001ffffffffffffffff)
unfolding opened
past_values = (refl, refl, refl, refl, refl)

-- "In a record: 17, 7, 18, 13, 19, 14 or 20, 16": each row has a later fault too
pub record_in_order :
    Refuses (changes no_signals 1 0x05 ample).answer 17 0
    × Refuses (changes no_signals 5 0x0200000000 ample).answer 7 0
    × Refuses (changes no_signals 6 0x020000000000 ample).answer 18 0
    × Refuses (changes (lone 6) 15 0x010000000000000000020000000209 ample).answer 13 9
    × Refuses (changes (lone 6) 15 0x010000000000000000020000000109 ample).answer 19 9
    × Refuses (changes (lone 0) 15 0x010000000000000000020000000109 (lent 9 0 0 0)).answer 14 14
    × Refuses (changes (lone 0) 15 0x010000000000000000020000000108 (lent 9 0 0 0)).answer 16 15
    × Refuses (rule 1 0x05 0 0).answer 17 0
    × Refuses (rule 12 0x020000000000000000000000 0 0).answer 7 0
    × Refuses (rule 13 0x02000000000000000000000001 0 0).answer 18 0
    × Refuses (rule 22 0x01000000000000000002000000000000000000000001 0 9).answer 20 9
    × Refuses (rule 22 0x01000000000000000002000000000000000000000001 1 9).answer 16 22
unfolding opened
record_in_order = (refl, refl, refl, refl, refl, refl, refl, refl, refl, refl, refl, refl)
