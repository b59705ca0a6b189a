-- How document 01 is read where it leaves a choice or is easily misread: the smallest inputs that tell the reading chosen from the others.
-- The numbers are those of the list of readings.
-- Assumes nothing.
use Rattle.std.specs.Prelude.{ℕ, ◌≡◌, refl, false, List, [], ◌∷◌, length, replicate}
use Rattle.std.proofs.Math.Nat.{sub-zero}
use Rattle.numbers.specs.Fixed.{big_bytes}
use Rattle.values.specs.Value.{ordinary}
use Rattle.answers.specs.Outcome.{Outcome, refused, answer, Lent, leaves}
use Rattle.entries.specs.Entries.{read_sections}
use Rattle.entry_rows.specs.Rows.{Refuses, Gives, Keeps, left, lent, ample, tables, no_signals, lone, plain, two_state, sections, tailer, changes, rule}
use Rattle.entries.specs.Opened.{opened}

-- A1. The place of an accepted answer is 0.
pub accepted_place :
    Gives (tailer no_signals ample) (0, 0, 12, 0, 0, 0) []
unfolding opened
accepted_place = refl

-- A2. Too many signals are 2; a buffer over its limit comes before unequal lists.
pub first_checks :
    Refuses (tailer (plain (replicate 65536 2) (replicate 65536 1)) ample).answer 2 0
    × Refuses (tailer (tables (2 ∷ []) [] (0 ∷ []) [] [] [] []) (lent 1073741824 500 50 9)).answer 1 0
unfolding opened
first_checks = (refl, refl)

-- A3. Check 5 gives the lowest id over all vectors; an id that two ranges hold cannot name both.
pub lowest_id :
    Refuses (tailer (tables (2 ∷ 2 ∷ []) (1 ∷ 1 ∷ []) (0 ∷ 0 ∷ []) (2 ∷ 1 ∷ []) (2 ∷ 1 ∷ []) (1 ∷ 1 ∷ []) (1 ∷ 1 ∷ [])) ample).answer 5 1
    × Refuses (tailer (tables (3 ∷ []) (1 ∷ []) (1 ∷ []) (1 ∷ 1 ∷ []) (1 ∷ 1 ∷ []) (1 ∷ 1 ∷ []) (1 ∷ 1 ∷ [])) ample).answer 5 1
unfolding opened
lowest_id = (refl, refl)

-- A4. A directory entry is two fields: 7 stands at the id's or at the position's first byte.
pub entry_fields :
    Refuses (sections no_signals 16 0x444952000000000001000000534e5000 ample).answer 7 16
    × Refuses (sections no_signals 17 0x444952000000000001000000534e500000 ample).answer 7 16
unfolding opened
entry_fields = (refl, refl)

-- A5. The eight bytes behind the tailer's mark are a field of their own.
pub tailer_field :
    Refuses (sections no_signals 5 0x5441490000 ample).answer 7 4
unfolding opened
tailer_field = refl

-- A6. A head is read whole before it is judged; 9 stands at the head and 11 at the count.
pub whole_heads :
    Refuses (sections no_signals 9 0x534e50000000000000 ample).answer 7 4
    × Refuses (sections no_signals 5 0x534e500001 ample).answer 7 4
    × Refuses (sections no_signals 16 0x534e5000010000000000000000000000 ample).answer 9 4
    × Refuses (sections no_signals 12 0x4449520000000000ffffffff ample).answer 11 8
unfolding opened
whole_heads = (refl, refl, refl, refl)

-- A7. A mark is read whole before it is judged, and one must follow until the tailer.
pub whole_marks :
    Refuses (sections no_signals 1 0x58 ample).answer 7 0
    × Refuses (sections no_signals 15 0x435943000000000000000000007f58 ample).answer 7 14
    × Refuses (sections no_signals 18 0x435943000000000000000000007f45435900 ample).answer 7 18
    × Refuses (sections no_signals 0 0 ample).answer 7 0
unfolding opened
whole_marks = (refl, refl, refl, refl)

-- A8. 12 as soon as a wrong tenth byte is seen; nine bytes that all go on, and then the end, are 7.
pub tenth_byte :
    Refuses (sections no_signals 22 0x43594300000000000000000080808080808080808080 ample).answer 12 12
    × Refuses (sections no_signals 21 0x435943000000000000000000808080808080808080 ample).answer 7 12
unfolding opened
tenth_byte = (refl, refl)

-- A9. Ids are a plain sum, so that neither a delta of 2^64-1 nor one of 2^32+1 comes round to an id.
pub plain_sum :
    Refuses (sections (plain (4 ∷ 4 ∷ []) (1 ∷ 1 ∷ [])) 43 0x4359430000000000000000000205ffffffffffffffffff0105007f45435900544149000000000000000000 ample).answer 13 14
    × Refuses (sections (lone 4) 36 0x435943000000000000000000818080801005007f45435900544149000000000000000000 ample).answer 13 12
unfolding opened
plain_sum = (refl, refl)

-- A10. The id is judged before its value is read.
pub id_first :
    Refuses (sections no_signals 13 0x43594300000000000000000001 ample).answer 13 12
unfolding opened
id_first = refl

-- A11. A directory's count alone refuses nothing; its entries are read one by one.
pub entries_in_turn :
    Refuses (sections no_signals 12 0x4449520000000000ffffff7f ample).answer 7 12
    × Refuses (sections no_signals 20 0x44495200000000000200000000000000ffffffff ample).answer 11 16
unfolding opened
entries_in_turn = (refl, refl)

-- A12. An entry's id is four bytes and no number.
pub entry_id :
    Gives (sections no_signals 36 0x444952000000000001000000ffffffff00000000454f4400544149000000000000000000 ample) (0, 0, 36, 0, 0, 0) []
unfolding opened
entry_id = refl

-- A13. The time event is made once its head is read and judged: 16 stands behind the head.
pub time_at_once :
    Refuses (sections no_signals 16 0x534e5000000000000000000000000000 (lent 8 500 50 9)).answer 16 16
    × Refuses (sections no_signals 16 0x534e5000010000000000000000000000 (lent 0 500 50 9)).answer 9 4
    × Refuses (sections no_signals 13 0x43594300000000000000000001 (lent 8 500 50 9)).answer 16 12
unfolding opened
time_at_once = (refl, refl, refl)

-- A14. A step of a cycle ends behind the 0 of its change list, all bytes of a padded one: 16 stands at the time delta.
pub cycle_step_end :
    Refuses (sections (two_state 2) 32 0x4359430000000000000000000101007f45435900544149000000000000000000 (lent 9 500 50 9)).answer 16 15
    × Refuses (sections (two_state 2) 33 0x435943000000000000000000010180007f45435900544149000000000000000000 (lent 9 500 50 9)).answer 16 16
unfolding opened
cycle_step_end = (refl, refl)

-- A15. A snapshot's step ends before its end mark is read.
pub snapshot_step_end :
    Refuses (sections (two_state 9) 41 0x534e500000000000000000000000000000000000000000000045534e00544149000000000000000000 (lent 9 500 50 9)).answer 16 25
    × Refuses (sections (two_state 9) 29 0x534e500000000000000000000000000000000000000000000058585858 (lent 9 500 50 9)).answer 16 25
unfolding opened
snapshot_step_end = (refl, refl)

-- A16. What was read makes its events before the end of input is seen.
pub events_first :
    Refuses (sections (lone 4) 14 0x4359430000000000000000000105 (lent 9 500 50 9)).answer 16 14
    × Refuses (changes no_signals 9 0x010000000000000000 (lent 8 500 50 9)).answer 16 9
    × Refuses (changes no_signals 9 0x010000000000000000 ample).answer 7 9
unfolding opened
events_first = (refl, refl, refl)

-- A17. A cycle's time has 64 bits without a sign; 15 comes before the next time's 16.
pub time_sum :
    Refuses (sections no_signals 14 0x43594300ffffffffffffffff0001 (lent 9 500 50 9)).answer 15 13
    × Refuses (sections no_signals 14 0x4359430000000000000000000001 (lent 9 500 50 9)).answer 16 14
    × Refuses (sections no_signals 32 0x43594300ffffffffffffffff0001007f45435900544149000000000000000000 ample).answer 15 13
    × Gives (sections no_signals 32 0x43594300ffffffffffffffff0000007f45435900544149000000000000000000 ample) (0, 0, 32, 18, 0, 2) []
unfolding opened
time_sum = (refl, refl, refl, refl)

-- A18. 14 in a change record stands at the value byte.
pub value_byte :
    Refuses (changes (lone 2) 15 0x010000000000000000020000000102 ample).answer 14 14
unfolding opened
value_byte = refl

-- A19. 16 in a record stands behind the record.
pub record_read :
    Refuses (changes (two_state 2) 16 0x01000000000000000002000000010104 (lent 9 500 50 9)).answer 16 16
    × Refuses (rule 9 0x010000000000000000 0 8).answer 16 9
unfolding opened
record_read = (refl, refl)

-- A20. A dropped event is judged; only a kept one needs room.
pub dropped_judged :
    Refuses (rule 31 0x01000000000000000501000000000000000402000000010000000000000001 0 500).answer 20 18
    × Keeps (rule 18 0x010000000000000005010000000000000004 0 9) (0, 0, 18, 9, 0, 1) (big_bytes 9 0x010000000000000005)
unfolding opened
dropped_judged = (refl, refl)

-- A21. Start plus length is a plain sum and may equal the end; a length of 0 is judged too.
pub plain_end :
    Refuses (rule 22 0x0100000000000000000200000001ffffffff00000001 0 500).answer 20 9
    × Refuses (rule 22 0x01000000000000000002000000010000000100000000 0 500).answer 20 9
    × Keeps (rule 22 0x01000000000000000002000000010000000000000000 0 500) (0, 0, 22, 22, 0, 1) (big_bytes 22 0x01000000000000000002000000010000000000000000)
unfolding opened
plain_end = (refl, refl, refl)

-- A22. The time rule passes a reference of 0 on.
pub reference_zero :
    Keeps (rule 22 0x01000000000000000002000000000000000000000000 0 500) (0, 0, 22, 22, 0, 1) (big_bytes 22 0x01000000000000000002000000000000000000000000)
unfolding opened
reference_zero = refl

-- A23. An empty stream is good.
pub empty_stream :
    Keeps (rule 0 0 0 500) (0, 0, 0, 0, 0, 0) []
unfolding opened
empty_stream = refl

-- A24. Any time opens a step of change records.
pub any_time :
    Gives (changes no_signals 20 0x0100000000000000050401000000000000000404 ample) (0, 0, 20, 18, 0, 2) []
unfolding opened
any_time = refl

-- A25. In a change record: 17, 7, 18, 13, 19, 14.
pub record_order :
    Refuses (changes no_signals 1 0x05 ample).answer 17 0
    × Refuses (changes no_signals 1 0x02 ample).answer 7 0
    × Refuses (changes no_signals 6 0x020000000000 ample).answer 18 0
    × Refuses (changes no_signals 1 0x04 ample).answer 18 0
    × Refuses (changes (lone 5) 15 0x0100000000000000000200000001ff ample).answer 19 9
    × Refuses (changes (lone 2) 22 0x01000000000000000003000000020000000000000000 ample).answer 13 9
unfolding opened
record_order = (refl, refl, refl, refl, refl, refl)

-- A26. Whatever refused, every lent buffer is zeroed whole; the working buffers are zeroed whole always.
pub zeroed_whole : (n p e v r l : ℕ) → leaves (lent e v r l) (refused n p) ≡ left (answer (refused n p)) (replicate e 0) (replicate v 0) (replicate r 0) (replicate l 0)
unfolding opened
zeroed_whole n p e v r l = rw (sub-zero e, sub-zero v) refl

pub working_zero : (o : Outcome) (l : Lent) → ((leaves l o).room ≡ replicate l.room 0) × ((leaves l o).list ≡ replicate l.list 0)
unfolding opened
working_zero o l = (refl, refl)

-- A36. Every step makes its time event.
pub every_step :
    Gives (sections no_signals 32 0x534e500000000000000000000000000045534e00544149000000000000000000 ample) (0, 0, 32, 9, 0, 1) []
    × Gives (sections no_signals 32 0x4359430000000000000000000000007f45435900544149000000000000000000 ample) (0, 0, 32, 18, 0, 2) []
unfolding opened
every_step = (refl, refl)

-- A37. An end mark opens no section.
pub end_mark_first :
    Refuses (sections no_signals 4 0x45534e00 ample).answer 8 0
unfolding opened
end_mark_first = refl

-- A38. Stored values stay over sections.
pub values_stay :
    Gives (sections (two_state 9) 52 0x4359430000000000000000000901007f454359004359430000000000000000000801007f45435900544149000000000000000000 ample) (0, 0, 52, 44, 4, 2) (big_bytes 4 0x00010003)
unfolding opened
values_stay = refl

-- A39. Either working buffer short is 6; the second counts numbers; without vectors none is needed.
pub rooms_needed :
    Gives (tailer (two_state 9) (lent 500 500 6 1)) (0, 0, 12, 0, 0, 0) []
    × Refuses (tailer (two_state 9) (lent 500 500 5 1)).answer 6 0
    × Refuses (tailer (two_state 9) (lent 500 500 6 0)).answer 6 0
    × Gives (tailer (lone 2) (lent 500 500 0 0)) (0, 0, 12, 0, 0, 0) []
unfolding opened
rooms_needed = (refl, refl, refl, refl)

-- A40. Bytes behind the tailer are not read, but count for the input's limit.
pub after_tailer :
    Gives (sections no_signals 13 0x54414900000000000000000058 ample) (0, 0, 12, 0, 0, 0) []
unfolding opened
after_tailer = refl

pub longest_input : (s : List ℕ) → length s ≡ 16777216 → Refuses (read_sections no_signals (ordinary false) s ample).answer 1 0
unfolding opened
longest_input s h = rw h refl

-- A41. A vector of width 1 makes an event of each write.
pub width_one :
    Gives (changes (two_state 1) 28 0x01000000000000000002000000010102000000010102000000010004 ample) (0, 0, 28, 48, 3, 1) (big_bytes 3 0x010100)
unfolding opened
width_one = refl

-- A42. A vector keeps the place of its first write after an early event.
pub first_write :
    Gives (changes (tables (3 ∷ 3 ∷ 3 ∷ 3 ∷ []) (1 ∷ 1 ∷ 2 ∷ 2 ∷ []) (1 ∷ 1 ∷ 2 ∷ 2 ∷ []) (1 ∷ 3 ∷ []) (2 ∷ 4 ∷ []) (1 ∷ 1 ∷ []) (1 ∷ 2 ∷ [])) 28 0x01000000000000000002000000020102000000040102000000020004 ample) (0, 0, 28, 48, 3, 1) (big_bytes 3 0x010001)
unfolding opened
first_write = refl

-- A43. A byte's place counts from 0, an id from 1.
pub places :
    Refuses (sections no_signals 20 0x444952000000000000000000454f440058585858 ample).answer 8 16
    × Refuses (tailer (lone 7) ample).answer 4 1
unfolding opened
places = (refl, refl)
