-- Streams and what they are written as, as one table under one statement: the listing's example, the empty stream, and each refusal at its limit.
-- Assumes nothing.
use Rattle.std.specs.Prelude.{◌≡◌, refl, ℕ, ◌+◌, ◌-◌, ◌^◌, Bool, true, false, List, [], ◌∷◌, ◌++◌, replicate}
use Rattle.slices.specs.Splice.{part}
use Rattle.numbers.specs.Fixed.{big, little, big_bytes}
use Rattle.numbers.specs.Marks.{cyc, ecy, tai}
use Rattle.number_writer.specs.Ended.{Ended, wrote, refused}
use Rattle.leb128.specs.Shortest.{fits, rest, groups}
use Rattle.number_writer.specs.Little.{little_bytes, fixed_bytes}
use Rattle.states.specs.Letters.{mapped}
use Rattle.tables.specs.Lists.{Lists, lists, nth, signals}
use Rattle.values.specs.Value.{on_read, byte_up_to, narrow}
use Rattle.changes.specs.Changes.{record_length, written, write_record, in_order, change_record, next_change}
use Rattle.sections_writer.specs.Writer.{time_bytes, time_good, value_bytes, write_bytes, cycle_end, closing, given_time, given_write, given, one, writing, write_sections}

-- change records
abbrev opens : ℕ → List ℕ
opens u = 1 ∷ big_bytes 8 u

abbrev byte : ℕ → ℕ → List ℕ
byte id b = 2 ∷ (big_bytes 4 id ++ (b ∷ []))

abbrev wide : ℕ → ℕ → List ℕ
wide id v = 3 ∷ (big_bytes 4 id ++ big_bytes 8 v)

abbrev over : List ℕ
over = 4 ∷ []

abbrev tailer : List ℕ
tailer = tai ++ replicate 8 0

abbrev cycle_over : List ℕ
cycle_over = 0x7F ∷ ecy ++ tailer

-- the listing's tables, and those of an integer and a real
abbrev listed : Lists
listed = lists (0 ∷ 3 ∷ 3 ∷ 4 ∷ []) (1 ∷ 2 ∷ 2 ∷ 3 ∷ []) (0 ∷ 1 ∷ 1 ∷ 0 ∷ []) (2 ∷ []) (3 ∷ []) (1 ∷ []) (2 ∷ [])

abbrev wides : Lists
wides = lists (5 ∷ 6 ∷ []) (1 ∷ 2 ∷ []) (0 ∷ 0 ∷ []) [] [] [] []

-- the listing's steps as change records: 66 bytes
abbrev stream : List ℕ
stream = opens 0 ++ byte 1 3 ++ byte 2 1 ++ byte 3 0 ++ byte 4 0x2A ++ over ++ opens 10 ++ byte 3 1 ++ over ++ opens 15 ++ byte 1 4 ++ over

abbrev stream_bytes : List ℕ
stream_bytes = cyc ++ replicate 8 0 ++ (1 ∷ 3 ∷ 1 ∷ 1 ∷ 1 ∷ 0 ∷ 1 ∷ 0x2A ∷ 0 ∷ 10 ∷ 3 ∷ 1 ∷ 0 ∷ 5 ∷ 1 ∷ 4 ∷ 0 ∷ []) ++ cycle_over

-- two steps that write nothing
abbrev two : ℕ → ℕ → List ℕ
two u v = opens u ++ over ++ opens v ++ over

abbrev mark : Bool → ℕ → List ℕ
mark flag u = cyc ++ fixed_bytes flag 8 u

abbrev Gives : Lists → Bool → List ℕ → ℕ → Ended → Type 0
Gives t flag s room e = write_sections t flag s room ≡ e

pub examples :
    Gives listed false stream 46 (wrote 66 stream_bytes 3)
    × Gives listed false stream 45 (refused 16 66)
    × Gives listed false [] 12 (wrote 0 tailer 0)
    × Gives listed false [] 11 (refused 16 0)
    × Gives listed true (two 258 258) 32 (wrote 20 (cyc ++ (0 ∷ 0 ∷ 0 ∷ 0 ∷ 0 ∷ 0 ∷ 1 ∷ 2 ∷ []) ++ (0 ∷ 0 ∷ 0 ∷ []) ++ cycle_over) 2)
    × Gives listed false (two 258 257) 99 (refused 23 10)
    × Gives listed false (two 1 (2 ^ 63)) 99 (wrote 20 (mark false 1 ++ (0 ∷ []) ++ replicate 9 0xFF ++ (0 ∷ 0 ∷ []) ++ cycle_over) 2)
    × Gives listed false (two 0 (2 ^ 63)) 99 (refused 23 10)
    × Gives listed false (two 0 (2 ^ 63)) 12 (refused 16 10)
    × Gives listed false (opens 7 ++ byte 1 2 ++ byte 1 2 ++ over) 99 (refused 22 15)
    × Gives listed false (opens 7 ++ byte 2 1 ++ byte 1 9 ++ over) 99 (refused 14 20)
    × Gives listed false (opens 7 ++ byte 2 1 ++ byte 1 8 ++ over) 0 (refused 16 9)
    × Gives listed false (opens 7 ++ byte 2 1 ++ byte 1 8 ++ over) 14 (refused 22 15)
    × Gives listed false (opens 7 ++ byte 2 1 ++ over) 13 (refused 16 15)
    × Gives listed false (opens 7 ++ byte 2 1 ++ over) 14 (refused 16 16)
    × Gives listed false (opens 7) 99 (refused 7 9)
    × Gives wides true (opens 7 ++ wide 1 (2 ^ 64 - 65) ++ wide 2 258 ++ over) 99
    (wrote 36 (mark true 7 ++ (1 ∷ 0xBF ∷ 0x7F ∷ 1 ∷ 2 ∷ 1 ∷ 0 ∷ 0 ∷ 0 ∷ 0 ∷ 0 ∷ 0 ∷ 0 ∷ []) ++ cycle_over) 1)
unfolding
    write_sections writing one given given_time given_write closing cycle_end write_bytes value_bytes time_good time_bytes
    next_change change_record in_order write_record written record_length
    on_read byte_up_to narrow nth signals mapped
    part big little big_bytes little_bytes fixed_bytes fits rest groups
examples = (refl, refl, refl, refl, refl, refl, refl, refl, refl, refl, refl, refl, refl, refl, refl, refl, refl)
