-- Section bytes and what they are read back as, as one table under one statement: the listing's example, the tailer alone, a directory, and refusals at their limits.
-- Assumes nothing.
use Rattle.std.specs.Prelude.{◌≡◌, refl, ℕ, ◌+◌, ◌-◌, ◌^◌, Bool, true, false, List, [], ◌∷◌, ◌++◌, replicate}
use Rattle.slices.specs.Splice.{part}
use Rattle.numbers.specs.Fixed.{big, little, fixed, negative, big_bytes}
use Rattle.leb128.specs.Leb128.{goes_on, leb_of, signed_bits, signed_tenth, signed_value, unsigned_tenth}
use Rattle.leb128.specs.Leb128 as leb
use Rattle.numbers.specs.Marks.{same, section_of, snp, esn, cyc, ecy, dir, eod, tai}
use Rattle.number_writer.specs.Ended.{Ended, wrote, refused}
use Rattle.states.specs.Letters.{ieee1164, crate_order, place_of, mapped, unmapped}
use Rattle.tables.specs.Lists.{Lists, lists, nth, signals}
use Rattle.values.specs.Value.{on_read, number, unsigned, signed, byte_up_to, real, narrow, value}
use Rattle.rules.specs.Scan.{and_then}
use Rattle.section_scan.specs.Sections.{field, end_mark, each_value, next_id, one_change, change_list, next_time, snapshot, one_step, steps, cycle, entries, directory, one_section, sections, scan_sections}
use Rattle.read_back.specs.ReadBack.{byte_of, write_of, record_of, times, giving, read_back}

-- change records
abbrev opens : ℕ → List ℕ
opens u = 1 ∷ big_bytes 8 u

abbrev byte : ℕ → ℕ → List ℕ
byte id b = 2 ∷ (big_bytes 4 id ++ (b ∷ []))

abbrev wide : ℕ → ℕ → List ℕ
wide id v = 3 ∷ (big_bytes 4 id ++ big_bytes 8 v)

abbrev over : List ℕ
over = 4 ∷ []

abbrev tailer : List ℕ
tailer = tai ++ replicate 8 0

-- the listing's tables, and those of an integer and a real
abbrev listed : Lists
listed = lists (0 ∷ 3 ∷ 3 ∷ 4 ∷ []) (1 ∷ 2 ∷ 2 ∷ 3 ∷ []) (0 ∷ 1 ∷ 1 ∷ 0 ∷ []) (2 ∷ []) (3 ∷ []) (1 ∷ []) (2 ∷ [])

abbrev wides : Lists
wides = lists (5 ∷ 6 ∷ []) (1 ∷ 2 ∷ []) (0 ∷ 0 ∷ []) [] [] [] []

-- the listing's section bytes, and its steps as change records
abbrev listing : List ℕ
listing = snp ++ replicate 12 0 ++ (3 ∷ 1 ∷ 0 ∷ 0x2A ∷ []) ++ esn ++ cyc ++ (10 ∷ replicate 7 0) ++ (3 ∷ 1 ∷ 0 ∷ 5 ∷ 1 ∷ 4 ∷ 0 ∷ 0x7F ∷ []) ++ ecy ++ tailer

abbrev stream : List ℕ
stream = opens 0 ++ byte 1 3 ++ byte 2 1 ++ byte 3 0 ++ byte 4 0x2A ++ over ++ opens 10 ++ byte 3 1 ++ over ++ opens 15 ++ byte 1 4 ++ over

-- an integer of -65 and a real, big-endian
abbrev numbers : List ℕ
numbers = cyc ++ (replicate 7 0 ++ (7 ∷ [])) ++ (1 ∷ 0xBF ∷ 0x7F ∷ 1 ∷ 2 ∷ 1 ∷ 0 ∷ 0 ∷ 0 ∷ 0 ∷ 0 ∷ 0 ∷ 0 ∷ 0x7F ∷ []) ++ ecy ++ tailer

abbrev Gives : Lists → Bool → List ℕ → ℕ → Ended → Type 0
Gives t flag s room r = read_back t flag s room ≡ r

pub examples :
    Gives listed false listing 66 (wrote 60 stream 3)
    × Gives listed false listing 65 (refused 16 43)
    × Gives listed false tailer 0 (wrote 12 [] 0)
    × Gives listed false [] 9 (refused 7 0)
    × Gives listed false (dir ++ replicate 4 0 ++ (1 ∷ 0 ∷ 0 ∷ 0 ∷ []) ++ replicate 8 0 ++ eod ++ tailer) 0 (wrote 36 [] 0)
    × Gives listed false (dir ++ replicate 7 0 ++ (128 ∷ []) ++ eod ++ tailer) 0 (refused 11 8)
    × Gives listed false esn 9 (refused 8 0)
    × Gives wides true numbers 36 (wrote 42 (opens 7 ++ wide 1 (2 ^ 64 - 65) ++ wide 2 258 ++ over) 1)
    × Gives wides true numbers 8 (refused 16 12)
unfolding
    read_back giving record_of times write_of byte_of unmapped
    scan_sections sections one_section directory entries cycle steps one_step next_time change_list one_change next_id snapshot each_value end_mark field and_then
    on_read number unsigned signed byte_up_to real narrow value nth signals mapped ieee1164 crate_order place_of
    leb_of goes_on leb.value signed_bits signed_value signed_tenth unsigned_tenth
    part big little fixed negative big_bytes same section_of
examples = (refl, refl, refl, refl, refl, refl, refl, refl, refl)
