-- Rows that try the two entries on small inputs, each by computation: document 01's worked input written back, and each refusal at its limit.
-- Assumes nothing.
use Rattle.std.specs.Prelude.{ℕ, ◌≡◌, refl, true, false, List, [], ◌∷◌, ◌++◌, length, replicate}
use Rattle.numbers.specs.Fixed.{big_bytes}
use Rattle.leb128.specs.Shortest as shortest
use Rattle.states.specs.Letters as letters
use Rattle.number_writer.specs.Little as littles
use Rattle.tables.specs.Lists.{Lists}
use Rattle.checks.specs.Checked as checks
use Rattle.sections_writer.specs.Writer as writer
use Rattle.read_back.specs.ReadBack as back
use Rattle.answers.specs.Outcome.{LeftKept}
use Rattle.entry_rows.specs.Rows.{Refuses, Keeps, tables, no_signals, lone, small}
use Rattle.entries.specs.Opened.{opened}
use Rattle.answers.specs.Filled.{filled}
use Rattle.entries.specs.Written.{write_sections, read_back}

unfoldable all : Unit {0}
unfolding opened shortest.fits shortest.rest shortest.groups littles.little_bytes littles.fixed_bytes checks.checks_without_room writer.time_bytes writer.time_good writer.value_bytes writer.write_bytes writer.cycle_end writer.closing writer.given_time writer.given_write writer.given writer.one writer.writing writer.write_sections letters.unmapped back.byte_of back.write_of back.record_of back.times back.giving back.read_back filled write_sections read_back
all = tt

-- the entries over n bytes, written as one number
abbrev written : Lists → (n s room : ℕ) → LeftKept
written t n s room = write_sections t false (big_bytes n s) room

abbrev restored : Lists → (n s room : ℕ) → LeftKept
restored t n s room = read_back t false (big_bytes n s) room

-- ---- document 01's worked input

-- "SNP, 12 zero bytes, `03 01 00 2A`, ESN; CYC, time 10, `03 01 00 05 01 04 00 7F`, ECY; TAI and 8 zeros"
abbrev input : List ℕ
input = big_bytes 60 0x534e50000000000000000000000000000301002a45534e00435943000a00000000000000030100050104007f45435900544149000000000000000000

-- its steps as change records
abbrev stream : List ℕ
stream = big_bytes 66 0x01000000000000000002000000010302000000020102000000030002000000042a0401000000000000000a0200000003010401000000000000000f02000000010404

-- .. and as one cycle: time 0, `01 03 01 01 01 00 01 2A 00`, delta 10, `03 01 00`, delta 5, `01 04 00`, delta -1, ECY; TAI and 8 zeros
abbrev cycle : List ℕ
cycle = big_bytes 46 0x435943000000000000000000010301010100012a000a030100050104007f45435900544149000000000000000000

abbrev left : (number place read bytes steps : ℕ) → List ℕ → LeftKept
left n p i b k out = record { answer = record { number = n; place = p; read = i; events = b; values = 0; steps = k }; kept = out }

-- read back, written, read back again; what lies past the reported bytes is zero, and so is all after a refusal
pub worked :
    (read_back small false input 68 ≡ left 0 0 60 66 3 (stream ++ (0 ∷ 0 ∷ [])))
    × (write_sections small false stream 48 ≡ left 0 0 66 46 3 (cycle ++ (0 ∷ 0 ∷ [])))
    × (read_back small false cycle 66 ≡ left 0 0 46 66 3 stream)
    × (read_back small false input 65 ≡ left 16 43 0 0 0 (replicate 65 0))
    × (write_sections small false stream 45 ≡ left 16 66 0 0 0 (replicate 45 0))
    × (read_back small false cycle 65 ≡ left 16 29 0 0 0 (replicate 65 0))
unfolding all
worked = (refl, refl, refl, refl, refl, refl)

-- ---- the checks: 1 to 5 in this order, and no 6, for there is no working room

pub checked_first :
    Keeps (written small 0 0 1073741823) (0, 0, 0, 12, 0, 0) (big_bytes 12 0x544149000000000000000000)
    × Refuses (written small 0 0 1073741824).answer 1 0
    × Refuses (restored small 0 0 1073741824).answer 1 0
    × Refuses (written (tables (3 ∷ []) [] [] [] [] [] []) 0 0 1073741824).answer 1 0
    × Refuses (written (tables (3 ∷ []) [] [] [] [] [] []) 0 0 99).answer 2 0
    × Refuses (restored (tables (3 ∷ []) [] [] [] [] [] []) 0 0 99).answer 2 0
    × Refuses (written (tables (7 ∷ []) (1 ∷ []) (0 ∷ []) (1 ∷ []) (2 ∷ []) (1 ∷ []) (1 ∷ [])) 1 0x05 99).answer 3 1
    × Refuses (restored (tables (7 ∷ []) (1 ∷ []) (0 ∷ []) (1 ∷ []) (2 ∷ []) (1 ∷ []) (1 ∷ [])) 0 0 99).answer 3 1
    × Refuses (written (tables (7 ∷ []) (1 ∷ []) (0 ∷ []) (1 ∷ []) (1 ∷ []) (1 ∷ []) (1 ∷ [])) 1 0x05 99).answer 4 1
    × Refuses (restored (tables (7 ∷ []) (1 ∷ []) (0 ∷ []) (1 ∷ []) (1 ∷ []) (1 ∷ []) (1 ∷ [])) 0 0 99).answer 4 1
    × Refuses (written (tables (2 ∷ []) (1 ∷ []) (0 ∷ []) (1 ∷ []) (1 ∷ []) (1 ∷ []) (1 ∷ [])) 1 0x05 99).answer 5 1
    × Refuses (restored (tables (2 ∷ []) (1 ∷ []) (0 ∷ []) (1 ∷ []) (1 ∷ []) (1 ∷ []) (1 ∷ [])) 0 0 99).answer 5 1
unfolding all
checked_first = (refl, refl, refl, refl, refl, refl, refl, refl, refl, refl, refl, refl)

-- "16,777,215 section or change bytes", of any input of that length
pub input_over_limit : (s : List ℕ) → length s ≡ 16777216 → Refuses (write_sections no_signals false s 99).answer 1 0 × Refuses (read_back no_signals false s 99).answer 1 0
unfolding all
input_over_limit s h = (rw h refl, rw h refl)

-- ---- writing

-- 01's refusals of change reading: 17, 7 in a record and in an open step, 18, 13, 19, 14
pub stream_refused :
    Refuses (written no_signals 1 0x05 99).answer 17 0
    × Refuses (written no_signals 1 0x02 99).answer 7 0
    × Refuses (written no_signals 9 0x010000000000000000 99).answer 7 9
    × Refuses (written no_signals 1 0x04 99).answer 18 0
    × Refuses (written no_signals 15 0x010000000000000000020000000100 99).answer 13 9
    × Refuses (written (lone 5) 15 0x010000000000000000020000000100 99).answer 19 9
    × Refuses (written (lone 2) 15 0x010000000000000000020000000102 99).answer 14 14
unfolding all
stream_refused = (refl, refl, refl, refl, refl, refl, refl)

-- "22 ids not rising": equal and falling ones; a step begins anew; after 14, before 16
pub ids_rise :
    Keeps (written small 22 0x01000000000000000002000000020102000000030104 35) (0, 0, 22, 34, 0, 1) (big_bytes 34 0x43594300000000000000000002010101007f45435900544149000000000000000000)
    × Refuses (written small 22 0x01000000000000000002000000030102000000030104 99).answer 22 15
    × Refuses (written small 22 0x01000000000000000002000000030102000000020104 99).answer 22 15
    × Refuses (written small 22 0x01000000000000000002000000030102000000020204 99).answer 14 20
    × Refuses (written small 22 0x01000000000000000002000000030102000000020104 14).answer 22 15
    × Refuses (written small 22 0x01000000000000000002000000030102000000020104 13).answer 16 15
unfolding all
ids_rise = (refl, refl, refl, refl, refl, refl)

-- "23 time falls or jumps too far": one less, equal, 2^63-1 more, 2^63 more; before 16
pub times_rise :
    Refuses (written no_signals 20 0x0100000000000001020401000000000000010104 99).answer 23 10
    × Keeps (written no_signals 20 0x0100000000000001020401000000000000010204 32) (0, 0, 20, 32, 0, 2) (big_bytes 32 0x4359430002010000000000000000007f45435900544149000000000000000000)
    × Keeps (written no_signals 20 0x0100000000000000010401800000000000000004 41) (0, 0, 20, 41, 0, 2) (big_bytes 41 0x43594300010000000000000000ffffffffffffffffff00007f45435900544149000000000000000000)
    × Refuses (written no_signals 20 0x0100000000000000000401800000000000000004 99).answer 23 10
    × Refuses (written no_signals 20 0x0100000000000000000401800000000000000004 13).answer 23 10
    × Refuses (written no_signals 20 0x0100000000000000000401000000000000000104 13).answer 16 19
unfolding all
times_rise = (refl, refl, refl, refl, refl, refl)

-- 16 after a time, a write, a step end, and at the input's end; an empty stream takes 12 bytes; a real is little-endian under either flag
pub room_short :
    Refuses (written (lone 4) 16 0x0100000000000000000200000001ff04 11).answer 16 9
    × Refuses (written (lone 4) 16 0x0100000000000000000200000001ff04 13).answer 16 15
    × Refuses (written (lone 4) 16 0x0100000000000000000200000001ff04 14).answer 16 16
    × Refuses (written (lone 4) 16 0x0100000000000000000200000001ff04 31).answer 16 16
    × Keeps (written (lone 4) 16 0x0100000000000000000200000001ff04 32) (0, 0, 16, 32, 0, 1) (big_bytes 32 0x43594300000000000000000001ff007f45435900544149000000000000000000)
    × Keeps (written no_signals 0 0 12) (0, 0, 0, 12, 0, 0) (big_bytes 12 0x544149000000000000000000)
    × Refuses (written no_signals 0 0 11).answer 16 0
    × Keeps (write_sections (lone 6) true (big_bytes 23 0x0100000000000000020300000001010203040506070804) 39) (0, 0, 23, 39, 0, 1)
    (big_bytes 39 0x435943000000000000000002010807060504030201007f45435900544149000000000000000000)
unfolding all
room_short = (refl, refl, refl, refl, refl, refl, refl, refl)

-- ---- reading back

-- 01's refusals of section reading, 7 to 15, and 16 at the next unread byte
pub sections_refused :
    Refuses (restored no_signals 0 0 99).answer 7 0
    × Refuses (restored no_signals 4 0x45534e00 99).answer 8 0
    × Refuses (restored no_signals 16 0x534e5000010000000000000000000000 99).answer 9 4
    × Refuses (restored no_signals 18 0x435943000000000000000000007f58585858 99).answer 10 14
    × Refuses (restored no_signals 12 0x4449520000000000ffffffff 99).answer 11 8
    × Refuses (restored no_signals 22 0x43594300000000000000000080808080808080808080 99).answer 12 12
    × Refuses (restored no_signals 13 0x43594300000000000000000001 99).answer 13 12
    × Refuses (restored (lone 2) 14 0x4359430000000000000000000102 99).answer 14 13
    × Refuses (restored no_signals 14 0x43594300ffffffffffffffff0001 99).answer 15 13
    × Refuses (restored no_signals 12 0x435943000000000000000000 8).answer 16 12
    × Keeps (restored no_signals 12 0x544149000000000000000000 0) (0, 0, 12, 0, 0, 0) []
unfolding all
sections_refused = (refl, refl, refl, refl, refl, refl, refl, refl, refl, refl, refl)

-- a padded number is read as ever, and written again in its shortest form
pub padded_read :
    Keeps (restored (lone 4) 34 0x4359430000000000000000008100ff80007f45435900544149000000000000000000 16) (0, 0, 34, 16, 0, 1) (big_bytes 16 0x0100000000000000000200000001ff04)
unfolding all
padded_read = refl
