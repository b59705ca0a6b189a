-- Document 01's worked input, and the examples that it wants proved together.
-- Assumes nothing.
use Rattle.std.specs.Prelude.{ℕ, ◌-◌, ◌^◌, ◌≡◌, refl, false, List, [], ◌∷◌, ◌++◌, replicate, pos, neg_ℤ}
use Rattle.std.proofs.Common.{of_z}
use Rattle.std.specs.Int.{w64}
use Rattle.numbers.specs.Fixed.{big_bytes}
use Rattle.values.specs.Read.{Value, Bad}
use Rattle.values.specs.Value.{ordinary, unsigned, signed}
use Rattle.rules.specs.Gather.{time, write, step_end}
use Rattle.rules.specs.Scan.{say, done, fault}
use Rattle.section_scan.specs.Sections.{scan_sections}
use Rattle.changes.specs.Changes.{scan_changes}
use Rattle.answers.specs.Outcome.{Left, Lent}
use Rattle.entries.specs.Entries.{read_sections}
use Rattle.entry_rows.specs.Rows.{Refuses, Fully, left, lent, ample, nine_state, small, changes}
use Rattle.entries.specs.Opened.{opened}

-- "SNP, 12 zero bytes, `03 01 00 2A`, ESN; CYC, time 10, `03 01 00 05 01 04 00 7F`, ECY; TAI and 8 zeros"
abbrev input : List ℕ
input = big_bytes 60 0x534e50000000000000000000000000000301002a45534e00435943000a00000000000000030100050104007f45435900544149000000000000000000

abbrev worked : Lent → Left
worked l = read_sections small (ordinary false) input l

-- time 0, nine 1, two 2, two 3; time 10, two 2; time 15, nine 1
abbrev events : List ℕ
events = big_bytes 92 0x01000000000000000003000000010000000000000001020000000200000001000000010200000003000000020000000101000000000000000a0200000002000000030000000101000000000000000f03000000010000000400000001

abbrev values : List ℕ
values = big_bytes 5 0x01022a0303

-- just enough is lent
pub worked_answer : Fully (worked (lent 92 5 4 1)) (0, 0, 60, 92, 5, 3) events values
unfolding opened
worked_answer = refl

-- one byte, or one number, less of each
pub worked_short :
    Refuses (worked (lent 91 5 4 1)).answer 16 42
    × Refuses (worked (lent 92 4 4 1)).answer 16 42
    × Refuses (worked (lent 92 5 3 1)).answer 6 0
    × Refuses (worked (lent 92 5 4 0)).answer 6 0
unfolding opened
worked_short = (refl, refl, refl, refl)

-- all that is lent, where it is more than enough: "Output past the reported bytes is zero. Working buffers are zero at every return."
pub worked_left :
    worked (lent 95 7 6 2)
    ≡ left (record { number = 0; place = 0; read = 60; events = 92; values = 5; steps = 3 }) (events ++ 0 ∷ 0 ∷ 0 ∷ []) (values ++ 0 ∷ 0 ∷ []) (0 ∷ 0 ∷ 0 ∷ 0 ∷ 0 ∷ 0 ∷ []) (0 ∷ 0 ∷ [])
unfolding opened
worked_left = refl

-- .. and where the last event does not fit
pub worked_left_short :
    worked (lent 91 7 6 2)
    ≡ left (record { number = 16; place = 42; read = 0; events = 0; values = 0; steps = 0 }) (replicate 91 0) (replicate 7 0) (replicate 6 0) (replicate 2 0)
unfolding opened
worked_left_short = refl

-- what it says, each act with the place of the next unread byte
pub worked_scan :
    scan_sections small (ordinary false) input
    ≡ say (time 0) 16 (say (write 1 1 16) 17 (say (write 2 1 17) 18 (say (write 3 0 18) 19 (say (write 4 42 19) 20 (say step_end 20
    (say (time 10) 36 (say (write 3 1 37) 38 (say step_end 39
    (say (time 15) 40 (say (write 1 3 41) 42 (say step_end 43 (done 60))))))))))))
unfolding opened
worked_scan = refl

-- a write of a change record has its record's place
pub changes_scan :
    scan_changes small (big_bytes 30 0x010000000000000007020000000301020000000108040100000000000000)
    ≡ say (time 7) 9 (say (write 3 1 9) 15 (say (write 1 8 15) 21 (say step_end 22 (fault 7 22))))
unfolding opened
changes_scan = refl

-- "Prove together, as one table under a single statement": unsigned and signed numbers, the latter as the 64 bits of theirs;
-- "mapped nine-state values 5,1,8 by rising id pack to `05 18`"; "on ids 2, 3 above, each in one step from zero, writes 3=1, 3=0 give `01`, `00`;
-- 3=1, 3=1 give one `01`; 3=1, 2=1, 2=1 give `03`, `03`"
pub proved_together :
    (unsigned (big_bytes 1 0x7f) 0 ≡ Value 127 1)
    × (unsigned (big_bytes 2 0x8001) 0 ≡ Value 128 2)
    × (unsigned (big_bytes 2 0xb964) 0 ≡ Value 12857 2)
    × (unsigned (big_bytes 2 0x8000) 0 ≡ Value 0 2)
    × (unsigned (big_bytes 10 0xffffffffffffffffff01) 0 ≡ Value (2 ^ 64 - 1) 10)
    × (unsigned (big_bytes 10 0xffffffffffffffffff02) 0 ≡ Bad 12 0)
    × (signed (big_bytes 1 0x7e) 0 ≡ Value (of_z w64 (neg_ℤ (pos 2))) 1)
    × (signed (big_bytes 2 0x807f) 0 ≡ Value (of_z w64 (neg_ℤ (pos 128))) 2)
    × (signed (big_bytes 2 0xff7e) 0 ≡ Value (of_z w64 (neg_ℤ (pos 129))) 2)
    × (signed (big_bytes 10 0x8080808080808080807f) 0 ≡ Value (of_z w64 (neg_ℤ (pos (2 ^ 63)))) 10)
    × Fully (changes (nine_state 3) 28 0x01000000000000000002000000010002000000020302000000030804 ample) (0, 0, 28, 22, 2, 1)
    (big_bytes 22 0x01000000000000000003000000010000000000000002) (big_bytes 2 0x0518)
    × Fully (changes small 22 0x01000000000000000002000000030102000000030004 ample) (0, 0, 22, 35, 2, 1)
    (big_bytes 35 0x0100000000000000000200000002000000000000000102000000020000000100000001) (big_bytes 2 0x0100)
    × Fully (changes small 22 0x01000000000000000002000000030102000000030104 ample) (0, 0, 22, 22, 1, 1)
    (big_bytes 22 0x01000000000000000002000000020000000000000001) (big_bytes 1 0x01)
    × Fully (changes small 28 0x01000000000000000002000000030102000000020102000000020104 ample) (0, 0, 28, 35, 2, 1)
    (big_bytes 35 0x0100000000000000000200000002000000000000000102000000020000000100000001) (big_bytes 2 0x0303)
unfolding opened
proved_together = (refl, refl, refl, refl, refl, refl, refl, refl, refl, refl, refl, refl, refl, refl)
