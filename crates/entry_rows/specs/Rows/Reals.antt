-- Reals in the two modes, under both flags: in a change list and in a snapshot.
-- Assumes nothing.
use Rattle.std.specs.Prelude.{ℕ, ◌≡◌, refl, Bool, true, false, List, [], ◌∷◌}
use Rattle.numbers.specs.Fixed.{big_bytes}
use Rattle.values.specs.Value.{manner}
use Rattle.answers.specs.Outcome.{Left}
use Rattle.entries.specs.Entries.{read_sections}
use Rattle.entry_rows.specs.Rows.{Fully, ample, plain}
use Rattle.entries.specs.Opened.{opened}

-- a signal of kind 6, and so many bytes of sections
abbrev reading : (flag reals : Bool) → (n s : ℕ) → Left
reading flag reals n s = read_sections (plain (6 ∷ []) (1 ∷ [])) (manner flag reals) (big_bytes n s) ample

-- a cycle at time 0 whose one step writes `3F F0 00 00 00 00 00 00`
abbrev listed : (flag reals : Bool) → Left
listed flag reals = reading flag reals 39 0x435943000000000000000000013ff0000000000000007f45435900544149000000000000000000

-- a snapshot with the same eight bytes
abbrev shot : (flag reals : Bool) → Left
shot flag reals = reading flag reals 40 0x534e50000000000000000000000000003ff000000000000045534e00544149000000000000000000

-- time 0, and the bits of the real
abbrev turned : List ℕ
turned = big_bytes 22 0x01000000000000000004000000013ff0000000000000

abbrev unturned : List ℕ
unturned = big_bytes 22 0x0100000000000000000400000001000000000000f03f

pub reals :
    Fully (listed true true) (0, 0, 39, 22, 0, 1) turned []
    × Fully (listed false true) (0, 0, 39, 22, 0, 1) unturned []
    × Fully (listed true false) (0, 0, 39, 22, 0, 1) unturned []
    × Fully (listed false false) (0, 0, 39, 22, 0, 1) unturned []
    × Fully (shot true true) (0, 0, 40, 22, 0, 1) turned []
    × Fully (shot false true) (0, 0, 40, 22, 0, 1) unturned []
    × Fully (shot true false) (0, 0, 40, 22, 0, 1) unturned []
unfolding opened
reals = (refl, refl, refl, refl, refl, refl, refl)

-- what is written for flag 1 is read alike in the first mode alone: the bytes of the real `3F F0 00 00 00 00 00 00`
pub written_reals :
    Fully (reading true false 39 0x43594300000000000000000001000000000000f03f007f45435900544149000000000000000000) (0, 0, 39, 22, 0, 1) turned []
    × Fully (reading true true 39 0x43594300000000000000000001000000000000f03f007f45435900544149000000000000000000) (0, 0, 39, 22, 0, 1) unturned []
unfolding opened
written_reals = (refl, refl)
