-- "Marks are three letters and a zero byte": the seven marks, and which section a mark opens.
-- Assumes nothing.
use Rattle.std.specs.Prelude.{ℕ, Bool, true, false, cond, ◌&&◌, List, [], ◌∷◌, eqb}
use Rattle.numbers.specs.declared.marks.Section.{Section}
use Rattle.numbers.specs.declared.marks.Section.TheVariants.{Snapshot, Cycle, Directory, Tailer, Unknown}
pub mod Laws
pub mod Code

-- "Marks are three letters and a zero byte: `SNP`, `CYC`, `DIR`, `TAI`, ..
abbrev pub snp : List ℕ
snp = 0x53 ∷ 0x4e ∷ 0x50 ∷ 0 ∷ []

abbrev pub cyc : List ℕ
cyc = 0x43 ∷ 0x59 ∷ 0x43 ∷ 0 ∷ []

abbrev pub dir : List ℕ
dir = 0x44 ∷ 0x49 ∷ 0x52 ∷ 0 ∷ []

abbrev pub tai : List ℕ
tai = 0x54 ∷ 0x41 ∷ 0x49 ∷ 0 ∷ []

-- .. and ends `ESN`, `ECY`, `EOD`."
abbrev pub esn : List ℕ
esn = 0x45 ∷ 0x53 ∷ 0x4e ∷ 0 ∷ []

abbrev pub ecy : List ℕ
ecy = 0x45 ∷ 0x43 ∷ 0x59 ∷ 0 ∷ []

abbrev pub eod : List ℕ
eod = 0x45 ∷ 0x4f ∷ 0x44 ∷ 0 ∷ []

-- whether two lists are equal
unfoldable pub same : List ℕ → List ℕ → Bool
same [] [] = true
same [] (b ∷ bs) = false
same (a ∷ l) [] = false
same (a ∷ l) (b ∷ bs) = eqb a b && same l bs

-- the section that a mark opens; an end mark opens none
unfoldable pub section_of : List ℕ → Section
section_of m =
    cond (same m snp) Snapshot (cond (same m cyc) Cycle (cond (same m dir) Directory (cond (same m tai) Tailer Unknown)))
