-- Rows that try the entry over vector records on document 01's worked input, each by computation.
-- Assumes nothing.
use Rattle.std.specs.Prelude.{ℕ, ◌≡◌, refl, false, List, [], ◌∷◌, replicate}
use Rattle.numbers.specs.Fixed.{big_bytes}
use Rattle.values.specs.Value.{ordinary}
use Rattle.doorquill.specs.declared.Vector.{Vector}
use Rattle.answers.specs.Outcome.{Lent}
use Rattle.entries.specs.Entries.{read_sections}
use Rattle.entry_rows.specs.Rows.{Refuses, left, lent, small}
use Rattle.entries.specs.Opened.{opened}
use Rattle.doorquill.specs.Lent.{LeftLent, table_of, checks_lent, left_by, read_sections_lent}

abbrev vector : (min max state reference : ℕ) → Vector
vector a b s r = record { min = a; max = b; state = s; reference = r }

abbrev input : List ℕ
input = big_bytes 60 0x534e50000000000000000000000000000301002a45534e00435943000a00000000000000030100050104007f45435900544149000000000000000000

-- "id 1 kind 0 ref 1; ids 2, 3 kind 3 ref 2 vector 1 ..; id 4 kind 4 ref 3", with these vector records
abbrev worked : List Vector → Lent → (flat : ℕ) → LeftLent
worked vs l flat = read_sections_lent vs (0 ∷ 3 ∷ 3 ∷ 4 ∷ []) (1 ∷ 2 ∷ 2 ∷ 3 ∷ []) (0 ∷ 1 ∷ 1 ∷ 0 ∷ []) false input l flat

-- "vector 1 (min 2, max 3, two-state)": four numbers are enough, and all is as the flat table gives it
pub worked_lent : worked (vector 2 3 1 2 ∷ []) (lent 95 7 6 2) 4 ≡ record { left = read_sections small (ordinary false) input (lent 95 7 6 2); flat = 0 ∷ 0 ∷ 0 ∷ 0 ∷ [] }
unfolding opened table_of checks_lent left_by read_sections_lent
worked_lent = refl

-- one number less: every lent buffer is zero
pub worked_short :
    worked (vector 2 3 1 2 ∷ []) (lent 95 7 6 2) 3
    ≡ record { left = left (record { number = 6; place = 0; read = 0; events = 0; values = 0; steps = 0 }) (replicate 95 0) (replicate 7 0) (replicate 6 0) (replicate 2 0); flat = 0 ∷ 0 ∷ 0 ∷ [] }
unfolding opened table_of checks_lent left_by read_sections_lent
worked_short = refl

-- the order of the checks: 1 of `flat` before 2, 2 before 6 of `flat`, that before 3, and 3 before 6 of the core
pub worked_order :
    Refuses (worked (vector 2 3 1 2 ∷ []) (lent 95 7 6 2) 1073741824).left.answer 1 0
    × Refuses (read_sections_lent [] (0 ∷ []) [] [] false input (lent 95 7 6 2) 1073741824).left.answer 1 0
    × Refuses (read_sections_lent (vector 2 3 1 2 ∷ []) (0 ∷ []) [] [] false input (lent 95 7 6 2) 0).left.answer 2 0
    × Refuses (worked (vector 0 3 1 2 ∷ []) (lent 95 7 6 2) 3).left.answer 6 0
    × Refuses (worked (vector 0 3 1 2 ∷ []) (lent 95 7 0 0) 4).left.answer 3 1
    × Refuses (worked (vector 2 3 1 2 ∷ []) (lent 95 7 0 0) 4).left.answer 6 0
unfolding opened table_of checks_lent left_by read_sections_lent
worked_order = (refl, refl, refl, refl, refl, refl)

-- each field of a record counts
pub worked_fields :
    Refuses (worked (vector 2 2 1 2 ∷ []) (lent 95 7 6 2) 4).left.answer 4 3
    × Refuses (worked (vector 2 4 1 2 ∷ []) (lent 95 7 6 2) 4).left.answer 5 4
    × Refuses (worked (vector 2 3 2 2 ∷ []) (lent 95 7 6 2) 4).left.answer 3 1
    × Refuses (worked (vector 2 3 0 2 ∷ []) (lent 95 7 6 2) 4).left.answer 4 2
    × Refuses (worked (vector 2 3 1 3 ∷ []) (lent 95 7 6 2) 4).left.answer 4 2
unfolding opened table_of checks_lent left_by read_sections_lent
worked_fields = (refl, refl, refl, refl, refl)
