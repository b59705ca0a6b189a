-- Section reading over lent vector records: the answer and what each lent buffer holds at the end, from the inputs alone.
-- Assumes nothing.
use Rattle.std.specs.Prelude.{ℕ, ◌*◌, Bool, List, map, length, replicate, leb}
use Rattle.tables.specs.Lists.{Lists, lists, vectors}
use Rattle.tables.specs.Checks.{unless, and_then, within_limit, check1, check2}
use Rattle.tables.specs.Check.{Check, Passed, Refused}
use Rattle.values.specs.Value.{ordinary}
use Rattle.doorquill.specs.declared.Vector.{Vector}
use Rattle.answers.specs.Outcome.{refused, Left, Lent, leaves}
use Rattle.entries.specs.Entries.{read_sections}
pub mod Flat
pub mod Laws
pub mod Entry
pub mod Unique
pub mod Demands

-- "The host lends the vector table as a run of records": "each has min id, max id, state (0 nine, 1 two) and reference"
unfoldable pub table_of : List Vector → (kinds refs vecs : List ℕ) → Lists
table_of vs kinds refs vecs = lists kinds refs vecs (map (λ v. v.min) vs) (map (λ v. v.max) vs) (map (λ v. v.state) vs) (map (λ v. v.reference) vs)

-- the answer and what four of the lent buffers hold, and what `flat` holds
pub record LeftLent : Type 0 where
  pub left : Left
  pub flat : List ℕ

-- "Checks 1 to 6 come first, in that order". 1: "buffer over its limit", `flat` too; 2: "lists of one table of unequal length, or too many records";
-- 6: "working room short", of `flat`, which lends 4 numbers for each vector. That comes before 3 to 5: without that room no record is made flat.
unfoldable pub checks_lent : Lists → (input : ℕ) → Lent → (flat : ℕ) → Check
checks_lent t input l flat =
    and_then (check1 input l.events l.values l.room l.list)
    (and_then (unless (within_limit flat) 1) (and_then (check2 t) (unless (leb (4 * vectors t) flat) 6)))

-- what is left by a call that these checks refuse, or else by the reading that follows them
unfoldable pub left_by : Check → Lent → Left → Left
left_by Passed l x = x
left_by (Refused n p) l x = leaves l (refused n p)

-- "thin entry over a lent slice of vector structs, after the flat-number core"; "Working buffers are zero at every return."
unfoldable pub read_sections_lent : List Vector → (kinds refs vecs : List ℕ) → Bool → List ℕ → Lent → (flat : ℕ) → LeftLent
read_sections_lent vs kinds refs vecs flag s l flat =
    let t = table_of vs kinds refs vecs in
    record { left = left_by (checks_lent t (length s) l flat) l (read_sections t (ordinary flag) s l); flat = replicate flat 0 }
