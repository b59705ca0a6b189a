-- The records made flat: where their numbers stand in `flat`, and section reading from there.
-- Assumes nothing.
use Rattle.std.specs.Prelude.{ℕ, zero, suc, ◌+◌, ◌*◌, ◌%◌, ◌<◌, ◌≡◌, Bool, cond, ◌&&◌, List, map, length, get_or, set, replicate, leb, eqb}
use Rattle.slices.specs.Splice.{part}
use Rattle.tables.specs.Lists.{Lists, lists}
use Rattle.tables.specs.Checks.{unless, and_then, within_limit, check1}
use Rattle.tables.specs.Check.{Check, Passed, Refused}
use Rattle.values.specs.Value.{ordinary}
use Rattle.doorquill.specs.declared.Vector.{Vector}
use Rattle.answers.specs.declared.Answer.{Answer}
use Rattle.answers.specs.Outcome.{refused, Lent, leaves}
use Rattle.entries.specs.Entries.{read_sections}
use Rattle.entries.specs.Faces.{Buffers}
use Rattle.doorquill.specs.Lent.{LeftLent}

-- what stands past the last record
abbrev pub none : Vector
none = record { min = 0; max = 0; state = 0; reference = 0 }

-- how many of so many records are made flat: all, or none where there are too many or `flat` is short
unfoldable pub room_for : (v flat : ℕ) → ℕ
room_for v flat = cond (leb v 16383) (cond (leb (4 * v) flat) v 0) 0

-- record i of n: its numbers stand in the four runs of `flat`
unfoldable pub placed : ℕ → List ℕ → ℕ → Vector → List ℕ
placed n l i v = set (set (set (set l i v.min) (n + i) v.max) (2 * n + i) v.reference) (3 * n + i) v.state

-- the first i of them
unfoldable pub upto : List Vector → ℕ → List ℕ → ℕ → List ℕ
upto vs n l zero = l
upto vs n l (suc i) = placed n (upto vs n l i) i (get_or vs i none)

-- all n of them, and each state is a byte
pub record Unpacked (vs : List Vector) (n : ℕ) (l l' : List ℕ) : Type 0 where
  pub are : l' ≡ upto vs n l n
  pub bytes : (k : ℕ) → k < n → (get_or vs k none).state < 256

-- numbers as bytes
unfoldable pub lows : List ℕ → List ℕ
lows l = map (λ x. x % 256) l

-- the table that the four runs of `flat` are
unfoldable pub flat_table : (kinds refs vecs : List ℕ) (v : ℕ) (flat : List ℕ) → Lists
flat_table kinds refs vecs v flat = lists kinds refs vecs (part flat 0 v) (part flat v v) (lows (part flat (3 * v) v)) (part flat (2 * v) v)

-- the checks that are made before the numbers are read, of lengths alone
unfoldable pub check_flat : (kinds refs vecs v flat : ℕ) → Check
check_flat kinds refs vecs v flat =
    and_then (unless (within_limit flat) 1)
    (and_then (unless (leb v 16383 && (eqb refs kinds && eqb vecs kinds && leb kinds 65535)) 2) (unless (leb (4 * v) flat) 6))

unfoldable pub checks_flat : (kinds refs vecs v flat input events values room list : ℕ) → Check
checks_flat kinds refs vecs v flat input events values room list = and_then (check1 input events values room list) (check_flat kinds refs vecs v flat)

-- what a refusal leaves, and what a reading leaves that passed these checks
unfoldable pub refused_lent : (flat : ℕ) → Lent → (number place : ℕ) → LeftLent
refused_lent flat l n p = record { left = leaves l (refused n p); flat = replicate flat 0 }

unfoldable pub read_passed : (kinds refs vecs : List ℕ) (v : ℕ) (flat : List ℕ) → Bool → List ℕ → Lent → LeftLent
read_passed kinds refs vecs v flat flag s l = record { left = read_sections (flat_table kinds refs vecs v flat) (ordinary flag) s l; flat = replicate (length flat) 0 }

-- section reading from `flat`
unfoldable pub read_by : Check → (kinds refs vecs : List ℕ) (v : ℕ) (flat : List ℕ) → Bool → List ℕ → Lent → LeftLent
read_by Passed kinds refs vecs v flat flag s l = read_passed kinds refs vecs v flat flag s l
read_by (Refused n p) kinds refs vecs v flat flag s l = refused_lent (length flat) l n p

unfoldable pub read_flat : (kinds refs vecs : List ℕ) (v : ℕ) (flat : List ℕ) → Bool → List ℕ → Lent → LeftLent
read_flat kinds refs vecs v flat flag s l =
    read_by (checks_flat (length kinds) (length refs) (length vecs) v (length flat) (length s) l.events l.values l.room l.list) kinds refs vecs v flat flag s l

-- the answer, and what each lent buffer holds
abbrev pub left_lent : Answer → (flat events values room list : List ℕ) → LeftLent
left_lent a f e v r l = record { left = record { answer = a; events = e; values = v; room = r; list = l }; flat = f }

abbrev pub left_with : Answer → (flat events values room list : Buffers) → LeftLent
left_with a f e v r l = left_lent a f.exit.now e.exit.now v.exit.now r.exit.now l.exit.now
