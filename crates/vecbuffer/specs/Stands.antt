-- The bytes of the room and the numbers stand for the gatherer's state.
-- Assumes nothing.
use Rattle.std.specs.Prelude.{ℕ, ◌+◌, ◌<◌, ◌≤◌, ◌≡◌, false, List, [], ◌∷◌, length, get_or}
use Rattle.rules.specs.Vector.{Write, any, stored, cleared}
use Rattle.rules.specs.Gather.{State, with, elem, list}
use Rattle.tables.specs.Layout.{Layout, start, total_bytes}
use Rattle.vecmarks.specs.declared.VecBufferInfo.{VecBufferInfo}
use Rattle.vecmarks.specs.Info.{num, info_at, value_of, mark_of, HasValue, HasMark}
use Rattle.vecstarts.specs.Numbers.{Started, listed_in}
use Rattle.vecbuffer.specs.Changes.{Lent, mk}
pub mod Fields

-- the flags of all vectors
abbrev pub flags_at : Layout → VecBufferInfo
flags_at t = info_at t t.count

-- what tables that passed their checks give of a layout
pub record Laid (t : Layout) : Type 0 where
  pub flags : t.width t.count ≡ t.count
  pub few : t.count ≤ 16383
  pub small : start t t.count < 65536

-- the fields of the room: the value and the mark of each bit of each vector, with "unused high places"; whether a vector has marks, and whether it is listed
pub record Cells (t : Layout) (room : List ℕ) (value mark : ℕ → ℕ → ℕ) (has seen : ℕ → ℕ) : Type 0 where
  pub roomy : total_bytes t ≤ length room
  pub values : (v b : ℕ) → v < t.count → HasValue (info_at t v) b → value_of (info_at t v) b room ≡ value v b
  pub marks : (v b : ℕ) → v < t.count → HasMark (info_at t v) b → mark_of (info_at t v) b room ≡ mark v b
  pub having : (v : ℕ) → v < t.count → value_of (flags_at t) v room ≡ has v
  pub seeing : (v : ℕ) → v < t.count → mark_of (flags_at t) v room ≡ seen v

-- those that stand for a state
abbrev pub Holds : Layout → List ℕ → State → Type 0
Holds t room g =
    Cells t room
    (λ v b. get_or (g.vecs v).vals b 0)
    (λ v b. num (get_or (g.vecs v).marks b false))
    (λ v. num (any (g.vecs v).marks))
    (λ v. num (elem v g.listed))

-- no vector twice
unfoldable pub Distinct : List ℕ → Type 0
Distinct [] = Unit {0}
Distinct (v ∷ vs) = (elem v vs ≡ false) × Distinct vs

-- the numbers have the starts, and from number i up to number k the vectors that are listed, in order
pub record Listed (t : Layout) (nums : List ℕ) (i k : ℕ) (us : List ℕ) : Type 0 where
  pub started : Started t nums
  pub order : (j : ℕ) → j < length us → listed_in nums (i + j) ≡ get_or us j 0
  pub many : i + length us ≡ k
  pub most : k ≤ t.count
  pub known : (j : ℕ) → j < length us → get_or us j 0 < t.count
  pub distinct : Distinct us

-- the room and the numbers stand for g. Outside a step's end i is 0; there the vectors before number i are done
pub record Stands (t : Layout) (room nums : List ℕ) (i k : ℕ) (g : State) : Type 0 where
  pub laid : Laid t
  pub holds : Holds t room g
  pub listed : Listed t nums i k g.listed
  pub vals_wide : (v : ℕ) → v < t.count → length (g.vecs v).vals ≡ t.width v
  pub marks_wide : (v : ℕ) → v < t.count → length (g.vecs v).marks ≡ t.width v

-- as the operations leave them
abbrev pub StandsIn : Layout → State → Lent → Type 0
StandsIn t g (mk room nums k) = Stands t room nums 0 k g

-- ---- the gatherer's steps on the whole state

-- (b) "store and mark"
unfoldable pub storing : State → ℕ → Write → State
storing g v x = record { vecs = with g.vecs v (stored (g.vecs v) x); listed = list v g.listed }

-- "make an event of the stored vector and clear its marks"
unfoldable pub clearing : State → ℕ → State
clearing g v = record { vecs = with g.vecs v (cleared (g.vecs v)); listed = g.listed }
