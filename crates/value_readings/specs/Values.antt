-- The values of a step: what the loop asks, and that what is left to be run after it is what was left before.
-- Assumes nothing.
use Rattle.std.specs.Prelude.{ℕ, ◌≤◌, ◌≡◌, true, List, length}
use Rattle.tables.specs.Lists.{Lists}
use Rattle.rules.specs.Gather.{State}
use Rattle.event_rooms.specs.Out.{Rooms, Out}
use Rattle.gather.specs.declared.Part.{Part}
use Rattle.gather.specs.declared.Part.TheVariants as part
use Rattle.rules.specs.Scan.{Scan}
use Rattle.gather.specs.Memory.{Holds, Mem, Tabled}
use Rattle.gather.specs.Follows.{Asks}
use Rattle.values.specs.declared.How.{How}
use Rattle.section_heads.specs.declared.Stand.{Stand}
use Rattle.section_heads.specs.declared.Said.{Said}
use Rattle.section_heads.specs.declared.Item.{Item}
use Rattle.section_heads.specs.Heads.{standing}
use Rattle.sections.specs.Item.{in_values, after_values, value_item}
use Rattle.sections.specs.Item.Scans.{to_read, Left}
use Rattle.gather.specs.declared.Gathered.{Gathered}
use Rattle.vector_turns.specs.OneVector.{is_write}
use Rattle.item_acts.specs.Moves.{Moves, Refuses}
use Rattle.item_acts.specs.Acts.{to_go}
pub mod Laws
pub mod Code

-- ---- one turn

-- the item where a reading stands
abbrev pub said_at : Lists → How → List ℕ → Stand → ℕ → Said
said_at t how s x i = (value_item t.kinds how s x i).said

pub record PlaceAsks (t : Lists) (how : How) (s : List ℕ) (m : Mem) (c : Gathered) (x : Stand) (i : ℕ) : Type 0 where
  pub tabled : Tabled t
  pub rooms : Rooms
  pub state : State
  pub output : Out
  pub holds : Holds t rooms m c state output
  pub values : in_values x.phase ≡ true
  pub stood : x.id ≤ length t.kinds
  pub inside : i ≤ length s
  pub begun : is_write (said_at t how s x i) ≡ true → c.ended ≡ 0

abbrev pub to_value : Lists → How → List ℕ → Mem → Gathered → Stand → ℕ → ℕ
to_value t how s m c x i = to_go t (to_read s x i) m.room c (said_at t how s x i)

-- from a place to a place
pub record Goes (t : Lists) (how : How) (s : List ℕ) (m : Mem) (c : Gathered) (x : Stand) (i : ℕ) (m' : Mem) (c' : Gathered) (x' : Stand) (i' : ℕ) : Type 0 where
  pub ahead : to_read s x' i' ≤ to_read s x i
  pub moves : Moves t m c (Left t how s x i) m' c' (Left t how s x' i')

-- ---- all of a step

-- after the item that said its time
pub record ValuesAsk (t : Lists) (s : List ℕ) (m : Mem) (c : Gathered) (x : Item) : Type 0 where
  pub asks : Asks t m c
  pub values : in_values x.then.phase ≡ true
  pub first : x.then.id ≡ 0
  pub inside : x.at ≤ length s

abbrev pub behind_of : Item → Stand
behind_of x = standing (after_values x.then.phase) 0 x.then.time

-- what is left at its beginning, which `says` may put something before, and at its end
abbrev pub EndsBy : Lists → How → List ℕ → ((Scan → Type 0) → Scan → Type 0) → Mem → Gathered → Item → Mem → Part → Type 0
EndsBy t how s says m c x m' (part.Went i c') =
    (c'.ended ≡ 0) × (to_read s (behind_of x) i ≤ to_read s x.then x.at) × Moves t m c (says (Left t how s x.then x.at)) m' c' (Left t how s (behind_of x) i)
EndsBy t how s says m c x m' (part.Out n p) = Refuses t m c (says (Left t how s x.then x.at)) n p

pub record Values (t : Lists) (how : How) (s : List ℕ) (m : Mem) (c : Gathered) (x : Item) (m' : Mem) (r : Part) : Type 0 where
  pub ends : EndsBy t how s (λ L. L) m c x m' r
