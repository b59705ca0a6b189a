-- What the parts of a write and of a step's end promise: for every state that the memory holds before, the events that are appended and the state that it holds afterwards.
-- Assumes nothing.
use Rattle.std.specs.Prelude.{◌≡◌, ℕ, suc, ◌<◌, Bool, true, cond, ◌&&◌, List, [], ◌∷◌, ◌++◌, get_or}
use Rattle.std.proofs.Math.Option.{Option, none, some}
use Rattle.states.specs.Kind.{state_of}
use Rattle.states.specs.Packed.{packed}
use Rattle.tables.specs.Lists.{Lists}
use Rattle.tables.specs.Layout.{layout_of}
use Rattle.rules.specs.Vector.{Write, Vec, all, clashes, acts_early}
use Rattle.rules.specs.Gather.{State}
use Rattle.records.specs.Event.{Event, value}
use Rattle.event_rooms.specs.Out.{Rooms, Out, append_all}
use Rattle.vecmarks.specs.Info.{info_at}
use Rattle.vecbuffer.specs.Stands.{flags_at, storing, clearing}
use Rattle.gather.specs.Memory.{Mem, mem_of, HoldsAt}
use Rattle.gather.specs.declared.Gathered.{Gathered}
use Rattle.gather.specs.Follows.{Wrote, Done, Full}
use Rattle.gather.specs.declared.VecInfo.{VecInfo}
pub mod Laws
pub mod Code

-- what is looked up of a vector
abbrev pub vec_info : Lists → ℕ → VecInfo
vec_info t v = record { v = v; info = info_at (layout_of t) v; flags = flags_at (layout_of t); reference = get_or t.vec_refs v 0 }

pub record Seen (t : Lists) (v : ℕ) (x : VecInfo) : Type 0 where
  pub is : x ≡ vec_info t v
  pub known : v < (layout_of t).count

-- ---- the parts

-- "an event of the stored vector"
unfoldable pub event_of : Lists → ℕ → Vec → Event
event_of t v y = value (suc v) (state_of (get_or t.states v 0)) (get_or t.vec_refs v 0) (packed (state_of (get_or t.states v 0)) y.vals)

-- where a test of the vector says so, "make an event of the stored vector and clear its marks"
unfoldable pub shown_events : Lists → ℕ → (Vec → Bool) → State → List Event
shown_events t v test g = cond (test (g.vecs v)) (event_of t v (g.vecs v) ∷ []) []

unfoldable pub shown_state : ℕ → (Vec → Bool) → State → State
shown_state v test g = cond (test (g.vecs v)) (clearing g v) g

unfoldable pub always : Vec → Bool
always y = true

-- the place of a write in the input plays no part
abbrev pub write_of : (bit x : ℕ) → Write
write_of bit x = record { bit = bit; value = x; pos = 0 }

-- (a) "if that bit was written since the vector's last event and the new value differs"
unfoldable pub rewrites : (bit x : ℕ) → Vec → Bool
rewrites bit x y = clashes y (write_of bit x)

-- (c) "if the width is at most 7 or a multiple of 8 and every bit is marked"
unfoldable pub completes : ℕ → Vec → Bool
completes width y = acts_early width && all y.marks

-- (a), (b) and (c), one after the other
unfoldable pub stored_state : (v bit x : ℕ) → State → State
stored_state v bit x g = storing (shown_state v (rewrites bit x) g) v (write_of bit x)

unfoldable pub bit_events : Lists → (v bit x : ℕ) → State → List Event
bit_events t v bit x g = shown_events t v (rewrites bit x) g ++ shown_events t v (completes ((layout_of t).width v)) (stored_state v bit x g)

unfoldable pub bit_state : Lists → (v bit x : ℕ) → State → State
bit_state t v bit x g = shown_state v (completes ((layout_of t).width v)) (stored_state v bit x g)

-- ---- promises

abbrev pub FollowsAt : Lists → Rooms → Mem → ℕ → Wrote → State → Option Out → Type 0
FollowsAt t r m i (Done c) g x = (o : Out) × (x ≡ some o) × HoldsAt t r m i c g o
FollowsAt t r m i Full g x = x ≡ none

pub record Makes (t : Lists) (i j : ℕ) (m m' : Mem) (c : Gathered) (w : Wrote) (es : State → List Event) (next : State → State) : Type 0 where
  pub makes : (r : Rooms) (g : State) (o : Out) → HoldsAt t r m i c g o → FollowsAt t r m' j w (next g) (append_all r (es g) (some o))

-- an event of a vector, where a test of it says so
pub record Shown (x : VecInfo) (room events values : List ℕ) (c : Gathered) (room' events' values' : List ℕ) (w : Wrote) (test : Vec → Bool) : Type 0 where
  pub shown : (t : Lists) (v : ℕ) (list : List ℕ) (i : ℕ) → Seen t v x → Makes t i i (mem_of room list events values) (mem_of room' list events' values') c w (shown_events t v test) (shown_state v test)
