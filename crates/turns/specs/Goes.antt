-- What a turn promises over the memory: what is left to be run after it is what was left before.
-- Assumes nothing.
use Rattle.std.specs.Prelude.{ℕ, ◌≡◌, Bool, cond, List, [], ◌∷◌}
use Rattle.std.proofs.Math.Option.{some}
use Rattle.tables.specs.Lists.{Lists}
use Rattle.rules.specs.Gather.{Act, State}
use Rattle.records.specs.Event.{Event}
use Rattle.event_rooms.specs.Out.{Rooms, Out, append_all}
use Rattle.rules.specs.Scan.{Scan, say}
use Rattle.gather.specs.Run.{out, fitted, run}
use Rattle.gather.specs.Memory.{Holds, Mem}
use Rattle.gather.specs.Makes.{event_of}
use Rattle.gather.specs.declared.Gathered.{Gathered}
use Rattle.turns.specs.declared.Turned.{Turned}
use Rattle.turns.specs.Parts.{firing}
pub mod Laws

-- what is left to be said: the act again, or what stands behind it
abbrev pub left_of : Bool → Act → ℕ → Scan → Scan
left_of over a p rest = cond over rest (say a p rest)

-- the event that is due
abbrev pub due_events : Lists → ℕ → Bool → State → List Event
due_events t v due g = cond due (event_of t v (g.vecs v) ∷ []) []

-- after a turn on vector v that answered w: the memory holds a state, from which the event that is due comes first, and then what is left
pub record After (t : Lists) (r : Rooms) (v : ℕ) (a : Act) (m : Mem) (c : Gathered) (w : Turned) (g : State) (o : Out) : Type 0 where
  pub state : State
  pub holds : Holds t r m (record { ended = w.ended; listed = w.listed; counts = c.counts }) state o
  pub left : (p : ℕ) (rest : Scan)
      → run t r (say a p rest) g o ≡ fitted p (append_all r (due_events t v w.due state) (some o)) out (λ o'. run t r (left_of w.over a p rest) (firing w.due v state) o')

-- after a turn and its event: the memory holds a state from which what is left is what was left before
pub record Goes (t : Lists) (r : Rooms) (a : Act) (m : Mem) (c : Gathered) (over : Bool) (g : State) (o : Out) : Type 0 where
  pub state : State
  pub output : Out
  pub holds : Holds t r m c state output
  pub left : (p : ℕ) (rest : Scan) → run t r (say a p rest) g o ≡ run t r (left_of over a p rest) state output

-- "16: next event doesn't fit event or value room: next unread byte"
pub record Stops (t : Lists) (r : Rooms) (a : Act) (g : State) (o : Out) : Type 0 where
  pub stops : (p : ℕ) (rest : Scan) → run t r (say a p rest) g o ≡ out 16 p
