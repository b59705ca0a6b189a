-- What code that follows the acts promises: for every state of the gatherer and of the rooms that the memory holds before, it holds afterwards what the definitions say.
-- Assumes nothing.
use Rattle.std.specs.Prelude.{◌≡◌}
use Rattle.std.proofs.Math.Option.{Option, none, some}
use Rattle.tables.specs.Lists.{Lists}
use Rattle.rules.specs.Gather.{Act, State}
use Rattle.event_rooms.specs.Out.{Rooms, Out}
use Rattle.rules.specs.Scan.{Scan, say}
use Rattle.gather.specs.Run.{Went, went, out, acted, after, run}
use Rattle.gather.specs.Memory.{Mem, Tabled, HoldsAt, Holds}
use Rattle.gather.specs.declared.Gathered.{Gathered}
use Rattle.gather.specs.declared.Part.{Part}
use Rattle.gather.specs.declared.Part.TheVariants as part

-- after one act: what is then listed and counted, or an event does not fit
pub data Wrote : Type 0 where
  Done : Gathered → Wrote
  Full : Wrote

-- one act before the step's end: its events fit, and the memory holds what follows; or one does not
abbrev pub Follows : Lists → Rooms → Mem → Wrote → State → Option Out → Type 0
Follows t r m (Done c) g x = (o : Out) × (x ≡ some o) × HoldsAt t r m 0 c g o
Follows t r m Full g x = x ≡ none

pub record Acts (t : Lists) (m m' : Mem) (c : Gathered) (w : Wrote) (a : Act) : Type 0 where
  pub follows : (r : Rooms) (g : State) (o : Out) → HoldsAt t r m 0 c g o → Follows t r m' w (after t r g a) (acted t r g o a)

-- a part of the input
abbrev pub Ends : Lists → Rooms → Mem → Part → Went → Type 0
Ends t r m (part.Went i c) w = (g : State) × (o : Out) × (w ≡ went i g o) × Holds t r m c g o
Ends t r m (part.Out n p) w = w ≡ out n p

pub record Runs (t : Lists) (m m' : Mem) (c : Gathered) (x : Part) (sc : Scan) : Type 0 where
  pub runs : (r : Rooms) (g : State) (o : Out) → Holds t r m c g o → Ends t r m' x (run t r sc g o)

-- what such code asks: tables that passed their checks, and memory that holds some state, no step's end begun
pub record Asks (t : Lists) (m : Mem) (c : Gathered) : Type 0 where
  pub tabled : Tabled t
  pub rooms : Rooms
  pub state : State
  pub output : Out
  pub holds : Holds t rooms m c state output
  pub begun : c.ended ≡ 0
