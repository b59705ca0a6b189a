-- The lent memory, and the state of the gatherer and of the rooms that it holds.
-- Assumes nothing.
use Rattle.std.specs.Prelude.{◌≡◌, refl, ℕ, ◌<◌, ◌≤◌, List, length, get_or}
use Rattle.tables.specs.Lists.{Lists}
use Rattle.tables.specs.Layout.{Layout, layout_of, total_bytes}
use Rattle.tables.specs.Good as good
use Rattle.tables.specs.Good.{Ranged, Signals, Named}
use Rattle.rules.specs.Gather.{State}
use Rattle.event_rooms.specs.Out.{Rooms, Out}
use Rattle.event_rooms.specs.Out.Laws.{Written}
use Rattle.vecbuffer.specs.Stands.{Stands}
use Rattle.gather.specs.declared.Gathered.{Gathered}
pub mod Laws

-- the working room and its numbers, the event room and the value room
pub record Mem : Type 0 where
  pub room : List ℕ
  pub list : List ℕ
  pub events : List ℕ
  pub values : List ℕ

abbrev pub mem_of : (room list events values : List ℕ) → Mem
mem_of room list events values = record { room = room; list = list; events = events; values = values }

-- the lent buffers keep their lengths
pub record Sized (m m' : Mem) : Type 0 where
  pub room : length m'.room ≡ length m.room
  pub list : length m'.list ≡ length m.list
  pub events : length m'.events ≡ length m.events
  pub values : length m'.values ≡ length m.values

pub sized_self : {m : Mem} → Sized m m
sized_self = record { room = refl; list = refl; events = refl; values = refl }

-- what tables that passed their checks give
pub record Tabled (t : Lists) : Type 0 where
  pub sized : good.Sized t
  pub ranged : Ranged t
  pub signals : Signals t
  pub named : Named t

-- the room has bytes, and the working buffers have zeros past what is needed of them
pub record Clean (t : Layout) (room nums : List ℕ) : Type 0 where
  pub byte : (i : ℕ) → get_or room i 0 < 256
  pub room_past : (i : ℕ) → total_bytes t ≤ i → get_or room i 0 ≡ 0
  pub list_past : (i : ℕ) → t.count ≤ i → get_or nums i 0 ≡ 0

-- the step's end has come to the first i of the vectors listed
pub record HoldsAt (t : Lists) (r : Rooms) (m : Mem) (i : ℕ) (c : Gathered) (g : State) (o : Out) : Type 0 where
  pub stands : Stands (layout_of t) m.room m.list i c.listed g
  pub clean : Clean (layout_of t) m.room m.list
  pub written : Written r m.events m.values c.counts o

abbrev pub Holds : Lists → Rooms → Mem → Gathered → State → Out → Type 0
Holds t r m c g o = HoldsAt t r m c.ended c g o
