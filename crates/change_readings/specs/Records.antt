-- Change records, one turn after the other: what each asks, and that what is left to be run after it is what was left before.
-- Assumes nothing.
use Rattle.event_rooms.specs.Put.{Put}
use Rattle.std.specs.Prelude.{ℕ, ◌-◌, ◌<◌, ◌≤◌, ◌≡◌, Bool, true, false, List, length, None, Some}
use Rattle.tables.specs.Lists.{Lists}
use Rattle.rules.specs.Gather.{State}
use Rattle.event_rooms.specs.Out.{Rooms, Out}
use Rattle.rules.specs.Scan.{Scan, done}
use Rattle.gather.specs.Memory.{Holds, Mem, Tabled}
use Rattle.section_heads.specs.declared.Said.{Said}
use Rattle.section_heads.specs.declared.Said.TheVariants.{Nothing, Time, Write, StepEnd, Over, Bad}
use Rattle.gather.specs.declared.Gathered.{Gathered}
use Rattle.vector_turns.specs.OneVector.{next_step}
use Rattle.item_acts.specs.declared.Tag.{Tag}
use Rattle.item_acts.specs.declared.Tag.TheVariants as tag
use Rattle.item_acts.specs.declared.Acted.{Acted}
use Rattle.item_acts.specs.Moves.{Moves, Refuses, counting}
use Rattle.item_acts.specs.Acts.{to_go}
use Rattle.changes.specs.Changes.Items.{record_item, Left}
use Rattle.change_readings.specs.declared.Place.{Place}
use Rattle.change_readings.specs.declared.End.{End}
use Rattle.change_readings.specs.declared.End.TheVariants as end
use Rattle.change_readings.specs.declared.Step.{Step}
pub mod Laws
pub mod Code

-- ---- answers

abbrev pub more : Bool → ℕ → Gathered → Step
more inside at g = record { end = end.More; inside = inside; at = at; number = 0; g = g }

abbrev pub over_at : ℕ → Gathered → Step
over_at at g = record { end = end.Over; inside = false; at = at; number = 0; g = g }

abbrev pub refused : (n p : ℕ) → Gathered → Step
refused n p g = record { end = end.Out; inside = false; at = p; number = n; g = g }

abbrev pub opened_by : ℕ → Gathered → Put → Step
opened_by at g (Some n) = more true at (counting g n)
opened_by at g None = refused 16 at g

abbrev pub acted_by : Place → Acted → Tag → Step
acted_by p w tag.On = more true w.at w.g
acted_by p w tag.Stay = more p.inside p.at w.g
acted_by p w tag.Over = more false w.at (next_step w.g)
acted_by p w tag.Out = refused w.number w.at w.g

-- ---- one turn

abbrev pub said_at : Lists → List ℕ → Bool → ℕ → Said
said_at t s inside i = (record_item t.kinds s inside i).said

abbrev pub is_end : Said → Bool
is_end Nothing = false
is_end (Time u) = false
is_end (Write v id) = false
is_end StepEnd = true
is_end Over = false
is_end (Bad n) = false

pub record RecordAsks (t : Lists) (s : List ℕ) (m : Mem) (c : Gathered) (inside : Bool) (i : ℕ) : Type 0 where
  pub tabled : Tabled t
  pub rooms : Rooms
  pub state : State
  pub output : Out
  pub holds : Holds t rooms m c state output
  pub within : i ≤ length s
  pub begun : is_end (said_at t s inside i) ≡ false → c.ended ≡ 0

-- bytes left, and then what is left of the record's act
abbrev pub to_record : Lists → List ℕ → Mem → Gathered → Bool → ℕ → ℕ
to_record t s m c inside i = to_go t (length s - i) m.room c (said_at t s inside i)

pub record Goes (t : Lists) (s : List ℕ) (m : Mem) (c : Gathered) (inside : Bool) (i : ℕ) (m' : Mem) (c' : Gathered) (inside' : Bool) (i' : ℕ) : Type 0 where
  pub asks : RecordAsks t s m' c' inside' i'
  pub less : to_record t s m' c' inside' i' < to_record t s m c inside i
  pub moves : Moves t m c (Left t s inside i) m' c' (Left t s inside' i')

abbrev pub DoneAt : ℕ → Scan → Type 0
DoneAt p sc = sc ≡ done p

abbrev pub RecordsBy : Lists → List ℕ → Mem → Gathered → Bool → ℕ → Mem → Step → End → Type 0
RecordsBy t s m c inside i m' w end.More = Goes t s m c inside i m' w.g w.inside w.at
RecordsBy t s m c inside i m' w end.Over = Moves t m c (Left t s inside i) m' w.g (DoneAt w.at)
RecordsBy t s m c inside i m' w end.Out = Refuses t m c (Left t s inside i) w.number w.at

pub record Records (t : Lists) (s : List ℕ) (m : Mem) (c : Gathered) (inside : Bool) (i : ℕ) (m' : Mem) (w : Step) : Type 0 where
  pub records : RecordsBy t s m c inside i m' w w.end
