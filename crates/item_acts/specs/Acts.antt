-- What is done with an item among the values of a step: what it asks, and what is left to be run after it.
-- Assumes nothing.
use Rattle.std.specs.Prelude.{ℕ, ◌+◌, ◌*◌, ◌≡◌, true, cond, List, eqb}
use Rattle.tables.specs.Lists.{Lists}
use Rattle.rules.specs.Gather.{State, step_end}
use Rattle.event_rooms.specs.Out.{Rooms, Out}
use Rattle.rules.specs.Scan.{Scan, say, fault}
use Rattle.gather.specs.Memory.{Holds, Mem, Tabled}
use Rattle.section_heads.specs.declared.Stand.{Stand}
use Rattle.section_heads.specs.declared.Said.{Said}
use Rattle.section_heads.specs.declared.Said.TheVariants.{Nothing, Time, Write, StepEnd, Over, Bad}
use Rattle.section_heads.specs.declared.Item.{Item}
use Rattle.gather.specs.declared.Gathered.{Gathered}
use Rattle.vector_turns.specs.OneVector.{is_act, act_of, next_step}
use Rattle.vector_turns.specs.OneVector.Laws.{ReadyBy, waits, to_turn}
use Rattle.item_turns.specs.declared.Ended.{Ended}
use Rattle.item_turns.specs.declared.Ended.TheVariants.{On, Stay, Full}
use Rattle.item_turns.specs.declared.Went.{Went}
use Rattle.item_turns.specs.Leads.{Leads}
use Rattle.item_turns.specs.Turn.{goes_on, stays, Done, Waits, Fills}
use Rattle.item_acts.specs.declared.Stage.{Stage}
use Rattle.item_acts.specs.declared.Stage.TheVariants as stage
use Rattle.item_acts.specs.declared.Tag.{Tag}
use Rattle.item_acts.specs.declared.Tag.TheVariants as tag
use Rattle.item_acts.specs.declared.Acted.{Acted}
use Rattle.item_acts.specs.Moves.{Says}
pub mod Code
pub mod Laws

-- ---- what is to be done

-- "step end" comes to each vector listed
unfoldable pub stage_of : Said → Gathered → Stage
stage_of Nothing g = stage.More
stage_of (Time u) g = stage.More
stage_of (Write v id) g = stage.More
stage_of StepEnd g = cond (eqb g.ended g.listed) stage.Over stage.More
stage_of Over g = stage.More
stage_of (Bad n) g = stage.Bad n

abbrev pub on : (at id : ℕ) → Gathered → Acted
on at id g = record { tag = tag.On; at = at; id = id; number = 0; g = g }

abbrev pub still : Gathered → Acted
still g = record { tag = tag.Stay; at = 0; id = 0; number = 0; g = g }

abbrev pub over_at : ℕ → Gathered → Acted
over_at p g = record { tag = tag.Over; at = p; id = 0; number = 0; g = g }

abbrev pub refused : (n p : ℕ) → Gathered → Acted
refused n p g = record { tag = tag.Out; at = p; id = 0; number = n; g = g }

abbrev pub moved_by : ℕ → Went → Ended → Acted
moved_by at w On = on w.at w.id w.g
moved_by at w Stay = still w.g
moved_by at w Full = refused 16 at w.g

-- ---- what it asks

-- a write to a signal before the step's end has begun, the step's end, or a refusal
abbrev pub ActBy : Lists → Gathered → Stand → Said → Type 0
ActBy t c x Nothing = ⊥
ActBy t c x (Time u) = ⊥
ActBy t c x (Write v id) = ReadyBy t c (Write v id) × (x.id ≡ id)
ActBy t c x StepEnd = Unit {0}
ActBy t c x Over = ⊥
ActBy t c x (Bad n) = Unit {0}

pub record ActAsks (t : Lists) (m : Mem) (c : Gathered) (x : Item) : Type 0 where
  pub tabled : Tabled t
  pub rooms : Rooms
  pub state : State
  pub output : Out
  pub holds : Holds t rooms m c state output
  pub act : ActBy t c x.then x.said

-- ---- what it leaves

-- the item is still to be done
pub record Stays (t : Lists) (m : Mem) (c : Gathered) (x : Item) (m' : Mem) (c' : Gathered) : Type 0 where
  pub act : is_act x.said ≡ true
  pub waits : Waits t m c x m' (stays Stay c')

-- the step's end has come to all
pub record Closes (t : Lists) (m : Mem) (c : Gathered) (x : Item) (m' : Mem) (c' : Gathered) (p : ℕ) : Type 0 where
  pub ends : x.said ≡ StepEnd
  pub place : p ≡ x.at
  pub leads : (p : ℕ) (rest : Scan) → Leads t m c (say step_end p rest) m' (next_step c') rest

-- an event does not fit, or the input is refused
pub data Refusal (t : Lists) (m : Mem) (c : Gathered) (x : Item) : (n p : ℕ) → Type 0 where
  full : is_act x.said ≡ true → Fills t m c x → Refusal t m c x 16 x.at
  bad : {n p : ℕ} → x.said ≡ Bad (n, p) → Refusal t m c x n p

abbrev pub ActsBy : Lists → List ℕ → Mem → Gathered → Item → Mem → Acted → Tag → Type 0
ActsBy t s m c x m' w tag.On = Done t s m c x m' (goes_on w.at w.id w.g)
ActsBy t s m c x m' w tag.Stay = Stays t m c x m' w.g
ActsBy t s m c x m' w tag.Over = Closes t m c x m' w.g w.at
ActsBy t s m c x m' w tag.Out = Refusal t m c x w.number w.at

pub record Acts (t : Lists) (s : List ℕ) (m : Mem) (c : Gathered) (x : Item) (m' : Mem) (w : Acted) : Type 0 where
  pub acts : ActsBy t s m c x m' w w.tag

-- ---- what is left where an item stands

abbrev pub SaysBy : (Scan → Type 0) → Item → Scan → Said → Type 0
SaysBy L x sc Nothing = ⊥
SaysBy L x sc (Time u) = ⊥
SaysBy L x sc (Write v id) = (pos : ℕ) × Says (act_of x.said pos) x.at L sc
SaysBy L x sc StepEnd = (pos : ℕ) × Says (act_of x.said pos) x.at L sc
SaysBy L x sc Over = ⊥
SaysBy L x sc (Bad n) = sc ≡ fault n.0 n.1

-- an act is said and then what `L` says is left, or a refusal
pub record SaidAt (L : Scan → Type 0) (x : Item) (sc : Scan) : Type 0 where
  pub says : SaysBy L x sc x.said

-- ---- how much is to be done

-- bytes left, or what else counts them, then vectors listed, then a write that an event comes before; no more than 16383 vectors are listed
unfoldable pub to_go : Lists → (left : ℕ) (room : List ℕ) → Gathered → Said → ℕ
to_go t left room c a = 32768 * left + to_turn c (waits t room a)
