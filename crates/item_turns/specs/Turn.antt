-- A turn over an item: what it asks, and what is left to be run after it.
-- Assumes nothing.
use Rattle.std.specs.Prelude.{ℕ, ◌+◌, ◌-◌, ◌<◌, ◌≤◌, ◌≡◌, Bool, true, false, cond, List, [], ◌∷◌, length, get_or, None, Some}
use Rattle.tables.specs.Lists.{Lists, nth}
use Rattle.tables.specs.Layout.{layout_of}
use Rattle.rules.specs.Gather.{State}
use Rattle.event_rooms.specs.declared.Counts.{Counts}
use Rattle.event_rooms.specs.Out.{Rooms, Out}
use Rattle.event_rooms.specs.Out.Laws.{Appends}
use Rattle.vecmarks.specs.Info.{info_at}
use Rattle.gather.specs.declared.VecInfo.{VecInfo}
use Rattle.gather.specs.Memory.{Holds, Mem, Tabled}
use Rattle.rules.specs.Scan.{Scan, say}
use Rattle.gather.specs.Run.{alone}
use Rattle.gather.specs.Writes.{vec_info_from, Looks}
use Rattle.section_heads.specs.declared.Phase.TheVariants.{Listed}
use Rattle.section_heads.specs.declared.Said.{Said}
use Rattle.section_heads.specs.declared.Said.TheVariants.{Write}
use Rattle.section_heads.specs.declared.Item.{Item}
use Rattle.gather.specs.declared.Gathered.{Gathered}
use Rattle.turns.specs.Turns as turn
use Rattle.turns.specs.Turns.{Made, show_vector}
use Rattle.plain_writes.specs.Plain.{AloneAt}
use Rattle.vector_turns.specs.OneVector.{BitIn, is_write, act_of, for_vector, vector_of, Concerned}
use Rattle.vector_turns.specs.OneVector.Laws.{Ready, waits, to_turn}
use Rattle.along.specs.declared.Reached.{Reached}
use Rattle.along.specs.Follows.{Along, AlongAsks, Ran, said}
use Rattle.item_turns.specs.declared.Ended.{Ended}
use Rattle.item_turns.specs.declared.Ended.TheVariants.{On, Stay, Full}
use Rattle.item_turns.specs.declared.Went.{Went}
use Rattle.item_turns.specs.Leads.{Leads, Quits}
pub mod Code
pub mod Laws

-- ---- its answers

abbrev pub goes_on : (at id : ℕ) → Gathered → Went
goes_on at id g = record { ended = On; at = at; id = id; g = g }

abbrev pub stays : Ended → Gathered → Went
stays e g = record { ended = e; at = 0; id = 0; g = g }

-- ---- its parts

abbrev pub info_of : Lists → List ℕ → Gathered → Said → VecInfo
info_of t list c a = vec_info_from t.mins t.maxs t.states t.vec_refs (vector_of t.vecs list c a)

pub record Looking (t : Lists) (list : List ℕ) (c : Gathered) (a : Said) : Type 0 where
  pub concerned : Concerned t.vecs list c a
  pub looks : Looks t.mins t.maxs t.states t.vec_refs list (vector_of t.vecs list c a)

-- an event where it is due
unfoldable pub show_due : Bool → VecInfo → Counts → (room events values : List ℕ) → Made
show_due due x n room events values = cond due (show_vector x n room events values) (turn.mk room events values (Some n))

pub record FollowAsks (room : List ℕ) (x : VecInfo) (bit : ℕ) (item : Item) : Type 0 where
  pub along : AlongAsks room x bit
  pub few : item.then.id + bit ≤ 65535

-- nothing follows, or changes along the vector
pub data Followed (x : VecInfo) (s : List ℕ) (bit : ℕ) (item : Item) (g : Gathered) (room : List ℕ) : List ℕ → Went → Type 0 where
  straight : Followed x s bit item g room room (goes_on item.at item.then.id g)
  past : item.then.phase ≡ Listed → {room' : List ℕ} {r : Reached} → Ran x s bit item.at room room' r → Followed x s bit item g room room' (goes_on r.at (item.then.id + (bit - r.left)) g)

pub record GoAsks (room maxs : List ℕ) (x : VecInfo) (item : Item) (over : Bool) : Type 0 where
  pub bit : over ≡ true → BitIn maxs x.v item.then.id
  pub follows : over ≡ true → FollowAsks room x (get_or maxs x.v 0 - item.then.id) item

-- the act is not over, or it is, and changes may follow
pub data Gone (x : VecInfo) (s maxs : List ℕ) (item : Item) (g : Gathered) (over : Bool) (room : List ℕ) : List ℕ → Went → Type 0 where
  unfinished : over ≡ false → Gone x s maxs item g over room room (stays Stay g)
  finished : over ≡ true → {room' : List ℕ} {w : Went} → Followed x s (get_or maxs x.v 0 - item.then.id) item g room room' w → Gone x s maxs item g over room room' w

-- ---- what a turn asks

-- tables that passed their checks, memory that holds some state, and an item that is an act
pub record TurnAsks (t : Lists) (m : Mem) (c : Gathered) (x : Item) : Type 0 where
  pub tabled : Tabled t
  pub rooms : Rooms
  pub state : State
  pub output : Out
  pub holds : Holds t rooms m c state output
  pub ready : Ready t c x.said
  pub named : (v id : ℕ) → x.said ≡ Write v id → x.then.id ≡ id

pub record VectorAsks (t : Lists) (m : Mem) (c : Gathered) (x : Item) : Type 0 where
  pub asks : TurnAsks t m c x
  pub vector : for_vector t.vecs x.said ≡ true

-- ---- what it leaves

-- the reading goes on behind its item: at once, or after changes along a vector
pub data Behind (t : Lists) (s : List ℕ) (x : Item) (id at : ℕ) : Type 0 where
  here : id ≡ x.then.id → at ≡ x.at → Behind t s x id at
  behind_all : x.then.phase ≡ Listed → {v : ℕ} → v < length t.mins → {bit : ℕ} → bit < (layout_of t).width v → x.then.id ≡ get_or t.maxs v 0 - bit
      → {room room' : List ℕ} {left : ℕ} → Along (info_at (layout_of t) v) s room bit x.at room' left at → id ≡ get_or t.maxs v 0 - left → Behind t s x id at

-- what is said on the way
unfoldable pub said_behind : {t : Lists} {s : List ℕ} {x : Item} {id at : ℕ} → Behind t s x id at → Scan → Scan
said_behind (here e d) rest = rest
said_behind {t} (behind_all e {v} known inside is a d) rest = said (get_or t.maxs v 0) a rest

-- the item is done
pub record Done (t : Lists) (s : List ℕ) (m : Mem) (c : Gathered) (x : Item) (m' : Mem) (w : Went) : Type 0 where
  pub wrote : is_write x.said ≡ true
  pub behind : Behind t s x w.id w.at
  pub ahead : x.at ≤ w.at
  pub begun : w.g.ended ≡ 0
  pub leads : (pos : ℕ) (rest : Scan) → Leads t m c (say (act_of x.said pos) x.at (said_behind behind rest)) m' w.g rest

-- it is still to be done, and there is less to do
pub record Waits (t : Lists) (m : Mem) (c : Gathered) (x : Item) (m' : Mem) (w : Went) : Type 0 where
  pub begun : is_write x.said ≡ true → w.g.ended ≡ 0
  pub less : to_turn w.g (waits t m'.room x.said) < to_turn c (waits t m.room x.said)
  pub leads : (pos p : ℕ) (rest : Scan) → Leads t m c (say (act_of x.said pos) p rest) m' w.g (say (act_of x.said pos) p rest)

-- "16: next event doesn't fit event or value room: next unread byte"
pub record Fills (t : Lists) (m : Mem) (c : Gathered) (x : Item) : Type 0 where
  pub quits : (pos p : ℕ) (rest : Scan) → Quits t m c (say (act_of x.said pos) p rest) 16 p

abbrev pub TurnsBy : Lists → List ℕ → Mem → Gathered → Item → Mem → Went → Ended → Type 0
TurnsBy t s m c x m' w On = Done t s m c x m' w
TurnsBy t s m c x m' w Stay = Waits t m c x m' w
TurnsBy t s m c x m' w Full = Fills t m c x

pub record Turns (t : Lists) (s : List ℕ) (m : Mem) (c : Gathered) (x : Item) (m' : Mem) (w : Went) : Type 0 where
  pub turns : TurnsBy t s m c x m' w w.ended

-- ---- a signal outside vectors

pub record PlainAsks (t : Lists) (events values : List ℕ) (c : Gathered) (x : Item) : Type 0 where
  pub plain : is_write x.said ≡ true
  pub asks : (v id : ℕ) → x.said ≡ Write v id → AloneAt t.kinds t.refs events values c.counts id v

-- its event is made, or does not fit
pub data PlainTurns (t : Lists) (c : Gathered) (x : Item) (events values events' values' : List ℕ) : Went → Type 0 where
  made : (v id : ℕ) → x.said ≡ Write v id → {n : Counts} → Appends (alone (nth t.kinds id) (nth t.refs id) v ∷ []) events values c.counts events' values' (Some n)
      → PlainTurns t c x events values events' values' (goes_on x.at x.then.id (record { ended = c.ended; listed = c.listed; counts = n }))
  full : (v id : ℕ) → x.said ≡ Write v id → Appends (alone (nth t.kinds id) (nth t.refs id) v ∷ []) events values c.counts events' values' None
      → PlainTurns t c x events values events' values' (stays Full c)
