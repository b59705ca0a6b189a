-- Demand 3 of the records in the output's bytes, sentence by sentence: definitions and statements only.
-- A vector goes by its index v, its number less one: a record that is labelled `suc v` was made for it.
-- Assumes nothing.
use Rattle.std.specs.Prelude.{ℕ, suc, ◌+◌, ◌-◌, ◌*◌, ◌%◌, ◌^◌, ◌≤◌, ◌<◌, ◌≡◌, ◌≢◌, ◌⊎◌, Bool, true, false, cond, ◌&&◌, ◌||◌, List, [], ◌∷◌, ◌++◌, length, get_or, take, eqb, T}
use Rattle.states.specs.declared.States.{States}
use Rattle.states.specs.Kind.{bits, per_byte, bytes_required, state_of}
use Rattle.states.specs.Packed.{field_at, value_place}
use Rattle.tables.specs.Lists.{Lists}
use Rattle.rules.specs.Vector.{Item, began, wrote, shown, over, acts_early}
use Rattle.rules.specs.Gather.{Tables, width, Act, time, write, step_end}
use Rattle.rules.specs.Steps.Owned.{history_of}
use Rattle.records.specs.declared.Record.{Record}
use Rattle.records.specs.declared.Record.TheVariants.{Time, Value, Real}
use Rattle.records.specs.Event.{Event, value, real, record_bytes}
use Rattle.records.specs.Event as events
use Rattle.event_streams.specs.Stream.{event_length, record_at, is_time}
use Rattle.gather.specs.Run.{gathers}
use Rattle.answers.specs.Outcome.{Left}

-- ---- labelled records

-- a record of the output: its bytes, and its label
pub record Labelled : Type 0 where
  pub label : ℕ
  pub bytes : List ℕ

-- the bytes of records that lie end to end
unfoldable pub joined : List Labelled → List ℕ
joined [] = []
joined (r ∷ rs) = r.bytes ++ joined rs

unfoldable pub labels : List Labelled → List ℕ
labels [] = []
labels (r ∷ rs) = r.label ∷ labels rs

-- "one byte of kind, then a body whose length the kind fixes"
unfoldable pub Whole : List Labelled → Type 0
Whole [] = Unit {0}
Whole (r ∷ rs) = (0 < length r.bytes) × (length r.bytes ≡ event_length (get_or r.bytes 0 0)) × Whole rs

-- "labelled with the vector for which the gathering rules .. made them": by its number, 0 where it was made for none
unfoldable pub label_of : Event → ℕ
label_of (events.time u) = 0
label_of (value vector s reference bs) = vector
label_of (real reference b) = 0

unfoldable pub labels_of : List Event → List ℕ
labels_of [] = []
labels_of (e ∷ es) = label_of e ∷ labels_of es

-- the records of some output bytes, labelled as the gathering rules made these events
pub record RecordsOf (output : List ℕ) (es : List Event) (rs : List Labelled) : Type 0 where
  pub whole : Whole rs
  pub bytes : joined rs ≡ output
  -- a record of kinds 1 to 4 does not say its label: only this asks the gathering rules for it
  pub labelled : labels rs ≡ labels_of es

-- ---- the bits that a record shows

-- what a value record says of bit k: the field at the packing's own place in the value bytes
unfoldable pub bit_in : List ℕ → Record → ℕ → ℕ
bit_in values (Time u) k = 0
bit_in values (Value s reference start n) k = field_at (bits s) (value_place s start n k) values
bit_in values (Real reference b) k = 0

unfoldable pub shows : List ℕ → Labelled → ℕ → ℕ
shows values r k = bit_in values (record_at r.bytes 0) k

-- the state kind of vector v
abbrev pub state_in : Lists → ℕ → States
state_in t v = state_of (get_or t.states v 0)

-- how many value bytes w bits of vector v need
abbrev pub bytes_of : Lists → (v w : ℕ) → ℕ
bytes_of t v w = bytes_required (state_in t v) w

-- a record labelled with vector v, of w bits, that shows the values l
pub record Shows (t : Lists) (v w : ℕ) (values : List ℕ) (r : Labelled) (l : List ℕ) : Type 0 where
  pub label : r.label ≡ suc v
  -- its kind and its reference, as four bytes hold it, are the vector's; its bytes lie in the value bytes
  pub start : ℕ
  pub says : record_at r.bytes 0 ≡ Value (state_in t v) (get_or t.vec_refs v 0 % 2 ^ 32) start (bytes_of t v w)
  pub inside : start + bytes_of t v w ≤ length values
  -- every value fits its field, and each bit's field holds its value
  pub fits : (k : ℕ) → get_or l k 0 < 2 ^ bits (state_in t v)
  pub bit : (k : ℕ) → k < w → shows values r k ≡ get_or l k 0
  -- "unused high places are zero"
  pub unused : (k : ℕ) → w ≤ k → k < per_byte (state_in t v) * bytes_of t v w → shows values r k ≡ 0

-- ---- (a) and (b): one vector's records are the events of its history

-- one vector's part of the output: the time records, and the records labelled with it
unfoldable pub part_of : ℕ → List Labelled → List Labelled
part_of v [] = []
part_of v (r ∷ rs) = cond (is_time (record_at r.bytes 0) || eqb r.label (suc v)) (r ∷ part_of v rs) (part_of v rs)

-- these records are the times and the events of a history, in order, and show what those show
module _ (t : Lists) (v w : ℕ) (values : List ℕ) where
  unfoldable pub Tells : List Item → List Labelled → Type 0
  Tells [] rs = rs ≡ []
  Tells (began u ∷ h) rs =
      (r : Labelled) × (rest : List Labelled) × (rs ≡ r ∷ rest) × (r.bytes ≡ record_bytes (Time u)) × Tells h rest
  Tells (wrote x ∷ h) rs = Tells h rs
  Tells (shown c l ∷ h) rs =
      (r : Labelled) × (rest : List Labelled) × (rs ≡ r ∷ rest) × Shows t v w values r l × Tells h rest
  Tells (over ∷ h) rs = Tells h rs

-- ---- (c): the input's acts and the output's records in one order

-- "The write counts as made at (b), so an event by (a) comes before it."
pub data Moment : Type 0 where
  said : Act → Moment
  made : Labelled → Moment

unfoldable pub said_in : List Moment → List Act
said_in [] = []
said_in (said a ∷ ms) = a ∷ said_in ms
said_in (made r ∷ ms) = said_in ms

unfoldable pub made_in : List Moment → List Labelled
made_in [] = []
made_in (said a ∷ ms) = made_in ms
made_in (made r ∷ ms) = r ∷ made_in ms

-- an event of vector v
unfoldable pub is_event_of : ℕ → Moment → Bool
is_event_of v (said a) = false
is_event_of v (made r) = eqb r.label (suc v)

unfoldable pub is_step_end : Moment → Bool
is_step_end (said (time u)) = false
is_step_end (said (write i x p)) = false
is_step_end (said step_end) = true
is_step_end (made r) = false

unfoldable pub is_said : Moment → Bool
is_said (said a) = true
is_said (made r) = false

-- "Bit number is max id minus id."
abbrev pub bit_of : Tables → (v id : ℕ) → ℕ
bit_of t v id = t.max v - id

-- a write of bit k of vector v
unfoldable pub writes_bit : Tables → (v k : ℕ) → Moment → Bool
writes_bit t v k (said (time u)) = false
writes_bit t v k (said (write id x p)) = eqb (t.vector id) (suc v) && eqb k (bit_of t v id)
writes_bit t v k (said step_end) = false
writes_bit t v k (made r) = false

-- no moment passes the test
unfoldable pub Without : (Moment → Bool) → List Moment → Type 0
Without p [] = Unit {0}
Without p (m ∷ ms) = (p m ≡ false) × Without p ms

-- the first event of vector v is r, behind m
pub record First (v : ℕ) (ms m : List Moment) (r : Labelled) (rest : List Moment) : Type 0 where
  pub split : ms ≡ m ++ made r ∷ rest
  pub label : r.label ≡ suc v
  pub none : Without (is_event_of v) m

-- a write of x to bit k of vector v that no event of v followed: the next event of v owns it
pub record Waits (t : Tables) (v : ℕ) (ms : List Moment) (k x : ℕ) : Type 0 where
  pub id : ℕ
  pub pos : ℕ
  pub before : List Moment
  pub since : List Moment
  pub split : ms ≡ before ++ said (write id x pos) ∷ since
  pub vector : t.vector id ≡ suc v
  pub bit : bit_of t v id ≡ k
  pub none : Without (is_event_of v) since

-- (a) "that bit was written since the vector's last event and the new value differs"
pub record ByRewrite (t : Tables) (v : ℕ) (a b : List Moment) : Type 0 where
  pub id : ℕ
  pub x : ℕ
  pub pos : ℕ
  pub rest : List Moment
  pub next : b ≡ said (write id x pos) ∷ rest
  pub vector : t.vector id ≡ suc v
  pub y : ℕ
  pub waits : Waits t v a (bit_of t v id) y
  pub differs : y ≢ x

-- (c) with a write of the vector, the test of the width passes "and every bit is marked"
pub record ByCompletion (early : ℕ → Bool) (t : Tables) (v : ℕ) (a : List Moment) : Type 0 where
  pub id : ℕ
  pub x : ℕ
  pub pos : ℕ
  pub before : List Moment
  pub last : a ≡ before ++ said (write id x pos) ∷ []
  pub vector : t.vector id ≡ suc v
  pub acts : T (early (width t v))
  pub every : (k : ℕ) → k < width t v → (x : ℕ) × Waits t v a k x

-- "At step end": nothing but records up to the step's end
pub record ByEnd (b : List Moment) : Type 0 where
  pub records : List Moment
  pub rest : List Moment
  pub next : b ≡ records ++ said step_end ∷ rest
  pub only : Without is_said records

-- `early` is rule (c)'s test of the width, `tr` the acts and records in one order
pub record Sentences (early : ℕ → Bool) (t : Tables) (values : List ℕ) (tr : List Moment) : Type 0 where
  -- "every write of a vector bit belongs to exactly one event: the first event of that vector after the write, ..
  -- .. by the end of the write's step"
  pub first_event : (v : ℕ) (a : List Moment) (id x p : ℕ) (b : List Moment)
      → tr ≡ a ++ said (write id x p) ∷ b → t.vector id ≡ suc v
      → (m : List Moment) × (r : Labelled) × (rest : List Moment) × First v b m r rest × Without is_step_end m
  -- .. "exactly one"
  pub one_event : (v : ℕ) (b m n : List Moment) (r q : Labelled) (rest others : List Moment)
      → First v b m r rest → First v b n q others → (m ≡ n) × (r ≡ q) × (rest ≡ others)
  -- "Each vector event owns at least one write ..
  pub owns_some : (v : ℕ) (a : List Moment) (r : Labelled) (b : List Moment)
      → tr ≡ a ++ made r ∷ b → r.label ≡ suc v → (k x : ℕ) × Waits t v a k x
  -- .. and never two different values of one bit."
  pub one_value : (v : ℕ) (a : List Moment) (r : Labelled) (b : List Moment)
      → tr ≡ a ++ made r ∷ b → r.label ≡ suc v → (k x y : ℕ) → Waits t v a k x → Waits t v a k y → x ≡ y
  -- "Each of its bits shows the last write it owns for that bit; ..
  pub shows_last : (v : ℕ) (a : List Moment) (id x p : ℕ) (m : List Moment) (r : Labelled) (b : List Moment)
      → tr ≡ a ++ said (write id x p) ∷ (m ++ made r ∷ b) → t.vector id ≡ suc v → r.label ≡ suc v
      → Without (is_event_of v) m → Without (writes_bit t v (bit_of t v id)) m → shows values r (bit_of t v id) ≡ x
  -- .. owning none, what the vector's previous event showed, ..
  pub shows_previous : (v : ℕ) (a : List Moment) (q : Labelled) (m : List Moment) (r : Labelled) (b : List Moment)
      → tr ≡ a ++ made q ∷ (m ++ made r ∷ b) → q.label ≡ suc v → r.label ≡ suc v → Without (is_event_of v) m
      → (k : ℕ) → k < width t v → Without (writes_bit t v k) m → shows values r k ≡ shows values q k
  -- .. and zero before any."
  pub shows_zero : (v : ℕ) (m : List Moment) (r : Labelled) (b : List Moment)
      → tr ≡ m ++ made r ∷ b → r.label ≡ suc v → Without (is_event_of v) m
      → (k : ℕ) → k < width t v → Without (writes_bit t v k) m → shows values r k ≡ 0
  -- "An event before the step's end is made only by the two early rules."
  pub made_by : (v : ℕ) (a : List Moment) (r : Labelled) (b : List Moment)
      → tr ≡ a ++ made r ∷ b → r.label ≡ suc v → ByRewrite t v a b ⊎ (ByCompletion early t v a ⊎ ByEnd b)
  -- "1 time (8 bytes), at the start of every step": a time makes its record at once, and no other record is a time
  pub time_made : (a : List Moment) (u : ℕ) (b : List Moment) → tr ≡ a ++ said (time u) ∷ b
      → (r : Labelled) × (rest : List Moment) × (b ≡ made r ∷ rest) × (r.bytes ≡ record_bytes (Time u))
  pub times_only : (a : List Moment) (r : Labelled) (b : List Moment)
      → tr ≡ a ++ made r ∷ b → is_time (record_at r.bytes 0) ≡ true
      → (before : List Moment) × (u : ℕ) × (a ≡ before ++ said (time u) ∷ [])

-- demand 3 of an input's acts, the output's records and its value bytes
pub record Demand3 (early : ℕ → Bool) (t : Tables) (acts : List Act) (values : List ℕ) (rs : List Labelled)
    : Type 0 where
  pub order : List Moment
  pub input : said_in order ≡ acts
  pub output : made_in order ≡ rs
  pub sentences : Sentences early t values order

-- ---- an accepted reading

-- the bytes that it reports
abbrev pub events_in : Left → List ℕ
events_in x = take x.answer.events x.events

abbrev pub values_in : Left → List ℕ
values_in x = take x.answer.values x.values

-- `acts` is what the input says, `es` are the events that the gathering rules make of it, x is what the call leaves
pub record OnBytes (t : Lists) (acts : List Act) (es : List Event) (x : Left) : Type 0 where
  -- the event bytes are records, and in one way only
  pub records : (rs : List Labelled) × RecordsOf (events_in x) es rs
  pub one_way : (rs qs : List Labelled) → RecordsOf (events_in x) es rs → RecordsOf (events_in x) es qs → rs ≡ qs
  -- (a) and (b): the times, and the events labelled with a vector, are those of its history
  pub history : (rs : List Labelled) → RecordsOf (events_in x) es rs → (v : ℕ)
      → Tells t v (width (gathers t) v) (values_in x) (history_of acts_early (gathers t) acts v) (part_of v rs)
  -- (c)
  pub demand3 : (rs : List Labelled) → RecordsOf (events_in x) es rs → Demand3 acts_early (gathers t) acts (values_in x) rs
