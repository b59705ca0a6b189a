-- Acts through the gatherer, and the events that they make into the two rooms.
-- Assumes nothing.
use Rattle.std.specs.Prelude.{ℕ, suc, cond, List, [], ◌∷◌, ◌++◌, get_or, leb, eqb}
use Rattle.std.proofs.Math.Option.{Option, none, some}
use Rattle.numbers.specs.Fixed.{big_bytes}
use Rattle.states.specs.Kind.{state_of}
use Rattle.states.specs.declared.States.TheVariants.{Two, Nine}
use Rattle.states.specs.Packed.{packed}
use Rattle.tables.specs.Lists.{Lists, nth}
use Rattle.rules.specs.Vector.{Item, began, wrote, shown, over, acts_early}
use Rattle.rules.specs.Gather.{Tables, Act, Happening, at, single, of, ends, State, begin, does}
use Rattle.rules.specs.Scan.{Scan, say, done, fault}
use Rattle.records.specs.Event.{Event, time, value, real}
use Rattle.event_rooms.specs.Out.{Rooms, Out, empty, append_all}
pub mod Laws
pub mod Rendered
pub mod Events
pub mod Times
pub mod Good

-- the tables as the gatherer wants them
unfoldable pub gathers : Lists → Tables
gathers t = record { vector = nth t.vecs; min = λ v. get_or t.mins v 0; max = λ v. get_or t.maxs v 0 }

-- ---- the events of what happens

-- of a signal outside vectors: "Signal kinds 0 and 1 make nine-state events, 2 to 5 two-state events, 6 real events"; "kind 5 .. reported as eight big-endian bytes"
unfoldable pub alone : (kind reference v : ℕ) → Event
alone kind reference v =
    cond (leb kind 1) (value 0 Nine reference (v ∷ []))
    (cond (leb kind 4) (value 0 Two reference (v ∷ []))
    (cond (eqb kind 5) (value 0 Two reference (big_bytes 8 v)) (real reference v)))

-- of a vector: its number, state kind, reference and packed values
unfoldable pub of_vector : Lists → ℕ → Item → List Event
of_vector t v (began u) = []
of_vector t v (wrote x) = []
of_vector t v (shown c l) = value (suc v) (state_of (get_or t.states v 0)) (get_or t.vec_refs v 0) (packed (state_of (get_or t.states v 0)) l) ∷ []
of_vector t v over = []

unfoldable pub events_of : Lists → List Happening → List Event
events_of t [] = []
events_of t (at u ∷ h) = time u ∷ events_of t h
events_of t (single i x p ∷ h) = alone (nth t.kinds i) (nth t.refs i) x ∷ events_of t h
events_of t (of v i ∷ h) = of_vector t v i ++ events_of t h
events_of t (ends ∷ h) = events_of t h

-- ---- acts, one after the other

-- how far a part of the input was read: up to a place, with the gatherer and the rooms as they then are; or a refusal
pub data Went : Type 0 where
  went : ℕ → State → Out → Went
  out : ℕ → ℕ → Went

-- "16: next event doesn't fit event or value room: next unread byte"
unfoldable pub fitted : {R : Type 0} → ℕ → Option Out → (ℕ → ℕ → R) → (Out → R) → R
fitted p none fails go = fails 16 p
fitted p (some o) fails go = go o

module _ (t : Lists) (r : Rooms) where
  -- one act: its events, where they fit, and the gatherer after it
  unfoldable pub acted : State → Out → Act → Option Out
  acted g o a = append_all r (events_of t (does acts_early (gathers t) g a).0) (some o)

  unfoldable pub after : State → Act → State
  after g a = (does acts_early (gathers t) g a).1

  unfoldable pub run : Scan → State → Out → Went
  run (say a p rest) g o = fitted p (acted g o a) out (λ o'. run rest (after g a) o')
  run (done i) g o = went i g o
  run (fault n p) g o = out n p

  -- from the beginning
  unfoldable pub run_all : Scan → Went
  run_all sc = run sc (begin (gathers t)) empty
