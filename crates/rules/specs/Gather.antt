-- The whole gatherer: all vectors, and those written in the open step in the order of their first write.
-- A vector goes by its index here, its number less one.
-- Assumes nothing.
use Rattle.std.specs.Prelude.{ℕ, zero, suc, ◌+◌, ◌-◌, ◌≤◌, ◌≡◌, Bool, false, cond, ◌||◌, List, [], ◌∷◌, ◌++◌, map, eqb}
use Rattle.rules.specs.Vector.{Write, Op, start, put, stop, ended, Item, began, over, Vec, any, fresh, fires, act}
pub mod Laws
pub mod Echo
pub mod Firsts
pub mod Order

-- the tables: for each id the number of its vector (0 for none), for each vector its least and greatest id
pub record Tables : Type 0 where
  pub vector : ℕ → ℕ
  pub min : ℕ → ℕ
  pub max : ℕ → ℕ

unfoldable pub width : Tables → ℕ → ℕ
width t v = t.max v - t.min v + 1

-- of check 4: a signal of a vector stands in that vector's range
unfoldable pub Good : Tables → Type 0
Good t = (i v : ℕ) → t.vector i ≡ suc v → (t.min v ≤ i) × (i ≤ t.max v)

-- what the input says, in order: a write has its id, its mapped value and its place in the input
pub data Act : Type 0 where
  time : ℕ → Act
  write : ℕ → ℕ → ℕ → Act
  step_end : Act

-- what happens: the events are `at`, `single` (of a signal outside vectors: its id, value and place) and `of v (shown ..)`
pub data Happening : Type 0 where
  at : ℕ → Happening
  single : ℕ → ℕ → ℕ → Happening
  of : ℕ → Item → Happening
  ends : Happening

-- each vector, and those written in this step, in order of first write
pub record State : Type 0 where
  pub vecs : ℕ → Vec
  pub listed : List ℕ

unfoldable pub begin : Tables → State
begin t = record { vecs = λ v. fresh (width t v); listed = [] }

-- vector v becomes x
unfoldable pub with : (ℕ → Vec) → ℕ → Vec → ℕ → Vec
with vecs v x u = cond (eqb u v) x (vecs u)

unfoldable pub elem : ℕ → List ℕ → Bool
elem v [] = false
elem v (u ∷ us) = eqb v u || elem v us

-- listed once, where it is not yet
unfoldable pub list : ℕ → List ℕ → List ℕ
list v us = cond (elem v us) us (us ++ v ∷ [])

-- "At step end each vector with marks makes one event, in order of its first write in the step"
unfoldable pub end_all : List ℕ → (ℕ → Vec) → List Happening × (ℕ → Vec)
end_all [] vecs = ([], vecs)
end_all (v ∷ vs) vecs =
    let e = fires (any (vecs v).marks) ended (vecs v) in
    let r = end_all vs (with vecs v e.1) in
    (map (of v) e.0 ++ r.0, r.1)

-- "Bit number is max id minus id."
unfoldable pub bit_write : Tables → ℕ → ℕ → ℕ → ℕ → Write
bit_write t v i x p = record { bit = t.max v - i; value = x; pos = p }

unfoldable pub to_vector : (ℕ → Bool) → Tables → State → ℕ → Write → List Happening × State
to_vector early t s v x =
    let r = act (early (width t v)) (s.vecs v) (put x) in
    (map (of v) r.0, record { vecs = with s.vecs v r.1; listed = list v s.listed })

-- a write goes to the vector whose number its signal has, or makes an event at once
unfoldable pub toward : (ℕ → Bool) → Tables → State → (number i x p : ℕ) → List Happening × State
toward early t s zero i x p = (single i x p ∷ [], s)
toward early t s (suc v) i x p = to_vector early t s v (bit_write t v i x p)

unfoldable pub does : (ℕ → Bool) → Tables → State → Act → List Happening × State
does early t s (time u) = (at u ∷ [], s)
does early t s (write i x p) = toward early t s (t.vector i) i x p
does early t s step_end =
    let r = end_all s.listed s.vecs in
    (r.0 ++ ends ∷ [], record { vecs = r.1; listed = [] })

unfoldable pub happens : (ℕ → Bool) → Tables → State → List Act → List Happening
happens early t s [] = []
happens early t s (a ∷ acts) = (does early t s a).0 ++ happens early t (does early t s a).1 acts

-- one vector's part of what happens, and of what the input says
unfoldable pub own : ℕ → List Happening → List Item
own v [] = []
own v (at u ∷ h) = began u ∷ own v h
own v (single i x p ∷ h) = own v h
own v (of u i ∷ h) = cond (eqb v u) (i ∷ own v h) (own v h)
own v (ends ∷ h) = over ∷ own v h

unfoldable pub told : Tables → ℕ → List Act → List Op
told t v [] = []
told t v (time u ∷ acts) = start u ∷ told t v acts
told t v (write i x p ∷ acts) = cond (eqb (t.vector i) (suc v)) (put (bit_write t v i x p) ∷ told t v acts) (told t v acts)
told t v (step_end ∷ acts) = stop ∷ told t v acts
