-- What a reading leaves in the buffers that it was lent, and what the proofs of the functions that leave it search.
-- Assumes nothing.
use Rattle.std.specs.Prelude.{◌≡◌, ℕ, zero, ◌+◌, ◌≤◌, List, length, take, replicate}
use Rattle.std.proofs.Common.{◌∙◌, arith}
use Rattle.std.proofs.lemmas.List.{length-replicate}
use Rattle.std.proofs.Math.Seq.{length-take-le}
use Rattle.slices.specs.Splice.{splice}
use Rattle.slices.specs.Splice.Laws.{splice_all}
use Rattle.event_rooms.specs.declared.Counts.{Counts}
use Rattle.answers.specs.declared.Answer.{Answer}
use Rattle.answers.specs.Report.{report}
use Rattle.answers.specs.Outcome.{accepted, refused, answer, event_bytes, value_bytes, padded, Left, Lent, leaves}

-- the answer, and what each lent buffer holds
abbrev pub left_of : Answer → (events values room list : List ℕ) → Left
left_of a e v r l = record { answer = a; events = e; values = v; room = r; list = l }

-- how long each of them is
abbrev pub lent_of : (events values room list : List ℕ) → Lent
lent_of e v r l = record { events = length e; values = length v; room = length r; list = length l }

-- ---- zeros

-- of the working buffers the first n bytes and the first v numbers are used, and there are zeros past them
pub record Used (n v : ℕ) (room list : List ℕ) : Type 0 where
  pub bytes : n ≤ length room
  pub numbers : v ≤ length list
  pub room_zeros : splice room 0 (replicate n 0) ≡ replicate (length room) 0
  pub list_zeros : splice list 0 (replicate v 0) ≡ replicate (length list) 0

module _ {n v : ℕ} {room list : List ℕ} (u : Used n v room list) where
  pub ask_bytes : zero + n ≤ length room
  ask_bytes = omega (arith, u.bytes)

  pub ask_numbers : zero + v ≤ length list
  ask_numbers = omega (arith, u.numbers)

  pub room_cleared : {room' : List ℕ} → room' ≡ splice room 0 (replicate n 0) → room' ≡ replicate (length room) 0
  room_cleared e = e ∙ u.room_zeros

  pub list_cleared : {list' : List ℕ} → list' ≡ splice list 0 (replicate v 0) → list' ≡ replicate (length list) 0
  list_cleared e = e ∙ u.list_zeros

pub used_whole : (room list : List ℕ) → Used (length room) (length list) room list
used_whole room list = record { bytes = omega arith; numbers = omega arith; room_zeros = splice_all room (replicate (length room) 0) (length-replicate (length room) 0); list_zeros = splice_all list (replicate (length list) 0) (length-replicate (length list) 0) }

pub ruleset used_laws = (ask_bytes, ask_numbers, room_cleared, list_cleared)

-- ---- what is left

-- an accepted end may come
pub record Ready (n v : ℕ) (room list events values : List ℕ) (c : Counts) : Type 0 where
  pub used : Used n v room list
  pub in_events : c.events ≤ length events
  pub in_values : c.values ≤ length values

module _ (events values room list : List ℕ) {events' values' room' list' : List ℕ} {a : Answer} where
  pub left_refused : (number place : ℕ) → events' ≡ padded (length events) (take 0 events) → values' ≡ padded (length values) (take 0 values)
      → room' ≡ replicate (length room) 0 → list' ≡ replicate (length list) 0 → a ≡ answer (refused number place)
      → left_of a events' values' room' list' ≡ leaves (lent_of events values room list) (refused number place)
  unfolding leaves event_bytes value_bytes
  left_refused number place p q r s u = rw (p, q, r, s, u)

  pub left_accepted : {n v : ℕ} (read : ℕ) (c : Counts) → Ready n v room list events values c → events' ≡ padded (length events) (take c.events events)
      → values' ≡ padded (length values) (take c.values values)
      → room' ≡ replicate (length room) 0 → list' ≡ replicate (length list) 0 → a ≡ report read c
      → left_of a events' values' room' list' ≡ leaves (lent_of events values room list) (accepted read (take c.events events) (take c.values values) c.steps)
  unfolding leaves event_bytes value_bytes answer
  left_accepted read c h p q r s u = rw (p, q, r, s, u, length-take-le c.events events h.in_events, length-take-le c.values values h.in_values)

pub ruleset refused_laws = (left_refused, used_whole)

pub ruleset accepted_laws = (left_accepted)
