-- What the time rule's code promises.
-- Assumes nothing.
use Rattle.std.specs.Prelude.{◌≡◌, ℕ, List, length, take, Ok}
use Rattle.number_writer.specs.Written.{Written, Done, Refused}
use Rattle.encoder.specs.Rule.{Kept, ruled, refused, time_rule}

-- an answer, and the first bytes of the room, are those of the rule
abbrev pub Says : (s : List ℕ) (values room : ℕ) (kept : List ℕ) → Written → Type 0
Says s values room kept (Ok w) =
    (k : Kept) × (time_rule s values room ≡ ruled w.read k) × (take w.count kept ≡ k.events) × (w.count ≡ length k.events) × (w.steps ≡ k.steps)
Says s values room kept (Refused number place) = time_rule s values room ≡ refused number place

pub record Applies (s : List ℕ) (values room : ℕ) (kept : List ℕ) (a : Written) : Type 0 where
  pub says : Says s values room kept a
