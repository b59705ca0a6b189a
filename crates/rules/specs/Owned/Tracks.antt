-- What a vector stores and marks is what its history says: its stored values and marks track the writes since its last event.
-- Assumes nothing.
use Rattle.std.specs.Prelude.{◌≡◌, ℕ, ◌<◌, length, get_or}
use Rattle.std.proofs.Math.Bool.{false}
use mathlib.Core.List.{List, Memᴰ}
use Rattle.rules.specs.Vector.{Write, Vec}
use Rattle.rules.specs.Owned.{latest, value_or}
use Rattle.rules.specs.Owned.Latest.{found}

pub record Tracks (w : ℕ) (before : List ℕ) (waiting : List Write) (v : Vec) : Type 0 where
  pub vals_wide : length v.vals ≡ w
  pub marks_wide : length v.marks ≡ w
  pub value_is : (b : ℕ) → b < w → get_or v.vals b 0 ≡ value_or (get_or before b 0) (latest b waiting)
  pub mark_is : (b : ℕ) → b < w → get_or v.marks b false ≡ found (latest b waiting)
  pub same : (x : Write) → Memᴰ x waiting → get_or v.vals x.bit 0 ≡ x.value
  pub inside : (x : Write) → Memᴰ x waiting → x.bit < w
