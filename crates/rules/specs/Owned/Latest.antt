-- The latest write of a bit, in words.
-- Assumes nothing.
use Rattle.std.specs.Prelude.{◌≡◌, ◌≢◌, Bool, true, false, ℕ}
use Rattle.std.proofs.Math.Option.{Option, none, some}
use mathlib.Core.List.{List, ◌∷◌, ◌++◌, Memᴰ}
use Rattle.rules.specs.Vector.{Write}

-- no write of a bit
abbrev pub Lacks : ℕ → List Write → Type 0
Lacks b ws = (x : Write) → Memᴰ x ws → x.bit ≢ b

-- it is a write exactly where that is one of that bit, and every later one is of another
abbrev pub IsLatest : ℕ → List Write → Write → Type 0
IsLatest b ws x = (later : List Write) × (earlier : List Write) × (ws ≡ later ++ x ∷ earlier) × (x.bit ≡ b) × Lacks b later

-- whether there is one
unfoldable pub found : Option Write → Bool
found none = false
found (some x) = true
