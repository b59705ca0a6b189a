-- The state kinds: "two-state 1, 1, 8; nine-state 4, 15, 2" are bits per value, mask and values per byte.
-- Assumes nothing.
use Rattle.std.specs.Prelude.{ℕ, zero, suc, ◌+◌, ◌-◌, ◌/◌}
use Rattle.states.specs.declared.States.{States}
use Rattle.states.specs.declared.States.TheVariants.{Two, Nine}

abbrev pub bits : States → ℕ
bits Two = 1
bits Nine = 4

abbrev pub mask : States → ℕ
mask Two = 1
mask Nine = 15

abbrev pub per_byte : States → ℕ
per_byte Two = 8
per_byte Nine = 2

-- the bytes that a width needs: divided by the values per byte, rounded up
unfoldable pub bytes_required : States → ℕ → ℕ
bytes_required s w = (w + per_byte s - 1) / per_byte s

-- the kind that a table's number names: "state (0 nine, 1 two)"
abbrev pub state_of : ℕ → States
state_of zero = Nine
state_of (suc n) = Two
