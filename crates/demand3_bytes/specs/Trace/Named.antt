-- The writes in what happens, where it was made from acts over good tables: each names its vector, or none.
-- Assumes nothing.
use Rattle.std.specs.Prelude.{suc, ◌-◌, ◌≡◌, List, [], ◌∷◌}
use Rattle.rules.specs.Vector.{began, wrote, shown, over}
use Rattle.rules.specs.Gather.{Tables, write, Happening, at, single, of, ends}

-- a write of a vector bit is that of an id which names the vector, any other that of one which names none
unfoldable pub Named : Tables → List Happening → Type 0
Named t [] = Unit {0}
Named t (at u ∷ h) = Named t h
Named t (single i x p ∷ h) = (t.vector i ≡ 0) × Named t h
Named t (of v (began u) ∷ h) = ⊥
Named t (of v (wrote x) ∷ h) =
    ((t.vector (t.max v - x.bit) ≡ suc v) × (t.max v - (t.max v - x.bit) ≡ x.bit)) × Named t h
Named t (of v (shown c l) ∷ h) = Named t h
Named t (of v over ∷ h) = ⊥
Named t (ends ∷ h) = Named t h
