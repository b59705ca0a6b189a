-- What the input says, act for act, among what happens, and what happens without the vectors' events.
-- Assumes nothing.
use Rattle.std.specs.Prelude.{List, [], ◌∷◌, ℕ, zero, suc}
use Rattle.rules.specs.Vector.{began, wrote, shown, over, act}
use Rattle.rules.specs.Gather.{Tables, Act, time, write, step_end, Happening, at, single, of, ends, bit_write, happens}

-- an act, among what happens
unfoldable pub write_echo : Tables → (number i x p : ℕ) → Happening
write_echo t zero i x p = single i x p
write_echo t (suc v) i x p = of v (wrote (bit_write t v i x p))

unfoldable pub echo : Tables → Act → Happening
echo t (time u) = at u
echo t (write i x p) = write_echo t (t.vector i) i x p
echo t step_end = ends

-- what happens, without the vectors' events
unfoldable pub echoes : List Happening → List Happening
echoes [] = []
echoes (at u ∷ h) = at u ∷ echoes h
echoes (single i x p ∷ h) = single i x p ∷ echoes h
echoes (of v (began u) ∷ h) = of v (began u) ∷ echoes h
echoes (of v (wrote x) ∷ h) = of v (wrote x) ∷ echoes h
echoes (of v (shown c l) ∷ h) = echoes h
echoes (of v over ∷ h) = of v over ∷ echoes h
echoes (ends ∷ h) = ends ∷ echoes h
