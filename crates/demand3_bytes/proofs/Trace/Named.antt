-- The writes in what happens, where it was made from acts over good tables: each names its vector, or none.
-- Assumes nothing.
use Rattle.std.specs.Prelude.{ℕ, zero, suc, ◌-◌, ◌≡◌, refl, List, [], ◌∷◌, ◌++◌, map}
use Rattle.std.proofs.Common.{arith}
use Rattle.rules.specs.Vector.{began, wrote, shown, over}
use Rattle.rules.specs.Gather.{Tables, Good, Act, time, write, step_end, Happening, at, single, of, ends, bit_write}
use Rattle.rules.specs.Gather.Echo.{write_echo, echo, echoes}
use Rattle.demand3_bytes.specs.Trace.Named.{Named}

named_echoes : (t : Tables) (h : List Happening) → Named t (echoes h) → Named t h
unfolding Named echoes
named_echoes t [] n = tt
named_echoes t (at u ∷ h) n = named_echoes t h n
named_echoes t (single i x p ∷ h) n = (n.0, named_echoes t h n.1)
named_echoes t (of v (began u) ∷ h) n = n
named_echoes t (of v (wrote x) ∷ h) n = (n.0, named_echoes t h n.1)
named_echoes t (of v (shown c l) ∷ h) n = named_echoes t h n
named_echoes t (of v over ∷ h) n = n
named_echoes t (ends ∷ h) n = named_echoes t h n

named_write : (t : Tables) → Good t → (n i x p : ℕ) (h : List Happening) → t.vector i ≡ n → Named t h
    → Named t (write_echo t n i x p ∷ h)
unfolding Named write_echo bit_write Good
named_write t g zero i x p h e r = (e, r)
named_write t g (suc v) i x p h e r =
    let b : t.max v - (t.max v - i) ≡ i = omega (arith, g i v e) in
    (rw b (e, refl), r)

named_acts : (t : Tables) → Good t → (acts : List Act) → Named t (map (echo t) acts)
unfolding Named echo
named_acts t g [] = tt
named_acts t g (time u ∷ acts) = named_acts t g acts
named_acts t g (write i x p ∷ acts) = named_write t g (t.vector i) i x p (map (echo t) acts) refl (named_acts t g acts)
named_acts t g (step_end ∷ acts) = named_acts t g acts

pub named : (t : Tables) → Good t → (h : List Happening) (acts : List Act) → echoes h ≡ map (echo t) acts → Named t h
named t g h acts e = named_echoes t h (rw e (named_acts t g acts))

pub named_append : (t : Tables) (a b : List Happening) → Named t (a ++ b) → Named t a × Named t b
unfolding Named
named_append t [] b n = (tt, n)
named_append t (at u ∷ a) b n = named_append t a b n
named_append t (single i x p ∷ a) b n = let r = named_append t a b n.1 in ((n.0, r.0), r.1)
named_append t (of v (began u) ∷ a) b n = absurd n
named_append t (of v (wrote x) ∷ a) b n = let r = named_append t a b n.1 in ((n.0, r.0), r.1)
named_append t (of v (shown c l) ∷ a) b n = named_append t a b n
named_append t (of v over ∷ a) b n = absurd n
named_append t (ends ∷ a) b n = named_append t a b n
