-- No act is dropped or made up: without the vectors' events, what happens is what the input says, act for act.
-- Assumes nothing.
use Rattle.std.specs.Prelude.{◌≡◌, refl, Bool, true, false, List, [], ◌∷◌, ◌++◌, map, ℕ, zero, suc}
use Rattle.std.proofs.Common.{ap}
use Rattle.rules.specs.Vector.{Write, put, Cause, rewritten, complete, ended, began, wrote, shown, over, Vec, any, fires, clashes, act}
use Rattle.rules.specs.Gather.{Tables, width, Act, time, write, step_end, Happening, at, single, of, ends, State, end_all, bit_write, to_vector, toward, does, happens}
use Rattle.rules.specs.Gather.Echo.{echo, echoes, write_echo}

echoes_append : (a b : List Happening) → echoes (a ++ b) ≡ echoes a ++ echoes b
unfolding echoes
echoes_append [] b = refl
echoes_append (at u ∷ a) b = ap (λ h. at u ∷ h) (echoes_append a b)
echoes_append (single i x p ∷ a) b = ap (λ h. single i x p ∷ h) (echoes_append a b)
echoes_append (of v (began u) ∷ a) b = ap (λ h. of v (began u) ∷ h) (echoes_append a b)
echoes_append (of v (wrote x) ∷ a) b = ap (λ h. of v (wrote x) ∷ h) (echoes_append a b)
echoes_append (of v (shown c l) ∷ a) b = echoes_append a b
echoes_append (of v over ∷ a) b = ap (λ h. of v over ∷ h) (echoes_append a b)
echoes_append (ends ∷ a) b = ap (λ h. ends ∷ h) (echoes_append a b)

echoes_fires : (v : ℕ) (b : Bool) (c : Cause) (x : Vec) → echoes (map (of v) (fires b c x).0) ≡ []
unfolding echoes fires
echoes_fires v true c x = refl
echoes_fires v false c x = refl

map_append : {A B : Type 0} (f : A → B) (a b : List A) → map f (a ++ b) ≡ map f a ++ map f b
map_append f [] b = refl
map_append f (x ∷ a) b = ap (λ l. f x ∷ l) (map_append f a b)

echoes_put : (early : Bool) (v : ℕ) (x : Vec) (y : Write) → echoes (map (of v) (act early x (put y)).0) ≡ of v (wrote y) ∷ []
unfolding act echoes
echoes_put early v x y = rw (map_append, echoes_append, echoes_fires v (clashes x y) rewritten x) (ap (λ h. of v (wrote y) ∷ h) (echoes_fires v _ complete _))

echoes_toward : (early : ℕ → Bool) (t : Tables) (s : State) (n i x p : ℕ) → echoes (toward early t s n i x p).0 ≡ write_echo t n i x p ∷ []
unfolding toward to_vector echoes write_echo
echoes_toward early t s zero i x p = refl
echoes_toward early t s (suc v) i x p = echoes_put (early (width t v)) v (s.vecs v) (bit_write t v i x p)

echoes_end : (vs : List ℕ) (vecs : ℕ → Vec) → echoes (end_all vs vecs).0 ≡ []
unfolding end_all echoes
echoes_end [] vecs = refl
echoes_end (v ∷ vs) vecs = rw (echoes_append, echoes_fires v (any (vecs v).marks) ended (vecs v)) (echoes_end vs _)

echoes_does : (early : ℕ → Bool) (t : Tables) (s : State) (a : Act) → echoes (does early t s a).0 ≡ echo t a ∷ []
unfolding does echo echoes
echoes_does early t s (time u) = refl
echoes_does early t s (write i x p) = echoes_toward early t s (t.vector i) i x p
echoes_does early t s step_end = rw (echoes_append, echoes_end s.listed s.vecs)

pub nothing_lost : (early : ℕ → Bool) (t : Tables) (s : State) (acts : List Act) → echoes (happens early t s acts) ≡ map (echo t) acts
unfolding happens echoes
nothing_lost early t s [] = refl
nothing_lost early t s (a ∷ acts) = rw (echoes_append, echoes_does early t s a) (ap (λ h. echo t a ∷ h) (nothing_lost early t (does early t s a).1 acts))
