-- What rules' steps do to the values and marks of a vector, and what they leave of the others.
-- Assumes nothing.
use Rattle.std.specs.Prelude.{◌≡◌, ℕ, zero, suc, ◌<◌, Bool, cond, ◌||◌, List, [], ◌∷◌, eqb, length, get_or, set, replicate}
use Rattle.std.proofs.Math.Path.{refl, sym, ap}
use Rattle.std.proofs.Common.{◌∙◌, arith, eqb-true, get_or-set_same, get_or-set_other}
use Rattle.std.proofs.Math.Bool.{true, false}
use Rattle.std.proofs.lemmas.Bool.{eqb-false}
use Rattle.std.proofs.Math.ListN.{length-set, length-replicate}
use Rattle.rules.specs.Vector.{Write, Vec, any, stored, cleared}
use Rattle.rules.specs.Gather.{with}
use Rattle.vecmarks.specs.Info.{num}

pub num_one : (m : Bool) → eqb (num m) 1 ≡ m
num_one true = refl
num_one false = refl

pub num_cond : (m y : Bool) → cond m 1 (num y) ≡ num (cond m true y)
num_cond true y = refl
num_cond false y = refl

pub any_clear : (n : ℕ) → any (replicate n false) ≡ false
unfolding any
any_clear zero = refl
any_clear (suc n) = any_clear n

pub get_d_clear {ℓ} : {A : Type ℓ} (a : A) (n b : ℕ) → get_or (replicate n a) b a ≡ a
get_d_clear a zero b = refl
get_d_clear a (suc n) zero = refl
get_d_clear a (suc n) (suc b) = get_d_clear a n b

any_set : (ms : List Bool) (b : ℕ) → b < length ms → any (set ms b true) ≡ true
unfolding any
any_set [] b h = absurd (omega arith)
any_set (m ∷ ms) zero h = refl
any_set (m ∷ ms) (suc b) h = rw (any_set ms b (omega arith)) (go m)
  where
    go : (m : Bool) → (m || true) ≡ true
    go true = refl
    go false = refl

get_d_set {ℓ} : {A : Type ℓ} (l : List A) (i b : ℕ) (a d : A) → i < length l → get_or (set l i a) b d ≡ cond (eqb b i) a (get_or l b d)
get_d_set l i b a d h = go (eqb b i) refl
  where
    go : (t : Bool) → eqb b i ≡ t → get_or (set l i a) b d ≡ cond t a (get_or l b d)
    go true q = rw (eqb-true b i q) (get_or-set_same l i a d h)
    go false q = get_or-set_other l i b a d (eqb-false b i q)

-- a vector that stays as it is
pub with_self : (vecs : ℕ → Vec) (v w : ℕ) → vecs w ≡ with vecs v (vecs v) w
unfolding with
with_self vecs v w = go (eqb w v) refl
  where
    go : (m : Bool) → eqb w v ≡ m → vecs w ≡ cond m (vecs v) (vecs w)
    go true e = ap vecs (eqb-true w v e)
    go false e = refl

-- what holds of the new vector at v, and of the others
pub with_ind : (vecs : ℕ → Vec) (v : ℕ) (x : Vec) (P : ℕ → Bool → Vec → Type 0) → P v true x → ((w : ℕ) → P w false (vecs w)) → (w : ℕ) → P w (eqb w v) (with vecs v x w)
unfolding with
with_ind vecs v x P same other w = go (eqb w v) refl
  where
    go : (m : Bool) → eqb w v ≡ m → P w m (cond m x (vecs w))
    go true e = rw (eqb-true w v e) same
    go false e = other w

-- ---- (b) "store and mark"

module _ (y : Vec) (x : Write) where
  pub stored_value : x.bit < length y.vals → (c : ℕ) → cond (eqb c x.bit) x.value (get_or y.vals c 0) ≡ get_or (stored y x).vals c 0
  unfolding stored
  stored_value h c = sym (get_d_set y.vals x.bit c x.value 0 h)

  pub stored_mark : x.bit < length y.marks → (c : ℕ) → cond (eqb c x.bit) 1 (num (get_or y.marks c false)) ≡ num (get_or (stored y x).marks c false)
  unfolding stored
  stored_mark h c = num_cond (eqb c x.bit) (get_or y.marks c false) ∙ ap num (sym (get_d_set y.marks x.bit c true false h))

  pub stored_any : x.bit < length y.marks → any (stored y x).marks ≡ true
  unfolding stored
  stored_any h = any_set y.marks x.bit h

  pub stored_vals : length (stored y x).vals ≡ length y.vals
  unfolding stored
  stored_vals = length-set y.vals x.bit x.value

  pub stored_marks : length (stored y x).marks ≡ length y.marks
  unfolding stored
  stored_marks = length-set y.marks x.bit true

-- ---- "clear its marks"

module _ (y : Vec) where
  pub cleared_vals : (cleared y).vals ≡ y.vals
  unfolding cleared
  cleared_vals = refl

  pub cleared_mark : (c : ℕ) → get_or (cleared y).marks c false ≡ false
  unfolding cleared
  cleared_mark c = get_d_clear false (length y.marks) c

  pub cleared_any : any (cleared y).marks ≡ false
  unfolding cleared
  cleared_any = any_clear (length y.marks)

  pub cleared_marks : length (cleared y).marks ≡ length y.marks
  unfolding cleared
  cleared_marks = length-replicate (length y.marks) false
