-- The latest write of a bit, in words.
-- Assumes nothing.
use Rattle.std.specs.Prelude.{◌≡◌, refl, ◌≢◌, ◌↔◌, ◌⊎◌, true, cond, ℕ, eqb}
use Rattle.std.proofs.Common.{sym, ap, ◌∙◌, inl, inr, ⊎_elim, eqb-true, eq-eqb, ne_eqb}
use Rattle.std.proofs.lemmas.Bool.{false≢true, eqb-false}
use Rattle.std.proofs.Math.Option.{Option, none, some, none-ne-some, some-ne-none, some-injective}
use mathlib.Core.List.Memᴰ
use mathlib.Core.List.{List, [], ◌∷◌, ◌++◌, Memᴰ}
use Rattle.rules.specs.Vector.{Write}
use Rattle.rules.proofs.Vector.Laws.{by_test}
use Rattle.rules.specs.Owned.{latest, value_or}
use Rattle.rules.specs.Owned.Latest.{IsLatest, Lacks, found}

pub latest_nil : (b : ℕ) → latest b [] ≡ none
unfolding latest
latest_nil b = refl

pub latest_cons : (b : ℕ) (x : Write) (ws : List Write) → latest b (x ∷ ws) ≡ cond (eqb b x.bit) (some x) (latest b ws)
unfolding latest
latest_cons b x ws = refl

pub value_none : (d : ℕ) → value_or d none ≡ d
unfolding value_or
value_none d = refl

pub value_some : (d : ℕ) (x : Write) → value_or d (some x) ≡ x.value
unfolding value_or
value_some d x = refl

pub lacks_cons : (b : ℕ) (x : Write) (ws : List Write) → x.bit ≢ b → Lacks b ws → Lacks b (x ∷ ws)
lacks_cons b x ws n h y m = ⊎_elim (λ (p : y ≡ x). λ e. n (ap (λ (z : Write). z.bit) (sym p) ∙ e)) (λ (m' : Memᴰ y ws). h y m') (Memᴰ.cases_cons m)

-- the two cases of a list of writes
pub latest_here : (b : ℕ) (x : Write) (ws : List Write) → x.bit ≡ b → latest b (x ∷ ws) ≡ some x
latest_here b x ws e = rw (latest_cons, eq-eqb b x.bit (sym e))

pub latest_there : (b : ℕ) (x : Write) (ws : List Write) → x.bit ≢ b → latest b (x ∷ ws) ≡ latest b ws
latest_there b x ws n = rw (latest_cons, ne_eqb b x.bit (λ e. n (sym e)))

same_bit : (x : Write) (b : ℕ) → (x.bit ≡ b) ⊎ (x.bit ≢ b)
same_bit x b = by_test (eqb x.bit b) (λ q. inl (eqb-true _ _ q)) (λ q. inr (eqb-false _ _ q))

lacks_latest : (b : ℕ) (ws : List Write) → Lacks b ws → latest b ws ≡ none
lacks_latest b [] n = latest_nil b
lacks_latest b (x ∷ ws) n = latest_there b x ws (n x (Memᴰ.head refl)) ∙ lacks_latest b ws (λ y m. n y (Memᴰ.tail m))

latest_lacks : (b : ℕ) (ws : List Write) → latest b ws ≡ none → Lacks b ws
latest_lacks b [] h = λ x m. absurd (Memᴰ.not-nil m)
latest_lacks b (x ∷ ws) h =
    ⊎_elim (λ (e : x.bit ≡ b). absurd (some-ne-none x (sym (latest_here b x ws e) ∙ h)))
    (λ (n : x.bit ≢ b). lacks_cons b x ws n (latest_lacks b ws (sym (latest_there b x ws n) ∙ h)))
    (same_bit x b)

-- it is none exactly where no write of that bit exists
pub latest_none : (b : ℕ) (ws : List Write) → (latest b ws ≡ none) ↔ Lacks b ws
latest_none b ws = (latest_lacks b ws, lacks_latest b ws)

first_latest : (b : ℕ) (later : List Write) (x : Write) (earlier : List Write) → x.bit ≡ b → Lacks b later → latest b (later ++ x ∷ earlier) ≡ some x
first_latest b [] x earlier e n = latest_here b x earlier e
first_latest b (y ∷ later) x earlier e n = latest_there b y _ (n y (Memᴰ.head refl)) ∙ first_latest b later x earlier e (λ z m. n z (Memᴰ.tail m))

latest_first : (b : ℕ) (ws : List Write) (x : Write) → latest b ws ≡ some x → IsLatest b ws x
latest_first b [] x h = absurd (none-ne-some x (sym (latest_nil b) ∙ h))
latest_first b (y ∷ ws) x h = ⊎_elim here (λ (n : y.bit ≢ b). there n (latest_first b ws x (sym (latest_there b y ws n) ∙ h))) (same_bit y b)
  where
    here : y.bit ≡ b → IsLatest b (y ∷ ws) x
    here e = let p : y ≡ x = some-injective y x (sym (latest_here b y ws e) ∙ h) in ([], ws, ap (λ z. z ∷ ws) p, ap (λ (z : Write). z.bit) (sym p) ∙ e, λ z m. absurd (Memᴰ.not-nil m))

    there : y.bit ≢ b → IsLatest b ws x → IsLatest b (y ∷ ws) x
    there n r = (y ∷ r.0, r.1, ap (λ l. y ∷ l) r.2, r.3, lacks_cons b y r.0 n r.4)

pub latest_some : (b : ℕ) (ws : List Write) (x : Write) → (latest b ws ≡ some x) ↔ IsLatest b ws x
latest_some b ws x = (latest_first b ws x, λ (later, earlier, e, p, n). rw e (first_latest b later x earlier p n))

-- .. so it is one of the writes
pub latest_in : (b : ℕ) (ws : List Write) (x : Write) → latest b ws ≡ some x → Memᴰ x ws × (x.bit ≡ b)
latest_in b ws x h = let (later, earlier, e, p, n) = latest_first b ws x h in (rw e (Memᴰ.append_right later (Memᴰ.head refl)), p)

-- .. and there is one where there is a write
pub latest_exists : (b : ℕ) (ws : List Write) (x : Write) → Memᴰ x ws → x.bit ≡ b → latest b ws ≢ none
latest_exists b ws x m e h = latest_lacks b ws h x m e

pub found_some : (o : Option Write) → found o ≡ true → (x : Write) × (o ≡ some x)
unfolding found
found_some none h = absurd (false≢true h)
found_some (some x) h = (x, refl)

pub found_not_none : (o : Option Write) → o ≢ none → found o ≡ true
unfolding found
found_not_none none h = absurd (h refl)
found_not_none (some x) h = refl
