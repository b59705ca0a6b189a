-- How two numbers compare, and what holds of a choice. A choice by a test is the library's `cond` everywhere.
-- Assumes nothing.
use Rattle.std.specs.Prelude.{◌≡◌, refl, ℕ, ◌≤◌, ◌<◌, Bool, true, false, cond, ◌⊎◌}
use Rattle.std.proofs.Common.{inl, inr, ⊎_elim, eq-or-lt_of_le, arith}
use Rattle.std.proofs.Math.Decide.{dec_le}

-- what holds of a choice, from what holds of each side where its test came out so
pub cond_ind : {A : Type 0} (b : Bool) (x y : A) (P : A → Type 0) → (b ≡ true → P x) → (b ≡ false → P y) → P (cond b x y)
cond_ind true x y P f g = f refl
cond_ind false x y P f g = g refl

le_or_lt' : (a b : ℕ) → Dec (a ≤ b) → (a ≤ b) ⊎ (b < a)
le_or_lt' a b (yes h) = inl h
le_or_lt' a b (no n) = inr (omega (arith, n))

pub le_or_lt : (a b : ℕ) → (a ≤ b) ⊎ (b < a)
le_or_lt a b = le_or_lt' a b (dec_le a b)

pub tri : (a b : ℕ) → (a ≡ b) ⊎ ((a < b) ⊎ (b < a))
tri a b = ⊎_elim (λ h. ⊎_elim (λ e. inl e) (λ l. inr (inl l)) (eq-or-lt_of_le h)) (λ l. inr (inr l)) (le_or_lt a b)

-- two numbers that differ, one way or the other
pub apart : {a b : ℕ} → (a < b) ⊎ (b < a) → a ≡ b → ⊥
apart {a} {b} o e = ⊎_elim (λ (l : a < b). omega arith) (λ (l : b < a). omega arith) o
