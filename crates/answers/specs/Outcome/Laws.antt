-- Laws of outcomes, of their six numbers, and of buffers filled up with zeros.
-- Assumes nothing.
use Rattle.std.specs.Prelude.{ℕ, ◌-◌, ◌≤◌, ◌≡◌, ◌≢◌, List, [], take, drop, replicate}
use Rattle.std.proofs.Math.Path.{refl}
use Rattle.std.proofs.Common.{sym, length-append}
use Rattle.std.proofs.Math.Nat.{sub-zero}
use native.Mathlib.Omega.{arith}
use Rattle.std.proofs.Math.ListN.{length}
use Rattle.std.proofs.lemmas.List.{length-replicate}
use Rattle.std.proofs.Math.Seq.{take_at, drop-append_seam}
use Rattle.answers.specs.Outcome.{Outcome, accepted, refused, answer, event_bytes, value_bytes, padded}

-- ---- filled up with zeros

module _ (size : ℕ) (l : List ℕ) where
  pub padded_length : length l ≤ size → length (padded size l) ≡ size
  unfolding padded
  padded_length h = simp (length-append, length-replicate) (omega arith)

  -- `n` bytes are reported
  module _ (n : ℕ) (e : n ≡ length l) where
    pub padded_front : take n (padded size l) ≡ l
    unfolding padded
    padded_front = take_at l (replicate (size - length l) 0) n (sym e)

    pub padded_past : drop n (padded size l) ≡ replicate (size - n) 0
    unfolding padded
    padded_past = rw e (drop-append_seam l (replicate (size - length l) 0))

pub padded_nothing : (size : ℕ) (l : List ℕ) → l ≡ [] → padded size l ≡ replicate size 0
unfolding padded
padded_nothing size l e = rw (e, sub-zero)

-- ---- the six numbers

-- an outcome that keeps to what was read and lent, and whose refusal has one of the numbers up to the highest: 20 in 01's table
unfoldable pub Allowed : (most input events values : ℕ) → Outcome → Type 0
Allowed most input events values (accepted i es vs n) = (i ≤ input) × (length es ≤ events) × (length vs ≤ values)
Allowed most input events values (refused n p) = (1 ≤ n) × (n ≤ most)

pub answer_events : (o : Outcome) → (answer o).events ≡ length (event_bytes o)
unfolding answer event_bytes
answer_events (accepted i es vs n) = refl
answer_events (refused n p) = refl

pub answer_values : (o : Outcome) → (answer o).values ≡ length (value_bytes o)
unfolding answer value_bytes
answer_values (accepted i es vs n) = refl
answer_values (refused n p) = refl

-- "a refusal gives a number and a place with all other fields zero"
pub refusal_rest : (o : Outcome) → (answer o).number ≢ 0 → ((answer o).read ≡ 0) × ((answer o).events ≡ 0) × ((answer o).values ≡ 0) × ((answer o).steps ≡ 0)
unfolding answer
refusal_rest (accepted i es vs n) h = absurd (h refl)
refusal_rest (refused n p) h = (refl, refl, refl, refl)

pub refusal_events : (o : Outcome) → (answer o).number ≢ 0 → event_bytes o ≡ []
unfolding answer event_bytes
refusal_events (accepted i es vs n) h = absurd (h refl)
refusal_events (refused n p) h = refl

pub refusal_values : (o : Outcome) → (answer o).number ≢ 0 → value_bytes o ≡ []
unfolding answer value_bytes
refusal_values (accepted i es vs n) h = absurd (h refl)
refusal_values (refused n p) h = refl

-- the number says that it is a refusal
pub refusal_is : (o : Outcome) → (answer o).number ≢ 0 → o ≡ refused (answer o).number (answer o).place
unfolding answer
refusal_is (accepted i es vs n) h = absurd (h refl)
refusal_is (refused n p) h = refl

module _ (most input events values : ℕ) where
  -- .. or that it is none
  pub acceptance_is : (o : Outcome) → Allowed most input events values o → (answer o).number ≡ 0 → o ≡ accepted (answer o).read (event_bytes o) (value_bytes o) (answer o).steps
  unfolding Allowed answer event_bytes value_bytes
  acceptance_is (accepted i es vs n) a h = refl
  acceptance_is (refused n p) a h = absurd (omega arith)

  pub acceptance_place : (o : Outcome) → Allowed most input events values o → (answer o).number ≡ 0 → (answer o).place ≡ 0
  unfolding Allowed answer
  acceptance_place (accepted i es vs n) a h = refl
  acceptance_place (refused n p) a h = absurd (omega arith)

  pub allowed_number : (o : Outcome) → Allowed most input events values o → (answer o).number ≤ most
  unfolding Allowed answer
  allowed_number (accepted i es vs n) a = omega arith
  allowed_number (refused n p) a = a.1

  pub allowed_read : (o : Outcome) → Allowed most input events values o → (answer o).read ≤ input
  unfolding Allowed answer
  allowed_read (accepted i es vs n) a = a.0
  allowed_read (refused n p) a = omega arith

  pub allowed_events : (o : Outcome) → Allowed most input events values o → length (event_bytes o) ≤ events
  unfolding Allowed event_bytes
  allowed_events (accepted i es vs n) a = a.1
  allowed_events (refused n p) a = omega arith

  pub allowed_values : (o : Outcome) → Allowed most input events values o → length (value_bytes o) ≤ values
  unfolding Allowed value_bytes
  allowed_values (accepted i es vs n) a = a.2
  allowed_values (refused n p) a = omega arith
