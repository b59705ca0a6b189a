-- A definition that goes by steps, with fuel: an interpreter whose input has ended where there is no fuel left.
-- Assumes nothing.
use Rattle.std.specs.Prelude.{◌≡◌, refl, ℕ, zero, suc, ◌+◌, ◌-◌, ◌≤◌, ◌<◌, cond, List, [], ◌++◌, leb}
use Rattle.std.proofs.Math.Path.{sym}
use Rattle.std.proofs.Common.{◌∙◌, le-leb}
use native.Mathlib.Omega.{arith}
use Rattle.std.proofs.lemmas.Bool.{lt-leb}
use Rattle.std.proofs.Math.ListN.{length}
use Rattle.number_writer.specs.Ended.{Ended, wrote, refused, Fills}
use Rattle.number_writer.specs.Written.{Written}
use Rattle.filling.specs.Filling.{Filling, filling_inside}
use Rattle.filling.specs.Filling.Steps.{Step, goes, ends, stops, DoesBy, Takes, filling_step}

-- a step goes on within the input, to a state for which `Good` still holds
abbrev pub Ahead : {X : Type 0} → (X → ℕ → Type 0) → List ℕ → ℕ → Step X → Type 0
Ahead Good s i (goes bs x j) = (i < j) × (j ≤ length s) × Good x j
Ahead Good s i (ends bs j k) = Unit {0}
Ahead Good s i (stops n p) = Unit {0}

module _ {X A : Type 0} where
  -- a step, behind the bytes so far: "16: next event doesn't fit ..: next unread byte"
  unfoldable pub on_step : (of : Ended → A) (room : ℕ) → List ℕ → Step X → (X → List ℕ → ℕ → A) → A
  on_step of room held (goes bs x j) more =
      cond (leb (length held + length bs) room) (more x (held ++ bs) j) (of (refused 16 j))
  on_step of room held (ends bs j k) more =
      cond (leb (length held + length bs) room) (of (wrote j (held ++ bs) k)) (of (refused 16 j))
  on_step of room held (stops n p) more = of (refused n p)

  module _ (Good : X → ℕ → Type 0) (says : (fuel : ℕ) → X → List ℕ → ℕ → A) (s : List ℕ) where
    -- `says` goes by `step`
    pub record Stepwise (of : Ended → A) (step : X → ℕ → Step X) (room : ℕ) : Type 0 where
      pub ahead : (x : X) (i : ℕ) → Good x i → Ahead Good s i (step x i)
      pub once : (fuel : ℕ) (x : X) (held : List ℕ) (i : ℕ) → length held ≤ room
          → says (suc fuel) x held i ≡ on_step of room held (step x i) (λ y o j. says fuel y o j)
      pub last : (x : X) (held : List ℕ) (i : ℕ) → length s ≤ i → length held ≤ room
          → (more : X → List ℕ → ℕ → A) × (says 0 x held i ≡ on_step of room held (step x i) more)

    -- there is fuel for what has not been read
    pub record Reading (whole : A) (x : X) (i : ℕ) (held : List ℕ) : Type 0 where
      pub fuel : ℕ
      pub enough : length s ≤ i + fuel
      pub left : says fuel x held i ≡ whole
      pub within : i ≤ length s
      pub good : Good x i

module _ {X A : Type 0} {Good : X → ℕ → Type 0} {says : (fuel : ℕ) → X → List ℕ → ℕ → A} {s : List ℕ} where
  pub reading_start : {x : X} → Good x 0 → Reading Good says s (says (length s) x [] 0) x 0 []
  reading_start g = record { fuel = length s; enough = omega arith; left = refl; within = omega arith; good = g }

  module _ {of : Ended → A} {step : X → ℕ → Step X} {room : ℕ} (w : Stepwise Good says s of step room) {whole : A}
      {x : X} {i : ℕ} {held : List ℕ} (r : Reading Good says s whole x i held) (h : length held ≤ room) where
    abbrev By : Step X → Type 0
    By g = (f : ℕ) × (length s ≤ i + suc f) × (whole ≡ on_step of room held g (λ y o j. says f y o j))

    -- without fuel nothing goes on
    spent : (g : Step X) → Ahead Good s i g → length s ≤ i → (more : X → List ℕ → ℕ → A)
        → whole ≡ on_step of room held g more → By g
    unfolding on_step
    spent (goes bs y j) a n more e = absurd (omega (arith, a.0, a.1))
    spent (ends bs j k) a n more e = (0, omega arith, e)
    spent (stops k p) a n more e = (0, omega arith, e)

    once : (fuel : ℕ) → length s ≤ i + fuel → says fuel x held i ≡ whole → By (step x i)
    once zero n e =
        let l = w.last x held i (omega arith) h in
        spent (step x i) (w.ahead x i r.good) (omega arith) l.0 (sym e ∙ l.1)
    once (suc f) n e = (f, n, sym e ∙ w.once f x held i h)

    abbrev Takes-here : Step X → Type 0
    Takes-here g = Takes of whole (Reading Good says s whole) (λ y j. length s - j) room held (length s - i) g

    taken : (g : Step X) → Ahead Good s i g → By g → Takes-here g
    unfolding on_step
    taken (goes bs y j) a (f, n, e) = (
      λ l. (
        record {
          fuel = f;
          enough = omega (arith, a.0);
          left = sym (rw (le-leb (length held + length bs) room l) at e);
          within = a.1;
          good = a.2;
        },
        omega (arith, a.0, a.1),
      ),
      λ l. rw (lt-leb (length held + length bs) room l) at e,
    )
    taken (ends bs j k) a (f, n, e) = (
      λ l. rw (le-leb (length held + length bs) room l) at e,
      λ l. rw (lt-leb (length held + length bs) room l) at e,
    )
    taken (stops k p) a (f, n, e) = e

    takes : Takes-here (step x i)
    takes = taken (step x i) (w.ahead x i r.good) (once r.fuel r.enough r.left)

-- a turn: it goes on with less to read, or its answer is the definition's
module _ {X A T : Type 0} {Good : X → ℕ → Type 0} {says : (fuel : ℕ) → X → List ℕ → ℕ → A} {of : Ended → A}
    {step : X → ℕ → Step X} {s room : List ℕ} (w : Stepwise Good says s of step (length room))
    {whole : A} {x : X} {i n : ℕ} {out : List ℕ} (o : Filling (Reading Good says s whole x i) room n out)
    (more : X → (read count : ℕ) → T) (over : Written → T) (C : T → Type 0) {out' : List ℕ} where
  pub reading_turn :
      ((y : X) (j c : ℕ) → Filling (Reading Good says s whole y j) room c out' → length s - j < length s - i
      → C (more y j c))
      → ((e : Ended) (a : Written) → whole ≡ of e → Fills e room out' a → C (over a))
      → (r : T) → DoesBy more over out n (step x i) out' r → C r
  reading_turn go end r d =
      filling_step o more over C go end (step x i) (takes w o.left (filling_inside o)) r d
