-- What the proofs search.
-- Assumes nothing.
use Rattle.std.specs.Prelude.{◌≡◌, ℕ, Bool, true, false, List, [], ◌∷◌, take}
use Rattle.plain_text.specs.Text.{decimal, hex, Holds}
use Rattle.plain_text.specs.Text.Laws.{Adds, adds_then, adds_alone}
use Rattle.answers.specs.declared.Answer.{Answer}
use Rattle.buffer_contents.specs.Held.{is_held}
use Rattle.answer_lines.specs.Told.{spaced, pair, numbers, reported, told}

module _ {t t₁ t₂ : List ℕ} {at i j : ℕ} where
  pub spaced_is : (n : ℕ) → Adds t at (32 ∷ []) t₁ i → Adds t₁ i (decimal n) t₂ j → Adds t at (spaced n) t₂ j
  unfolding spaced
  spaced_is n p q = adds_then p q

  pub pair_is : (a b : ℕ) → Adds t at (spaced a) t₁ i → Adds t₁ i (spaced b) t₂ j → Adds t at (pair a b) t₂ j
  unfolding pair
  pair_is a b p q = adds_then p q

  module _ {t₃ : List ℕ} {k : ℕ} where
    pub numbers_are : (a : Answer) → Adds t at (pair a.number a.place) t₁ i → Adds t₁ i (pair a.read a.events) t₂ j → Adds t₂ j (pair a.values a.steps) t₃ k → Adds t at (numbers a) t₃ k
    unfolding numbers
    numbers_are a p q r = adds_then p (adds_then q r)

    module _ (out bytes : List ℕ) (p : Adds t at (32 ∷ []) t₁ i) (q : Adds t₁ i (hex bytes) t₂ j) {b : Bool} (e : b ≡ is_held out bytes) where
      pub reported_held : b ≡ true → Adds t₂ j (10 ∷ []) t₃ k → Adds t at (reported out bytes) t₃ k
      unfolding reported
      reported_held d r = rw (← e, d) (adds_then p (adds_then q r))

      pub reported_not : b ≡ false → Adds t₂ j (33 ∷ 10 ∷ []) t₃ k → Adds t at (reported out bytes) t₃ k
      unfolding reported
      reported_not d r = rw (← e, d) (adds_then p (adds_then q r))

pub told_is : {t t₁ t₂ t₃ t₄ : List ℕ} {i j k n : ℕ} (label : List ℕ) (a : Answer) (out : List ℕ) → Adds t 0 label t₁ i → Adds t₁ i (58 ∷ []) t₂ j → Adds t₂ j (numbers a) t₃ k
    → (m : ℕ) → m ≡ a.events → (bytes : List ℕ) → bytes ≡ take m out → Adds t₃ k (reported out bytes) t₄ n → Holds t (told label a out) t₄ n
unfolding told
told_is label a out p q r m f bytes e s = rw (e, f) at (adds_alone (adds_then p (adds_then q (adds_then r s))))

pub ruleset spaced_laws = (spaced_is)

pub ruleset pair_laws = (pair_is)

pub ruleset numbers_laws = (numbers_are)

pub ruleset reported_laws = (reported_held, reported_not)

pub ruleset told_laws = (told_is)
