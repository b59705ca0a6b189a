-- `is_held` and `is_zero` are true exactly of what they name.
-- Assumes nothing.
use Rattle.std.specs.Prelude.{◌≡◌, ℕ, ◌-◌, true, List, ◌++◌, length, replicate}
use Rattle.numbers.specs.Marks.Laws.{same_is, same_true}
use Rattle.buffer_contents.specs.Held.{is_held, is_zero}

module _ (out want : List ℕ) where
  pub held_true : is_held out want ≡ true → out ≡ want ++ replicate (length out - length want) 0
  unfolding is_held
  held_true e = same_true _ _ e

  pub held_is : out ≡ want ++ replicate (length out - length want) 0 → is_held out want ≡ true
  unfolding is_held
  held_is e = same_is e

module _ (l : List ℕ) where
  pub zero_true : is_zero l ≡ true → l ≡ replicate (length l) 0
  unfolding is_zero
  zero_true e = same_true _ _ e

  pub zero_is : l ≡ replicate (length l) 0 → is_zero l ≡ true
  unfolding is_zero
  zero_is e = same_is e
