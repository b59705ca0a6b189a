-- The digits of a number as the toolchain's library `io` has them are those of `decimal`.
-- Assumes nothing.
use Rattle.std.specs.Prelude.{◌≡◌}
use Rattle.std.proofs.Common.{⊎_elim, mod-eq_of_lt, lt-ltb, le-ltb, Fits}
use Prim.Native.Nat.{ℕ, zero, suc, ◌-◌, ◌*◌, ◌/◌, ◌^◌, ◌≤◌, ◌<◌}
use mathlib.Core.List.{List}
use Rattle.std.proofs.Math.Nat.{one-le-pow, pow-le-pow_right, pow-succ'}
use native.Mathlib.Omega.{arith}
use Rattle.std.proofs.Math.ListN.{take}
use Rattle.std.specs.Int.{w64}
use Rattle.io.specs.Digits.{last_digits, IsDigitCount}
use Rattle.slices.specs.Choice.{le_or_lt}
use Rattle.plain_text.specs.Text.{digit, decimal_of, decimal}
use Rattle.plain_text.specs.Text.Laws.{Adds}

decimal_go : (k most n : ℕ) → k ≤ most → 1 ≤ k → n < 10 ^ k → (1 < k → 10 ^ (k - 1) ≤ n) → last_digits 10 k n ≡ decimal_of most n
unfolding digit decimal_of
decimal_go zero most n m l h f = absurd (omega arith)
decimal_go (suc k) zero n m l h f = absurd (omega arith)
decimal_go (suc zero) (suc most) n m l h f = rw (mod-eq_of_lt {n = n} {m = 10} h, lt-ltb n 10 h)
decimal_go (suc (suc k)) (suc most) n m l h f =
    let one : 10 ^ suc k ≡ 10 * 10 ^ k = pow-succ' 10 k in
    let two : 10 ^ suc (suc k) ≡ 10 * 10 ^ suc k = pow-succ' 10 (suc k) in
    let some : 1 ≤ 10 ^ k = one-le-pow k 10 (omega arith) in
    let down : suc (suc k) - 1 ≡ suc k = omega arith in
    let low : 10 ^ suc k ≤ n = rw down at (f (omega arith)) in
    let down' : suc k - 1 ≡ k = omega arith in
    rw (le-ltb n 10 (omega arith), decimal_go (suc k) most (n / 10) (omega arith) (omega arith) (omega arith) (λ o. rw down' (omega arith)))

twenty : (n k : ℕ) → Fits w64 n → (1 < k → 10 ^ (k - 1) ≤ n) → k ≤ 20
twenty n k b f =
    ⊎_elim (λ (h : k ≤ 20). h)
    (λ (h : 20 < k).
    let up : 10 ^ 20 ≤ 10 ^ (k - 1) = pow-le-pow_right {n = 10} (omega arith) {i = 20} {j = k - 1} (omega arith) in
    let low : 10 ^ (k - 1) ≤ n = f (omega arith) in absurd (omega arith)) (le_or_lt k 20)

module _ (n k : ℕ) where
  pub decimal_is : k ≤ 20 → 1 ≤ k → n < 10 ^ k → (1 < k → 10 ^ (k - 1) ≤ n) → last_digits 10 k n ≡ decimal n
  unfolding decimal
  decimal_is m l h f = decimal_go k 20 n m l h f

module _ {t t' : List ℕ} {at at' : ℕ} (d : List ℕ) (n k : ℕ) where
  pub adds_decimal : Adds t at (take k d) t' at' → take k d ≡ last_digits 10 k n → Fits w64 n → IsDigitCount 10 1 n k → Adds t at (decimal n) t' at'
  adds_decimal a e m f = rw (← decimal_is n k (twenty n k m f.2) f.0 f.1 f.2, ← e) a

pub ruleset decimal_laws = (adds_decimal)
