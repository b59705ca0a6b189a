-- The groups of a number: how many, which says that another follows, and what they sum to.
-- Assumes nothing.
use Rattle.std.specs.Prelude.{◌≡◌, ℕ, zero, suc, ◌+◌, ◌*◌, ◌-◌, ◌/◌, ◌%◌, ◌^◌, ◌≤◌, ◌<◌, Bool, List, [], ◌∷◌, ◌++◌, length, get_or, ltb, leb}
use Rattle.std.proofs.Common.{ap, true≢false, pow-suc, arith}
use Rattle.std.proofs.Math.Bool.{true, false}
use borrow.Author.Tests.{lt-ltb, le-ltb, ltb-true, ltb-false, leb-true, leb-false}
use Rattle.slices.specs.Choice.{cond_ind}
use Rattle.leb128.specs.Leb128.{value, goes_on}
use Rattle.leb128.specs.Shortest.{fits, rest, groups}

-- ---- any number, signed or not

-- what holds of a number that is written in one byte and of one that goes on, holds of each
pub groups_ind : (signed : Bool) (k n : ℕ) (P : List ℕ → Type 0) → (fits signed n ≡ true → P (n % 128 ∷ []))
    → (fits signed n ≡ false → P ((128 + n % 128) ∷ groups signed k (rest signed n))) → P (groups signed (suc k) n)
unfolding groups
groups_ind signed k n P f g = cond_ind (fits signed n) _ _ P f g

pub groups_some : (signed : Bool) (k n : ℕ) → 1 ≤ length (groups signed k n)
unfolding groups
groups_some signed zero n = omega arith
groups_some signed (suc k) n = groups_ind signed k n (λ l. 1 ≤ length l) (λ e. omega arith) (λ e. omega arith)

pub groups_most : (signed : Bool) (k n : ℕ) → length (groups signed k n) ≤ k + 1
unfolding groups
groups_most signed zero n = omega arith
groups_most signed (suc k) n = groups_ind signed k n (λ l. length l ≤ suc k + 1) (λ e. omega arith) (λ e. omega (arith, groups_most signed k (rest signed n)))

-- every byte but the last says that another follows
pub goes_on_lem : (signed : Bool) (k n : ℕ) (more : List ℕ) → suc (goes_on (groups signed k n ++ more)) ≡ length (groups signed k n)
unfolding groups goes_on
goes_on_lem signed zero n more = rw (lt-ltb (n % 128) 128 (omega arith))
goes_on_lem signed (suc k) n more =
    groups_ind signed k n (λ l. suc (goes_on (l ++ more)) ≡ length l)
    (λ e. rw (lt-ltb (n % 128) 128 (omega arith)))
    (λ e. rw (le-ltb (128 + n % 128) 128 (omega arith)) (ap suc (goes_on_lem signed k (rest signed n) more)))

-- the last byte
abbrev pub last_of : List ℕ → ℕ
last_of bs = get_or bs (length bs - 1) 0

pub last_cons : (b : ℕ) (bs : List ℕ) → 1 ≤ length bs → last_of (b ∷ bs) ≡ last_of bs
last_cons b [] h = absurd (omega arith)
last_cons b (c ∷ bs) h = let e : suc (suc (length bs)) - 1 ≡ suc (suc (length bs) - 1) = omega arith in ap (λ (i : ℕ). get_or (b ∷ c ∷ bs) i 0) e

pub last_below : (signed : Bool) (k n : ℕ) → last_of (groups signed k n) < 128
unfolding groups
last_below signed zero n = omega arith
last_below signed (suc k) n =
    groups_ind signed k n (λ l. last_of l < 128) (λ e. omega arith)
    (λ e. rw (last_cons (128 + n % 128) (groups signed k (rest signed n)) (groups_some signed k (rest signed n))) (last_below signed k (rest signed n)))

-- ---- unsigned

pub unsigned_value : (k n : ℕ) → n < 128 ^ suc k → value (groups false k n) ≡ n
unfolding groups value rest fits
unsigned_value zero n h = omega arith
unsigned_value (suc k) n h =
    groups_ind false k n (λ l. value l ≡ n)
    (λ e. let f = ltb-true n 128 e in omega arith)
    (λ e. let v = unsigned_value k (n / 128) (omega (arith, pow-suc 128 (suc k))) in omega arith)

pub unsigned_short : (k n j : ℕ) → n < 128 ^ suc j → length (groups false k n) ≤ suc j
unfolding groups rest fits
unsigned_short zero n j h = omega arith
unsigned_short (suc k) n zero h =
    groups_ind false k n (λ l. length l ≤ 1) (λ e. omega arith) (λ e. let f = ltb-false n 128 e in absurd (omega arith))
unsigned_short (suc k) n (suc j) h =
    groups_ind false k n (λ l. length l ≤ suc (suc j)) (λ e. omega arith)
    (λ e. omega (arith, unsigned_short k (n / 128) j (omega (arith, pow-suc 128 (suc j)))))

-- ---- signed: 0 or more

module _ (v : ℕ) (p : v < 2 ^ 63) where
  rest_low : rest true v ≡ v / 128
  unfolding rest
  rest_low = rw (lt-ltb v (2 ^ 63) p)

  fits_low : fits true v ≡ true → v < 64
  unfolding fits
  fits_low = cond_ind (ltb v 64) true (leb (2 ^ 64 - 64) v) (λ b. b ≡ true → v < 64) (λ t e. ltb-true v 64 t) (λ t e. absurd (omega (arith, leb-true (2 ^ 64 - 64) v e)))

  fits_more : fits true v ≡ false → 64 ≤ v
  unfolding fits
  fits_more = cond_ind (ltb v 64) true (leb (2 ^ 64 - 64) v) (λ b. b ≡ false → 64 ≤ v) (λ t e. absurd (true≢false e)) (λ t e. ltb-false v 64 t)

pub signed_low : (k v : ℕ) → v < 2 ^ 63 → v < 64 * 128 ^ k → (value (groups true k v) ≡ v) × (last_of (groups true k v) < 64)
unfolding groups value
signed_low zero v p h = (omega arith, omega arith)
signed_low (suc k) v p h =
    groups_ind true k v (λ l. (value l ≡ v) × (last_of l < 64))
    (λ e. let f = fits_low v p e in (omega arith, omega arith))
    (λ e. rw (rest_low v p, last_cons ((128 + v % 128)) (groups true k (v / 128)) (groups_some true k (v / 128)))
    (let w = signed_low k (v / 128) (omega arith) (omega (arith, pow-suc 128 k)) in (omega (arith, w.0), w.1)))

pub signed_low_short : (k v j : ℕ) → v < 2 ^ 63 → v < 64 * 128 ^ j → length (groups true k v) ≤ suc j
unfolding groups
signed_low_short zero v j p h = omega arith
signed_low_short (suc k) v zero p h =
    groups_ind true k v (λ l. length l ≤ 1) (λ e. omega arith) (λ e. absurd (omega (arith, fits_more v p e)))
signed_low_short (suc k) v (suc j) p h =
    groups_ind true k v (λ l. length l ≤ suc (suc j)) (λ e. omega arith)
    (λ e. rw (rest_low v p) (omega (arith, signed_low_short k (v / 128) j (omega arith) (omega (arith, pow-suc 128 j)))))

-- ---- signed: below 0

module _ (v : ℕ) (p : 2 ^ 63 ≤ v) where
  rest_high : rest true v ≡ v / 128 + (2 ^ 64 - 2 ^ 57)
  unfolding rest
  rest_high = rw (le-ltb v (2 ^ 63) p)

  fits_high : fits true v ≡ true → 2 ^ 64 - 64 ≤ v
  unfolding fits
  fits_high = cond_ind (ltb v 64) true (leb (2 ^ 64 - 64) v) (λ b. b ≡ true → 2 ^ 64 - 64 ≤ v) (λ t e. absurd (omega (arith, ltb-true v 64 t))) (λ t e. leb-true (2 ^ 64 - 64) v e)

  fits_less : fits true v ≡ false → v < 2 ^ 64 - 64
  unfolding fits
  fits_less = cond_ind (ltb v 64) true (leb (2 ^ 64 - 64) v) (λ b. b ≡ false → v < 2 ^ 64 - 64) (λ t e. absurd (true≢false e)) (λ t e. leb-false (2 ^ 64 - 64) v e)

pub signed_high : (k v : ℕ) → 2 ^ 63 ≤ v → v < 2 ^ 64 → 2 ^ 64 ≤ v + 64 * 128 ^ k
    → (value (groups true k v) + 2 ^ 64 ≡ v + 128 ^ length (groups true k v)) × (64 ≤ last_of (groups true k v))
unfolding groups value
signed_high zero v p q h = (omega arith, omega arith)
signed_high (suc k) v p q h =
    groups_ind true k v (λ l. (value l + 2 ^ 64 ≡ v + 128 ^ length l) × (64 ≤ last_of l))
    (λ e. let f = fits_high v p e in (omega arith, omega arith))
    (λ e. rw (rest_high v p, last_cons ((128 + v % 128)) (groups true k (v / 128 + (2 ^ 64 - 2 ^ 57))) (groups_some true k (v / 128 + (2 ^ 64 - 2 ^ 57))))
    (let w = signed_high k (v / 128 + (2 ^ 64 - 2 ^ 57)) (omega arith) (omega arith) (omega (arith, pow-suc 128 k)) in
    (omega (arith, w.0, pow-suc 128 (length (groups true k (v / 128 + (2 ^ 64 - 2 ^ 57))))), w.1)))

pub signed_high_short : (k v j : ℕ) → 2 ^ 63 ≤ v → v < 2 ^ 64 → 2 ^ 64 ≤ v + 64 * 128 ^ j → length (groups true k v) ≤ suc j
unfolding groups
signed_high_short zero v j p q h = omega arith
signed_high_short (suc k) v zero p q h =
    groups_ind true k v (λ l. length l ≤ 1) (λ e. omega arith) (λ e. absurd (omega (arith, fits_less v p e)))
signed_high_short (suc k) v (suc j) p q h =
    groups_ind true k v (λ l. length l ≤ suc (suc j)) (λ e. omega arith)
    (λ e. rw (rest_high v p) (omega (arith, signed_high_short k (v / 128 + (2 ^ 64 - 2 ^ 57)) j (omega arith) (omega arith) (omega (arith, pow-suc 128 j)))))
