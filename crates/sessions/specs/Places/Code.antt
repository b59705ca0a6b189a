-- What the proofs of the bench's places search.
-- Assumes nothing.
use Rattle.std.specs.Prelude.{◌≡◌, Bool, true, false, get_or, set, eqb}
use Rattle.std.proofs.Math.Path.{refl}
use Rattle.std.proofs.Common.{sym, ◌∙◌, add-one, arith}
use Prim.Native.Nat.{ℕ, zero, suc, ◌+◌, ◌≤◌, ◌<◌}
use borrow.Author.Tests.{eq-eqb, ne_eqb, lt-ltb, le-ltb}
use Rattle.sessions.specs.declared.Bench.{Bench}
use Rattle.sessions.specs.Places.{lowest, is_free, is_at, place_of, free_place, place_for, counted, dropped}

-- one more fits each count
pub record Few (b : Bench) : Type 0 where
  pub few : (i : ℕ) → get_or b.counts i 0 < 0xffff_ffff_ffff_ffff

-- .. and that of a place
pub record Countable (b : Bench) (k : ℕ) : Type 0 where
  pub place : k < 32
  pub few : get_or b.counts k 0 < 0xffff_ffff_ffff_ffff

module _ (b : Bench) (session k : ℕ) where
  pub at_free : get_or b.counts k 0 ≡ 0 → false ≡ is_at b session k
  unfolding is_at is_free
  at_free e = rw e

  pub at_live : (get_or b.counts k 0 ≡ 0 → ⊥) → eqb (get_or b.sessions k 0) session ≡ is_at b session k
  unfolding is_at is_free
  at_live n = rw (ne_eqb (get_or b.counts k 0) 0 n)

pub ruleset at_laws = (at_free, at_live)

-- ---- the lowest place

-- none below k
pub record Seeking (p : ℕ → Bool) (k : ℕ) : Type 0 where
  pub fuel : ℕ
  pub turns : k + fuel ≡ 32
  pub left : lowest p fuel k ≡ lowest p 32 0

abbrev pub SeekingAt : Bench → (session k : ℕ) → Type 0
SeekingAt b session k = Seeking (is_at b session) k

abbrev pub SeekingFree : Bench → ℕ → Type 0
SeekingFree b k = Seeking (is_free b) k

pub seek_none : (p : ℕ → Bool) → Seeking p 0
seek_none p = record { fuel = 32; turns = refl; left = refl }

module _ {p : ℕ → Bool} {k : ℕ} (c : Seeking p k) where
  found : p k ≡ true → (f : ℕ) → k + f ≡ 32 → k < 32 → lowest p f k ≡ k
  unfolding lowest
  found t zero u l = absurd (omega arith)
  found t (suc f) u l = rw t

  passed : p k ≡ false → (f : ℕ) → k + f ≡ 32 → k < 32 → lowest p f k ≡ lowest p 32 0 → Seeking p (k + 1)
  unfolding lowest
  passed t zero u l e = absurd (omega arith)
  passed t (suc f) u l e = record { fuel = f; turns = omega arith; left = rw (add-one k) (rw t at e) }

  module _ {m : Bool} (d : m ≡ p k) (l : k < 32) where
    pub seek_found : m ≡ true → k ≡ lowest p 32 0
    seek_found t = sym (found (sym d ∙ t) c.fuel c.turns l) ∙ c.left

    pub seek_more : m ≡ false → Seeking p (k + 1)
    seek_more t = passed (sym d ∙ t) c.fuel c.turns l c.left

  none : (f : ℕ) → k + f ≡ 32 → 32 ≤ k → lowest p f k ≡ k
  unfolding lowest
  none zero u l = refl
  none (suc f) u l = absurd (omega arith)

  pub seek_all : 32 ≤ k → 32 ≡ lowest p 32 0
  seek_all l = let e : 32 ≡ k = omega (arith, c.turns) in e ∙ sym (none c.fuel c.turns l) ∙ c.left

  pub seek_most : k ≤ 32
  seek_most = omega (arith, c.turns)

pub ruleset seek_laws = (seek_none, seek_found, seek_more, seek_all, seek_most)

module _ (b : Bench) {k : ℕ} (c : Seeking (is_free b) k) (l : k < 32) where
  pub free_found : get_or b.counts k 0 ≡ 0 → k ≡ lowest (is_free b) 32 0
  unfolding is_free
  free_found e = seek_found c {m = true} (sym (eq-eqb (get_or b.counts k 0) 0 e)) l refl

  pub free_more : (get_or b.counts k 0 ≡ 0 → ⊥) → Seeking (is_free b) (k + 1)
  unfolding is_free
  free_more n = seek_more c {m = false} (sym (ne_eqb (get_or b.counts k 0) 0 n)) l refl

pub ruleset free_laws = (seek_none, free_found, free_more, seek_all, seek_most)

module _ (b : Bench) (session : ℕ) {k : ℕ} (e : k ≡ place_of b session) where
  pub for_own : k < 32 → k ≡ place_for b session
  unfolding place_for
  for_own l = rw (← e, lt-ltb k 32 l)

  pub for_free : 32 ≤ k → {j : ℕ} → j ≡ free_place b → j ≡ place_for b session
  unfolding place_for
  for_free l {j} f = rw (← e, le-ltb k 32 l) f

pub ruleset for_laws = (for_own, for_free)

-- ---- a place changed

pub counted_is : (b : Bench) (k session : ℕ) → ◌≡◌ {A = Bench} (record { sessions = set b.sessions k session; counts = set b.counts k (get_or b.counts k 0 + 1) }) (counted b k session)
unfolding counted
counted_is b k session = refl

pub dropped_is : (b : Bench) (k : ℕ) → ◌≡◌ {A = Bench} (record { sessions = b.sessions; counts = set b.counts k 0 }) (dropped b k)
unfolding dropped
dropped_is b k = refl

pub ruleset place_laws = (counted_is, dropped_is)
