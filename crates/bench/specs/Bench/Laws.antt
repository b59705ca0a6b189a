-- What the proofs of the bench's entry search.
-- Assumes nothing.
use Rattle.std.specs.Prelude.{◌≡◌, ℕ, Bool, true, false, not, ◌&&◌, List, length, eqb}
use borrow.Author.Tests.{eq-eqb, ne_eqb}
use Rattle.tables.specs.Checks.{within_limit}
use Rattle.fragments.specs.Counting.{count_fragments}
use Rattle.answers.specs.Outcome.{refused, LeftKept, leaves_kept}
use Rattle.answers.specs.Filled.{filled}
use Rattle.bench.specs.Bench.{limits_of, apart, named, benched, bench}

module _ (a b c : ℕ) where
  pub apart_first : a ≡ b → false ≡ apart a b c
  unfolding apart
  apart_first e = rw (eq-eqb a b e)

  module _ (n : a ≡ b → ⊥) where
    pub apart_second : a ≡ c → false ≡ apart a b c
    unfolding apart
    apart_second e = rw (ne_eqb a b n, eq-eqb a c e)

    pub apart_third : (a ≡ c → ⊥) → not (eqb b c) ≡ apart a b c
    unfolding apart
    apart_third m = rw (ne_eqb a b n, ne_eqb a c m)

pub ruleset apart_laws = (apart_first, apart_second, apart_third)

module _ (events values : List ℕ) (session strobe close room : ℕ) {m : Bool} (e : m ≡ (within_limit (length events) && within_limit (length values) && within_limit room)) {x : LeftKept} where
  pub bench_over : m ≡ false → x ≡ leaves_kept room (refused 1 0) → x ≡ bench events values session strobe close room
  unfolding bench benched limits_of
  bench_over t h = rw (← e, t) h

  module _ (t : m ≡ true) {k : Bool} (f : k ≡ apart session strobe close) where
    pub bench_equal : k ≡ false → x ≡ leaves_kept room (refused 34 0) → x ≡ bench events values session strobe close room
    unfolding bench benched limits_of
    bench_equal u h = rw (← e, t, ← f, u) h

    pub bench_apart : k ≡ true → x ≡ leaves_kept room (filled (count_fragments (named session strobe close) events values room)) → x ≡ bench events values session strobe close room
    unfolding bench benched limits_of
    bench_apart u h = rw (← e, t, ← f, u) h

pub ruleset bench_laws = (bench_over, bench_equal, bench_apart)
