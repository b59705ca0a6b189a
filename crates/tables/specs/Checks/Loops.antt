-- How far the loops of the checks have come, and what the proofs of the functions search.
-- Assumes nothing.
use Rattle.std.specs.Prelude.{◌≡◌, refl, ℕ, ◌+◌, ◌-◌, ◌*◌, ◌<◌, ◌≤◌, Bool, true, false, not, ◌&&◌, ◌||◌, List, cond, eqb, leb, get_or, Ok, Err}
use Rattle.std.proofs.Common.{sym, ◌∙◌, ⊎_elim, eq-or-lt_of_le, add-one, Fits}
use native.Mathlib.Omega.{arith}
use borrow.Author.Tests.{not-true, not-false, eq-eqb, ne_eqb, le-leb, lt-leb}
use Rattle.std.proofs.Math.ListN.{length}
use Rattle.std.specs.Int.{w64}
use Rattle.slices.specs.Choice.{le_or_lt}
use Rattle.states.specs.declared.States.{States}
use Rattle.states.specs.declared.States.TheVariants.{Two, Nine}
use Rattle.states.specs.Kind.{bytes_required, state_of}
use Rattle.tables.specs.Lists.{Lists, nth, signals, vectors}
use Rattle.tables.specs.Layout.{layout_of, start, total_bytes}
use Rattle.tables.specs.Layout.Laws.{width_is, state_is, start_suc, start_le, total_is}
use Rattle.tables.specs.Checks.{unless, lowest, within_limit, equal_lengths, good_vector, holds, suits, good_number, good_signal, names_all, check1, check2, check3, check4, check5, check6}
use Rattle.tables.specs.Checks.Laws.{nth_at, nth_less, lowest_at, lowest_all}
use Rattle.tables.specs.Good.{Sized, Ranged, Named}
use Rattle.tables.specs.Check.{Check, Passed, Refused}

-- ---- tests

module _ (good : Bool) (number : ℕ) where
  pub unless_good : good ≡ true → Passed ≡ unless good number
  unfolding unless
  unless_good e = rw e

  pub unless_bad : good ≡ false → Refused number 0 ≡ unless good number
  unfolding unless
  unless_bad e = rw e

pub within_is : (len : ℕ) → leb len 1073741823 ≡ within_limit len
unfolding within_limit
within_is len = refl

pub limits_are : (input events values room list : ℕ) {a b c d : Bool} {r : Check} → a ≡ within_limit events → b ≡ within_limit values → c ≡ within_limit room → d ≡ within_limit list
    → r ≡ cond (leb input 16777215 && a && b && c && d) (Ok tt) (Err (1, 0)) → r ≡ check1 input events values room list
unfolding check1 unless
limits_are input events values room list p q s u e = e ∙ rw (p, q, s, u)

-- ---- a loop that passes numbers as long as they are good

pub record Passing (good : ℕ → Bool) (i : ℕ) : Type 0 where
  pub so_far : (k : ℕ) → 1 ≤ k → k ≤ i → good k ≡ true

pub pass_none : (good : ℕ → Bool) → Passing good 0
pass_none good = record { so_far = λ k a b. absurd (omega arith) }

module _ {good : ℕ → Bool} {i : ℕ} (p : Passing good i) where
  pub pass_all : (number count : ℕ) → count ≤ i → Passed ≡ lowest number good count 1
  pass_all number count h = lowest_all number good count 1 (λ k a b. p.so_far k a (omega arith))

  module _ {g : Bool} (e : g ≡ good (i + 1)) where
    pub pass_more : not g ≡ false → Passing good (i + 1)
    pass_more n = record { so_far = λ k a b. ⊎_elim (λ (q : k ≡ i + 1). rw (q, ← e) (not-false g n)) (λ (q : k < i + 1). p.so_far k a (omega arith)) (eq-or-lt_of_le b) }

    pub pass_not : (number count : ℕ) → i < count → not g ≡ true → Refused number (i + 1) ≡ lowest number good count 1
    pass_not number count h n = lowest_at number good count 1 (i + 1) (omega arith) (omega arith) (λ k a b. p.so_far k a (omega arith)) (sym e ∙ not-true g n)

-- the tables are in a struct, whose lists are those of its view
module _ {view t : Lists} (is : view ≡ t) {r : Check} where
  pub vectors_are : r ≡ lowest 3 (good_vector t) (length view.mins) 1 → r ≡ check3 t
  unfolding check3 vectors
  vectors_are e = e ∙ rw is

  pub signals_are : r ≡ lowest 4 (good_signal t) (length view.kinds) 1 → r ≡ check4 t
  unfolding check4 signals
  signals_are e = e ∙ rw is

-- ---- a scan of the ids of one vector

-- r is the lowest id of min..max below `best` that doesn't name the vector, or else `best`
pub record Stranger (vecs : List ℕ) (number min max best r : ℕ) : Type 0 where
  pub low : r ≤ best
  pub named : (id : ℕ) → min ≤ id → id ≤ max → id < r → get_or vecs (id - 1) 0 ≡ number
  pub inside : r < best → (min ≤ r) × (r ≤ max)
  pub strange : r < best → get_or vecs (r - 1) 0 ≡ number → ⊥

-- the ids that were passed name the vector
pub record Scanning (vecs : List ℕ) (number min id : ℕ) : Type 0 where
  pub from : min ≤ id
  pub so_far : (k : ℕ) → min ≤ k → k < id → get_or vecs (k - 1) 0 ≡ number

pub scan_none : (vecs : List ℕ) (number min : ℕ) → Scanning vecs number min min
scan_none vecs number min = record { from = omega arith; so_far = λ k a b. absurd (omega arith) }

module _ {vecs : List ℕ} {number min id : ℕ} (s : Scanning vecs number min id) where
  none_left : (max best : ℕ) → ((k : ℕ) → k ≤ max → k < best → k < id) → Stranger vecs number min max best best
  none_left max best f = record { low = omega arith; named = λ k a b c. s.so_far k a (f k b c); inside = λ l. absurd (omega arith); strange = λ l. absurd (omega arith) }

  pub scan_past : (max best : ℕ) → max < id → Stranger vecs number min max best best
  scan_past max best h = none_left max best (λ k a b. omega arith)

  pub scan_all : (max best : ℕ) → best ≤ id → Stranger vecs number min max best best
  scan_all max best h = none_left max best (λ k a b. omega arith)

  pub scan_found : {max best : ℕ} → id < best → id ≤ max → (get_or vecs (id - 1) 0 ≡ number → ⊥) → Stranger vecs number min max best id
  scan_found h o n = record { low = omega arith; named = λ k a b c. s.so_far k a c; inside = λ l. (s.from, o); strange = λ l. n }

  pub scan_more : get_or vecs (id - 1) 0 ≡ number → Scanning vecs number min (id + 1)
  scan_more n =
      record {
        from = omega (arith, s.from);
        so_far = λ k a b. ⊎_elim (λ (q : k ≡ id). rw q n) (λ (q : k < id). s.so_far k a q) (eq-or-lt_of_le (let l : k ≤ id = omega arith in l));
      }

-- ---- the tables

module _ (t : Lists) where
  pub lists_are : {r : Check}
      → r ≡ cond ((eqb (length t.refs) (length t.kinds) && eqb (length t.vecs) (length t.kinds) && eqb (length t.maxs) (length t.mins) && eqb (length t.states) (length t.mins) && eqb (length t.vec_refs) (length t.mins))
      && leb (length t.kinds) 65535 && leb (length t.mins) 16383) (Ok tt) (Err (2, 0))
      → r ≡ check2 t
  unfolding check2 unless equal_lengths signals vectors
  lists_are e = e

  -- check 3

  pub vector_is : (v : ℕ) {min max : ℕ} → min ≡ get_or t.mins v 0 → max ≡ get_or t.maxs v 0
      → (leb 1 min && leb min max && leb max (length t.kinds) && leb (get_or t.states v 0) 1 && not (eqb (get_or t.vec_refs v 0) 0)) ≡ good_vector t (v + 1)
  unfolding good_vector signals
  vector_is v p q = simp nth_at (rw (p, q))

  -- check 4

  module _ (i number state : ℕ) where
    pub suits_none : number < 1 → false ≡ suits t (i + 1) number state
    unfolding suits
    suits_none h = rw (lt-leb 1 number h)

    pub suits_past : 1 ≤ number → length t.mins < number → false ≡ suits t (i + 1) number state
    unfolding suits vectors
    suits_past h o = simp (le-leb 1 number h, lt-leb number (length t.mins) o)

    pub suits_is : {min max : ℕ} → 1 ≤ number → number ≤ length t.mins → min ≡ get_or t.mins (number - 1) 0 → max ≡ get_or t.maxs (number - 1) 0
        → (leb min (i + 1) && leb (i + 1) max && eqb (get_or t.states (number - 1) 0) state && eqb (get_or t.vec_refs (number - 1) 0) (get_or t.refs i 0)) ≡ suits t (i + 1) number state
    unfolding suits vectors holds
    suits_is h o p q = simp (le-leb 1 number h, le-leb number (length t.mins) o, nth_less t.mins number h, nth_less t.maxs number h, nth_less t.states number h, nth_less t.vec_refs number h, nth_at) (rw (p, q))

  module _ (i : ℕ) {number : ℕ} (n : number ≡ get_or t.vecs i 0) where
    abbrev With : Bool → Type 0
    With b = (leb (get_or t.kinds i 0) 6 && not (eqb (get_or t.refs i 0) 0) && b) ≡ good_signal t (i + 1)

    pub signal_nine : {b : Bool} → get_or t.kinds i 0 ≡ 1 → b ≡ suits t (i + 1) number 0 → With b
    unfolding good_signal good_number
    signal_nine k e = simp (nth_at, eq-eqb (get_or t.kinds i 0) 1 k) (rw (e, n))

    pub signal_two : {b : Bool} → (get_or t.kinds i 0 ≡ 1 → ⊥) → get_or t.kinds i 0 ≡ 3 → b ≡ suits t (i + 1) number 1 → With b
    unfolding good_signal good_number
    signal_two z k e = simp (nth_at, ne_eqb (get_or t.kinds i 0) 1 z, eq-eqb (get_or t.kinds i 0) 3 k) (rw (e, n))

    pub signal_alone : (get_or t.kinds i 0 ≡ 1 → ⊥) → (get_or t.kinds i 0 ≡ 3 → ⊥) → With (eqb number 0)
    unfolding good_signal good_number
    signal_alone z k = simp (nth_at, ne_eqb (get_or t.kinds i 0) 1 z, ne_eqb (get_or t.kinds i 0) 3 k) (rw n)

  -- check 5

  -- of the first v vectors: the lowest id that lies in the range of one without naming it, or n + 1
  pub record Lowest (v best : ℕ) : Type 0 where
    pub past : v ≤ length t.mins
    pub some : 1 ≤ best
    pub low : best ≤ length t.kinds + 1
    pub below : (id : ℕ) → 1 ≤ id → id < best → names_all t v id ≡ true
    pub at_best : best ≤ length t.kinds → names_all t v best ≡ false

  pub names_none : Lowest 0 (length t.kinds + 1)
  unfolding names_all
  names_none = record { past = omega arith; some = omega arith; low = omega arith; below = λ id a b. refl; at_best = λ l. absurd (omega arith) }

  module _ {v best : ℕ} (p : Lowest v best) where
    pub names_not : length t.mins ≤ v → best ≤ length t.kinds → Refused 5 best ≡ check5 t
    unfolding check5 vectors signals
    names_not h o =
        let e : v ≡ length t.mins = omega (arith, p.past) in
        rw (← e) (lowest_at 5 (names_all t v) (length t.kinds) 1 best p.some (omega arith) p.below (p.at_best o))

    pub names_all_lem : length t.mins ≤ v → length t.kinds < best → Passed ≡ check5 t
    unfolding check5 vectors signals
    names_all_lem h o =
        let e : v ≡ length t.mins = omega (arith, p.past) in
        rw (← e) (lowest_all 5 (names_all t v) (length t.kinds) 1 (λ k a b. p.below k a (omega arith)))

    next_vector : (id : ℕ) → names_all t (v + 1) id ≡ (names_all t v id && (not (leb (get_or t.mins v 0) id && leb id (get_or t.maxs v 0)) || eqb (nth t.vecs id) (v + 1)))
    unfolding names_all holds
    next_vector id = rw (← nth_at t.mins v, ← nth_at t.maxs v) (rw (add-one v))

    module _ {r : ℕ} (s : Stranger t.vecs (v + 1) (get_or t.mins v 0) (get_or t.maxs v 0) best r) (h : v < length t.mins) (g : Ranged t) where
      abbrev min : ℕ
      min = get_or t.mins v 0

      abbrev max : ℕ
      max = get_or t.maxs v 0

      names_it : (id : ℕ) → 1 ≤ id → id < r → (not (leb min id && leb id max) || eqb (nth t.vecs id) (v + 1)) ≡ true
      names_it id a b =
          ⊎_elim
          (λ (c : min ≤ id). ⊎_elim (λ (d : id ≤ max). simp (le-leb min id c, le-leb id max d, nth_less t.vecs id a, eq-eqb (get_or t.vecs (id - 1) 0) (v + 1) (s.named id c d b))) (λ (d : max < id). simp (le-leb min id c, lt-leb id max d)) (le_or_lt id max))
          (λ (c : id < min). simp (lt-leb min id c))
          (le_or_lt min id)

      names_not_it : r < best → (not (leb min r && leb r max) || eqb (nth t.vecs r) (v + 1)) ≡ false
      names_not_it l =
          let i = s.inside l in
          simp (le-leb min r i.0, le-leb r max i.1, nth_less t.vecs r (omega (arith, (g.vector v h).least)), ne_eqb (get_or t.vecs (r - 1) 0) (v + 1) (s.strange l))

      some_id : 1 ≤ r
      some_id = ⊎_elim (λ (l : best ≤ r). omega (arith, p.some)) (λ (l : r < best). omega (arith, s.inside l, (g.vector v h).least)) (le_or_lt best r)

      at_found : names_all t v r ≡ true → r < best → names_all t (v + 1) r ≡ false
      at_found e l = rw (next_vector r, e) (names_not_it l)

      pub names_more : Lowest (v + 1) r
      names_more =
          record {
            past = omega arith;
            some = some_id;
            low = omega (arith, p.low, s.low);
            below = λ id a b. rw (next_vector id, p.below id a (omega (arith, s.low))) (names_it id a b);
            at_best = λ o. ⊎_elim (λ (l : best ≤ r). let e : r ≡ best = omega (arith, s.low) in rw (next_vector r, e, p.at_best (omega arith))) (λ (l : r < best). at_found (p.below r some_id l) l) (le_or_lt best r);
          }

  pub scan_is : (v : ℕ) {min max best r : ℕ} → min ≡ get_or t.mins v 0 → max ≡ get_or t.maxs v 0 → Stranger t.vecs (v + 1) min max best r → Stranger t.vecs (v + 1) (get_or t.mins v 0) (get_or t.maxs v 0) best r
  scan_is v p q s = rw (← p, ← q) s

  -- check 6

  module _ (g : Ranged t) {v : ℕ} (h : v < length t.mins) where
    pub least_id : {m : ℕ} → m ≡ get_or t.mins v 0 → 1 ≤ m
    least_id e = rw e (g.vector v h).least

    pub in_order : get_or t.mins v 0 ≤ get_or t.maxs v 0
    in_order = (g.vector v h).order

    pub width_small : Sized t → {w : ℕ} → w ≡ get_or t.maxs v 0 - get_or t.mins v 0 + 1 → w ≤ 65535
    width_small z e = omega (arith, (g.vector v h).least, (g.vector v h).most, z.few_signals)

  -- the chunks of the first v vectors
  pub record Summing (v sum : ℕ) : Type 0 where
    pub past : v ≤ length t.mins
    pub sums : sum ≡ start (layout_of t) v
    pub small : sum ≤ 63486

  pub sum_none : Summing 0 0
  unfolding start
  sum_none = record { past = omega arith; sums = refl; small = omega arith }

  module _ {v sum : ℕ} (p : Summing v sum) where
    module _ (h : v < length t.mins) {s : States} {w n : ℕ} (bytes : n ≡ bytes_required s w + bytes_required Two w) (kind : s ≡ state_of (get_or t.states v 0)) (wide : w ≡ get_or t.maxs v 0 - get_or t.mins v 0 + 1) (k : Named t) where
      next_start : sum + n ≡ start (layout_of t) (v + 1)
      next_start = rw (add-one v, start_suc (layout_of t) v, width_is t v h, state_is t v h, p.sums, bytes, kind, wide)

      pub sum_more : Summing (v + 1) (sum + n)
      sum_more = record { past = omega arith; sums = next_start; small = omega (arith, next_start, k.starts, start_le (layout_of t) (v + 1) (length t.mins) (omega arith)) }

    pub sum_all : length t.mins ≤ v → {b : ℕ} → b ≡ bytes_required Two (length t.mins) → sum + 2 * b ≡ total_bytes (layout_of t)
    sum_all h flags =
        let e : v ≡ length t.mins = omega (arith, p.past) in
        let q : sum ≡ start (layout_of t) (length t.mins) = p.sums ∙ rw e in
        omega (arith, total_is t)

  pub rooms_are : (room list : ℕ) {n : ℕ} {r : Check} → n ≡ total_bytes (layout_of t) → r ≡ cond (leb n room && leb (length t.mins) list) (Ok tt) (Err (6, 0)) → r ≡ check6 t room list
  unfolding check6 unless vectors
  rooms_are room list p e = e ∙ rw p

chunk_small : (s : States) (w : ℕ) → w ≤ 65535 → bytes_required s w + bytes_required Two w ≤ 40960
unfolding bytes_required
chunk_small Two w h = omega arith
chunk_small Nine w h = omega arith

module _ (s : States) (w : ℕ) (h : w ≤ 65535) {a b : ℕ} (p : a ≡ bytes_required s w) (q : b ≡ bytes_required Two w) where
  pub chunk_most : a + b ≤ 40960
  chunk_most = omega (arith, chunk_small s w h)

  pub fits_chunk : Fits w64 (a + b)
  fits_chunk = omega (arith, chunk_most)

pub flags_small : {v b : ℕ} → v ≤ 16383 → b ≡ bytes_required Two v → b ≤ 2048
unfolding bytes_required
flags_small h e = omega arith

pub ruleset test_laws = (unless_good, unless_bad, within_is, limits_are, lists_are, vector_is, suits_none, suits_past, suits_is, signal_nine, signal_two, signal_alone)

pub ruleset pass_laws = (pass_none, pass_all, pass_more, pass_not, vectors_are, signals_are)

pub ruleset scan_laws = (scan_none, scan_past, scan_all, scan_found, scan_more)

pub ruleset names_laws = (names_none, names_not, names_all_lem, names_more, least_id, scan_is)

pub ruleset room_laws = (chunk_most, fits_chunk, flags_small, in_order, width_small, sum_none, sum_more, sum_all, rooms_are)
