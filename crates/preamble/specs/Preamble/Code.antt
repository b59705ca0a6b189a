-- What the proofs of `preamble` search.
-- Assumes nothing.
use Rattle.std.specs.Prelude.{◌≡◌, refl, ℕ, ◌+◌, ◌-◌, ◌≤◌, ◌<◌, Bool, true, false, List, leb, eqb, length, get_or, set}
use Rattle.std.proofs.Common.{◌∙◌, arith}
use borrow.Author.Tests.{lt-leb, le-leb, eq-eqb, ne_eqb, leb-true, eqb-true, eqb-false}
use Rattle.slices.specs.Choice.{cond_ind}
use Rattle.slices.specs.Splice.{part}
use Rattle.numbers.specs.Fixed.{big}
use Rattle.preamble.specs.Item.{ItemFound, Signal, Vector, Sections, Refused}
use Rattle.preamble.specs.declared.Progress.{Progress}
use Rattle.preamble.specs.Opened as told
use Rattle.preamble.specs.Going.{Turn}
use Rattle.std.proofs.Common.{Continue, Break}
use Rattle.preamble.specs.Preamble.{item_length, signal_at, vector_at, flag_at, whole_item, item_at}

-- ---- a record

module _ {k : ℕ} where
  pub length_signal : k ≡ 1 → 10 ≡ item_length k
  unfolding item_length
  length_signal e = rw (eq-eqb k 1 e)

  pub length_vector : k ≡ 2 → 14 ≡ item_length k
  unfolding item_length
  length_vector e = rw (ne_eqb k 1 (λ o. omega arith), eq-eqb k 2 e)

  pub length_flag : k ≡ 3 → 2 ≡ item_length k
  unfolding item_length
  length_flag e = rw (ne_eqb k 1 (λ o. omega arith), ne_eqb k 2 (λ o. omega arith), eq-eqb k 3 e)

  pub length_unknown : (k ≡ 1 → ⊥) → (k ≡ 2 → ⊥) → (k ≡ 3 → ⊥) → 0 ≡ item_length k
  unfolding item_length
  length_unknown a b c = rw (ne_eqb k 1 a, ne_eqb k 2 b, ne_eqb k 3 c)

-- a whole record of a known kind stands at `at`
pub record Whole (s : List ℕ) (at : ℕ) : Type 0 where
  pub known : 0 < item_length (get_or s at 0)
  pub whole : at + item_length (get_or s at 0) ≤ length s

module _ (s : List ℕ) (at : ℕ) where
  pub signal_is : {a b : ℕ} → a ≡ big (part s (at + 2) 4) → b ≡ big (part s (at + 6) 4) → Signal (get_or s (at + 1) 0) a b (at + 10) ≡ signal_at s at
  unfolding signal_at
  signal_is p q = rw (p, q)

  pub vector_is : {a b c : ℕ} → a ≡ big (part s (at + 1) 4) → b ≡ big (part s (at + 5) 4) → c ≡ big (part s (at + 10) 4) → Vector a b (get_or s (at + 9) 0) c (at + 14) ≡ vector_at s at
  unfolding vector_at
  vector_is p q r = rw (p, q, r)

  pub flag_is : get_or s (at + 1) 0 ≤ 1 → Sections (eqb (get_or s (at + 1) 0) 1) (at + 2) ≡ flag_at s at
  unfolding flag_at
  flag_is h = rw (le-leb (get_or s (at + 1) 0) 1 h)

  pub flag_bad : 1 < get_or s (at + 1) 0 → Refused 17 at ≡ flag_at s at
  unfolding flag_at
  flag_bad h = rw (lt-leb (get_or s (at + 1) 0) 1 h)

  module _ {r : ItemFound} where
    pub whole_signal : get_or s at 0 ≡ 1 → r ≡ signal_at s at → r ≡ whole_item s at
    unfolding whole_item
    whole_signal e p = rw (eq-eqb (get_or s at 0) 1 e) p

    pub whole_vector : get_or s at 0 ≡ 2 → r ≡ vector_at s at → r ≡ whole_item s at
    unfolding whole_item
    whole_vector e p = rw (ne_eqb (get_or s at 0) 1 (λ o. omega arith), eq-eqb (get_or s at 0) 2 e) p

    pub whole_flag : (get_or s at 0 ≡ 1 → ⊥) → (get_or s at 0 ≡ 2 → ⊥) → r ≡ flag_at s at → r ≡ whole_item s at
    unfolding whole_item
    whole_flag m n p = rw (ne_eqb (get_or s at 0) 1 m, ne_eqb (get_or s at 0) 2 n) p

  module _ (w : Whole s at) where
    pub whole_begins : at < length s
    whole_begins = omega arith

    pub signal_fits : get_or s at 0 ≡ 1 → at + 10 ≤ length s
    signal_fits e = omega (arith, length_signal e)

    pub vector_fits : get_or s at 0 ≡ 2 → at + 14 ≤ length s
    vector_fits e = omega (arith, length_vector e)

    pub flag_fits : (get_or s at 0 ≡ 1 → ⊥) → (get_or s at 0 ≡ 2 → ⊥) → at + 2 ≤ length s
    flag_fits m n = by (eqb (get_or s at 0) 3) refl
      where
        by : (b : Bool) → eqb (get_or s at 0) 3 ≡ b → at + 2 ≤ length s
        by true e = omega (arith, length_flag (eqb-true (get_or s at 0) 3 e))
        by false e = omega (arith, length_unknown m n (eqb-false (get_or s at 0) 3 e))

-- ---- what stands at a place

module _ (s : List ℕ) (at : ℕ) where
  pub item_end : length s ≤ at → Refused 7 (length s) ≡ item_at s at
  unfolding item_at
  item_end h = rw (le-leb (length s) at h)

  module _ {size : ℕ} (h : at < length s) (k : size ≡ item_length (get_or s at 0)) where
    pub item_unknown : size ≡ 0 → Refused 17 at ≡ item_at s at
    unfolding item_at
    item_unknown z = rw (lt-leb (length s) at h, ← k, eq-eqb size 0 z)

    module _ (n : size ≡ 0 → ⊥) where
      pub item_short : length s - at < size → Refused 7 at ≡ item_at s at
      unfolding item_at
      item_short o = rw (lt-leb (length s) at h, ← k, ne_eqb size 0 n, lt-leb (at + size) (length s) (omega arith))

      pub item_whole : size ≤ length s - at → {r : ItemFound} → r ≡ whole_item s at → r ≡ item_at s at
      unfolding item_at
      item_whole o p = p ∙ rw (lt-leb (length s) at h, ← k, ne_eqb size 0 n, le-leb (at + size) (length s) (omega arith))

      pub item_stands : size ≤ length s - at → Whole s at
      item_stands o = record { known = omega (arith, n); whole = omega arith }

-- where the next record starts
abbrev pub After : List ℕ → ℕ → ItemFound → Type 0
After s i (Signal k r v j) = (i < j) × (j ≤ length s)
After s i (Vector a b c r j) = (i < j) × (j ≤ length s)
After s i (Sections f j) = (i < j) × (j ≤ length s)
After s i (Refused n p) = Unit {0}

pub after : (s : List ℕ) (i : ℕ) → After s i (item_at s i)
unfolding item_at whole_item signal_at vector_at flag_at
after s i =
    cond_ind (leb (length s) i) _ _ (After s i) (λ e. tt)
    (λ e. cond_ind (eqb (item_length (get_or s i 0)) 0) _ _ (After s i) (λ k. tt)
    (λ k. cond_ind (leb (i + item_length (get_or s i 0)) (length s)) _ _ (After s i)
    (λ w. let l : i + item_length (get_or s i 0) ≤ length s = leb-true _ _ w in
    let pos : 0 < item_length (get_or s i 0) = omega (arith, eqb-false (item_length (get_or s i 0)) 0 k) in
    let whole : Whole s i = record { known = pos; whole = l } in
    cond_ind (eqb (get_or s i 0) 1) _ _ (After s i) (λ a. (omega arith, signal_fits s i whole (eqb-true _ _ a)))
    (λ a. cond_ind (eqb (get_or s i 0) 2) _ _ (After s i) (λ b. (omega arith, vector_fits s i whole (eqb-true _ _ b)))
    (λ b. cond_ind (leb (get_or s (i + 1) 0) 1) _ _ (After s i) (λ f. (omega arith, flag_fits s i whole (eqb-false _ _ a) (eqb-false _ _ b))) (λ f. tt))))
    (λ w. tt)))

-- ---- a signal or a vector, in its arrays

abbrev pub SignalComes : (p : Progress) (k r v j : ℕ) (kinds refs vecs kinds' refs' vecs' : List ℕ) → Turn → Type 0
SignalComes p k r v j kinds refs vecs kinds' refs' vecs' (Continue q) =
    (p.signals < 256) × (q ≡ record { signals = p.signals + 1; vectors = p.vectors; at = j })
    × (kinds' ≡ set kinds p.signals k) × (refs' ≡ set refs p.signals r) × (vecs' ≡ set vecs p.signals v)
SignalComes p k r v j kinds refs vecs kinds' refs' vecs' (Break o) =
    (256 ≤ p.signals) × (o ≡ told.Refused 2 p.at) × (kinds' ≡ kinds) × (refs' ≡ refs) × (vecs' ≡ vecs)

pub record SignalTaken (p : Progress) (k r v j : ℕ) (kinds refs vecs kinds' refs' vecs' : List ℕ) (t : Turn) : Type 0 where
  pub comes : SignalComes p k r v j kinds refs vecs kinds' refs' vecs' t

abbrev pub VectorComes : (p : Progress) (a b c r j : ℕ) (mins maxs states refs mins' maxs' states' refs' : List ℕ) → Turn → Type 0
VectorComes p a b c r j mins maxs states refs mins' maxs' states' refs' (Continue q) =
    (p.vectors < 64) × (q ≡ record { signals = p.signals; vectors = p.vectors + 1; at = j })
    × (mins' ≡ set mins p.vectors a) × (maxs' ≡ set maxs p.vectors b) × (states' ≡ set states p.vectors c) × (refs' ≡ set refs p.vectors r)
VectorComes p a b c r j mins maxs states refs mins' maxs' states' refs' (Break o) =
    (64 ≤ p.vectors) × (o ≡ told.Refused 2 p.at) × (mins' ≡ mins) × (maxs' ≡ maxs) × (states' ≡ states) × (refs' ≡ refs)

pub record VectorTaken (p : Progress) (a b c r j : ℕ) (mins maxs states refs mins' maxs' states' refs' : List ℕ) (t : Turn) : Type 0 where
  pub comes : VectorComes p a b c r j mins maxs states refs mins' maxs' states' refs' t

pub ruleset length_laws = (length_signal, length_vector, length_flag, length_unknown)

pub ruleset item_laws = (signal_is, vector_is, flag_is, flag_bad)

pub ruleset whole_laws = (whole_begins, whole_signal, whole_vector, whole_flag, signal_fits, vector_fits, flag_fits)

pub ruleset at_laws = (item_end, item_unknown, item_short, item_whole, item_stands)
