-- From the records made flat to the entry's promise: what stands in `flat` is the table of the records, and the checks by lengths are the entry's.
-- Assumes nothing.
use Rattle.std.specs.Prelude.{◌≡◌, Bool, ◌&&◌, ◌≢◌, List, map, set, drop, leb, eqb}
use Rattle.std.proofs.Math.Path.{refl}
use Rattle.std.proofs.Common.{sym, ap, subst, ◌∙◌, zero-add, eq-or-lt_of_le, le_of_suc-le-suc, mod-eq_of_lt, arith, get_or-take, get_or-drop, leb-true, eq-eqb}
use Prim.Native.Nat.{ℕ, zero, suc, ◌+◌, ◌*◌, ◌%◌, ◌<◌, ◌≤◌}
use Rattle.std.proofs.Math.Bool.{true, false}
use Rattle.std.proofs.Math.Logic.{⊎_elim}
use Rattle.std.proofs.Math.ListN.{replicate, length, get_or, length-set, length-map, get_or-map}
use Rattle.std.proofs.Math.Seq.{get_or-set_same, get_or-set_other, ext_get_or}
use Rattle.slices.specs.Choice.{cond_ind}
use Rattle.slices.specs.Splice.{part}
use Rattle.slices.specs.Splice.Laws.{length_part}
use Rattle.tables.specs.Lists.{Lists, signals, vectors}
use Rattle.tables.specs.Checks.{unless, check2, equal_lengths}
use Rattle.tables.specs.Check.{Check, Passed, Refused}
use Rattle.values.specs.Value.{ordinary}
use Rattle.doorquill.specs.declared.Vector.{Vector}
use Rattle.answers.specs.Outcome.{Lent}
use Rattle.entries.specs.Entries.{read_sections}
use Rattle.doorquill.specs.Lent.{LeftLent, table_of, checks_lent, left_by, read_sections_lent}
use Rattle.doorquill.specs.Lent.Flat.{none, room_for, placed, upto, Unpacked, lows, flat_table, check_flat, checks_flat, read_passed, refused_lent, read_by, read_flat}
use Rattle.doorquill.specs.Lent.Laws.{room_is, flat_few, flat_room}

-- what `unpack` asks
pub fits_room : (v flat n : ℕ) → n ≡ room_for v flat → (n ≤ v) × (4 * n ≤ flat)
unfolding room_for
fits_room v flat n e =
    cond_ind (leb v 16383) _ _ (λ (k : ℕ). n ≡ k → (n ≤ v) × (4 * n ≤ flat))
    (λ _. cond_ind (leb (4 * v) flat) _ _ (λ (k : ℕ). n ≡ k → (n ≤ v) × (4 * n ≤ flat)) (λ t d. let h : 4 * v ≤ flat = leb-true _ _ t in (omega arith, omega arith)) (λ t d. (omega arith, omega arith)))
    (λ _ d. (omega arith, omega arith)) e

-- ---- what stands in flat

length_upto : (vs : List Vector) (n : ℕ) (l : List ℕ) (i : ℕ) → length (upto vs n l i) ≡ length l
unfolding upto placed
length_upto vs n l zero = refl
length_upto vs n l (suc i) = simp length-set (length_upto vs n l i)

module _ (n : ℕ) (l : List ℕ) (i : ℕ) (v : Vector) where
  abbrev l₁ : List ℕ
  l₁ = set l i v.min

  abbrev l₂ : List ℕ
  l₂ = set l₁ (n + i) v.max

  abbrev l₃ : List ℕ
  l₃ = set l₂ (2 * n + i) v.reference

  -- no number of another record changes
  other_at : (j : ℕ) → j ≢ i → j ≢ n + i → j ≢ 2 * n + i → j ≢ 3 * n + i → get_or (placed n l i v) j 0 ≡ get_or l j 0
  unfolding placed
  other_at j a b c d = get_or-set_other l₃ (3 * n + i) j v.state 0 d ∙ (get_or-set_other l₂ (2 * n + i) j v.reference 0 c ∙ (get_or-set_other l₁ (n + i) j v.max 0 b ∙ get_or-set_other l i j v.min 0 a))

  module _ (h : i < n) (o : 4 * n ≤ length l) where
    min_at : get_or (placed n l i v) i 0 ≡ v.min
    unfolding placed
    min_at =
        get_or-set_other l₃ (3 * n + i) i v.state 0 (λ e. omega arith)
        ∙ (get_or-set_other l₂ (2 * n + i) i v.reference 0 (λ e. omega arith) ∙ (get_or-set_other l₁ (n + i) i v.max 0 (λ e. omega arith) ∙ get_or-set_same l i v.min 0 (omega arith)))

    max_at : get_or (placed n l i v) (n + i) 0 ≡ v.max
    unfolding placed
    max_at =
        get_or-set_other l₃ (3 * n + i) (n + i) v.state 0 (λ e. omega arith)
        ∙ (get_or-set_other l₂ (2 * n + i) (n + i) v.reference 0 (λ e. omega arith) ∙ get_or-set_same l₁ (n + i) v.max 0 (simp length-set (omega arith)))

    reference_at : get_or (placed n l i v) (2 * n + i) 0 ≡ v.reference
    unfolding placed
    reference_at = get_or-set_other l₃ (3 * n + i) (2 * n + i) v.state 0 (λ e. omega arith) ∙ get_or-set_same l₂ (2 * n + i) v.reference 0 (simp length-set (omega arith))

    state_at : get_or (placed n l i v) (3 * n + i) 0 ≡ v.state
    unfolding placed
    state_at = get_or-set_same l₃ (3 * n + i) v.state 0 (simp length-set (omega arith))

get_d_part : (s : List ℕ) (from n i : ℕ) → i < n → get_or (part s from n) i 0 ≡ get_or s (from + i) 0
unfolding part
get_d_part s from n i u = get_or-take n (drop from s) i 0 u ∙ get_or-drop from s i 0

-- one run: `f` of each record, from `p` on
module _ (vs : List Vector) (l : List ℕ) (o : 4 * length vs ≤ length l) (p : ℕ) (f : Vector → ℕ)
    (same : (k : List ℕ) (i : ℕ) (v : Vector) → i < length vs → 4 * length vs ≤ length k → get_or (placed (length vs) k i v) (p + i) 0 ≡ f v)
    (other : (k : List ℕ) (i j : ℕ) (v : Vector) → j < i → i < length vs → get_or (placed (length vs) k i v) (p + j) 0 ≡ get_or k (p + j) 0) where
  run_at : (i j : ℕ) → i ≤ length vs → j < i → get_or (upto vs (length vs) l i) (p + j) 0 ≡ f (get_or vs j none)
  unfolding upto
  run_at zero j h u = absurd (omega arith)
  run_at (suc i) j h u =
      let long : length (upto vs (length vs) l i) ≡ length l = length_upto vs (length vs) l i in
      ⊎_elim (λ (e : j ≡ i). rw e (same (upto vs (length vs) l i) i (get_or vs i none) h (omega arith)))
      (λ (u' : j < i). other (upto vs (length vs) l i) i j (get_or vs i none) u' h ∙ run_at i j (omega arith) u') (eq-or-lt_of_le (le_of_suc-le-suc u))

  run_is : p + length vs ≤ length l → f none ≡ 0 → part (upto vs (length vs) l (length vs)) p (length vs) ≡ map f vs
  run_is h z =
      let long : length (upto vs (length vs) l (length vs)) ≡ length l = length_upto vs (length vs) l (length vs) in
      let m : length (part (upto vs (length vs) l (length vs)) p (length vs)) ≡ length vs = length_part _ p (length vs) (omega arith) in
      ext_get_or 0 _ _ (m ∙ sym (length-map vs f)) (λ i u. at i (rw m at u))
    where
      at : (i : ℕ) → i < length vs → get_or (part (upto vs (length vs) l (length vs)) p (length vs)) i 0 ≡ get_or (map f vs) i 0
      at i u = get_d_part _ p (length vs) i u ∙ (run_at (length vs) i (omega arith) u ∙ (sym (get_or-map f vs i none) ∙ ap (get_or (map f vs) i) z))

module _ (vs : List Vector) (kinds refs vecs l : List ℕ) (o : 4 * length vs ≤ length l) (b : (k : ℕ) → k < length vs → (get_or vs k none).state < 256) where
  abbrev n : ℕ
  n = length vs

  mins_are : part (upto vs n l n) 0 n ≡ map (λ v. v.min) vs
  mins_are =
      run_is vs l o 0 (λ v. v.min) (λ k i v h u. rw zero-add (min_at n k i v h u)) (λ k i j v h u. rw zero-add (other_at n k i v j (λ e. omega arith) (λ e. omega arith) (λ e. omega arith) (λ e. omega arith))) (omega arith) refl

  maxs_are : part (upto vs n l n) n n ≡ map (λ v. v.max) vs
  maxs_are =
      run_is vs l o n (λ v. v.max) (λ k i v h u. max_at n k i v h u) (λ k i j v h u. other_at n k i v (n + j) (λ e. omega arith) (λ e. omega arith) (λ e. omega arith) (λ e. omega arith)) (omega arith) refl

  references_are : part (upto vs n l n) (2 * n) n ≡ map (λ v. v.reference) vs
  references_are =
      run_is vs l o (2 * n) (λ v. v.reference) (λ k i v h u. reference_at n k i v h u) (λ k i j v h u. other_at n k i v (2 * n + j) (λ e. omega arith) (λ e. omega arith) (λ e. omega arith) (λ e. omega arith)) (omega arith) refl

  states_are : part (upto vs n l n) (3 * n) n ≡ map (λ v. v.state) vs
  states_are =
      run_is vs l o (3 * n) (λ v. v.state) (λ k i v h u. state_at n k i v h u) (λ k i j v h u. other_at n k i v (3 * n + j) (λ e. omega arith) (λ e. omega arith) (λ e. omega arith) (λ e. omega arith)) (omega arith) refl

  -- bytes are as they are
  bytes_are : lows (map (λ v. v.state) vs) ≡ map (λ v. v.state) vs
  unfolding lows
  bytes_are = ext_get_or 0 _ _ (length-map (map (λ v. v.state) vs) (λ x. x % 256)) (λ i u. at i (simp length-map at u))
    where
      at : (i : ℕ) → i < n → get_or (map (λ x. x % 256) (map (λ v. v.state) vs)) i 0 ≡ get_or (map (λ v. v.state) vs) i 0
      at i u = get_or-map (λ x. x % 256) (map (λ v. v.state) vs) i 0 ∙ rw (get_or-map (λ v. v.state) vs i none) (mod-eq_of_lt (b i u))

  table_is : flat_table kinds refs vecs n (upto vs n l n) ≡ table_of vs kinds refs vecs
  unfolding flat_table table_of
  table_is = rw (mins_are, maxs_are, references_are, states_are, bytes_are)

-- ---- the checks

pub vectors_table : (vs : List Vector) (kinds refs vecs : List ℕ) → vectors (table_of vs kinds refs vecs) ≡ length vs
unfolding vectors table_of
vectors_table vs kinds refs vecs = length-map vs (λ v. v.min)

-- the lists of the records are of equal length
module _ (vs : List Vector) (kinds refs vecs : List ℕ) where
  check2_is : check2 (table_of vs kinds refs vecs) ≡ unless (leb (length vs) 16383 && (eqb (length refs) (length kinds) && eqb (length vecs) (length kinds) && leb (length kinds) 65535)) 2
  unfolding check2 equal_lengths table_of signals vectors
  check2_is =
      simp length-map
      (rw (eq-eqb (length vs) (length vs) refl) (ap (λ b. unless b 2) (turned (eqb (length refs) (length kinds)) (eqb (length vecs) (length kinds)) (leb (length kinds) 65535) (leb (length vs) 16383))))
    where
      turned : (a b c d : Bool) → (a && b && true && true && true && c && d) ≡ (d && (a && b && c))
      turned true true true true = refl
      turned true true true false = refl
      turned true true false true = refl
      turned true true false false = refl
      turned true false c true = refl
      turned true false c false = refl
      turned false b c true = refl
      turned false b c false = refl

  checks_same : (input : ℕ) (l : Lent) (flat : ℕ) → checks_flat (length kinds) (length refs) (length vecs) (length vs) flat input l.events l.values l.room l.list ≡ checks_lent (table_of vs kinds refs vecs) input l flat
  unfolding checks_flat check_flat checks_lent
  checks_same input l flat = rw (check2_is, vectors_are)
    where
      vectors_are : vectors (table_of vs kinds refs vecs) ≡ length vs
      vectors_are = vectors_table vs kinds refs vecs

-- ---- the whole

module _ (vs : List Vector) (kinds refs vecs flat flat₁ : List ℕ) (flag : Bool) (s : List ℕ) (l : Lent) {n : ℕ} (sized : n ≡ room_for (length vs) (length flat)) (long : length flat₁ ≡ length flat) (u : Unpacked vs n flat flat₁) where
  abbrev t : Lists
  t = table_of vs kinds refs vecs

  abbrev c : Check
  c = checks_lent t (length s) l (length flat)

  checked_so : checks_flat (length kinds) (length refs) (length vecs) (length vs) (length flat₁) (length s) l.events l.values l.room l.list ≡ c
  checked_so = rw long (checks_same vs kinds refs vecs (length s) l (length flat))

  -- where the checks pass, all records were made flat
  all_flat : c ≡ Passed → flat_table kinds refs vecs (length vs) flat₁ ≡ t
  all_flat p =
      let q = flat_few (length kinds) (length refs) (length vecs) (length vs) (length flat₁) (length s) l.events l.values l.room l.list (sym checked_so) p in
      let r = flat_room (length kinds) (length refs) (length vecs) (length vs) (length flat₁) (length s) l.events l.values l.room l.list (sym checked_so) p in
      let o : 4 * length vs ≤ length flat = subst (λ (k : ℕ). 4 * length vs ≤ k) long r in
      let e : n ≡ length vs = sized ∙ sym (room_is (length vs) (length flat) q o) in
      let a : flat₁ ≡ upto vs (length vs) flat (length vs) = u.are ∙ ap (λ (k : ℕ). upto vs k flat k) e in
      rw a (table_is vs kinds refs vecs flat o (λ k h. u.bytes k (rw e h)))

  pub read_same : read_flat kinds refs vecs (length vs) flat₁ flag s l ≡ read_sections_lent vs kinds refs vecs flag s l (length flat)
  unfolding read_flat read_sections_lent read_by read_passed refused_lent left_by
  read_same = rw checked_so (go c all_flat)
    where
      go : (d : Check) → (d ≡ Passed → flat_table kinds refs vecs (length vs) flat₁ ≡ t)
          → read_by d kinds refs vecs (length vs) flat₁ flag s l ≡ record { left = left_by d l (read_sections t (ordinary flag) s l); flat = replicate (length flat) 0 }
      go Passed f = rw (f refl, long)
      go (Refused m p) f = rw long
