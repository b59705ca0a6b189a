-- The shortest form of a number is read back as the number, has at most ten bytes, and no shorter bytes are read as it.
-- Assumes nothing.
use Rattle.std.specs.Prelude.{◌≡◌, Bool, false, List, ◌++◌, ◌⊎◌, take, drop, eqb}
use Rattle.std.proofs.Math.Path.{refl, ap}
use Rattle.std.proofs.Common.{subst, ◌∙◌, pow-suc, zero-lt-suc, mul-le-mul_right, arith, length-take, drop_at, take_all}
use Prim.Native.Nat.{ℕ, suc, ◌+◌, ◌*◌, ◌-◌, ◌%◌, ◌^◌, ◌≤◌, ◌<◌}
use Rattle.std.proofs.Math.Bool.{true}
use Rattle.std.proofs.Math.Logic.{⊎_elim}
use Rattle.std.proofs.Math.Nat.{pow-le-pow_right}
use Rattle.std.proofs.Math.Numerals.{add-one}
use borrow.Author.Tests.{lt-ltb, le-ltb, le-leb, lt-leb, eqb-true}
use Rattle.std.proofs.Math.ListN.{length, get_or, length-append, get_or-append}
use Rattle.std.proofs.Math.Seq.{take_at}
use Rattle.slices.specs.Choice.{cond_ind, le_or_lt}
use Rattle.leb128.specs.Leb128.{value, goes_on, leb_of, unsigned_tenth, signed_tenth, signed_value, signed_bits, read_unsigned, read_signed}
use Rattle.leb128.specs.Leb128.Laws.{value_next, value_below, count_taken, last_taken, leb_ind}
use Rattle.leb128.specs.Leb.{Leb, Value, Short, Large}
use Rattle.leb128.specs.Shortest.{leb_bytes, unsigned_bytes, signed_bytes}
use Rattle.leb128.specs.Shortest.Groups.{groups_some, groups_most, goes_on_lem, last_of, last_below, unsigned_value, unsigned_short, signed_low, signed_low_short, signed_high, signed_high_short}

-- ---- at most ten bytes

module _ (signed : Bool) (n : ℕ) where
  pub bytes_some : 1 ≤ length (leb_bytes signed n)
  bytes_some = groups_some signed 9 n

  pub bytes_most : length (leb_bytes signed n) ≤ 10
  bytes_most = groups_most signed 9 n

-- ---- read back

-- the ten bytes of a number: the sum of the first nine, and the last
module _ (bs : List ℕ) (e : length bs ≡ 10) where
  ten_value : value bs ≡ value (take 9 bs) + get_or bs 9 0 % 128 * 2 ^ 63
  ten_value = rw (take_all 10 bs (omega arith)) at (value_next bs 9 (omega arith))

  ten_below : value (take 9 bs) < 2 ^ 63
  ten_below = let n : length (take 9 bs) ≡ 9 = simp length-take (omega arith) in rw n at (value_below (take 9 bs))

module _ (signed : Bool) (n : ℕ) where
  -- the number at the front of a list that begins with the shortest form of a number
  front : (test : ℕ → Bool) (number : List ℕ → ℕ) (more : List ℕ) (at v : ℕ) → number (leb_bytes signed n) ≡ v
      → (length (leb_bytes signed n) ≡ 10 → test (get_or (leb_bytes signed n) 9 0) ≡ true)
      → leb_of test number (leb_bytes signed n ++ more) at ≡ Value v (at + length (leb_bytes signed n))
  unfolding leb_of
  front test number more at v is tenth =
      let bs = leb_bytes signed n in
      let g : suc (goes_on (bs ++ more)) ≡ length bs = goes_on_lem signed 9 n more in
      let l : length (bs ++ more) ≡ length bs + length more = length-append bs more in
      ⊎_elim
      (λ (h : length bs ≤ 9).
      rw (lt-ltb (goes_on (bs ++ more)) 9 (omega arith), lt-ltb (goes_on (bs ++ more)) (length (bs ++ more)) (omega arith), add-one (goes_on (bs ++ more)), g, take_at bs more (length bs) refl, is))
      (λ (h : 9 < length bs).
      let t : length bs ≡ 10 = omega (arith, bytes_most signed n) in
      rw (le-ltb (goes_on (bs ++ more)) 9 (omega arith), lt-ltb 9 (length (bs ++ more)) (omega arith), get_or-append bs more 0 9 (omega arith), tenth t, take_at bs more 10 t, is, t))
      (le_or_lt (length bs) 9)

-- the number that some bytes spell in two's complement
module _ (bs : List ℕ) where
  bits_low : last_of bs % 128 < 64 → signed_bits bs ≡ value bs
  unfolding signed_bits signed_value
  bits_low h = simp (lt-leb 64 _ h)

  bits_high : 64 ≤ last_of bs % 128 → signed_bits bs ≡ 2 ^ 64 - (128 ^ length bs - value bs)
  unfolding signed_bits signed_value
  bits_high h = let b = value_below bs in simp (le-leb 64 _ h, lt-ltb (value bs) (128 ^ length bs) b) (omega arith)

unsigned_tenth_lem : (n : ℕ) → n < 2 ^ 64 → length (unsigned_bytes n) ≡ 10 → unsigned_tenth (get_or (unsigned_bytes n) 9 0) ≡ true
unfolding unsigned_tenth
unsigned_tenth_lem n h e =
    let l : last_of (unsigned_bytes n) ≡ get_or (unsigned_bytes n) 9 0 = ap (λ (i : ℕ). get_or (unsigned_bytes n) (i - 1) 0) e in
    le-leb (get_or (unsigned_bytes n) 9 0) 1 (omega (arith, l, last_below false 9 n, ten_value (unsigned_bytes n) e, ten_below (unsigned_bytes n) e, unsigned_value 9 n (omega arith)))

module _ (v : ℕ) where
  signed_is : v < 2 ^ 64 → signed_bits (signed_bytes v) ≡ v
  signed_is h =
      ⊎_elim
      (λ (p : 2 ^ 63 ≤ v).
      let w = signed_high 9 v p h (omega arith) in
      bits_high (signed_bytes v) (omega (arith, w.1, last_below true 9 v)) ∙ omega (arith, w.0, value_below (signed_bytes v)))
      (λ (p : v < 2 ^ 63). let w = signed_low 9 v p (omega arith) in bits_low (signed_bytes v) (omega (arith, w.1)) ∙ w.0)
      (le_or_lt (2 ^ 63) v)

  signed_tenth_lem : v < 2 ^ 64 → length (signed_bytes v) ≡ 10 → signed_tenth (get_or (signed_bytes v) 9 0) ≡ true
  unfolding signed_tenth
  signed_tenth_lem h e =
      let b = get_or (signed_bytes v) 9 0 in
      let l : last_of (signed_bytes v) ≡ b = ap (λ (i : ℕ). get_or (signed_bytes v) (i - 1) 0) e in
      let m : 128 ^ length (signed_bytes v) ≡ 2 ^ 70 = ap (λ (j : ℕ). 128 ^ j) e in
      let s = ten_value (signed_bytes v) e in
      let t = ten_below (signed_bytes v) e in
      let u = last_below true 9 v in
      ⊎_elim
      (λ (p : 2 ^ 63 ≤ v).
      let w = signed_high 9 v p h (omega arith) in
      let z : b ≡ 127 = omega (arith, w.0) in
      simp z)
      (λ (p : v < 2 ^ 63).
      let w = signed_low 9 v p (omega arith) in
      let z : b ≡ 0 = omega (arith, w.0) in
      simp z)
      (le_or_lt (2 ^ 63) v)

-- a number is read back wherever its shortest form stands
module _ (s : List ℕ) (at : ℕ) (more : List ℕ) (n : ℕ) (h : n < 2 ^ 64) where
  pub unsigned_read : drop at s ≡ unsigned_bytes n ++ more → read_unsigned s at ≡ Value n (at + length (unsigned_bytes n))
  unsigned_read e = rw e (front false n unsigned_tenth value more at n (unsigned_value 9 n (omega arith)) (unsigned_tenth_lem n h))

  pub signed_read : drop at s ≡ signed_bytes n ++ more → read_signed s at ≡ Value n (at + length (signed_bytes n))
  signed_read e = rw e (front true n signed_tenth signed_bits more at n (signed_is n h) (signed_tenth_lem n h))

-- .. with any bytes before it and after it
module _ (before after : List ℕ) (n : ℕ) (h : n < 2 ^ 64) where
  pub unsigned_back : read_unsigned (before ++ (unsigned_bytes n ++ after)) (length before) ≡ Value n (length before + length (unsigned_bytes n))
  unsigned_back = unsigned_read _ (length before) after n h (drop_at before _ (length before) refl)

  pub signed_back : read_signed (before ++ (signed_bytes n ++ after)) (length before) ≡ Value n (length before + length (signed_bytes n))
  signed_back = signed_read _ (length before) after n h (drop_at before _ (length before) refl)

-- ---- no shorter bytes are read as the number

abbrev Least : Bool → ℕ → Leb → Type 0
Least signed at (Value n next) = at + length (leb_bytes signed n) ≤ next
Least signed at Short = Unit {0}
Least signed at Large = Unit {0}

module _ (l : List ℕ) (k : ℕ) (h : k < length l) where
  unsigned_few : length (unsigned_bytes (value (take (k + 1) l))) ≤ k + 1
  unsigned_few =
      let c : length (take (k + 1) l) ≡ suc k = count_taken l k h ∙ add-one k in
      rw (add-one k) (unsigned_short 9 (value (take (suc k) l)) k (subst (λ (j : ℕ). value (take (suc k) l) < 128 ^ j) (rw (add-one k) at c) (value_below (take (suc k) l))))

  -- the sum of k bytes more by the group of the next
  sum_next : value (take (k + 1) l) ≡ value (take k l) + get_or l k 0 % 128 * 128 ^ k
  sum_next = value_next l k h

  sum_below : value (take k l) < 128 ^ k
  sum_below = let n : length (take k l) ≡ k = simp length-take (omega arith) in subst (λ (j : ℕ). value (take k l) < 128 ^ j) n (value_below (take k l))

  weight : 128 ^ (k + 1) ≡ 128 * 128 ^ k
  weight = rw (add-one k) (pow-suc 128 k ∙ omega arith)

  -- a signed number of k + 1 bytes, within 64 bits, from its sign
  module _ (low : get_or l k 0 % 128 < 64 → value (take (k + 1) l) < 2 ^ 63) (high : 64 ≤ get_or l k 0 % 128 → 128 ^ (k + 1) ≤ value (take (k + 1) l) + 2 ^ 63) where
    abbrev bs : List ℕ
    bs = take (k + 1) l

    last_is : last_of bs ≡ get_or l k 0
    last_is = last_taken l k h

    count_is : 128 ^ length bs ≡ 128 ^ (k + 1)
    count_is = ap (λ (j : ℕ). 128 ^ j) (count_taken l k h)

    signed_few : length (signed_bytes (signed_bits bs)) ≤ k + 1
    signed_few =
        ⊎_elim
        (λ (p : 64 ≤ get_or l k 0 % 128).
        let e = bits_high bs (rw last_is p) in
        let f : 64 * 128 ^ k ≤ get_or l k 0 % 128 * 128 ^ k = mul-le-mul_right (128 ^ k) p in
        let b = value_below bs in
        let c = count_is in
        let g = high p in
        let w = weight in
        let z = sum_next in
        let r = signed_high_short 9 (2 ^ 64 - (128 ^ length bs - value bs)) k (omega arith) (omega arith) (omega arith) in
        rw e (omega arith))
        (λ (p : get_or l k 0 % 128 < 64).
        let e = bits_low bs (rw last_is p) in
        let f : get_or l k 0 % 128 * 128 ^ k ≤ 63 * 128 ^ k = mul-le-mul_right (128 ^ k) (omega arith) in
        let b = sum_below in
        let z = sum_next in
        let r = signed_low_short 9 (value bs) k (low p) (omega arith) in
        rw e (omega arith))
        (le_or_lt 64 (get_or l k 0 % 128))

-- at most nine bytes, and ten
module _ (l : List ℕ) where
  nine_weight : (k : ℕ) → k < 9 → 128 ^ (k + 1) ≤ 2 ^ 63
  nine_weight k f = pow-le-pow_right (zero-lt-suc 127) {j = 9} (omega arith)

  nine_few : (k : ℕ) → k < 9 → k < length l → length (signed_bytes (signed_bits (take (k + 1) l))) ≤ k + 1
  nine_few k f h =
      let c : 128 ^ length (take (k + 1) l) ≡ 128 ^ (k + 1) = ap (λ (j : ℕ). 128 ^ j) (count_taken l k h) in
      signed_few l k h (λ p. omega (arith, value_below (take (k + 1) l), nine_weight k f)) (λ p. omega (arith, nine_weight k f))

  ten_few : (h : 9 < length l) → signed_tenth (get_or l 9 0) ≡ true → length (signed_bytes (signed_bits (take 10 l))) ≤ 10
  unfolding signed_tenth
  ten_few h =
      let z = sum_next l 9 h in
      let b = sum_below l 9 h in
      cond_ind (eqb (get_or l 9 0) 0) true (eqb (get_or l 9 0) 127) (λ x. x ≡ true → length (signed_bytes (signed_bits (take 10 l))) ≤ 10)
      (λ t e. let f = eqb-true (get_or l 9 0) 0 t in signed_few l 9 h (λ p. omega arith) (λ p. absurd (omega arith)))
      (λ t e. let f = eqb-true (get_or l 9 0) 127 e in signed_few l 9 h (λ p. absurd (omega arith)) (λ p. omega arith))

module _ (s : List ℕ) (at : ℕ) where
  unsigned_least_read : Least false at (read_unsigned s at)
  unsigned_least_read =
      leb_ind unsigned_tenth value s at (Least false at) tt tt
      (λ k f h. omega (arith, unsigned_few (drop at s) k h))
      (λ h t. omega (arith, unsigned_few (drop at s) 9 h))

  signed_least_read : Least true at (read_signed s at)
  signed_least_read =
      leb_ind signed_tenth signed_bits s at (Least true at) tt tt
      (λ k f h. omega (arith, nine_few (drop at s) k f h))
      (λ h t. omega (arith, ten_few (drop at s) h t))

  module _ {n next : ℕ} where
    pub unsigned_least : read_unsigned s at ≡ Value n next → at + length (unsigned_bytes n) ≤ next
    unsigned_least e = subst (Least false at) e unsigned_least_read

    pub signed_least : read_signed s at ≡ Value n next → at + length (signed_bytes n) ≤ next
    signed_least e = subst (Least true at) e signed_least_read
