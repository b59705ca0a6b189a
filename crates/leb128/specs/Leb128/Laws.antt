-- The laws of LEB128 that callers use: where a number ends, that it fits 64 bits, and that a signed reading's bits are those of the number that the bytes spell.
-- Assumes nothing.
use Rattle.std.specs.Prelude.{◌≡◌, ℕ, zero, suc, ◌+◌, ◌*◌, ◌-◌, ◌%◌, ◌^◌, ◌≤◌, ◌<◌, List, [], ◌∷◌, Bool, true, ◌⊎◌, length, get_or, take, ltb, leb, eqb}
use Rattle.std.proofs.Common.{ap, sym, subst, ◌∙◌, inl, inr, ⊎_elim, pow-suc, zero-lt-suc, not-suc-le-zero, le_of_suc-le-suc, add-one, arith, lt-ltb, ltb-true, leb-true, leb-false, eqb-true, length-drop, drop_of_length-le, get_or-take, length-take-le, SFits, to_z}
use Rattle.std.proofs.Math.Nat.{pow-le-pow_right, add-sub_cancel_left}
use Rattle.std.proofs.Math.ListN.{drop}
use mir.ValLaws.{to_z-of_z, of_z_fits}
use Rattle.std.specs.Int.{w64}
use Rattle.slices.specs.Choice.{cond_ind}
use Rattle.leb128.specs.Leb128.{value, goes_on, leb_of, unsigned_tenth, signed_tenth, signed_value, signed_bits, read_unsigned, read_signed}
use Rattle.leb128.specs.Leb.{Leb, Value, Short, Large}

-- ---- the sum

value_suc : (l : List ℕ) (k : ℕ) → k < length l → value (take (suc k) l) ≡ value (take k l) + get_or l k 0 % 128 * 128 ^ k
unfolding value
value_suc [] k h = absurd (not-suc-le-zero h)
value_suc (b ∷ bs) zero h = omega arith
value_suc (b ∷ bs) (suc k) h =
    ap (λ (v : ℕ). b % 128 + 128 * v) (value_suc bs k (le_of_suc-le-suc h)) ∙ rw pow-suc (omega arith)

-- one byte more adds its group, times 128 to the number of bytes before it
pub value_next : (l : List ℕ) (k : ℕ) → k < length l → value (take (k + 1) l) ≡ value (take k l) + get_or l k 0 % 128 * 128 ^ k
value_next l k h = rw add-one (value_suc l k h)

pub value_below : (bs : List ℕ) → value bs < 128 ^ length bs
unfolding value
value_below [] = omega arith
value_below (b ∷ bs) = rw pow-suc (omega (arith, value_below bs))

module _ (l : List ℕ) (k : ℕ) (h : k < length l) where
  pub count_taken : length (take (k + 1) l) ≡ k + 1
  count_taken = length-take-le (k + 1) l (omega arith)

  pub last_taken : get_or (take (k + 1) l) (length (take (k + 1) l) - 1) 0 ≡ get_or l k 0
  last_taken =
      let e : length (take (k + 1) l) - 1 ≡ k = omega (arith, count_taken) in
      rw e (get_or-take (k + 1) l k 0 (omega arith))

-- ---- what holds of a reading

module _ (test : ℕ → Bool) (number : List ℕ → ℕ) (s : List ℕ) (at : ℕ) where
  -- what holds where nothing is found, of a number of at most nine bytes and of one of ten, holds of a reading
  pub leb_ind : (P : Leb → Type 0) → P Short → P Large
      → ((k : ℕ) → k < 9 → k < length (drop at s) → P (Value (number (take (k + 1) (drop at s))) (at + (k + 1))))
      → (9 < length (drop at s) → test (get_or (drop at s) 9 0) ≡ true → P (Value (number (take 10 (drop at s))) (at + 10)))
      → P (leb_of test number (drop at s) at)
  unfolding leb_of
  leb_ind P short large nine ten =
      let l = drop at s in
      cond_ind (ltb (goes_on l) 9) _ _ P
      (λ t. cond_ind (ltb (goes_on l) (length l)) _ _ P (λ u. nine (goes_on l) (ltb-true _ _ t) (ltb-true _ _ u)) (λ u. short))
      (λ t. cond_ind (ltb 9 (length l)) _ _ P (λ u. cond_ind (test (get_or l 9 0)) _ _ P (λ w. ten (ltb-true 9 _ u) w) (λ w. large)) (λ u. short))

  -- where no byte is left, the input ends inside the number
  pub leb_past : length s ≤ at → leb_of test number (drop at s) at ≡ Short
  unfolding leb_of goes_on
  leb_past h = rw (drop_of_length-le s h)

-- a number that was found is not empty, has at most ten bytes and lies within the input
abbrev pub Within : List ℕ → ℕ → Leb → Type 0
Within s at (Value v next) = (at < next) × (next ≤ length s) × (next ≤ at + 10)
Within s at Short = Unit {0}
Within s at Large = Unit {0}

module _ (test : ℕ → Bool) (number : List ℕ → ℕ) (s : List ℕ) (at : ℕ) where
  pub leb_within : Within s at (leb_of test number (drop at s) at)
  leb_within =
      let d : length (drop at s) ≡ length s - at = length-drop at s in
      leb_ind test number s at (Within s at) tt tt (λ k f h. omega arith) (λ h t. omega arith)

  -- the same of a reading that a caller holds
  module _ {r : Leb} {v next : ℕ} (u : r ≡ leb_of test number (drop at s) at) (e : r ≡ Value v next) where
    within : Within s at (Value v next)
    within = subst (Within s at) (sym u ∙ e) leb_within

    pub leb_ahead : at < next
    leb_ahead = within.0

    pub leb_inside : next ≤ length s
    leb_inside = within.1

    pub leb_ten_most : next ≤ at + 10
    leb_ten_most = within.2

-- ---- the 64 bits

-- the last byte of some bytes
abbrev last_byte : List ℕ → ℕ
last_byte bs = get_or bs (length bs - 1) 0

-- a number whose sign is bit 6 of the last byte, and that lies within 64 bits
signed_fits : (bs : List ℕ) → (last_byte bs % 128 < 64 → value bs < 2 ^ 63) → (64 ≤ last_byte bs % 128 → 128 ^ length bs ≤ value bs + 2 ^ 63)
    → SFits w64 (signed_value bs)
unfolding signed_value
signed_fits bs low high =
    cond_ind (leb 64 (last_byte bs % 128)) _ _ (SFits w64)
    (λ t. simp (lt-ltb (value bs) (128 ^ length bs) (value_below bs)) (record { sfits = omega (arith, high (leb-true _ _ t), value_below bs) }))
    (λ t. record { sfits = low (leb-false _ _ t) })

tenth_cases : (b : ℕ) → signed_tenth b ≡ true → (b ≡ 0) ⊎ (b ≡ 127)
unfolding signed_tenth
tenth_cases b =
    cond_ind (eqb b 0) true (eqb b 127) (λ x. x ≡ true → (b ≡ 0) ⊎ (b ≡ 127))
    (λ z o. inl (eqb-true b 0 z)) (λ z o. inr (eqb-true b 127 o))

-- at most nine bytes
module _ (l : List ℕ) (k : ℕ) (f : k < 9) (h : k < length l) where
  nine_weight : 128 ^ length (take (k + 1) l) ≤ 2 ^ 63
  nine_weight = rw (count_taken l k h) (pow-le-pow_right (zero-lt-suc 127) {j = 9} (omega arith))

  nine_signed : SFits w64 (signed_value (take (k + 1) l))
  nine_signed = signed_fits (take (k + 1) l) (λ t. omega (arith, value_below (take (k + 1) l), nine_weight)) (λ t. omega (arith, nine_weight))

-- ten bytes
module _ (l : List ℕ) (h : 9 < length l) where
  ten_value : value (take 10 l) ≡ value (take 9 l) + get_or l 9 0 % 128 * 2 ^ 63
  ten_value = value_next l 9 h

  ten_below : value (take 9 l) < 2 ^ 63
  ten_below = rw (length-take-le 9 l (omega arith)) at (value_below (take 9 l))

  ten_signed : signed_tenth (get_or l 9 0) ≡ true → SFits w64 (signed_value (take 10 l))
  ten_signed t =
      let v = ten_value in
      let n = ten_below in
      let m : 128 ^ length (take 10 l) ≡ 2 ^ 70 = ap (λ (j : ℕ). 128 ^ j) (count_taken l 9 h) in
      let e : last_byte (take 10 l) ≡ get_or l 9 0 = last_taken l 9 h in
      ⊎_elim (λ z. signed_fits (take 10 l) (λ u. omega arith) (λ u. omega arith)) (λ z. signed_fits (take 10 l) (λ u. omega arith) (λ u. omega arith))
      (tenth_cases (get_or l 9 0) t)

-- a number that was found fits 64 bits
abbrev pub Fits64 : Leb → Type 0
Fits64 (Value v next) = v < 2 ^ 64
Fits64 Short = Unit {0}
Fits64 Large = Unit {0}

pub unsigned_fits64 : (s : List ℕ) (at : ℕ) → Fits64 (read_unsigned s at)
unfolding unsigned_tenth
unsigned_fits64 s at =
    leb_ind unsigned_tenth value s at Fits64 tt tt
    (λ k f h. omega (arith, value_below (take (k + 1) (drop at s)), nine_weight (drop at s) k f h))
    (λ h t. omega (arith, ten_value (drop at s) h, ten_below (drop at s) h, leb-true (get_or (drop at s) 9 0) 1 t))

pub signed_fits64 : (s : List ℕ) (at : ℕ) → Fits64 (read_signed s at)
unfolding signed_bits
signed_fits64 s at =
    leb_ind signed_tenth signed_bits s at Fits64 tt tt
    (λ k f h. (of_z_fits w64 _ (nine_signed (drop at s) k f h)).fits)
    (λ h t. (of_z_fits w64 _ (ten_signed (drop at s) h t)).fits)

-- a signed reading that found a number found its 64 bits in two's complement
abbrev pub SignedIs : List ℕ → ℕ → Leb → Type 0
SignedIs s at (Value v next) = to_z w64 v ≡ signed_value (take (next - at) (drop at s))
SignedIs s at Short = Unit {0}
SignedIs s at Large = Unit {0}

pub signed_is : (s : List ℕ) (at : ℕ) → SignedIs s at (read_signed s at)
unfolding signed_bits
signed_is s at =
    leb_ind signed_tenth signed_bits s at (SignedIs s at) tt tt
    (λ k f h. rw add-sub_cancel_left (to_z-of_z w64 _ (nine_signed (drop at s) k f h)))
    (λ h t. rw add-sub_cancel_left (to_z-of_z w64 _ (ten_signed (drop at s) h t)))
