-- What the proofs of `leb128` search: what a reader that has passed k bytes knows, and the number from what the first nine bytes tell.
-- Assumes nothing.
use Rattle.std.specs.Prelude.{◌≡◌, refl, ℕ, suc, ◌+◌, ◌*◌, ◌-◌, ◌%◌, ◌^◌, ◌≤◌, ◌<◌, List, Bool, true, false, length, get_or, take, drop}
use Rattle.std.proofs.Common.{ap, sym, ◌∙◌, ⊎_elim, pow-suc, mul-le-mul_right, zero-lt-suc, add-one, arith, drop_of_length-le, drop-cons, get_or-drop, Fits, of_z}
use Rattle.std.proofs.Math.Path.{subst}
use Rattle.std.proofs.Math.Nat.{pow-le-pow_right}
use borrow.Author.Tests.{lt-ltb, le-ltb, le-leb, lt-leb, eq-eqb, ne_eqb}
use Rattle.std.proofs.Math.ListN.{length-drop}
use Rattle.std.proofs.Math.IntN.{sub_ℕ}
use Rattle.std.specs.Int.{w64}
use Rattle.leb128.specs.Leb128.{value, goes_on, leb_of, unsigned_tenth, signed_tenth, signed_value, signed_bits, read_unsigned, read_signed}
use Rattle.slices.specs.Choice.{le_or_lt}
use Rattle.leb128.specs.Leb128.Nine.{Ends, Stays, Cut, Nine, signed_end}
use Rattle.leb128.specs.Leb128.Laws.{value_next, count_taken, last_taken}
use Rattle.std.specs.Prelude.{Err}
use Rattle.leb128.specs.declared.LebError.{LebError}
use Rattle.leb128.specs.declared.LebError.TheVariants as error
use Rattle.leb128.specs.Leb.{Leb, Value, Short, Large, Started, Ended, Open}

-- ---- the count

goes_end : (s : List ℕ) (i : ℕ) → length s ≤ i → goes_on (drop i s) ≡ 0
unfolding goes_on
goes_end s i h = rw (drop_of_length-le s h)

goes_stop : (s : List ℕ) (i : ℕ) → i < length s → get_or s i 0 < 128 → goes_on (drop i s) ≡ 0
unfolding goes_on
goes_stop s i h b = rw (drop-cons s i 0 h, lt-ltb (get_or s i 0) 128 b)

goes_more : (s : List ℕ) (i : ℕ) → i < length s → 128 ≤ get_or s i 0 → goes_on (drop i s) ≡ goes_on (drop (i + 1) s) + 1
unfolding goes_on
goes_more s i h b = rw (drop-cons s i 0 h, le-ltb (get_or s i 0) 128 b, add-one i, add-one (goes_on (drop (suc i) s)))

-- ---- a reader on its way

-- what is known after k bytes that each say that another follows: their sum, 128 to the power k, and the place of the next byte
pub record Passed (s : List ℕ) (at sum power i k : ℕ) : Type 0 where
  pub few : k ≤ 9
  pub place : i ≡ at + k
  pub count : goes_on (drop at s) ≡ k + goes_on (drop i s)
  pub weight : power ≡ 128 ^ k
  pub below : sum < power
  pub total : sum ≡ value (take k (drop at s))

pub passed_none : (s : List ℕ) (at : ℕ) → Passed s at 0 1 at 0
unfolding value
passed_none s at =
    record { few = omega arith; place = omega arith; count = omega arith; weight = refl; below = omega arith; total = refl }

-- a group is at most 127 times its weight
group_most : (b power : ℕ) → b % 128 * power ≤ 127 * power
group_most b power = mul-le-mul_right power (omega arith)

-- what one byte more makes of the weight and of the sum fits 64 bits
module _ {s : List ℕ} {at sum power i k : ℕ} (p : Passed s at sum power i k) (f : k < 9) where
  weight_most : power ≤ 2 ^ 56
  weight_most = rw p.weight (pow-le-pow_right (zero-lt-suc 127) {j = 8} (omega arith))

  pub weight_fits : Fits w64 (power * 128)
  weight_fits = omega (arith, weight_most)

  pub group_fits : (b : ℕ) → Fits w64 (b % 128 * power)
  group_fits b = omega (arith, weight_most, group_most b power)

  pub sum_fits : (b : ℕ) → Fits w64 (sum + b % 128 * power)
  sum_fits b = omega (arith, weight_most, group_most b power)

module _ {s : List ℕ} {at sum power i k : ℕ} (p : Passed s at sum power i k) (h : i < length s) where
  there : k < length (drop at s)
  there = rw length-drop (omega arith)

  same_byte : get_or (drop at s) k 0 ≡ get_or s i 0
  same_byte = rw (get_or-drop, p.place)

  pub sum_next : sum + get_or s i 0 % 128 * power ≡ value (take (k + 1) (drop at s))
  sum_next = rw (value_next (drop at s) k there, same_byte, p.weight) (ap (λ (v : ℕ). v + get_or s i 0 % 128 * 128 ^ k) p.total)

  weight_next : power * 128 ≡ 128 ^ (k + 1)
  weight_next = rw (add-one, pow-suc) (ap (λ (w : ℕ). w * 128) p.weight)

  pub passed_more : k < 9 → 128 ≤ get_or s i 0 → Passed s at (sum + get_or s i 0 % 128 * power) (power * 128) (i + 1) (k + 1)
  passed_more f b =
      record {
        few = omega arith;
        place = omega arith;
        count = omega (arith, goes_more s i h b);
        weight = weight_next;
        below = omega (arith, group_most (get_or s i 0) power);
        total = sum_next;
      }

  pub nine_ended : k < 9 → get_or s i 0 < 128
      → Ends (drop at s) at (sum + get_or s i 0 % 128 * power) (power * 128) (get_or s i 0) (i + 1)
  nine_ended f b =
      let e : goes_on (drop at s) ≡ k = omega (arith, goes_stop s i h b) in
      record {
        soon = omega arith;
        inside = rw e there;
        total = rw e sum_next;
        weight = rw e weight_next;
        ending = rw (e, same_byte);
        final = b;
        after = omega arith;
        below = omega (arith, group_most (get_or s i 0) power);
        most = omega (arith, weight_most p f);
      }

module _ {s : List ℕ} {at sum power i k : ℕ} (p : Passed s at sum power i k) where
  pub nine_short : k < 9 → length s ≤ i → Cut (drop at s)
  nine_short f h =
      let e : goes_on (drop at s) ≡ k = omega (arith, goes_end s i h) in
      record { soon = omega arith; past = rw (e, length-drop) (omega arith) }

  pub nine_open : 9 ≤ k → Stays (drop at s) at sum i
  nine_open h =
      let n : k ≡ 9 = omega arith in
      record {
        long = omega arith;
        total = rw n at p.total;
        after = omega arith;
        below = subst (λ (w : ℕ). sum < w) (p.weight ∙ ap (λ (j : ℕ). 128 ^ j) n) p.below;
      }

-- ---- the number, from what the first nine bytes tell

module _ (test : ℕ → Bool) (number : List ℕ → ℕ) (s : List ℕ) (at : ℕ) {r : Started} (n : Nine s at r) where
  pub leb_ended : {sum power last next : ℕ} → r ≡ Ended sum power last next
      → (v : ℕ) → (Ends (drop at s) at sum power last next → v ≡ number (take (goes_on (drop at s) + 1) (drop at s)))
      → Value v next ≡ leb_of test number (drop at s) at
  unfolding leb_of
  leb_ended {sum} {power} {last} {next} e v g =
      let f : Ends (drop at s) at sum power last next = subst (Nine s at) e n in
      simp (lt-ltb _ _ f.soon, lt-ltb _ _ f.inside, g f, f.after)

  pub leb_failed : {x : LebError} → r ≡ Err x → {y : Leb} → y ≡ Err x → y ≡ leb_of test number (drop at s) at
  unfolding leb_of
  leb_failed {x = error.Short} e d =
      let f : Cut (drop at s) = subst (Nine s at) e n in
      d ∙ simp (lt-ltb _ _ f.soon, le-ltb _ _ f.past)
  leb_failed {x = error.Large} e d = absurd (subst (Nine s at) e n)

module _ (s : List ℕ) (at : ℕ) {r : Started} (n : Nine s at r) {sum tenth : ℕ} (e : r ≡ Open sum tenth) where
  stays : Stays (drop at s) at sum tenth
  stays = subst (Nine s at) e n

  pub tenth_fits : (b : ℕ) → b ≤ 1 → Fits w64 (sum + b % 128 * 0x8000_0000_0000_0000)
  tenth_fits b h = omega (arith, stays.below)

  pub ten_fits : Fits w64 (sum + 0x8000_0000_0000_0000)
  ten_fits = omega (arith, stays.below)

  pub leb_cut : (test : ℕ → Bool) (number : List ℕ → ℕ) → length s ≤ tenth → Short ≡ leb_of test number (drop at s) at
  unfolding leb_of
  leb_cut test number h = simp (le-ltb _ _ stays.long, le-ltb 9 (length (drop at s)) (rw length-drop (omega (arith, stays.after))))

  module _ (h : tenth < length s) where
    has : 9 < length (drop at s)
    has = rw length-drop (omega (arith, stays.after))

    tenth_byte : get_or (drop at s) 9 0 ≡ get_or s tenth 0
    tenth_byte = rw (get_or-drop, stays.after)

    pub ten_sum : value (take 10 (drop at s)) ≡ sum + get_or s tenth 0 % 128 * 0x8000_0000_0000_0000
    ten_sum = cc (stays.total, value_next (drop at s) 9 has, tenth_byte)

    pub leb_large : (test : ℕ → Bool) (number : List ℕ → ℕ) → test (get_or s tenth 0) ≡ false → Large ≡ leb_of test number (drop at s) at
    unfolding leb_of
    leb_large test number b = simp (le-ltb _ _ stays.long, lt-ltb 9 _ has, tenth_byte, b)

    leb_ten : (test : ℕ → Bool) (number : List ℕ → ℕ) → test (get_or s tenth 0) ≡ true
        → (v : ℕ) → v ≡ number (take 10 (drop at s)) → Value v (tenth + 1) ≡ leb_of test number (drop at s) at
    unfolding leb_of
    leb_ten test number b v g =
        let place : tenth + 1 ≡ at + 10 = omega (arith, stays.after) in
        simp (le-ltb _ _ stays.long, lt-ltb 9 _ has, tenth_byte, b) (cc (g, place))

-- ---- unsigned

pub unsigned_ended : (s : List ℕ) (at : ℕ) {r : Started} → Nine s at r → {sum power last next : ℕ} → r ≡ Ended sum power last next
    → Value sum next ≡ read_unsigned s at
unsigned_ended s at n {sum} e = leb_ended _ _ s at n e sum (λ f. f.total)

pub unsigned_one : (s : List ℕ) (at : ℕ) → at < length s → get_or s at 0 < 128 → Value (get_or s at 0 % 128) (at + 1) ≡ read_unsigned s at
unsigned_one s at h b =
    let e : 0 + get_or s at 0 % 128 * 1 ≡ get_or s at 0 % 128 = omega arith in
    rw e at (unsigned_ended s at {r = Ended (0 + get_or s at 0 % 128 * 1) 128 (get_or s at 0) (at + 1)} (nine_ended (passed_none s at) h (omega arith) b) refl)

pub unsigned_two : (s : List ℕ) (at : ℕ) → at < length s → 128 ≤ get_or s at 0 → 1 < length s - at → get_or s (at + 1) 0 < 128
    → Value (get_or s at 0 % 128 + get_or s (at + 1) 0 % 128 * 128) (at + 2) ≡ read_unsigned s at
unsigned_two s at h a g b =
    let e : 0 + get_or s at 0 % 128 * 1 + get_or s (at + 1) 0 % 128 * (1 * 128) ≡ get_or s at 0 % 128 + get_or s (at + 1) 0 % 128 * 128 = omega arith in
    let p : at + 1 + 1 ≡ at + 2 = omega arith in
    let o : at + 1 < length s = omega arith in
    let n = nine_ended (passed_more (passed_none s at) h (omega arith) a) o (omega arith) b in
    rw (e, p) at (unsigned_ended s at {r = Ended _ (1 * 128 * 128) (get_or s (at + 1) 0) (at + 1 + 1)} n refl)

pub unsigned_large : (b : ℕ) → 1 < b → unsigned_tenth b ≡ false
unfolding unsigned_tenth
unsigned_large b h = lt-leb b 1 h

pub unsigned_ten : (s : List ℕ) (at : ℕ) {r : Started} → Nine s at r → {sum tenth : ℕ} → r ≡ Open sum tenth → tenth < length s
    → get_or s tenth 0 ≤ 1 → Value (sum + get_or s tenth 0 % 128 * 0x8000_0000_0000_0000) (tenth + 1) ≡ read_unsigned s at
unfolding unsigned_tenth
unsigned_ten s at n e h b = leb_ten s at n e h unsigned_tenth value (le-leb _ 1 b) _ (sym (ten_sum s at n e h))

-- ---- signed

-- the bits of a difference below 0
bits_below : (v p : ℕ) → v < p → of_z w64 (sub_ℕ v p) ≡ 2 ^ 64 - (p - v)
bits_below v p h = simp (lt-ltb v p h) (omega arith)

module _ (l : List ℕ) (k : ℕ) (h : k < length l) where
  -- bit 6 of the last byte is not set
  signed_low : get_or l k 0 % 128 < 64 → signed_bits (take (k + 1) l) ≡ value (take (k + 1) l)
  unfolding signed_bits signed_value
  signed_low b = simp (last_taken l k h, lt-leb 64 _ b)

  -- bit 6 of the last byte is set
  signed_high : 64 ≤ get_or l k 0 % 128 → value (take (k + 1) l) < 128 ^ (k + 1)
      → signed_bits (take (k + 1) l) ≡ 2 ^ 64 - (128 ^ (k + 1) - value (take (k + 1) l))
  unfolding signed_bits signed_value
  signed_high b v = simp (last_taken l k h, le-leb 64 _ b) (simp (count_taken l k h) (bits_below _ _ v))

module _ (sum power last next : ℕ) where
  pub end_low : last < 64 → Value sum next ≡ signed_end sum power last next
  end_low h = simp (lt-ltb last 64 h)

  pub end_high : 64 ≤ last → Value (sum + (0xffff_ffff_ffff_ffff - power) + 1) next ≡ signed_end sum power last next
  end_high h = simp (le-ltb last 64 h)

pub end_fits : (sum power : ℕ) → sum < power → power ≤ 2 ^ 63 → Fits w64 (sum + (0xffff_ffff_ffff_ffff - power))
end_fits sum power b m = omega arith

pub end_fits_one : (sum power : ℕ) → sum < power → power ≤ 2 ^ 63 → Fits w64 (sum + (0xffff_ffff_ffff_ffff - power) + 1)
end_fits_one sum power b m = omega arith

module _ (s : List ℕ) (at : ℕ) {r : Started} (n : Nine s at r) where
  module _ {sum power last next : ℕ} (e : r ≡ Ended sum power last next) where
    ends : Ends (drop at s) at sum power last next
    ends = subst (Nine s at) e n

    pub ended_below : sum < power
    ended_below = ends.below

    pub ended_most : power ≤ 2 ^ 63
    ended_most = ends.most

    signed_ended_low : last < 64 → Value sum next ≡ read_signed s at
    signed_ended_low h =
        leb_ended _ _ s at n e sum
        (λ f. f.total ∙ sym (signed_low (drop at s) (goes_on (drop at s)) f.inside (omega (arith, f.ending))))

    signed_ended_high : 64 ≤ last → Value (sum + (0xffff_ffff_ffff_ffff - power) + 1) next ≡ read_signed s at
    signed_ended_high h =
        leb_ended _ _ s at n e _
        (λ f. omega (arith, f.most, signed_high (drop at s) (goes_on (drop at s)) f.inside (omega (arith, f.ending)) (omega (arith, f.below))))

    pub signed_ended : {l : Leb} → l ≡ signed_end sum power last next → l ≡ read_signed s at
    signed_ended g =
        g
        ∙ ⊎_elim (λ (h : 64 ≤ last). sym (end_high sum power last next h) ∙ signed_ended_high h)
        (λ (h : last < 64). sym (end_low sum power last next h) ∙ signed_ended_low h)
        (le_or_lt 64 last)

  module _ {sum tenth : ℕ} (e : r ≡ Open sum tenth) (h : tenth < length s) where
    pub signed_ten_low : get_or s tenth 0 ≡ 0 → Value sum (tenth + 1) ≡ read_signed s at
    unfolding signed_tenth
    signed_ten_low b =
        leb_ten s at n e h signed_tenth signed_bits (simp (eq-eqb _ 0 b)) sum
        (omega (arith, ten_sum s at n e h, signed_low (drop at s) 9 (has s at n e h) (omega (arith, tenth_byte s at n e h))))

    pub signed_ten_high : get_or s tenth 0 ≡ 127 → Value (sum + 0x8000_0000_0000_0000) (tenth + 1) ≡ read_signed s at
    unfolding signed_tenth
    signed_ten_high b =
        leb_ten s at n e h signed_tenth signed_bits (simp b) _
        (let v : value (take 10 (drop at s)) ≡ sum + 127 * 0x8000_0000_0000_0000 = omega (arith, ten_sum s at n e h) in
        omega (arith, (stays s at n e).below, signed_high (drop at s) 9 (has s at n e h) (omega (arith, tenth_byte s at n e h)) (omega (arith, (stays s at n e).below))))

pub signed_large : (b : ℕ) → (b ≡ 0 → ⊥) → (b ≡ 127 → ⊥) → signed_tenth b ≡ false
unfolding signed_tenth
signed_large b z o = simp (ne_eqb b 0 z, ne_eqb b 127 o)

-- .. of at most four bytes
module _ (s : List ℕ) (at : ℕ) (h : at + 4 ≤ length s) where
  past_one : 128 ≤ get_or s at 0 → Passed s at (get_or s at 0 % 128) 128 (at + 1) 1
  past_one a =
      let e : 0 + get_or s at 0 % 128 * 1 ≡ get_or s at 0 % 128 = omega arith in
      rw e at (passed_more (passed_none s at) (omega arith) (omega arith) a)

  past_two : 128 ≤ get_or s at 0 → 128 ≤ get_or s (at + 1) 0 → Passed s at (get_or s at 0 % 128 + get_or s (at + 1) 0 % 128 * 128) 0x4000 (at + 2) 2
  past_two a b =
      let p : at + 1 + 1 ≡ at + 2 = omega arith in
      rw p at (passed_more (past_one a) (omega arith) (omega arith) b)

  past_three : 128 ≤ get_or s at 0 → 128 ≤ get_or s (at + 1) 0 → 128 ≤ get_or s (at + 2) 0
      → Passed s at (get_or s at 0 % 128 + get_or s (at + 1) 0 % 128 * 128 + get_or s (at + 2) 0 % 128 * 0x4000) 0x20_0000 (at + 3) 3
  past_three a b c =
      let p : at + 2 + 1 ≡ at + 3 = omega arith in
      rw p at (passed_more (past_two a b) (omega arith) (omega arith) c)

  module _ {l : Leb} where
    pub near_one : get_or s at 0 < 128 → l ≡ signed_end (get_or s at 0 % 128) 128 (get_or s at 0) (at + 1) → l ≡ read_signed s at
    near_one a g =
        let e : 0 + get_or s at 0 % 128 * 1 ≡ get_or s at 0 % 128 = omega arith in
        signed_ended s at {r = Ended (get_or s at 0 % 128) 128 (get_or s at 0) (at + 1)}
        (rw e at (nine_ended (passed_none s at) (omega arith) (omega arith) a)) refl g

    module _ (a : 128 ≤ get_or s at 0) where
      pub near_two : get_or s (at + 1) 0 < 128
          → l ≡ signed_end (get_or s at 0 % 128 + get_or s (at + 1) 0 % 128 * 128) 0x4000 (get_or s (at + 1) 0) (at + 2) → l ≡ read_signed s at
      near_two b g =
          let p : at + 1 + 1 ≡ at + 2 = omega arith in
          signed_ended s at {r = Ended _ 0x4000 (get_or s (at + 1) 0) (at + 2)} (rw p at (nine_ended (past_one a) (omega arith) (omega arith) b)) refl g

      module _ (b : 128 ≤ get_or s (at + 1) 0) where
        pub near_three : get_or s (at + 2) 0 < 128
            → l ≡ signed_end (get_or s at 0 % 128 + get_or s (at + 1) 0 % 128 * 128 + get_or s (at + 2) 0 % 128 * 0x4000) 0x20_0000 (get_or s (at + 2) 0) (at + 3)
            → l ≡ read_signed s at
        near_three c g =
            let p : at + 2 + 1 ≡ at + 3 = omega arith in
            signed_ended s at {r = Ended _ 0x20_0000 (get_or s (at + 2) 0) (at + 3)} (rw p at (nine_ended (past_two a b) (omega arith) (omega arith) c)) refl g

        pub near_four : 128 ≤ get_or s (at + 2) 0 → get_or s (at + 3) 0 < 128
            → l
            ≡ signed_end (get_or s at 0 % 128 + get_or s (at + 1) 0 % 128 * 128 + get_or s (at + 2) 0 % 128 * 0x4000 + get_or s (at + 3) 0 % 128 * 0x20_0000) 0x1000_0000 (get_or s (at + 3) 0) (at + 4)
            → l ≡ read_signed s at
        near_four c d g =
            let p : at + 3 + 1 ≡ at + 4 = omega arith in
            signed_ended s at {r = Ended _ 0x1000_0000 (get_or s (at + 3) 0) (at + 4)} (rw p at (nine_ended (past_three a b c) (omega arith) (omega arith) d)) refl g

module _ (a : ℕ) where
  pub small_one : (a % 128 < 128) × (128 ≤ 2 ^ 63)
  small_one = (omega arith, omega arith)

  pub small_two : (b : ℕ) → (a % 128 + b % 128 * 128 < 0x4000) × (0x4000 ≤ 2 ^ 63)
  small_two b = (omega arith, omega arith)

  pub small_three : (b c : ℕ) → (a % 128 + b % 128 * 128 + c % 128 * 0x4000 < 0x20_0000) × (0x20_0000 ≤ 2 ^ 63)
  small_three b c = (omega arith, omega arith)

  pub small_four : (b c d : ℕ) → (a % 128 + b % 128 * 128 + c % 128 * 0x4000 + d % 128 * 0x20_0000 < 0x1000_0000) × (0x1000_0000 ≤ 2 ^ 63)
  small_four b c d = (omega arith, omega arith)

-- what the proofs of `nine`, `unsigned` and `signed` search
pub ruleset nine_laws = (passed_none, passed_more, weight_fits, group_fits, sum_fits, nine_ended, nine_short, nine_open)

pub ruleset unsigned_laws = (unsigned_one, unsigned_two, leb_failed, leb_cut, leb_large, tenth_fits, unsigned_ended, unsigned_large, unsigned_ten)

pub ruleset signed_laws =
    (leb_failed, leb_cut, leb_large, ten_fits, ended_below, ended_most, signed_ended, signed_large, signed_ten_low, signed_ten_high)

pub ruleset end_laws = (end_low, end_high, end_fits, end_fits_one)

pub ruleset near_laws = (near_one, near_two, near_three, near_four, small_one, small_two, small_three, small_four)
