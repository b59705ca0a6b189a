-- The laws of numbers of fixed size, over any number of bytes.
-- Assumes nothing.
use Rattle.std.specs.Prelude.{◌≡◌, refl, ℕ, zero, suc, ◌+◌, ◌-◌, ◌*◌, ◌/◌, ◌%◌, ◌^◌, ◌≤◌, ◌<◌, Bool, true, false, not, length, get_or, take, drop, None, Option, Some}
use Rattle.std.proofs.Common.{ap, sym, ◌∙◌, ⊎_elim, mod-lt, mod-eq_of_lt, add_assoc, add-zero, suc-add, zero-add, mul_assoc, mul_comm, add-mul, mul-add, div-add-mod', arith, length-append, length-take, get_or-take, get_or-drop, pow-add, leb-true, leb-false, le-leb, le-ltb, lt-ltb}
use mathlib.Core.List.{List, [], ◌∷◌, ◌++◌, reverse, reverse-cons}
use Rattle.std.proofs.Math.Nat.{pow-succ', one-le-pow, mod-one, div-div-eq-div-mul, mul-add-div_right, mul-add-mod_self_right}
use Rattle.std.proofs.Math.ListN.{get_or-eq_default}
use Rattle.std.proofs.Math.Arith.{mod-mul, digits_lt, digits_div}
use Rattle.std.proofs.lemmas.Bool.{lt-leb}
use Rattle.std.specs.Int.Signed.{non_neg}
use mir.Val.{bits, hbits, to_z}
use Rattle.std.specs.Int.{Width, w8, w16, w32, w64, w128}
use Rattle.slices.specs.Choice.{le_or_lt, cond_ind}
use Rattle.slices.specs.Splice.{splice, part}
use Rattle.slices.specs.Splice.Laws.{length_part, part_snoc, part_zero, part_splice}
use Rattle.numbers.specs.Fixed.{little, big, fixed, big_bytes, negative, positive}

-- every number of the list is a byte
abbrev pub Bytes : List ℕ → Type 0
Bytes l = (i : ℕ) → get_or l i 0 < 256

power_pos : (n : ℕ) → 0 < 256 ^ n
power_pos n = one-le-pow n 256 (omega arith)

-- ---- numbers of bytes

pub big_below : (l : List ℕ) → Bytes l → big l < 256 ^ length l
unfolding big
big_below [] h = omega arith
big_below (b ∷ bs) h = rw pow-succ' (digits_lt (h 0) (big_below bs (λ i. h (suc i))))

pub little_below : (l : List ℕ) → Bytes l → little l < 256 ^ length l
unfolding little
little_below [] h = omega arith
little_below (b ∷ bs) h = rw pow-succ' (omega (arith, h 0, little_below bs (λ i. h (suc i))))

pub fixed_below : (flag : Bool) (l : List ℕ) → Bytes l → fixed flag l < 256 ^ length l
unfolding fixed
fixed_below true l h = big_below l h
fixed_below false l h = little_below l h

pub big_append : (a b : List ℕ) → big (a ++ b) ≡ big a * 256 ^ length b + big b
unfolding big
big_append [] b = omega arith
big_append (x ∷ a) b =
    let e : x * 256 ^ length (a ++ b) + big (a ++ b) ≡ (x * 256 ^ length a + big a) * 256 ^ length b + big b = rw (length-append, pow-add, big_append a b, add-mul, mul_assoc, add_assoc) in e

pub little_append : (a b : List ℕ) → little (a ++ b) ≡ little a + 256 ^ length a * little b
unfolding little
little_append [] b = rw (zero-add) (omega arith)
little_append (x ∷ a) b = rw (pow-succ', little_append a b, mul-add, ← mul_assoc 256 (256 ^ length a) (little b), add_assoc)

-- the lowest first is the highest first, the other way round
pub little_big : (l : List ℕ) → little l ≡ big (reverse l)
unfolding little big
little_big [] = refl
little_big (b ∷ bs) = rw (reverse-cons, big_append, ← little_big bs) (omega arith)

-- ---- bytes of numbers

pub length_big_bytes : (n v : ℕ) → length (big_bytes n v) ≡ n
unfolding big_bytes
length_big_bytes zero v = refl
length_big_bytes (suc n) v = ap suc (length_big_bytes n v)

pub big_bytes_bytes : (n v : ℕ) → Bytes (big_bytes n v)
unfolding big_bytes
big_bytes_bytes zero v i = omega arith
big_bytes_bytes (suc n) v zero = mod-lt _ (omega arith)
big_bytes_bytes (suc n) v (suc i) = big_bytes_bytes n v i

-- the bytes of a number spell as much of it as they hold
pub big_big_bytes : (n v : ℕ) → big (big_bytes n v) ≡ v % 256 ^ n
unfolding big big_bytes
big_big_bytes zero v = sym (mod-one v)
big_big_bytes (suc n) v =
    let e : v / 256 ^ n % 256 * 256 ^ length (big_bytes n v) + big (big_bytes n v) ≡ v % 256 ^ suc n =
    rw (length_big_bytes, big_big_bytes n v, pow-succ', mod-mul v {m = 256} {c = 256 ^ n} (omega arith) (power_pos n)) in e

pub big_back : (n v : ℕ) → v < 256 ^ n → big (big_bytes n v) ≡ v
big_back n v h = big_big_bytes n v ∙ mod-eq_of_lt h

-- what n bytes do not hold does not matter to them
pub big_bytes_low : (n q r : ℕ) → big_bytes n (q * 256 ^ n + r) ≡ big_bytes n r
unfolding big_bytes
big_bytes_low zero q r = refl
big_bytes_low (suc n) q r =
    rw (pow-succ', ← mul_assoc q 256 (256 ^ n), big_bytes_low n (q * 256) r, mul-add-div_right (power_pos n) (q * 256) r, mul-add-mod_self_right)

-- the number that some bytes spell has those bytes
pub big_bytes_back : (l : List ℕ) (n : ℕ) → Bytes l → length l ≡ n → big_bytes n (big l) ≡ l
unfolding big big_bytes
big_bytes_back [] n h e = rw (← e)
big_bytes_back (b ∷ bs) n h e =
    let t : Bytes bs = λ i. h (suc i) in
    rw (← e, digits_div b (big_below bs t), mod-eq_of_lt (h 0), big_bytes_low (length bs) b (big bs), big_bytes_back bs (length bs) t refl)

-- the bytes of a number, in two parts
pub big_bytes_join : (m n v : ℕ) → big_bytes m (v / 256 ^ n) ++ big_bytes n (v % 256 ^ n) ≡ big_bytes (m + n) v
unfolding big_bytes
big_bytes_join zero n v = rw zero-add (sym (big_bytes_low n (v / 256 ^ n) (v % 256 ^ n)) ∙ ap (big_bytes n) (div-add-mod' v (256 ^ n)))
big_bytes_join (suc m) n v = rw (suc-add, pow-add, mul_comm (256 ^ m), ← div-div-eq-div-mul v (256 ^ n) (256 ^ m)) (ap (λ (l : List ℕ). v / 256 ^ n / 256 ^ m % 256 ∷ l) (big_bytes_join m n v))

-- ---- bytes in a list

-- a part of four, one by one
pub part_four : (s : List ℕ) (at : ℕ) → at + 4 ≤ length s
    → part s at 4 ≡ get_or s at 0 ∷ get_or s (at + 1) 0 ∷ get_or s (at + 2) 0 ∷ get_or s (at + 3) 0 ∷ []
part_four s at h =
    part_snoc s at 3 (omega arith)
    ∙ rw (part_snoc s at 2 (omega arith), part_snoc s at 1 (omega arith), part_snoc s at 0 (omega arith), part_zero, add-zero at)

-- a part of some bytes is bytes, and spells less than 256 to the number of them
pub part_bytes : (s : List ℕ) (at n : ℕ) → Bytes s → Bytes (part s at n)
unfolding part
part_bytes s at n h i =
    ⊎_elim (λ (o : n ≤ i). rw (get_or-eq_default (take n (drop at s)) 0 {n = i} (rw length-take (omega arith))) (omega arith))
    (λ (o : i < n). rw (get_or-take n (drop at s) i 0 o, get_or-drop at s i 0) (h (at + i))) (le_or_lt n i)

pub part_below : (flag : Bool) (s : List ℕ) (at n : ℕ) → Bytes s → at + n ≤ length s → fixed flag (part s at n) < 256 ^ n
part_below flag s at n h o = rw (length_part s at n o) at (fixed_below flag (part s at n) (part_bytes s at n h))

-- a number that was written is read back
pub read_back_lem : (l : List ℕ) (at n v : ℕ) → at ≤ length l → v < 256 ^ n → big (part (splice l at (big_bytes n v)) at n) ≡ v
read_back_lem l at n v h f = ap big (rw length_big_bytes at (part_splice l at (big_bytes n v) h)) ∙ big_back n v f

-- ---- the sign

pub negative_true : (bits v : ℕ) → negative bits v ≡ true → 2 ^ (bits - 1) ≤ v
unfolding negative
negative_true bits v e = leb-true (2 ^ (bits - 1)) v e

pub negative_false : (bits v : ℕ) → negative bits v ≡ false → v < 2 ^ (bits - 1)
unfolding negative
negative_false bits v e = leb-false (2 ^ (bits - 1)) v e

bits_less : (w : Width) → bits w - 1 ≡ hbits w
bits_less w8 = refl
bits_less w16 = refl
bits_less w32 = refl
bits_less w64 = refl
bits_less w128 = refl

-- the top bit is the sign of the number in two's complement
pub negative_is : (w : Width) (v : ℕ) → negative (bits w) v ≡ not (non_neg (to_z w v))
unfolding negative
negative_is w v =
    ⊎_elim (λ (h : 2 ^ hbits w ≤ v). simp (bits_less w, le-leb _ _ h, le-ltb _ _ h)) (λ (h : v < 2 ^ hbits w). simp (bits_less w, lt-leb _ _ h, lt-ltb _ _ h))
    (le_or_lt (2 ^ hbits w) v)

-- what a signed number of 32 bits told apart tells
abbrev pub Told : ℕ → Option ℕ → Type 0
Told v (Some n) = (n ≡ v) × (v < 2 ^ 31)
Told v None = 2 ^ 31 ≤ v

pub told : (v : ℕ) → Told v (positive v)
unfolding positive
told v = cond_ind (negative 32 v) None (Some v) (Told v) (λ t. negative_true 32 v t) (λ t. (refl, negative_false 32 v t))
