-- The bytes of a value are its fields: what each byte holds, and what one value set does to them.
-- Assumes nothing.
use Rattle.std.specs.Prelude.{◌≡◌, refl, Bool, true, false, cond, List, [], ◌∷◌, ◌⊎◌, eqb, length, get_or, set, drop}
use Rattle.std.proofs.Common.{sym, ap, ◌∙◌, ⊎_elim, add_comm, mul_comm, mul-zero, zero-mul, mod-eq_of_lt, add-one, eqb-true, drop_of_length-le, pow-add, drop-cons, get_or-set_same, get_or-set_other}
use Prim.Native.Nat.{ℕ, zero, suc, ◌+◌, ◌-◌, ◌*◌, ◌/◌, ◌%◌, ◌^◌, ◌<◌, ◌≤◌}
use Rattle.std.proofs.Math.Nat.{add-zero, zero-add, suc-mul, div-one}
use native.Mathlib.Omega.{arith}
use Rattle.std.proofs.lemmas.Bool.{eqb-false}
use Rattle.std.proofs.Math.ListN.{length-set}
use Rattle.std.proofs.Math.Arith.{digits_lt}
use Rattle.std.proofs.Math.Pow.{shr-shr, high, low}
use Rattle.std.proofs.lemmas.Nat.{mod-pow-add}
use Rattle.slices.specs.Choice.{cond_ind, le_or_lt}
use Rattle.slices.specs.Splice.{part}
use Rattle.slices.specs.Splice.Laws.{part_zero, part_all}
use Rattle.states.specs.declared.States.{States}
use Rattle.states.specs.declared.States.TheVariants.{Two, Nine}
use Rattle.states.specs.Kind.{bits, per_byte, bytes_required}
use Rattle.states.specs.Field.{field_get, field_set}
use Rattle.states.specs.Field.Laws.{set_byte}
use Rattle.states.specs.Packed.Laws.{one_set, value_byte, value_in, value_seen, bit_fits, bits_some, length_set_at}
use Rattle.states.specs.Packed.{digits, bytes, packed, field_at, set_at, value_place}

pub get_d_past : (l : List ℕ) (i : ℕ) → length l ≤ i → get_or l i 0 ≡ 0
get_d_past [] i h = refl
get_d_past (x ∷ l) zero h = absurd (omega arith)
get_d_past (x ∷ l) (suc i) h = get_d_past l i (omega arith)

-- ---- how many bytes

length_bytes : (s : States) (n : ℕ) (l : List ℕ) → length (bytes s n l) ≡ n
unfolding bytes
length_bytes s zero l = refl
length_bytes s (suc n) l = ap suc (length_bytes s n l)

pub length_packed : (s : States) (l : List ℕ) → length (packed s l) ≡ bytes_required s (length l)
unfolding packed
length_packed s l = length_bytes s (bytes_required s (length l)) l

-- ---- a number is its digits

digits_none : (b : ℕ) (l : List ℕ) → digits b 0 l ≡ 0
unfolding digits
digits_none b l = refl

digits_nil : (b n : ℕ) → digits b n [] ≡ 0
unfolding digits
digits_nil b zero = refl
digits_nil b (suc n) = refl

-- the values from one place on: the first, and the rest
digits_from : (b n : ℕ) (l : List ℕ) (k : ℕ) → digits b (suc n) (drop k l) ≡ get_or l k 0 + 2 ^ b * digits b n (drop (k + 1) l)
unfolding digits
digits_from b n l k =
    ⊎_elim (λ (h : length l ≤ k). rw (drop_of_length-le l {i = k} h, drop_of_length-le l {i = k + 1} (omega arith), get_d_past l k h, digits_nil b n, mul-zero))
    (λ (h : k < length l). rw (drop-cons l k 0 h, add-one k))
    (le_or_lt (length l) k)

-- the low fields of a number are the number they pack to
digits_mod : (b m x : ℕ) (l : List ℕ) (k : ℕ) → ((i : ℕ) → i < m → field_get b (i * b) x ≡ get_or l (k + i) 0) → x % 2 ^ (m * b) ≡ digits b m (drop k l)
unfolding field_get
digits_mod b zero x l k g = rw (zero-mul, digits_none b (drop k l)) (omega arith)
digits_mod b (suc m) x l k g =
    let low : x % 2 ^ b ≡ get_or l k 0 = rw (zero-mul, add-zero, div-one) at (g 0 (omega arith)) in
    let rest : x / 2 ^ b % 2 ^ (m * b) ≡ digits b m (drop (k + 1) l) =
    digits_mod b m (x / 2 ^ b) l (k + 1)
    (λ i o.
    let e : b + i * b ≡ suc i * b = rw suc-mul (omega arith) in
    let d : k + suc i ≡ k + 1 + i = omega arith in
    rw (shr-shr, e, ← d) (g (suc i) (omega arith))) in
    rw (suc-mul, mod-pow-add x (m * b) b, rest, low, digits_from b m l k) (omega arith)

-- a byte is its fields
byte_is : (s : States) (x : ℕ) (l : List ℕ) (k : ℕ) → x < 256 → ((i : ℕ) → i < per_byte s → field_get (bits s) (i * bits s) x ≡ get_or l (k + i) 0) → x ≡ digits (bits s) (per_byte s) (drop k l)
byte_is Two x l k h g = sym (mod-eq_of_lt h) ∙ digits_mod 1 8 x l k g
byte_is Nine x l k h g = sym (mod-eq_of_lt h) ∙ digits_mod 4 2 x l k g

-- where value i of the byte of k lies
value_split : (s : States) (at n k i : ℕ) → k < n → i < per_byte s → (value_place s at n (per_byte s * k + i) / 8 ≡ at + (n - 1 - k)) × (value_place s at n (per_byte s * k + i) % 8 ≡ i * bits s)
unfolding value_place
value_split Two at n k i h o = omega arith
value_split Nine at n k i h o = omega arith

in_bytes : (s : States) (k n i : ℕ) → k < n → i < per_byte s → per_byte s * k + i < per_byte s * n
in_bytes Two k n i h o = omega arith
in_bytes Nine k n i h o = omega arith

part_suc : (l : List ℕ) (a j : ℕ) → a < length l → part l a (suc j) ≡ get_or l a 0 ∷ part l (suc a) j
unfolding part
part_suc l a j h = rw (drop-cons l a 0 h)

-- bytes whose fields are some values are those values, packed
module _ (s : States) (room : List ℕ) (at n : ℕ) (l : List ℕ) (small : (i : ℕ) → get_or room i 0 < 256) (fits : at + n ≤ length room)
    (held : (b : ℕ) → b < per_byte s * n → field_at (bits s) (value_place s at n b) room ≡ get_or l b 0) where
  byte_held : (k : ℕ) → k < n → get_or room (at + (n - 1 - k)) 0 ≡ digits (bits s) (per_byte s) (drop (per_byte s * k) l)
  unfolding field_at
  byte_held k o =
      byte_is s _ l (per_byte s * k) (small _)
      (λ i u.
      let q = value_split s at n k i o u in
      rw (← q.0, ← q.1) (held (per_byte s * k + i) (in_bytes s k n i o u)))

  part_held : (j : ℕ) → j ≤ n → part room (at + (n - j)) j ≡ bytes s j l
  unfolding bytes
  part_held zero o = part_zero room _
  part_held (suc j) o =
      let e : suc (at + (n - suc j)) ≡ at + (n - j) = omega arith in
      let d : n - suc j ≡ n - 1 - j = omega arith in
      part_suc room (at + (n - suc j)) j (omega arith) ∙ rw (e, d, byte_held j (omega arith), part_held j (omega arith))

  pub fields_packed : part room at n ≡ bytes s n l
  fields_packed =
      let e : at + (n - n) ≡ at = omega arith in
      rw e at (part_held n (omega arith))

-- ---- the other way round: the fields of packed values are the values

-- values that each fit their bits
abbrev pub Small : States → List ℕ → Type 0
Small s l = (i : ℕ) → get_or l i 0 < 2 ^ bits s

-- the first value lowest
digits_low : (b n : ℕ) (l : List ℕ) (k : ℕ) → digits b (suc n) (drop k l) ≡ digits b n (drop (k + 1) l) * 2 ^ b + get_or l k 0
digits_low b n l k = digits_from b n l k ∙ rw (mul_comm (2 ^ b), add_comm (get_or l k 0))

module _ (b : ℕ) (l : List ℕ) (small : (i : ℕ) → get_or l i 0 < 2 ^ b) where
  digit : (m k i : ℕ) → i < m → field_get b (i * b) (digits b m (drop k l)) ≡ get_or l (k + i) 0
  unfolding field_get
  digit zero k i o = absurd (omega arith)
  digit (suc m) k zero o = rw (zero-mul, div-one, add-zero, digits_low b m l k) (low (digits b m (drop (k + 1) l)) b (small k))
  digit (suc m) k (suc i) o =
      let e : suc i * b ≡ b + i * b = rw suc-mul (omega arith) in
      let d : k + suc i ≡ k + 1 + i = omega arith in
      rw (e, ← shr-shr (digits b (suc m) (drop k l)) b (i * b), digits_low b m l k, high (digits b m (drop (k + 1) l)) b (small k), d) (digit m (k + 1) i (omega arith))

  digits_small : (m k : ℕ) → digits b m (drop k l) < 2 ^ (m * b)
  digits_small zero k = rw (zero-mul, digits_none b (drop k l)) (omega arith)
  digits_small (suc m) k = rw (suc-mul, digits_low b m l k, pow-add 2 (m * b) b) (digits_lt (digits_small m (k + 1)) (small k))

-- the byte of k, counted from the last
bytes_at : (s : States) (n : ℕ) (l : List ℕ) (k : ℕ) → k < n → get_or (bytes s n l) (n - 1 - k) 0 ≡ digits (bits s) (per_byte s) (drop (per_byte s * k) l)
unfolding bytes
bytes_at s zero l k h = absurd (omega arith)
bytes_at s (suc n) l k h =
    ⊎_elim (λ (e : n ≤ k). let f : k ≡ n = omega arith in let g : suc n - 1 - k ≡ 0 = omega arith in rw (g, f))
    (λ (o : k < n). let g : suc n - 1 - k ≡ suc (n - 1 - k) = omega arith in rw g (bytes_at s n l k o))
    (le_or_lt n k)

byte_small : (s : States) (l : List ℕ) → Small s l → (k : ℕ) → digits (bits s) (per_byte s) (drop k l) < 256
byte_small Two l small k = digits_small 1 l small 8 k
byte_small Nine l small k = digits_small 4 l small 2 k

-- which byte, and which value of it
at_byte : (s : States) (b : ℕ) → (per_byte s * (b / per_byte s) + b % per_byte s ≡ b) × (b % per_byte s < per_byte s)
at_byte Two b = omega arith
at_byte Nine b = omega arith

in_byte : (s : States) (n b : ℕ) → b < per_byte s * n → b / per_byte s < n
in_byte Two n b h = omega arith
in_byte Nine n b h = omega arith

module _ (s : States) (n : ℕ) (l : List ℕ) (small : Small s l) where
  pub bytes_field : (b : ℕ) → b < per_byte s * n → field_at (bits s) (value_place s 0 n b) (bytes s n l) ≡ get_or l b 0
  unfolding field_at
  bytes_field b h =
      let q = at_byte s b in
      let k : b / per_byte s < n = in_byte s n b h in
      let v = value_split s 0 n (b / per_byte s) (b % per_byte s) k q.1 in
      rw (← q.0) (rw (v.0, v.1, zero-add, bytes_at s n l (b / per_byte s) k) (digit (bits s) l small (per_byte s) (per_byte s * (b / per_byte s)) (b % per_byte s) q.1))

  bytes_small : (i : ℕ) → get_or (bytes s n l) i 0 < 256
  bytes_small i =
      ⊎_elim (λ (h : n ≤ i). rw (get_d_past (bytes s n l) i (rw length_bytes h)) (omega arith))
      (λ (h : i < n). let e : n - 1 - (n - 1 - i) ≡ i = omega arith in rw e at (rw (← bytes_at s n l (n - 1 - i) (omega arith)) at (byte_small s l small (per_byte s * (n - 1 - i)))))
      (le_or_lt n i)

-- what stands at a place after `set`
pub get_d_set : (l : List ℕ) (i b x : ℕ) → i < length l → get_or (set l i x) b 0 ≡ cond (eqb b i) x (get_or l b 0)
get_d_set l i b x h = go (eqb b i) refl
  where
    go : (t : Bool) → eqb b i ≡ t → get_or (set l i x) b 0 ≡ cond t x (get_or l b 0)
    go true q = rw (eqb-true b i q) (get_or-set_same l i x 0 h)
    go false q = get_or-set_other l i b x 0 (eqb-false b i q)

module _ (s : States) (l : List ℕ) (b x : ℕ) (small : Small s l) (h : b < length l) (v : x < 2 ^ bits s) where
  abbrev n : ℕ
  n = bytes_required s (length l)

  abbrev p : ℕ
  p = value_place s 0 n b

  inside : p / 8 < length (bytes s n l)
  inside = rw length_bytes (omega (arith, value_in s 0 n b (bit_fits s (length l) b h), bits_some s))

  set_length : length (set_at (bits s) p (bytes s n l) x) ≡ n
  set_length = length_set_at (bits s) p (bytes s n l) x ∙ length_bytes s n l

  set_fields : (c : ℕ) → c < per_byte s * n → field_at (bits s) (value_place s 0 n c) (set_at (bits s) p (bytes s n l) x) ≡ get_or (set l b x) c 0
  set_fields c o =
      one_set (bits s) p (bytes s n l) x inside v (value_byte s 0 n b) (bits s) (value_place s 0 n c) (eqb c b) (value_byte s 0 n c) (value_seen s 0 n b c (bit_fits s (length l) b h) o)
      ∙ rw (bytes_field s n l small c o) (sym (get_d_set l b c x h))

  set_small : (i : ℕ) → get_or (set_at (bits s) p (bytes s n l) x) i 0 < 256
  unfolding set_at
  set_small i =
      rw (get_d_set (bytes s n l) (p / 8) i (field_set (bits s) (p % 8) (get_or (bytes s n l) (p / 8) 0) x) inside)
      (cond_ind (eqb i (p / 8)) _ _ (λ y. y < 256)
      (λ t. set_byte (bits s) (p % 8) (get_or (bytes s n l) (p / 8) 0) x (omega (arith, value_byte s 0 n b)) (bytes_small s n l small (p / 8)) v)
      (λ t. bytes_small s n l small i))

  -- packing a list after `set` is the packed list with that one field changed
  pub packed_set : packed s (set l b x) ≡ set_at (bits s) (value_place s 0 (bytes_required s (length l)) b) (packed s l) x
  unfolding packed
  packed_set =
      rw length-set
      (sym (fields_packed s (set_at (bits s) p (bytes s n l) x) 0 n (set l b x) set_small (rw set_length (omega arith)) set_fields)
      ∙ rw set_length at (part_all (set_at (bits s) p (bytes s n l) x)))
