-- Laws of packed values.
-- Assumes nothing.
use Rattle.std.specs.Prelude.{◌≡◌, refl, ℕ, zero, suc, ◌+◌, ◌-◌, ◌*◌, ◌/◌, ◌%◌, ◌^◌, ◌<◌, ◌≤◌, Bool, true, false, cond, List, [], ◌∷◌, ◌⊎◌, eqb, length, get_or, set}
use Rattle.std.proofs.Common.{ap, ◌∙◌, inl, inr, eq-eqb, ne_eqb, lit<, length-set, get_or-set_other}
use Rattle.std.proofs.Math.Logic.{⊎_elim}
use native.Mathlib.Omega.{arith}
use Rattle.std.proofs.Math.Seq.{get_or-set_same}
use Rattle.slices.specs.Choice.{tri, apart}
use Rattle.states.specs.declared.States.{States}
use Rattle.states.specs.declared.States.TheVariants.{Two, Nine}
use Rattle.states.specs.Kind.{bits, mask, per_byte, bytes_required, state_of}
use Rattle.states.specs.Field.{field_get, field_set}
use Rattle.states.specs.Field.Laws.{get_set, get_above, get_below}
use Rattle.states.specs.Packed.{field_at, set_at, value_place}

-- ---- the kinds

pub bits_some : (s : States) → 0 < bits s
bits_some Two = lit< tt
bits_some Nine = lit< tt

pub bits_most : (s : States) → bits s ≤ 4
bits_most Two = omega arith
bits_most Nine = omega arith

pub mask_is : (s : States) → mask s ≡ 2 ^ bits s - 1
mask_is Two = refl
mask_is Nine = refl

-- a bit below the width has a place in the bytes that the width requires
pub bit_fits : (s : States) (w b : ℕ) → b < w → b < per_byte s * bytes_required s w
unfolding bytes_required
bit_fits Two w b h = omega arith
bit_fits Nine w b h = omega arith

-- ---- the place of a value

-- it lies within a byte, and within the value bytes of its vector
pub value_byte : (s : States) (at n b : ℕ) → value_place s at n b % 8 + bits s ≤ 8
unfolding value_place
value_byte Two at n b = omega arith
value_byte Nine at n b = omega arith

pub value_in : (s : States) (at n b : ℕ) → b < per_byte s * n → (8 * at ≤ value_place s at n b) × (value_place s at n b + bits s ≤ 8 * (at + n))
unfolding value_place
value_in Two at n b h = omega arith
value_in Nine at n b h = omega arith

-- ---- a field that is set, and another

-- where the field at q lies, seen from the one at p: it is that one, it starts behind its end, or it ends before it
pub data Seen (b p b' q : ℕ) : Bool → Type 0 where
  it : b' ≡ b → q ≡ p → Seen b p b' q true
  behind : p + b ≤ q → Seen b p b' q false
  before : q + b' ≤ p → Seen b p b' q false

module _ (b p : ℕ) (l : List ℕ) (x : ℕ) (inside : p / 8 < length l) (small : x < 2 ^ b) where
  -- the same place
  pub get_after_set : field_at b p (set_at b p l x) ≡ x
  unfolding field_at set_at
  get_after_set = rw (get_or-set_same l (p / 8) (field_set b (p % 8) (get_or l (p / 8) 0) x) 0 inside) (get_set b (p % 8) (get_or l (p / 8) 0) x small)

  other_byte : (b' q : ℕ) → (q / 8 ≡ p / 8 → ⊥) → field_at b' q (set_at b p l x) ≡ field_at b' q l
  unfolding field_at set_at
  other_byte b' q n = rw (get_or-set_other l (p / 8) (q / 8) (field_set b (p % 8) (get_or l (p / 8) 0) x) 0 n)

  same_byte : (b' q : ℕ) → q / 8 ≡ p / 8 → (b + p % 8 ≤ q % 8) ⊎ (b' + q % 8 ≤ p % 8) → field_at b' q (set_at b p l x) ≡ field_at b' q l
  unfolding field_at set_at
  same_byte b' q e o =
      rw (e, get_or-set_same l (p / 8) (field_set b (p % 8) (get_or l (p / 8) 0) x) 0 inside)
      (⊎_elim (get_above b (p % 8) (get_or l (p / 8) 0) x small b' (q % 8)) (get_below b (p % 8) (get_or l (p / 8) 0) x small b' (q % 8)) o)

  elsewhere : (b' q : ℕ) → (q / 8 ≡ p / 8 → (b + p % 8 ≤ q % 8) ⊎ (b' + q % 8 ≤ p % 8)) → field_at b' q (set_at b p l x) ≡ field_at b' q l
  elsewhere b' q k = ⊎_elim (λ (e : q / 8 ≡ p / 8). same_byte b' q e (k e)) (λ (n : (q / 8 < p / 8) ⊎ (p / 8 < q / 8)). other_byte b' q (apart n)) (tri (q / 8) (p / 8))

  -- any place: both fields lie within a byte
  pub one_set : p % 8 + b ≤ 8 → (b' q : ℕ) (c : Bool) → q % 8 + b' ≤ 8 → Seen b p b' q c → field_at b' q (set_at b p l x) ≡ cond c x (field_at b' q l)
  one_set f b' q _ h (it e d) = rw (e, d) get_after_set
  one_set f b' q _ h (behind o) = elsewhere b' q (λ e. inl (omega arith))
  one_set f b' q _ h (before o) = elsewhere b' q (λ e. inr (omega arith))

pub length_set_at : (b p : ℕ) (l : List ℕ) (x : ℕ) → length (set_at b p l x) ≡ length l
unfolding set_at
length_set_at b p l x = length-set l (p / 8) _

module _ (at n b c : ℕ) where
  Apart : States → Type 0
  Apart s = Seen (bits s) (value_place s at n b) (bits s) (value_place s at n c) false

  lower : (s : States) → b < per_byte s * n → c < b → Apart s
  unfolding value_place Apart
  lower Two h l = ⊎_elim (λ (d : c / 8 ≡ b / 8). before (omega arith)) (λ (d : (c / 8 < b / 8) ⊎ (b / 8 < c / 8)). behind (⊎_elim (λ (u : c / 8 < b / 8). omega arith) (λ (u : b / 8 < c / 8). omega arith) d)) (tri (c / 8) (b / 8))
  lower Nine h l = ⊎_elim (λ (d : c / 2 ≡ b / 2). before (omega arith)) (λ (d : (c / 2 < b / 2) ⊎ (b / 2 < c / 2)). behind (⊎_elim (λ (u : c / 2 < b / 2). omega arith) (λ (u : b / 2 < c / 2). omega arith) d)) (tri (c / 2) (b / 2))

flip : {b p q : ℕ} → Seen b p b q false → Seen b q b p false
flip (behind o) = before o
flip (before o) = behind o

-- two values of one vector: the same where the bits are the same, else apart
pub value_seen : (s : States) (at n b c : ℕ) → b < per_byte s * n → c < per_byte s * n → Seen (bits s) (value_place s at n b) (bits s) (value_place s at n c) (eqb c b)
unfolding Apart
value_seen s at n b c hb hc =
    ⊎_elim (λ (e : c ≡ b). rw (eq-eqb c b e) (it refl (rw e)))
    (λ (o : (c < b) ⊎ (b < c)). rw (ne_eqb c b (apart o)) (⊎_elim (λ (l : c < b). lower at n b c s hb l) (λ (l : b < c). flip (lower at n c b s hc l)) o))
    (tri c b)

-- ---- what the code of a place asks and says, by the kind

module _ (s : States) (z : s ≡ Two) where
  pub top_two : (n b : ℕ) → b < per_byte s * n → b / 8 < n
  top_two n b h = let g : b < 8 * n = rw z at h in omega (arith, g)

  pub place_two : (at n b k : ℕ) → k ≡ n - 1 - b / 8 → 8 * (at + k) + b % 8 ≡ value_place s at n b
  unfolding value_place
  place_two at n b k e = rw (z, e) (omega arith)

module _ (s : States) (z : s ≡ Nine) where
  pub top_nine : (n b : ℕ) → b < per_byte s * n → b / 2 < n
  top_nine n b h = let g : b < 2 * n = rw z at h in omega (arith, g)

  pub place_nine : (at n b k : ℕ) → k ≡ n - 1 - b / 2 → 8 * (at + k) + b % 2 * 4 ≡ value_place s at n b
  unfolding value_place
  place_nine at n b k e = rw (z, e)

-- the bytes that a width requires, without a sum that could wrap
pub bytes_two : (s : States) (w : ℕ) → s ≡ Two → w / 8 + (w % 8 + 7) / 8 ≡ bytes_required s w
unfolding bytes_required
bytes_two s w z = rw z (omega arith)

pub bytes_nine : (s : States) (w : ℕ) → s ≡ Nine → w / 2 + w % 2 ≡ bytes_required s w
unfolding bytes_required
bytes_nine s w z = rw z (omega arith)

pub state_nine : (n : ℕ) → n ≡ 0 → Nine ≡ state_of n
state_nine n e = rw e

pub state_two : (n : ℕ) → (n ≡ 0 → ⊥) → Two ≡ state_of n
state_two zero f = absurd (f refl)
state_two (suc n) f = refl

module _ (b p : ℕ) (l : List ℕ) (r : ℕ) where
  pub got_field : r ≡ field_get b (p % 8) (get_or l (p / 8) 0) → r ≡ field_at b p l
  unfolding field_at
  got_field e = e

  pub set_field : (x : ℕ) → r ≡ field_set b (p % 8) (get_or l (p / 8) 0) x → set l (p / 8) r ≡ set_at b p l x
  unfolding set_at
  set_field x e = rw e

module _ (s : States) (at n b p width : ℕ) (place : p ≡ value_place s at n b) (wide : width ≡ bits s) where
  pub place_inside : (len : ℕ) → b < per_byte s * n → at + n ≤ len → p / 8 < len
  place_inside len h o = omega (arith, value_in s at n b h, bits_some s)

  pub place_mask : (m : ℕ) → m ≡ mask s → m ≡ 2 ^ width - 1
  place_mask m e = rw (e, wide) (mask_is s)

  pub place_get : (l : List ℕ) (r : ℕ) → r ≡ field_at width p l → r ≡ field_at (bits s) (value_place s at n b) l
  place_get l r e = e ∙ rw (place, wide)

-- a value set in its byte
module _ (s : States) (at n b k : ℕ) (l : List ℕ) (x : ℕ) where
  pub set_two : {l' : List ℕ} → s ≡ Two → k ≡ n - 1 - b / 8 → l' ≡ set l (at + k) (field_set 1 (b % 8) (get_or l (at + k) 0) x) → l' ≡ set_at (bits s) (value_place s at n b) l x
  unfolding set_at value_place
  set_two z e d =
      let p : (8 * (at + k) + b % 8 * 1) / 8 ≡ at + k = omega arith in
      let q : (8 * (at + k) + b % 8 * 1) % 8 ≡ b % 8 = omega arith in
      d ∙ rw (z, ← e, p, q)

  pub set_nine : {l' : List ℕ} → s ≡ Nine → k ≡ n - 1 - b / 2 → l' ≡ set l (at + k) (field_set 4 (b % 2 * 4) (get_or l (at + k) 0) x) → l' ≡ set_at (bits s) (value_place s at n b) l x
  unfolding set_at value_place
  set_nine z e d =
      let p : (8 * (at + k) + b % 2 * 4) / 8 ≡ at + k = omega arith in
      let q : (8 * (at + k) + b % 2 * 4) % 8 ≡ b % 2 * 4 = omega arith in
      d ∙ rw (z, ← e, p, q)

  pub two_inside : s ≡ Two → k ≡ n - 1 - b / 8 → b < per_byte s * n → at + n ≤ length l → at + k < length l
  two_inside z e h o = let g : b < 8 * n = rw z at h in omega (arith, g)

  pub nine_inside : s ≡ Nine → k ≡ n - 1 - b / 2 → b < per_byte s * n → at + n ≤ length l → at + k < length l
  nine_inside z e h o = let g : b < 2 * n = rw z at h in omega (arith, g)

pub two_small : (s : States) (x : ℕ) → s ≡ Two → x < 2 ^ bits s → x < 2 ^ 1
two_small s x z u = rw z at u

pub nine_small : (s : States) (x : ℕ) → s ≡ Nine → x < 2 ^ bits s → x < 2 ^ 4
nine_small s x z u = rw z at u

pub two_shift : (b : ℕ) → b % 8 + 1 ≤ 8
two_shift b = omega arith

pub nine_shift : (b : ℕ) → b % 2 * 4 + 4 ≤ 8
nine_shift b = omega arith

pub set_byte : (width shift i : ℕ) (l : List ℕ) (x r : ℕ) → r ≡ field_set width shift (get_or l i 0) x → set l i r ≡ set l i (field_set width shift (get_or l i 0) x)
set_byte width shift i l x r e = ap (set l i) e

pub ruleset set_laws = (top_two, top_nine, set_two, set_nine, two_inside, nine_inside, two_small, nine_small, two_shift, nine_shift, set_byte)

pub ruleset kind_laws = (bytes_two, bytes_nine, state_nine, state_two, top_two, place_two, top_nine, place_nine)

pub ruleset field_laws = (got_field, set_field)

pub ruleset place_laws = (place_inside, place_mask, place_get)
