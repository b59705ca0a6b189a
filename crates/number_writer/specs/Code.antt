-- What the proofs of `number_writer` search.
-- Assumes nothing.
use Rattle.std.specs.Prelude.{◌≡◌, Bool, true, false, List, [], ◌∷◌, ◌++◌, length, set, ltb, leb, Option}
use Rattle.std.proofs.Math.Path.{refl}
use Rattle.std.proofs.Common.{sym, ap, ◌∙◌, append_assoc, arith}
use Prim.Native.Nat.{ℕ, zero, suc, ◌+◌, ◌-◌, ◌/◌, ◌%◌, ◌≤◌, ◌<◌}
use borrow.Author.Tests.{lt-ltb, le-ltb, le-leb, lt-leb}
use Rattle.std.proofs.Math.ListN.{length-set, length-append}
use Rattle.slices.specs.Splice.{splice, part}
use Rattle.slices.specs.Splice.Laws.{splice_nil, splice_snoc, length_part, part_all, part_splice}
use Rattle.slices.specs.Field.{field_of, field_none, field_found, field_past}
use Rattle.number_writer.specs.Put.{after_put}
use Rattle.leb128.specs.Shortest.{fits, rest, groups, leb_bytes}
use Rattle.leb128.specs.Shortest.Groups.{groups_most}

-- ---- the seven bits and what is left

module _ (signed : Bool) (n : ℕ) where
  pub fits_plain : signed ≡ false → ltb n 128 ≡ fits signed n
  unfolding fits
  fits_plain e = rw e

  module _ (e : signed ≡ true) where
    pub fits_small : n < 64 → true ≡ fits signed n
    unfolding fits
    fits_small h = rw (e, lt-ltb n 64 h)

    pub fits_other : 64 ≤ n → leb 0xffff_ffff_ffff_ffc0 n ≡ fits signed n
    unfolding fits
    fits_other h = rw (e, le-ltb n 64 h)

    pub rest_positive : n < 0x8000_0000_0000_0000 → n / 128 ≡ rest signed n
    unfolding rest
    rest_positive h = rw (e, lt-ltb n 0x8000_0000_0000_0000 h)

    pub rest_negative : 0x8000_0000_0000_0000 ≤ n → n / 128 + 0xfe00_0000_0000_0000 ≡ rest signed n
    unfolding rest
    rest_negative h = rw (e, le-ltb n 0x8000_0000_0000_0000 h)

  pub rest_plain : signed ≡ false → n / 128 ≡ rest signed n
  unfolding rest
  rest_plain e = rw e

pub ruleset seven_laws = (fits_plain, fits_small, fits_other, rest_positive, rest_negative, rest_plain)

-- ---- the bytes, one by one

-- some bytes are written, and the number's are those and the ones of what is left
pub record Encoding (d₀ : List ℕ) (signed : Bool) (n : ℕ) (d : List ℕ) (left i : ℕ) : Type 0 where
  pub fuel : ℕ
  pub turns : i + fuel ≡ 9
  pub before : List ℕ
  pub count : length before ≡ i
  pub done : d ≡ splice d₀ 0 before
  pub long : length d ≡ length d₀
  pub says : groups signed 9 n ≡ before ++ groups signed fuel left

pub encode_none : (d : List ℕ) (signed : Bool) (n : ℕ) → Encoding d signed n d n 0
encode_none d signed n = record { fuel = 9; turns = refl; before = []; count = refl; done = splice_nil d 0; long = refl; says = refl }

module _ {d₀ : List ℕ} {signed : Bool} {n : ℕ} {d : List ℕ} {left i : ℕ} (c : Encoding d₀ signed n d left i) (h : 10 ≤ length d₀) where
  pub encode_inside : i < length d
  encode_inside = omega (arith, c.turns, c.long)

  -- one byte more
  stored : (b : ℕ) → set d i b ≡ splice d₀ 0 (c.before ++ (b ∷ []))
  stored b =
      let e : 0 + length c.before ≡ i = omega (arith, c.count) in
      rw c.done (rw e at (splice_snoc d₀ 0 c.before b (omega (arith, c.count, c.turns))))

  module _ (last : groups signed c.fuel left ≡ left % 128 ∷ []) where
    all : groups signed 9 n ≡ c.before ++ (left % 128 ∷ [])
    all = rw last at c.says

    ended_bytes : set d i (left % 128) ≡ splice d₀ 0 (groups signed 9 n)
    ended_bytes = rw all (stored (left % 128))

    ended_count : i + 1 ≡ length (groups signed 9 n)
    ended_count = rw all (simp length-append (omega (arith, c.count)))

  module _ {f : Bool} (e : f ≡ fits signed left) (t : f ≡ true) where
    fitting : (k : ℕ) → groups signed k left ≡ left % 128 ∷ []
    unfolding groups
    fitting zero = refl
    fitting (suc k) = rw (sym e ∙ t)

    pub fitting_bytes : set d i (left % 128) ≡ splice d₀ 0 (groups signed 9 n)
    fitting_bytes = ended_bytes (fitting c.fuel)

    pub fitting_count : i + 1 ≡ length (groups signed 9 n)
    fitting_count = ended_count (fitting c.fuel)

  module _ (l : 9 ≤ i) where
    spent : (k : ℕ) → i + k ≡ 9 → groups signed k left ≡ left % 128 ∷ []
    unfolding groups
    spent zero q = refl
    spent (suc k) q = absurd (omega arith)

    nine : i ≡ 9
    nine = omega (arith, c.turns)

    pub spent_bytes : set d 9 (left % 128) ≡ splice d₀ 0 (groups signed 9 n)
    spent_bytes = rw nine at (ended_bytes (spent c.fuel c.turns))

    pub spent_count : 10 ≡ length (groups signed 9 n)
    spent_count = let e = ended_count (spent c.fuel c.turns) in omega (arith, nine, e)

  pub encode_more : {f : Bool} → f ≡ fits signed left → f ≡ false → i < 9 → {next : ℕ} → next ≡ rest signed left → Encoding d₀ signed n (set d i (128 + left % 128)) next (i + 1)
  unfolding groups
  encode_more e t l {next} q = go c.fuel c.turns c.says
    where
      go : (k : ℕ) → i + k ≡ 9 → groups signed 9 n ≡ c.before ++ groups signed k left → Encoding d₀ signed n (set d i (128 + left % 128)) next (i + 1)
      go zero u w = absurd (omega arith)
      go (suc k) u w =
          record {
            fuel = k;
            turns = omega arith;
            before = c.before ++ ((128 + left % 128) ∷ []);
            count = simp length-append (omega (arith, c.count));
            done = stored (128 + left % 128);
            long = length-set d i (128 + left % 128) ∙ c.long;
            says = rw (q, append_assoc) (rw (sym e ∙ t) at w);
          }

pub count_most : (signed : Bool) (n : ℕ) {i : ℕ} → i ≡ length (leb_bytes signed n) → i ≤ 10
count_most signed n e = omega (arith, groups_most signed 9 n)

pub ruleset encode_laws = (encode_none, encode_inside, count_most, fitting_bytes, fitting_count, spent_bytes, spent_count, encode_more, length-set)

-- ---- into a buffer, where they fit

module _ (out : List ℕ) (at : ℕ) (bs : List ℕ) {count : ℕ} (q : count ≤ length bs) where
  long : length (part bs 0 count) ≡ count
  long = length_part bs 0 count (omega arith)

  pub front_none : length out < count → out ≡ after_put out at (part bs 0 count)
  unfolding after_put
  front_none h = rw (long, lt-leb (at + count) (length out) (omega arith))

  module _ (l : count ≤ length out) where
    pub front_past : length out - count < at → out ≡ after_put out at (part bs 0 count)
    unfolding after_put
    front_past h = rw (long, lt-leb (at + count) (length out) (omega arith))

    pub front_bytes : at ≤ length out - count → {out' : List ℕ} → out' ≡ splice out at (part bs 0 count) → out' ≡ after_put out at (part bs 0 count)
    unfolding after_put
    front_bytes h w = rw (long, le-leb (at + count) (length out) (omega arith)) w

pub ruleset front_laws = (front_none, front_past, front_bytes, field_none, field_found, field_past)

-- all of some bytes
pub put_all : (out : List ℕ) (at : ℕ) (bs : List ℕ) {out' : List ℕ} → out' ≡ after_put out at (part bs 0 (length bs)) → out' ≡ after_put out at bs
put_all out at bs e = e ∙ rw (part_all bs)

-- the bytes of a number
module _ (out : List ℕ) (at : ℕ) (bs : List ℕ) {count : ℕ} (q : count ≡ length bs) where
  pub put_field : {f : Option ℕ} → f ≡ field_of count out at → f ≡ field_of (length bs) out at
  put_field e = rw q at e

  pub put_bytes : (d : List ℕ) {d' : List ℕ} → d' ≡ splice d 0 bs → {out' : List ℕ} → out' ≡ after_put out at (part d' 0 count) → out' ≡ after_put out at bs
  put_bytes d p w = w ∙ rw (p, q) (ap (after_put out at) (part_splice d 0 bs (omega arith)))

pub ruleset put_laws = (put_all, put_field, put_bytes)
