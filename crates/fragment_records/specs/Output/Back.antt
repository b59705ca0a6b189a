-- The bytes of some records determine them: they are read back, where their numbers fit their fields.
-- Assumes nothing.
use Rattle.std.specs.Prelude.{◌≡◌, ℕ, zero, suc, ◌+◌, ◌^◌, ◌≤◌, ◌<◌, length}
use Rattle.std.proofs.Math.Path.{refl}
use Rattle.std.proofs.Common.{ap, sym, ◌∙◌, arith, length-append, take_at, drop_at}
use mathlib.Core.List.{List, [], ◌∷◌, ◌++◌, append_assoc}
use Rattle.slices.specs.Splice.{part}
use Rattle.numbers.specs.Fixed.{big, big_bytes}
use Rattle.numbers.specs.Fixed.Laws.{length_big_bytes, big_back}
use Rattle.fragment_records.specs.Output.{Out, fragment, closed, held, out_bytes, bytes_of, out_of, body_length, records_from, records_in}

-- "time .. 8 bytes, session value 4", "count 8"
abbrev pub Fits : List Out → Type 0
Fits [] = Unit {0}
Fits (fragment time session ∷ outs) = (time < 256 ^ 8) × (session < 256 ^ 4) × Fits outs
Fits (closed time session count ∷ outs) = (time < 256 ^ 8) × (session < 256 ^ 4) × (count < 256 ^ 8) × Fits outs
Fits (held session count ∷ outs) = (session < 256 ^ 4) × (count < 256 ^ 8) × Fits outs

-- a number's field behind some bytes
field : (a c : List ℕ) (i n v : ℕ) → length a ≡ i → v < 256 ^ n → big (part (a ++ (big_bytes n v ++ c)) i n) ≡ v
unfolding part
field a c i n v e h = rw (drop_at a (big_bytes n v ++ c) i e, take_at (big_bytes n v) c n (length_big_bytes n v)) (big_back n v h)

-- two fields, one behind the other
two : (m n u v : ℕ) → length (big_bytes m u ++ big_bytes n v) ≡ m + n
two m n u v = rw (length-append, length_big_bytes m u, length_big_bytes n v)

module _ (time session count : ℕ) (rest : List ℕ) where
  abbrev a : List ℕ
  a = big_bytes 8 time

  abbrev b : List ℕ
  b = big_bytes 4 session

  abbrev c : List ℕ
  c = big_bytes 8 count

  fragment_back : time < 256 ^ 8 → session < 256 ^ 4 → out_of 1 ((a ++ b) ++ rest) ≡ fragment time session
  unfolding out_of
  fragment_back h g = rw (append_assoc a b rest, field [] (b ++ rest) 0 8 time refl h, field a rest 8 4 session (length_big_bytes 8 time) g)

  closed_back : time < 256 ^ 8 → session < 256 ^ 4 → count < 256 ^ 8 → out_of 2 (((a ++ b) ++ c) ++ rest) ≡ closed time session count
  unfolding out_of
  closed_back h g f =
      let third : big (part (a ++ (b ++ (c ++ rest))) 12 8) ≡ count = rw (append_assoc a b (c ++ rest)) at (field (a ++ b) rest 12 8 count (two 8 4 time session) f) in
      rw (append_assoc (a ++ b) c rest, append_assoc a b (c ++ rest), field [] (b ++ (c ++ rest)) 0 8 time refl h, field a (c ++ rest) 8 4 session (length_big_bytes 8 time) g, third)

  held_back : session < 256 ^ 4 → count < 256 ^ 8 → out_of 3 ((b ++ c) ++ rest) ≡ held session count
  unfolding out_of
  held_back g f = rw (append_assoc b c rest, field [] (c ++ rest) 0 4 session refl g, field b rest 4 8 count (length_big_bytes 4 session) f)

-- a record is read, and then what is left
one : {o : Out} {outs : List Out} (fuel kind : ℕ) (body : List ℕ) → length body ≡ body_length kind → out_of kind (body ++ bytes_of outs) ≡ o → records_from fuel (bytes_of outs) ≡ outs
    → records_from (suc fuel) (kind ∷ (body ++ bytes_of outs)) ≡ o ∷ outs
unfolding records_from
one {o} {outs} fuel kind body e f more = rw (drop_at body (bytes_of outs) (body_length kind) e, f, more)

back : (outs : List Out) (fuel : ℕ) → length (bytes_of outs) ≤ fuel → Fits outs → records_from fuel (bytes_of outs) ≡ outs
unfolding records_from bytes_of out_bytes body_length
back [] zero h f = refl
back [] (suc fuel) h f = refl
back (fragment t x ∷ outs) zero h f = absurd (omega arith)
back (closed t x n ∷ outs) zero h f = absurd (omega arith)
back (held x n ∷ outs) zero h f = absurd (omega arith)
back (fragment t x ∷ outs) (suc fuel) h f =
    let l = length-append (big_bytes 8 t ++ big_bytes 4 x) (bytes_of outs) in
    one fuel 1 (big_bytes 8 t ++ big_bytes 4 x) (two 8 4 t x) (fragment_back t x 0 (bytes_of outs) f.0 f.1) (back outs fuel (omega (arith, l)) f.2)
back (closed t x n ∷ outs) (suc fuel) h f =
    let l = length-append ((big_bytes 8 t ++ big_bytes 4 x) ++ big_bytes 8 n) (bytes_of outs) in
    one fuel 2 ((big_bytes 8 t ++ big_bytes 4 x) ++ big_bytes 8 n) (rw (length-append, two 8 4 t x, length_big_bytes)) (closed_back t x n (bytes_of outs) f.0 f.1 f.2)
    (back outs fuel (omega (arith, l)) f.3)
back (held x n ∷ outs) (suc fuel) h f =
    let l = length-append (big_bytes 4 x ++ big_bytes 8 n) (bytes_of outs) in
    one fuel 3 (big_bytes 4 x ++ big_bytes 8 n) (two 4 8 x n) (held_back 0 x n (bytes_of outs) f.0 f.1) (back outs fuel (omega (arith, l)) f.2)

-- the records of some bytes are those of which they are the bytes
pub records_back : (outs : List Out) → Fits outs → records_in (bytes_of outs) ≡ outs
unfolding records_in
records_back outs f = back outs (length (bytes_of outs)) (omega arith) f

-- .. so no other such records have these bytes
pub bytes_determine : (a b : List Out) → Fits a → Fits b → bytes_of a ≡ bytes_of b → a ≡ b
bytes_determine a b f g e = sym (records_back a f) ∙ (ap records_in e ∙ records_back b g)
