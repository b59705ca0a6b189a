-- What the proofs of the bench's records search: a record's bytes as they are built, and the held ones put one after the other.
-- Assumes nothing.
use Rattle.std.specs.Prelude.{◌≡◌, get_or, set, None, Option, Some}
use Rattle.std.proofs.Math.Path.{refl}
use Rattle.std.proofs.Common.{sym, ap, subst, ◌∙◌, add-zero, add-one, arith, eq-eqb, ne_eqb, length-append}
use Prim.Native.Nat.{ℕ, zero, suc, ◌+◌, ◌-◌, ◌≤◌, ◌<◌}
use mathlib.Core.List.{List, [], ◌∷◌, ◌++◌, append_assoc, append-nil}
use Rattle.std.proofs.Math.ListN.{length}
use Rattle.slices.specs.Splice.{splice}
use Rattle.slices.specs.Splice.Laws.{splice_nil, splice_splice, splice_all, length_splice, set_splice}
use Rattle.slices.specs.Field.{field_of}
use Rattle.numbers.specs.Fixed.{big_bytes}
use Rattle.numbers.specs.Fixed.Laws.{length_big_bytes}
use Rattle.number_writer.specs.Put.{after_put, Puts, puts_one, puts_short, puts_more}
use Rattle.sessions.specs.declared.Bench.{Bench}
use Rattle.sessions.specs.Places.{is_free}
use Rattle.fragment_records.specs.Output.{Out, fragment, closed, held, out_bytes, bytes_of, held_at, held_from, held_of}
use Rattle.fragment_records.specs.Output.Laws.{bytes_append, bytes_one}

-- ---- a record's bytes, as they are built

-- the next number, behind what stands at the front
joins : (z a : List ℕ) (at : ℕ) (bs : List ℕ) {x y : List ℕ} → x ≡ splice z 0 a → length a ≡ at → at ≤ length z → y ≡ splice x at bs → y ≡ splice z 0 (a ++ bs)
joins z a at bs e n h f = let m : 0 + length a ≡ at = omega (arith, n) in f ∙ rw e (rw m at (splice_splice z 0 a bs (omega arith)))

kind_first : (z : List ℕ) (k : ℕ) → 0 < length z → set z 0 k ≡ splice z 0 (k ∷ [])
kind_first z k h = set_splice z 0 k h

module _ (z : List ℕ) {x y : List ℕ} where
  pub fragment_built : (u session : ℕ) → length z ≡ 13 → x ≡ splice (set z 0 1) 1 (big_bytes 8 u) → y ≡ splice x 9 (big_bytes 4 session) → y ≡ out_bytes (fragment u session)
  unfolding out_bytes
  fragment_built u session n e f =
      let l = length_big_bytes 8 u in
      let d = joins z (1 ∷ []) 1 (big_bytes 8 u) (kind_first z 1 (omega arith)) refl (omega arith) e in
      joins z (1 ∷ big_bytes 8 u) 9 (big_bytes 4 session) d (ap suc l) (omega arith) f
      ∙ splice_all z (1 ∷ big_bytes 8 u ++ big_bytes 4 session) (simp (length-append, length_big_bytes) (sym n))

  pub held_built : (session count : ℕ) → length z ≡ 13 → x ≡ splice (set z 0 3) 1 (big_bytes 4 session) → y ≡ splice x 5 (big_bytes 8 count) → y ≡ out_bytes (held session count)
  unfolding out_bytes
  held_built session count n e f =
      let l = length_big_bytes 4 session in
      let d = joins z (3 ∷ []) 1 (big_bytes 4 session) (kind_first z 3 (omega arith)) refl (omega arith) e in
      joins z (3 ∷ big_bytes 4 session) 5 (big_bytes 8 count) d (ap suc l) (omega arith) f
      ∙ splice_all z (3 ∷ big_bytes 4 session ++ big_bytes 8 count) (simp (length-append, length_big_bytes) (sym n))

  pub closed_built : (u session count : ℕ) {v : List ℕ} → length z ≡ 21 → x ≡ splice (set z 0 2) 1 (big_bytes 8 u) → y ≡ splice x 9 (big_bytes 4 session) → v ≡ splice y 13 (big_bytes 8 count)
      → v ≡ out_bytes (closed u session count)
  unfolding out_bytes
  closed_built u session count n e f g =
      let l = length_big_bytes 8 u in
      let m : length (1 ∷ big_bytes 8 u ++ big_bytes 4 session) ≡ 13 = simp (length-append, length_big_bytes) in
      let d = joins z (2 ∷ []) 1 (big_bytes 8 u) (kind_first z 2 (omega arith)) refl (omega arith) e in
      let c = joins z (2 ∷ big_bytes 8 u) 9 (big_bytes 4 session) d (ap suc l) (omega arith) f in
      joins z (2 ∷ big_bytes 8 u ++ big_bytes 4 session) 13 (big_bytes 8 count) c m (omega arith) g
      ∙ (rw append_assoc (splice_all z (2 ∷ big_bytes 8 u ++ (big_bytes 4 session ++ big_bytes 8 count)) (simp (length-append, length_big_bytes) (sym n))))

pub ruleset built_laws = (fragment_built, held_built, closed_built)

-- ---- records put

-- bytes that are a record's
pub puts_out : (out : List ℕ) (at : ℕ) (o : Out) {bs : List ℕ} → bs ≡ out_bytes o → {out' : List ℕ} {f : Option ℕ} → f ≡ field_of (length bs) out at → out' ≡ after_put out at bs
    → Puts out at (bytes_of (o ∷ [])) out' f
puts_out out at o {bs} e d g = rw (bytes_one o, ← e) (puts_one out at bs d g)

-- a room stays as long as it was
pub puts_room : {out : List ℕ} {n : ℕ} {bs out' : List ℕ} {c : ℕ} → Puts out n bs out' (Some c) → length out' ≡ length out
puts_room {out} {n} {bs} q = ap length q.lies.0 ∙ length_splice out n bs (omega (arith, q.lies.1, q.lies.2))

-- none
pub puts_none : (out : List ℕ) (at : ℕ) → at ≤ length out → Puts out at (bytes_of []) out (Some at)
unfolding bytes_of
puts_none out at h = record { lies = (splice_nil out at, sym (add-zero at), h) }

module _ (b : Bench) (k : ℕ) (out : List ℕ) (at : ℕ) where
  pub place_free : get_or b.counts k 0 ≡ 0 → at ≤ length out → Puts out at (bytes_of (held_at b k)) out (Some at)
  unfolding held_at is_free
  place_free e h = rw (eq-eqb (get_or b.counts k 0) 0 e) (puts_none out at h)

  pub place_held : (get_or b.counts k 0 ≡ 0 → ⊥) → {bs : List ℕ} → bs ≡ out_bytes (held (get_or b.sessions k 0) (get_or b.counts k 0)) → {out' : List ℕ} {f : Option ℕ} → f ≡ field_of (length bs) out at
      → out' ≡ after_put out at bs → Puts out at (bytes_of (held_at b k)) out' f
  unfolding held_at is_free
  place_held n e d g = rw (ne_eqb (get_or b.counts k 0) 0 n) (puts_out out at (held (get_or b.sessions k 0) (get_or b.counts k 0)) e d g)

pub ruleset held_place_laws = (place_free, place_held)

-- the places below k have been put
pub record Holding (b : Bench) (out₀ : List ℕ) (at : ℕ) (out : List ℕ) (count k : ℕ) : Type 0 where
  pub fuel : ℕ
  pub turns : k + fuel ≡ 32
  pub before : List Out
  pub says : held_of b ≡ before ++ held_from b fuel k
  pub put : Puts out₀ at (bytes_of before) out (Some count)
  pub long : length out ≡ length out₀

pub hold_none : (b : Bench) (out : List ℕ) (at : ℕ) → at ≤ length out → Holding b out at out at 0
hold_none b out at h = record { fuel = 32; turns = refl; before = []; says = refl; put = puts_none out at h; long = refl }

module _ {b : Bench} {out₀ : List ℕ} {at : ℕ} {out : List ℕ} {count k : ℕ} (c : Holding b out₀ at out count k) where
  pub hold_used : count ≤ length out
  hold_used = omega (arith, c.long, c.put.lies.2)

  module _ (l : k < 32) {out' : List ℕ} {f : Option ℕ} (q : Puts out count (bytes_of (held_at b k)) out' f) where
    both : Puts out₀ at (bytes_of (c.before ++ held_at b k)) out' f
    both = rw bytes_append (puts_more c.put refl (bytes_of (held_at b k)) q)

    all_put : {j : ℕ} → f ≡ Some j → Puts out₀ at (bytes_of (c.before ++ held_at b k)) out' (Some j)
    all_put e = subst (Puts out₀ at (bytes_of (c.before ++ held_at b k)) out') e both

    more : (n : ℕ) → k + n ≡ 32 → held_of b ≡ c.before ++ held_from b n k → {j : ℕ} → f ≡ Some j → Holding b out₀ at out' j (k + 1)
    unfolding held_from
    more zero u w e = absurd (omega arith)
    more (suc n) u w e = record { fuel = n; turns = omega arith; before = c.before ++ held_at b k; says = rw (add-one k, append_assoc) w; put = all_put e; long = puts_room (all_put e) }

    pub hold_more : {j : ℕ} → f ≡ Some j → Holding b out₀ at out' j (k + 1)
    hold_more e = more c.fuel c.turns c.says e

    short : (n : ℕ) → k + n ≡ 32 → held_of b ≡ c.before ++ held_from b n k → f ≡ None → Puts out₀ at (bytes_of (held_of b)) out' None
    unfolding held_from
    short zero u w e = absurd (omega arith)
    short (suc n) u w e = rw (w, ← append_assoc c.before (held_at b k) (held_from b n (suc k)), bytes_append (c.before ++ held_at b k) (held_from b n (suc k))) (puts_short both (bytes_of (held_from b n (suc k))) e)

    pub hold_short : f ≡ None → Puts out₀ at (bytes_of (held_of b)) out' None
    hold_short e = short c.fuel c.turns c.says e

  all : (n : ℕ) → k + n ≡ 32 → held_of b ≡ c.before ++ held_from b n k → 32 ≤ k → Puts out₀ at (bytes_of (held_of b)) out (Some count)
  unfolding held_from
  all zero u w l = rw (w, append-nil c.before) c.put
  all (suc n) u w l = absurd (omega arith)

  pub hold_all : 32 ≤ k → Puts out₀ at (bytes_of (held_of b)) out (Some count)
  hold_all l = all c.fuel c.turns c.says l

pub ruleset hold_laws = (hold_none, hold_used, hold_more, hold_short, hold_all)
