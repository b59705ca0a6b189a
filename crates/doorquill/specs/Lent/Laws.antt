-- What the proofs of the functions below the entry search.
-- Assumes nothing.
use Rattle.std.specs.Prelude.{◌≡◌, refl, ℕ, zero, ◌+◌, ◌-◌, ◌*◌, ◌%◌, ◌<◌, ◌≤◌, Bool, true, false, ◌&&◌, List, [], ◌∷◌, ◌++◌, map, length, get_or, set, take, drop, replicate, leb, eqb, cond, Ok, Err}
use Rattle.std.proofs.Common.{sym, ◌∙◌, arith, take_at, length-set}
use Rattle.std.proofs.lemmas.List.{map-append, length-map}
use borrow.Author.Tests.{le-leb, lt-leb, leb-true}
use Rattle.slices.specs.Splice.{splice, part}
use Rattle.slices.specs.Splice.Laws.{splice_nil, splice_snoc, part_zero, part_snoc, length_part}
use Rattle.tables.specs.Lists.{lists}
use Rattle.tables.specs.Checks.{unless, and_then, within_limit, check1}
use Rattle.tables.specs.Checks.Laws.{both, unless_passed, then_passed}
use Rattle.tables.specs.Check.{Check, Passed, Refused}
use Rattle.values.specs.declared.How.{How}
use Rattle.values.specs.Value.{ordinary}
use Rattle.answers.specs.declared.Answer.{Answer}
use Rattle.answers.specs.Outcome.{Left, Lent, refused, leaves}
use Rattle.entries.specs.Entries.{read_sections}
use Rattle.left_buffers.specs.Left.{left_of, lent_of}
use Rattle.doorquill.specs.Lent.{LeftLent}
use Rattle.doorquill.specs.Lent.Flat.{room_for, lows, flat_table, check_flat, checks_flat, read_passed, refused_lent, read_by, read_flat, left_lent}

-- ---- how many are made flat

module _ (v flat : ℕ) where
  pub room_is : v ≤ 16383 → 4 * v ≤ flat → v ≡ room_for v flat
  unfolding room_for
  room_is h l = rw (le-leb _ _ h, le-leb _ _ l)

  pub room_short : v ≤ 16383 → flat < 4 * v → 0 ≡ room_for v flat
  unfolding room_for
  room_short h l = rw (le-leb _ _ h, lt-leb _ _ l)

  pub room_many : 16383 < v → 0 ≡ room_for v flat
  unfolding room_for
  room_many h = rw (lt-leb _ _ h)

pub ruleset room_laws = (room_is, room_short, room_many)

-- ---- states as bytes

pub record Lowering (s : List ℕ) (from n : ℕ) (d₀ : List ℕ) (i : ℕ) (d : List ℕ) : Type 0 where
  pub past : i ≤ n
  pub done : d ≡ splice d₀ 0 (lows (part s from i))
  pub long : length d ≡ length d₀

pub lower_none : (s : List ℕ) (from n : ℕ) (d : List ℕ) → Lowering s from n d 0 d
unfolding lows
lower_none s from n d = record { past = omega arith; done = rw part_zero (splice_nil d 0); long = refl }

length_lows : (l : List ℕ) → length (lows l) ≡ length l
unfolding lows
length_lows l = length-map l (λ x. x % 256)

lows_snoc : (l : List ℕ) (x : ℕ) → lows (l ++ (x ∷ [])) ≡ lows l ++ ((x % 256) ∷ [])
unfolding lows
lows_snoc l x = map-append (λ y. y % 256) l (x ∷ [])

module _ {s d₀ d : List ℕ} {from n i : ℕ} (c : Lowering s from n d₀ i d) where
  pub lower_on : i < n → from + n ≤ length s → n ≤ length d₀ → {x : ℕ} → x ≡ get_or s (from + i) 0 % 256 → Lowering s from n d₀ (i + 1) (set d i x)
  lower_on h o p {x} e =
      let m : length (lows (part s from i)) ≡ i = length_lows (part s from i) ∙ length_part s from i (omega arith) in
      let k : zero + length (lows (part s from i)) < length d₀ = omega arith in
      let j : zero + length (lows (part s from i)) ≡ i = omega arith in
      record {
        past = omega arith;
        done = rw (c.done, e, part_snoc s from i (omega arith), lows_snoc) (rw j at (splice_snoc d₀ 0 (lows (part s from i)) (get_or s (from + i) 0 % 256) k));
        long = length-set d i x ∙ c.long;
      }

  pub lower_all : n ≤ i → d ≡ splice d₀ 0 (lows (part s from n))
  lower_all h = let e : i ≡ n = omega (arith, c.past) in rw (← e) c.done

pub ruleset lower_laws = (lower_none, lower_on, lower_all)

-- ---- the checks

module _ (kinds refs vecs v flat : ℕ) where
  abbrev even : Bool
  even = eqb refs kinds && eqb vecs kinds && leb kinds 65535

  module _ {m : Bool} (e : m ≡ within_limit flat) where
    pub flat_over : m ≡ false → Refused 1 0 ≡ check_flat kinds refs vecs v flat
    unfolding check_flat and_then unless
    flat_over t = rw (← e, t)

    module _ (t : m ≡ true) where
      pub flat_many : 16383 < v → Refused 2 0 ≡ check_flat kinds refs vecs v flat
      unfolding check_flat and_then unless
      flat_many h = rw (← e, t, lt-leb v 16383 h)

      pub flat_uneven : v ≤ 16383 → even ≡ false → Refused 2 0 ≡ check_flat kinds refs vecs v flat
      unfolding check_flat and_then unless
      flat_uneven h f = rw (← e, t, le-leb v 16383 h, f)

      pub flat_even : v ≤ 16383 → even ≡ true → {c : Check} → c ≡ cond (leb (4 * v) flat) (Ok tt) (Err (6, 0)) → c ≡ check_flat kinds refs vecs v flat
      unfolding check_flat and_then unless
      flat_even h f k = rw (← e, t, le-leb v 16383 h, f) k

  module _ (input events values room list : ℕ) {c : Check} (e : c ≡ check1 input events values room list) where
    pub limits_passed : c ≡ Passed → {d : Check} → d ≡ check_flat kinds refs vecs v flat → d ≡ checks_flat kinds refs vecs v flat input events values room list
    unfolding checks_flat and_then
    limits_passed p h = rw (← e, p) h

    pub limits_refused : {n p : ℕ} → c ≡ Refused n p → Refused n p ≡ checks_flat kinds refs vecs v flat input events values room list
    unfolding checks_flat and_then
    limits_refused p = rw (← e, p)

pub ruleset check_laws = (flat_over, flat_many, flat_uneven, flat_even, limits_passed, limits_refused)

-- ---- the runs

front : (flat : List ℕ) (v : ℕ) → 4 * v ≤ length flat → part (splice (replicate 16383 0) 0 (lows (part flat (3 * v) v))) 0 v ≡ lows (part flat (3 * v) v)
unfolding splice part
front flat v o = take_at (lows (take v (drop (3 * v) flat))) _ v (length_lows _ ∙ length_part flat (3 * v) v (omega arith))

pub first_is : (s : List ℕ) (n : ℕ) {l : List ℕ} → l ≡ take (n - 0) (drop 0 s) → l ≡ part s 0 n
unfolding part
first_is s n e = let h : n - 0 ≡ n = omega arith in e ∙ rw h

module _ {x : Left} (kinds refs vecs : List ℕ) (how : How) (s : List ℕ) (l : Lent) (flat states : List ℕ) (v : ℕ) where
  pub rest_read : (mins maxs : List ℕ) {bytes vec_refs : List ℕ} → bytes ≡ part states 0 v → vec_refs ≡ part flat (2 * v) v
      → x ≡ read_sections (lists kinds refs vecs mins maxs bytes vec_refs) how s l → x ≡ read_sections (lists kinds refs vecs mins maxs (part states 0 v) (part flat (2 * v) v)) how s l
  rest_read mins maxs p q h = h ∙ rw (p, q)

  pub runs_read : {mins maxs : List ℕ} → mins ≡ part flat 0 v → maxs ≡ part flat v v
      → x ≡ read_sections (lists kinds refs vecs mins maxs (part states 0 v) (part flat (2 * v) v)) how s l
      → x ≡ read_sections (lists kinds refs vecs (part flat 0 v) (part flat v v) (part states 0 v) (part flat (2 * v) v)) how s l
  runs_read p q h = h ∙ rw (p, q)

  pub table_read : 4 * v ≤ length flat → states ≡ splice (replicate 16383 0) 0 (lows (part flat (3 * v) v))
      → x ≡ read_sections (lists kinds refs vecs (part flat 0 v) (part flat v v) (part states 0 v) (part flat (2 * v) v)) how s l
      → x ≡ read_sections (flat_table kinds refs vecs v flat) how s l
  unfolding flat_table
  table_read o e h = h ∙ rw (e, states_front)
    where
      states_front : part (splice (replicate 16383 0) 0 (lows (part flat (3 * v) v))) 0 v ≡ lows (part flat (3 * v) v)
      states_front = front flat v o

pub ruleset runs_laws = (first_is, rest_read, runs_read, table_read)

-- ---- the whole

module _ (kinds refs vecs v flat input events values room list : ℕ) {m : Check} (e : m ≡ checks_flat kinds refs vecs v flat input events values room list) (p : m ≡ Passed) where
  later : (leb v 16383 ≡ true) × (leb (4 * v) flat ≡ true)
  unfolding checks_flat check_flat
  later =
      let c = then_passed _ _ (then_passed _ _ (then_passed (check1 input events values room list) _ (sym e ∙ p)).1).1 in
      ((both (leb v 16383) _ (unless_passed _ _ c.0)).0, unless_passed _ _ c.1)

  pub flat_few : v ≤ 16383
  flat_few = leb-true _ _ later.0

  pub flat_room : 4 * v ≤ flat
  flat_room = leb-true _ _ later.1

module _ {flat' events' values' room' list' : List ℕ} {a : Answer} (l : Lent) where
  pub passed_read : (kinds refs vecs : List ℕ) (v : ℕ) (flat : List ℕ) (flag : Bool) (s : List ℕ) → flat' ≡ replicate (length flat) 0
      → left_of a events' values' room' list' ≡ read_sections (flat_table kinds refs vecs v flat) (ordinary flag) s l
      → left_lent a flat' events' values' room' list' ≡ read_passed kinds refs vecs v flat flag s l
  unfolding read_passed
  passed_read kinds refs vecs v flat flag s z h = rw (← h, z)

  pub lent_refused : (flat : List ℕ) (number place : ℕ) → flat' ≡ replicate (length flat) 0 → left_of a events' values' room' list' ≡ leaves l (refused number place)
      → left_lent a flat' events' values' room' list' ≡ refused_lent (length flat) l number place
  unfolding refused_lent
  lent_refused flat number place z h = rw (← h, z)

module _ (kinds refs vecs : List ℕ) (v : ℕ) (flat : List ℕ) (flag : Bool) (s : List ℕ) (l : Lent) {m : Check}
    (e : m ≡ checks_flat (length kinds) (length refs) (length vecs) v (length flat) (length s) l.events l.values l.room l.list) {x : LeftLent} where
  pub flat_read : m ≡ Passed → x ≡ read_passed kinds refs vecs v flat flag s l → x ≡ read_flat kinds refs vecs v flat flag s l
  unfolding read_flat read_by
  flat_read p h = rw (← e, p) h

  pub flat_refused : {n p : ℕ} → m ≡ Refused n p → x ≡ refused_lent (length flat) l n p → x ≡ read_flat kinds refs vecs v flat flag s l
  unfolding read_flat read_by
  flat_refused p h = rw (← e, p) h

pub ruleset read_laws = (flat_few, flat_room, passed_read, lent_refused, flat_read, flat_refused)
