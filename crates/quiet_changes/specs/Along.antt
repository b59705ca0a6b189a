-- Writes that follow one another along the bits of one vector, and make no event: what the code of each asks and leaves.
-- Assumes nothing.
use Rattle.std.specs.Prelude.{◌≡◌, ℕ, ◌+◌, ◌-◌, ◌≤◌, ◌<◌, Bool, false, cond, ◌&&◌, List, get_or, ltb, leb, None, Option, Some}
use Rattle.std.proofs.Common.{◌∙◌, arith}
use Rattle.std.proofs.Math.Decide.{ℕ_discrete}
use Rattle.std.proofs.Math.ListN.{length}
use Rattle.states.specs.declared.States.{States}
use Rattle.states.specs.declared.States.TheVariants.{Two, Nine}
use Rattle.states.specs.Kind.{bits, state_of}
use Rattle.states.specs.Letters.{mapped}
use Rattle.states.specs.Letters.Laws.{mapped_most}
use Rattle.tables.specs.Lists.{Lists, nth, signals}
use Rattle.tables.specs.Layout.{layout_of}
use Rattle.tables.specs.Layout.Laws.{state_is}
use Rattle.tables.specs.Checks.Laws.{nth_less}
use Rattle.tables.specs.Good.{Bit}
use Rattle.values.specs.declared.How.{How}
use Rattle.values.specs.Read.{Read}
use Rattle.values.specs.Value.{byte_up_to, value, most_of, Suits}
use Rattle.values.specs.Value.Laws.{narrow_nine, narrow_two, value_narrow}
use Rattle.vecmarks.specs.declared.VecBufferInfo.{VecBufferInfo}
use Rattle.vecmarks.specs.Info.{is_marked, with_bit}
use Rattle.gather.specs.Memory.{Tabled}
use Rattle.rules.specs.Scan.{say}
pub mod Code

-- ---- one change

-- a delta of one byte that leads to a bit above 0, of `left` bits that are left
unfoldable pub is_short : (left d : ℕ) → Bool
is_short left d = ltb 0 d && (ltb d 128 && ltb d left)

-- the values of a bit: "kinds 0 and 1 one byte 0..8, mapped ..; kinds 2 and 3 one byte 0 or 1"
abbrev pub bit_most : States → ℕ
bit_most Two = 1
bit_most Nine = 8

abbrev pub bit_map : States → ℕ → ℕ
bit_map Two b = b
bit_map Nine b = mapped b

abbrev pub short_of : States → ℕ → Option ℕ
short_of k b = cond (leb b (bit_most k)) (Some (bit_map k b)) None

-- a delta and a value were taken, and the bit was stored
pub record Taken (i : VecBufferInfo) (s : List ℕ) (left at : ℕ) (room room' : List ℕ) (d : ℕ) : Type 0 where
  pub delta : d ≡ get_or s at 0
  pub some : 0 < d
  pub low : d < 128
  pub above : d < left
  pub good : get_or s (at + 1) 0 ≤ bit_most i.states
  pub free : is_marked i (left - d) room ≡ false
  pub stored : room' ≡ with_bit i (left - d) (bit_map i.states (get_or s (at + 1) 0)) room

-- .. or nothing was
pub record Took (i : VecBufferInfo) (s : List ℕ) (left at : ℕ) (room room' : List ℕ) (d : ℕ) : Type 0 where
  pub none : d ≡ 0 → room' ≡ room
  pub some : (d ≡ 0 → ⊥) → Taken i s left at room room' d

-- ---- what the tables say of a bit of a vector

module _ {t : Lists} (k : Tabled t) (v id : ℕ) (known : v < length t.mins) (above : get_or t.mins v 0 ≤ id) (below : id ≤ get_or t.maxs v 0) where
  abbrev state : States
  state = (layout_of t).state v

  first : 1 ≤ id
  first = omega (arith, (k.ranged.vector v known).least)

  last : id ≤ length t.kinds
  last = omega (arith, (k.ranged.vector v known).most)

  up : id - 1 + 1 ≡ id
  up = omega (arith, first)

  names : get_or t.vecs (id - 1) 0 ≡ v + 1
  names = k.named.names v (id - 1) known (rw up above) (rw up below)

  -- its kind is that of the vector's state: its values are read so in every manner, and suit it
  pub record OfState (st : States) : Type 0 where
    pub reads : (how : How) (s : List ℕ) (i : ℕ) {r : Read} → r ≡ byte_up_to (bit_most st) (bit_map st) s i
        → r ≡ value how (nth t.kinds id) s i
    pub suits : (b : ℕ) → b ≤ bit_most st → Suits (nth t.kinds id) (bit_map st b)

  pub of_state : OfState state
  unfolding most_of
  of_state = go (ℕ_discrete (get_or t.kinds (id - 1) 0) 1) (ℕ_discrete (get_or t.kinds (id - 1) 0) 3)
    where
      inside : id - 1 < length t.kinds
      inside = omega (arith, first, last)

      is_state : (n : ℕ) → Bit t n (id - 1) → state ≡ state_of n
      is_state n b =
          let j : get_or t.vecs (id - 1) 0 - 1 ≡ v = omega (arith, names) in
          let e : get_or t.states v 0 ≡ n = rw j at b.matches in
          state_is t v known ∙ rw e

      go : Dec (get_or t.kinds (id - 1) 0 ≡ 1) → Dec (get_or t.kinds (id - 1) 0 ≡ 3) → OfState state
      go (yes a) b =
          rw (is_state 0 (k.signals.nine (id - 1) inside a))
          (record {
            reads = λ how s i e.
                rw (nth_less t.kinds id first, a) (value_narrow how 1 s i (omega arith) (narrow_nine 1 s i (omega arith) e));
            suits = λ y h. rw (nth_less t.kinds id first, a) (λ _. mapped_most y h);
          })
      go (no a) (yes b) =
          rw (is_state 1 (k.signals.two (id - 1) inside b))
          (record {
            reads = λ how s i e.
                rw (nth_less t.kinds id first, b)
                (value_narrow how 3 s i (omega arith) (narrow_two 3 s i (omega arith) (omega arith) e));
            suits = λ y h. rw (nth_less t.kinds id first, b) (λ _. h);
          })
      go (no a) (no b) = absurd (omega (arith, names, k.signals.alone (id - 1) inside a b))
