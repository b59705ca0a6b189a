-- What the functions that follow a vector's bits ask and promise, and what their proofs search.
-- Assumes nothing.
use Rattle.std.specs.Prelude.{◌≡◌, refl, ℕ, ◌+◌, ◌-◌, ◌^◌, ◌≤◌, ◌<◌, Bool, true, false, not, cond, ◌&&◌, List, length, get_or, ltb, leb, None, Option, Some}
use Rattle.std.proofs.Common.{sym, ◌∙◌, true≢false, arith}
use borrow.Author.Tests.{lt-ltb, le-ltb, ltb-true, le-leb, lt-leb, leb-true, not-true, not-false}
use Rattle.states.specs.declared.States.{States}
use Rattle.states.specs.declared.States.TheVariants.{Two, Nine}
use Rattle.states.specs.Kind.{bits}
use Rattle.states.specs.Letters.{mapped}
use Rattle.states.specs.Letters.Laws.{mapped_most}
use Rattle.vecmarks.specs.declared.VecBufferInfo.{VecBufferInfo}
use Rattle.vecmarks.specs.Info.{is_marked, with_bit, Inside}
use Rattle.quiet_changes.specs.Along.{is_short, bit_most, bit_map, short_of, Took}

-- ---- a delta and a value

module _ (left d : ℕ) where
  pub short_none : d ≡ 0 → false ≡ is_short left d
  unfolding is_short
  short_none z = rw z

  module _ (z : d ≡ 0 → ⊥) where
    pub short_long : 128 ≤ d → false ≡ is_short left d
    unfolding is_short
    short_long h = rw (lt-ltb 0 d (omega (arith, z)), le-ltb d 128 h)

    pub short_left : d < 128 → (e : ℕ) → e ≡ d → ltb e left ≡ is_short left d
    unfolding is_short
    short_left h e q = rw (lt-ltb 0 d (omega (arith, z)), lt-ltb d 128 h, q)

pub ruleset delta_laws = (short_none, short_long, short_left)

module _ {k : States} (b : ℕ) where
  module _ (e : k ≡ Two) where
    pub two_good : b ≤ 1 → Some b ≡ short_of k b
    two_good h = rw (e, le-leb b 1 h)

    pub two_bad : 1 < b → None ≡ short_of k b
    two_bad h = rw (e, lt-leb b 1 h)

  module _ (e : k ≡ Nine) where
    pub nine_good : b ≤ 8 → (m : ℕ) → m ≡ mapped b → Some m ≡ short_of k b
    nine_good h m q = rw (e, le-leb b 8 h, q)

    pub nine_bad : 8 < b → None ≡ short_of k b
    nine_bad h = rw (e, lt-leb b 8 h)

pub ruleset value_laws = (two_good, two_bad, nine_good, nine_bad)

-- what both say where they find one
all_three : (a b c : Bool) → (a && (b && c)) ≡ true → (a ≡ true) × (b ≡ true) × (c ≡ true)
all_three true true true e = (refl, refl, refl)
all_three true true false e = absurd (true≢false (sym e))
all_three true false c e = absurd (true≢false (sym e))
all_three false b c e = absurd (true≢false (sym e))

short_is : (left d : ℕ) → is_short left d ≡ true → (0 < d) × (d < 128) × (d < left)
unfolding is_short
short_is left d e =
    let k = all_three (ltb 0 d) (ltb d 128) (ltb d left) e in
    (ltb-true 0 d k.0, ltb-true d 128 k.1, ltb-true d left k.2)

bit_is : (k : States) (b x : ℕ) → Some x ≡ short_of k b → (b ≤ bit_most k) × (x ≡ bit_map k b)
bit_is k b x e = go (leb b (bit_most k)) refl e
  where
    go : (m : Bool) → leb b (bit_most k) ≡ m → Some x ≡ cond m (Some (bit_map k b)) None → (b ≤ bit_most k) × (x ≡ bit_map k b)
    go true h d = (leb-true b (bit_most k) h, cc)
    go false h d = let z : ◌≡◌ {A = ℕ} 0 1 = cc in absurd (omega arith)

map_small : (k : States) (b : ℕ) → b ≤ bit_most k → bit_map k b < 2 ^ bits k
map_small Two b h = omega arith
map_small Nine b h = omega (arith, mapped_most b h)

-- ---- one bit

pub record Down (room : List ℕ) (i : VecBufferInfo) (left d x : ℕ) : Type 0 where
  pub inside : Inside room i
  pub some : 0 < d
  pub above : d < left
  pub wide : left ≤ i.width
  pub small : x < 2 ^ bits i.states

pub record Stored (i : VecBufferInfo) (left d x : ℕ) (room room' : List ℕ) (r : ℕ) : Type 0 where
  pub none : r ≡ 0 → room' ≡ room
  pub some : (r ≡ 0 → ⊥) → (r ≡ d) × (is_marked i (left - d) room ≡ false) × (room' ≡ with_bit i (left - d) x room)

module _ {room : List ℕ} {i : VecBufferInfo} {left d x : ℕ} (q : Down room i left d x) where
  pub ask_new : Inside room i × (left - d < i.width) × (x < 2 ^ bits i.states)
  ask_new = (q.inside, omega (arith, q.some, q.above, q.wide), q.small)

  pub ask_less : d ≤ left
  ask_less = omega (arith, q.above)

  module _ {m : Bool} (e : m ≡ not (is_marked i (left - d) room)) {room' : List ℕ} (f : room' ≡ cond (is_marked i (left - d) room) room (with_bit i (left - d) x room)) where
    pub stored_new : m ≡ true → Stored i left d x room room' d
    stored_new z =
        let n : is_marked i (left - d) room ≡ false = not-true _ (sym e ∙ z) in
        record { none = λ o. absurd (omega (arith, q.some)); some = λ o. (refl, n, rw n at f) }

    pub stored_old : m ≡ false → Stored i left d x room room' 0
    stored_old z =
        let n : is_marked i (left - d) room ≡ true = not-false _ (sym e ∙ z) in
        record { none = λ o. rw n at f; some = λ o. absurd (o refl) }

pub ruleset store_laws = (ask_new, ask_less, stored_new, stored_old)

-- ---- one change

pub record Takes (k : States) (i : VecBufferInfo) (s : List ℕ) (left at : ℕ) (room : List ℕ) : Type 0 where
  pub inside : Inside room i
  pub kind : k ≡ i.states
  pub wide : left ≤ i.width
  pub here : at + 2 ≤ length s

module _ {k : States} {i : VecBufferInfo} {s : List ℕ} {left at : ℕ} {room : List ℕ} (q : Takes k i s left at room) where
  pub ask_delta : at < length s
  ask_delta = omega (arith, q.here)

  pub ask_value : at + 1 < length s
  ask_value = omega (arith, q.here)

  pub took_none : Took i s left at room room 0
  took_none = record { none = λ o. refl; some = λ o. absurd (o refl) }

  same_info : ◌≡◌ {A = VecBufferInfo} (record { start = i.start; bytes = i.bytes; width = i.width; states = k }) i
  same_info = rw q.kind

  module _ {m : Bool} (e : m ≡ is_short left (get_or s at 0)) (z : not m ≡ false) {h : Option ℕ} (f : h ≡ short_of k (get_or s (at + 1) 0)) {x : ℕ} (g : h ≡ Some x) {d : ℕ} (n : d ≡ get_or s at 0) where
    near : (0 < get_or s at 0) × (get_or s at 0 < 128) × (get_or s at 0 < left)
    near = short_is left (get_or s at 0) (sym e ∙ not-false m z)

    bit : (get_or s (at + 1) 0 ≤ bit_most k) × (x ≡ bit_map k (get_or s (at + 1) 0))
    bit = bit_is k (get_or s (at + 1) 0) x (sym g ∙ f)

    pub ask_down : Down room (record { start = i.start; bytes = i.bytes; width = i.width; states = k }) left d x
    ask_down =
        record {
          inside = rw same_info q.inside;
          some = rw n near.0;
          above = rw n near.2;
          wide = q.wide;
          small = rw bit.1 (map_small k _ bit.0);
        }

    pub took_stored : {room' : List ℕ} {r : ℕ} → Stored (record { start = i.start; bytes = i.bytes; width = i.width; states = k }) left d x room room' r → Took i s left at room room' r
    took_stored {room'} {r} w =
        let u : Stored i left d x room room' r = rw same_info at w in
        record {
          none = u.none;
          some = λ o.
              let (a, b, c) = u.some o in
              record {
                delta = a ∙ n;
                some = rw (a, n) near.0;
                low = rw (a, n) near.1;
                above = rw (a, n) near.2;
                good = rw q.kind at bit.0;
                free = rw a b;
                stored = rw a (c ∙ rw (bit.1, q.kind));
              };
        }

pub ruleset take_laws = (ask_delta, ask_value, took_none, ask_down, took_stored)
