-- What such changes say: their writes make no event, so what is left to be run after them is what was left before.
-- Assumes nothing.
use Prim.Native.Nat.{ℕ, suc, ◌+◌, ◌-◌, ◌^◌, ◌<◌, ◌≤◌}
use Rattle.std.specs.Prelude.{◌≡◌, true, false, List, length, get_or}
use Rattle.std.proofs.Math.Path.{refl, sym}
use Rattle.std.proofs.Common.{◌∙◌, arith}
use Rattle.std.proofs.Math.Option.{some}
use Rattle.states.specs.declared.States.{States}
use Rattle.states.specs.declared.States.TheVariants.{Two, Nine}
use Rattle.states.specs.Kind.{bits}
use Rattle.states.specs.Letters.Laws.{mapped_most}
use Rattle.tables.specs.Lists.{Lists, nth}
use Rattle.tables.specs.Layout.{layout_of}
use Rattle.tables.specs.Layout.Laws.{count_is, width_is}
use Rattle.tables.specs.Checks.Laws.{nth_less}
use Rattle.rules.specs.Gather.{Act, State, width, write}
use Rattle.event_rooms.specs.Out.{Rooms, Out}
use Rattle.vecmarks.specs.Info.{info_at, is_marked, is_quiet, with_bit}
use Rattle.vecbuffer.specs.Stands.{flags_at}
use Rattle.vecbuffer.proofs.Stands.Laws.{asks_vector, asks_flags, asks_known}
use Rattle.gather.specs.declared.Gathered.{Gathered}
use Rattle.gather.specs.declared.VecInfo.{VecInfo}
use Rattle.gather.specs.Follows.{Done, Acts}
use Rattle.rules.specs.Scan.{Scan, say}
use Rattle.gather.specs.Run.{gathers, fitted, acted, after, run}
use Rattle.gather.specs.Memory.{mem_of, Tabled, HoldsAt}
use Rattle.gather.specs.Makes.{Seen}
use Rattle.gather.specs.Quiet.{acts_quietly, quietly_on}
use Rattle.quiet_changes.specs.Along.{bit_most, bit_map, Taken}
use Rattle.along.specs.Follows.{Along, none, more, AlongAsks, said}

map_small : (k : States) (b : ℕ) → b ≤ bit_most k → bit_map k b < 2 ^ bits k
map_small Two b h = omega arith
map_small Nine b h = omega (arith, mapped_most b h)

-- the memory holds a state from which what is left is what was left before these writes
pub record Came (t : Lists) (r : Rooms) (v : ℕ) (s list events values : List ℕ) (c : Gathered) (g : State) (o : Out) (room' : List ℕ) (left' : ℕ) (says : Scan → Scan) : Type 0 where
  pub state : State
  pub output : Out
  pub holds : HoldsAt t r (mem_of room' list events values) 0 c state output
  pub quiet : is_quiet (info_at (layout_of t) v) (flags_at (layout_of t)) v room' ≡ true
  pub inside : left' < (layout_of t).width v
  pub left : (rest : Scan) → run t r (says rest) g o ≡ run t r rest state output

module _ {t : Lists} (k : Tabled t) {v : ℕ} (known : v < length t.mins) where
  abbrev max : ℕ
  max = get_or t.maxs v 0

  count : v < (layout_of t).count
  count = rw (count_is t) known

  -- what the tables say of the id of a bit
  module _ (bit : ℕ) (inside : bit < (layout_of t).width v) where
    within : bit ≤ max - get_or t.mins v 0
    within = omega (arith, width_is t v known)

    order : get_or t.mins v 0 ≤ max
    order = (k.ranged.vector v known).order

    place : bit ≡ max - (max - bit)
    place = omega (arith, within, order)

    wide : width (gathers t) v ≡ (layout_of t).width v
    unfolding width gathers
    wide = sym (width_is t v known)

    number : nth t.vecs (max - bit) ≡ suc v
    number =
        let least : 1 ≤ get_or t.mins v 0 = (k.ranged.vector v known).least in
        let first : 1 ≤ max - bit = omega (arith, within, order) in
        let up : max - bit - 1 + 1 ≡ max - bit = omega arith in
        nth_less t.vecs (max - bit) first
        ∙ (k.named.names v (max - bit - 1) known (rw up (omega (arith, within, order))) (rw up (omega arith)) ∙ omega arith)

  module _ {r : Rooms} {s list events values : List ℕ} {c : Gathered} {g : State} {o : Out} where
    -- one write more
    one : {room₁ room₂ : List ℕ} {left₁ left₂ at₁ d : ℕ} (p : ℕ) {says : Scan → Scan} → Came t r v s list events values c g o room₁ left₁ says → Taken (info_at (layout_of t) v) s left₁ at₁ room₁ room₂ d → left₂ ≡ left₁ - d
        → Came t r v s list events values c g o room₂ left₂ (λ rest. says (say (write (max - left₂) (bit_map ((layout_of t).state v) (get_or s (at₁ + 1) 0)) (at₁ + 1)) p rest))
    unfolding run fitted
    one {room₁} {room₂} {left₁} {left₂} {at₁} {d} p {says} y w e =
        record {
          state = after t r y.state a;
          output = f.0;
          holds = f.2;
          quiet = rw stored (quietly_on t v count room₁ left₂ x in_width small bit_some free y.quiet y.holds);
          inside = in_width;
          left = λ rest. y.left (say a p rest) ∙ rw f.1;
        }
      where
        x : ℕ
        x = bit_map ((layout_of t).state v) (get_or s (at₁ + 1) 0)

        a : Act
        a = write (max - left₂) x (at₁ + 1)

        in_width : left₂ < (layout_of t).width v
        in_width = omega (arith, y.inside)

        bit_some : 0 < left₂
        bit_some = omega (arith, w.above)

        small : x < 2 ^ bits ((layout_of t).state v)
        small = map_small ((layout_of t).state v) (get_or s (at₁ + 1) 0) w.good

        free : is_marked (info_at (layout_of t) v) left₂ room₁ ≡ false
        free = rw (← e) at w.free

        stored : room₂ ≡ with_bit (info_at (layout_of t) v) left₂ x room₁
        stored = rw (← e) at w.stored

        acts : Acts t (mem_of room₁ list events values) (mem_of room₂ list events values) c (Done c) a
        acts = rw stored (acts_quietly t v count room₁ left₂ x in_width small bit_some free y.quiet (max - left₂) (at₁ + 1) (number left₂ in_width) (place left₂ in_width) (wide left₂ in_width))

        f : (o' : Out) × (acted t r y.state y.output a ≡ some o') × HoldsAt t r (mem_of room₂ list events values) 0 c (after t r y.state a) o'
        f = acts.follows r y.state y.output y.holds

    pub came : {room : List ℕ} → HoldsAt t r (mem_of room list events values) 0 c g o → is_quiet (info_at (layout_of t) v) (flags_at (layout_of t)) v room ≡ true → {left at : ℕ} → left < (layout_of t).width v
        → {room' : List ℕ} {left' at' : ℕ} (a : Along (info_at (layout_of t) v) s room left at room' left' at') → Came t r v s list events values c g o room' left' (said max a)
    unfolding said
    came h quiet inside none = record { state = g; output = o; holds = h; quiet = quiet; inside = inside; left = λ rest. refl }
    came h quiet inside (more {at₂ = p} a l w e q) = one p (came h quiet inside a) w e

-- ---- what `read_along` asks

pub asks_along : {t : Lists} {v : ℕ} {x : VecInfo} → Seen t v x → {r : Rooms} {room list events values : List ℕ} {i : ℕ} {c : Gathered} {g : State} {o : Out} → HoldsAt t r (mem_of room list events values) i c g o
    → {bit : ℕ} → bit < (layout_of t).width v → AlongAsks room x bit
asks_along s h inside =
    record {
      vector = rw s.is (asks_vector h.stands s.known);
      flags = rw s.is (asks_flags h.stands);
      known = rw s.is (asks_known h.stands s.known);
      inside = rw s.is inside;
    }
