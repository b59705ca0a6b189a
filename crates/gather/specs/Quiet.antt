-- A write that makes no event and lists nothing: the vector has marks and is listed, and neither the bit nor bit 0, which is another, is marked.
-- Assumes nothing.
use Rattle.std.specs.Prelude.{◌≡◌, ℕ, suc, ◌-◌, ◌^◌, ◌<◌, Bool, true, false, ◌&&◌, List, [], ◌∷◌, get_or}
use Rattle.std.proofs.Math.Path.{refl, sym}
use Rattle.std.proofs.Common.{◌∙◌, arith, eq-eqb}
use Rattle.std.proofs.Math.ListN.{length}
use Rattle.states.specs.Kind.{bits}
use Rattle.tables.specs.Lists.{Lists, nth}
use Rattle.tables.specs.Layout.{layout_of}
use Rattle.rules.specs.Vector.{all, acts_early, stored}
use Rattle.rules.specs.Gather.{State, with, width, write}
use Rattle.event_rooms.specs.Out.{Rooms, Out, append_all}
use Rattle.vecmarks.specs.Info.{info_at, is_marked, is_second, is_quiet, with_bit}
use Rattle.vecbuffer.specs.Stands.{flags_at, storing}
use Rattle.vecbuffer.proofs.Stands.Vectors.{stored_marks}
use Rattle.vecbuffer.proofs.Stands.Laws.{second_is, stands_quiet, stays_quiet, quiet_bit}
use Rattle.gather.specs.Run.{gathers}
use Rattle.gather.specs.Memory.{mem_of, HoldsAt}
use Rattle.gather.specs.Memory.Laws.{clean_stored}
use Rattle.gather.specs.Follows.{Done, Acts}
use Rattle.gather.specs.declared.Gathered.{Gathered}
use Rattle.gather.specs.Makes.{Makes, shown_events, shown_state, write_of, rewrites, completes, stored_state, bit_events, bit_state}
use Rattle.gather.specs.Makes.Laws.{acts_bit}

-- a vector whose first mark is missing is not complete
not_all : (ms : List Bool) → 0 < length ms → get_or ms 0 false ≡ false → all ms ≡ false
unfolding all
not_all [] h e = absurd (omega arith)
not_all (m ∷ ms) h e = rw e

and_false : (a b : Bool) → b ≡ false → (a && b) ≡ false
and_false true b e = e
and_false false b e = refl

module _ (t : Lists) (v : ℕ) (known : v < (layout_of t).count) (room : List ℕ) (bit x : ℕ) (inside : bit < (layout_of t).width v) (small : x < 2 ^ bits ((layout_of t).state v)) (some : 0 < bit)
    (free : is_marked (info_at (layout_of t) v) bit room ≡ false) (quiet : is_quiet (info_at (layout_of t) v) (flags_at (layout_of t)) v room ≡ true) where
  module _ {list events values : List ℕ} {c : Gathered} where
    -- neither (a) nor (c) acts
    module _ {r : Rooms} {g : State} {o : Out} (h : HoldsAt t r (mem_of room list events values) 0 c g o) where
      not_rewritten : rewrites bit x (g.vecs v) ≡ false
      unfolding rewrites is_second
      not_rewritten = sym (second_is h.stands known (write_of bit x) inside) ∙ rw free

      after : (storing g v (write_of bit x)).vecs v ≡ stored (g.vecs v) (write_of bit x)
      unfolding storing with
      after = rw (eq-eqb v v refl)

      not_complete : completes ((layout_of t).width v) ((storing g v (write_of bit x)).vecs v) ≡ false
      unfolding completes
      not_complete =
          let w : 0 < length (stored (g.vecs v) (write_of bit x)).marks = rw (stored_marks (g.vecs v) (write_of bit x), h.stands.marks_wide v known) (omega arith) in
          and_false (acts_early ((layout_of t).width v)) _ (rw after (not_all _ w (quiet_bit h.stands known (write_of bit x) inside small quiet some)))

    pub makes_quietly : Makes t 0 0 (mem_of room list events values) (mem_of (with_bit (info_at (layout_of t) v) bit x room) list events values) c (Done c) (bit_events t v bit x) (bit_state t v bit x)
    unfolding bit_events bit_state stored_state shown_events shown_state append_all
    makes_quietly =
        record {
          makes = λ r g o h.
              rw (not_rewritten h, not_complete h)
              (o, refl, record { stands = stands_quiet h.stands known (write_of bit x) inside small quiet; clean = clean_stored h.stands h.clean known inside small; written = h.written });
        }

    -- so the memory follows the act, and the next such write finds it so again
    pub acts_quietly : (id p : ℕ) → nth t.vecs id ≡ suc v → bit ≡ get_or t.maxs v 0 - id → width (gathers t) v ≡ (layout_of t).width v
        → Acts t (mem_of room list events values) (mem_of (with_bit (info_at (layout_of t) v) bit x room) list events values) c (Done c) (write id x p)
    acts_quietly id p number place wide = acts_bit id v bit x p makes_quietly number place wide

    pub quietly_on : {r : Rooms} {g : State} {o : Out} → HoldsAt t r (mem_of room list events values) 0 c g o → is_quiet (info_at (layout_of t) v) (flags_at (layout_of t)) v (with_bit (info_at (layout_of t) v) bit x room) ≡ true
    quietly_on h = stays_quiet h.stands known (write_of bit x) inside small quiet some
