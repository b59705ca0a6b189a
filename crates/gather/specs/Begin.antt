-- The beginning: what tables that passed their checks and zeroed working buffers give. The end: what the memory then says.
-- Assumes nothing.
use Rattle.std.specs.Prelude.{◌≡◌, refl, ℕ, zero, suc, ◌+◌, ◌<◌, ◌≤◌, List, length, get_or, take, replicate}
use Rattle.std.proofs.Common.{sym, ◌∙◌, ⊎_elim, zero-add, arith, lit<, ext_get_or, get_or-set_other}
use Rattle.std.proofs.Math.ListN.{length-replicate}
use Rattle.slices.specs.Choice.{le_or_lt}
use Rattle.slices.specs.Splice.{splice}
use Rattle.slices.specs.Splice.Laws.{length_splice, get_d_within, get_d_behind}
use Rattle.tables.specs.Check.{Passed}
use Rattle.tables.specs.Lists.{Lists, vectors}
use Rattle.tables.specs.Layout.{Layout, layout_of, start, total_bytes}
use Rattle.tables.specs.Checks.{checks}
use Rattle.tables.specs.Good.{Good}
use Rattle.tables.specs.Good.Laws.{limited, good, in_range}
use Rattle.rules.specs.Gather as rules
use Rattle.rules.specs.Gather.{State, begin}
use Rattle.event_rooms.specs.Out.{Rooms, Out, empty}
use Rattle.event_rooms.specs.Out.Laws.{Written}
use Rattle.vecstarts.specs.Numbers.{layout_from, Shapes, filled}
use Rattle.vecstarts.specs.Numbers.Laws.{layout_is}
use Rattle.vecbuffer.proofs.Stands.Vectors.{get_d_clear}
use Rattle.vecbuffer.proofs.Stands.Begin.{stands_first}
use Rattle.gather.specs.Run.{gathers}
use Rattle.gather.specs.Memory.{Mem, mem_of, Tabled, Clean, HoldsAt, Holds}
use Rattle.gather.specs.declared.Gathered.{Gathered}
use Rattle.gather.specs.Writes.{shapes_of}

-- ---- the tables

module _ (t : Lists) (input events values room list : ℕ) (e : checks t input events values room list ≡ Passed) where
  pub tabled : Tabled t
  tabled = let g = good t input events values room list e in record { sized = g.sized; ranged = g.ranged; signals = g.signals; named = g.named }

-- a signal of a vector stands in that vector's range: what the theorems on gathering ask
pub gathers_good : {t : Lists} → Tabled t → rules.Good (gathers t)
unfolding rules.Good gathers
gathers_good k i v e = in_range k.sized k.signals i v e

-- ---- the beginning

-- nothing is listed, and nothing is written
abbrev pub nothing : Gathered
nothing = record { ended = 0; listed = 0; counts = record { events = 0; values = 0; steps = 0 } }

abbrev pub rooms_of : (events values : List ℕ) → Rooms
rooms_of events values = record { events = length events; values = length values }

pub written_none : (events values : List ℕ) → length events ≤ 1073741823 → length values ≤ 1073741823 → Written (rooms_of events values) events values nothing.counts empty
unfolding empty
written_none events values a b =
    record {
      event_bytes = refl;
      value_bytes = refl;
      event_count = refl;
      value_count = refl;
      steps = refl;
      event_room = refl;
      value_room = refl;
      in_events = record { used = omega arith; few = a; steps_few = omega arith };
      in_values = record { used = omega arith; few = b };
    }

filled_past : (t : Layout) (nums : List ℕ) (n i : ℕ) → n ≤ i → get_or (filled t nums n) i 0 ≡ get_or nums i 0
unfolding filled
filled_past t nums zero i o = refl
filled_past t nums (suc n) i o = get_or-set_other (filled t nums n) n i (start t (suc n)) 0 (λ e. omega arith) ∙ filled_past t nums n i (omega arith)

-- the numbers as `fill_starts` leaves them on zeros
abbrev pub numbers_of : Lists → ℕ → List ℕ
numbers_of t k = filled (layout_from t.mins t.maxs t.states) (replicate k 0) (length t.mins)

module _ (t : Lists) (input : ℕ) (events values : List ℕ) (n k : ℕ) (e : checks t input (length events) (length values) n k ≡ Passed) where
  -- what `fill_starts` asks
  pub begins_shapes : Shapes t.mins t.maxs t.states
  begins_shapes = shapes_of (tabled t input (length events) (length values) n k e)

  its : Good t n k
  its = good t input (length events) (length values) n k e

  clean : Clean (layout_of t) (replicate n 0) (numbers_of t k)
  unfolding layout_of vectors
  clean =
      record {
        byte = λ i. rw (get_d_clear {A = ℕ} 0 n i) (lit< tt);
        room_past = λ i o. get_d_clear {A = ℕ} 0 n i;
        list_past = λ i o. filled_past (layout_from t.mins t.maxs t.states) (replicate k 0) (length t.mins) i o ∙ get_d_clear {A = ℕ} 0 k i;
      }

  pub begins : Holds t (rooms_of events values) (mem_of (replicate n 0) (numbers_of t k) events values) nothing (begin (gathers t)) empty
  unfolding gathers
  begins =
      record {
        stands =
            rw (layout_is t)
            (stands_first begins_shapes (replicate k 0) (rw length-replicate its.numbers) n (rw (← layout_is t) its.bytes) (gathers t) (λ v h. (refl, refl)));
        clean = clean;
        written = written_none events values (limited t input (length events) (length values) n k e).of_events (limited t input (length events) (length values) n k e).of_values;
      }

-- ---- the end

-- zeros in place of what was needed make zeros of the whole
zeros_again : (l : List ℕ) (n : ℕ) → n ≤ length l → ((i : ℕ) → n ≤ i → get_or l i 0 ≡ 0) → splice l 0 (replicate n 0) ≡ replicate (length l) 0
zeros_again l n h past = ext_get_or 0 _ _ (length_splice l 0 (replicate n 0) fit ∙ sym (length-replicate (length l) 0)) (λ i o. all i ∙ sym (get_d_clear {A = ℕ} 0 (length l) i))
  where
    fit : 0 + length {A = ℕ} (replicate n 0) ≤ length l
    fit = rw length-replicate (omega arith)

    all : (i : ℕ) → get_or (splice l 0 (replicate n 0)) i 0 ≡ 0
    all i =
        ⊎_elim (λ (u : n ≤ i). get_d_behind l 0 (replicate n 0) fit i (rw length-replicate (omega arith)) ∙ past i u)
        (λ (u : i < n). rw zero-add at (get_d_within l 0 (replicate n 0) fit i (rw length-replicate u)) ∙ get_d_clear {A = ℕ} 0 n i)
        (le_or_lt n i)

module _ {t : Lists} {r : Rooms} {m : Mem} {i : ℕ} {c : Gathered} {g : State} {o : Out} (h : HoldsAt t r m i c g o) where
  pub room_zeros : splice m.room 0 (replicate (total_bytes (layout_of t)) 0) ≡ replicate (length m.room) 0
  room_zeros = zeros_again m.room (total_bytes (layout_of t)) h.stands.holds.roomy h.clean.room_past

  pub list_zeros : splice m.list 0 (replicate (vectors t) 0) ≡ replicate (length m.list) 0
  unfolding layout_of
  list_zeros = zeros_again m.list (vectors t) h.stands.listed.started.long h.clean.list_past

  -- what is used of the rooms is what was written
  pub written_events : take c.counts.events m.events ≡ o.events
  written_events = h.written.event_bytes

  pub written_values : take c.counts.values m.values ≡ o.values
  written_values = h.written.value_bytes

  pub written_steps : c.counts.steps ≡ o.steps
  written_steps = h.written.steps
