-- The run of what is left, and what the turns' bytes stand for.
-- Assumes nothing.
use Rattle.event_rooms.specs.Put.{Put}
use Prim.Native.Nat.{ℕ, suc, ◌+◌, ◌-◌, ◌^◌, ◌<◌, ◌≤◌}
use Rattle.std.specs.Prelude.{◌≡◌, true, false, ◌&&◌, length, get_or, None, Some}
use Rattle.std.proofs.Math.Path.{refl, subst}
use Rattle.std.proofs.Common.{sym, ap, ◌∙◌, true≢false}
use Rattle.std.proofs.Math.Bool.{Bool}
use Rattle.std.proofs.Math.Option.{Option, none, some}
use mathlib.Core.List.{List, [], ◌∷◌, map}
use Rattle.slices.specs.Choice.{cond_ind}
use Rattle.states.specs.Kind.{bits}
use Rattle.tables.specs.Lists.{Lists, nth, signals}
use Rattle.tables.specs.Layout.{layout_of}
use Rattle.values.specs.Value.{Suits}
use Rattle.rules.specs.Vector.{Write, acts_early, any, all, cleared, fires, clashes, stored, ended, complete, wrote}
use Rattle.rules.proofs.Vector.Laws.{cleared_clash}
use Rattle.rules.specs.Gather.{Act, write, step_end, Happening, of, State, width, bit_write, does}
use Rattle.rules.proofs.Gather.Laws.{with_same}
use Rattle.event_rooms.specs.declared.Counts.{Counts}
use Rattle.records.specs.Event.{Event}
use Rattle.event_rooms.specs.Out.{Rooms, Out, append_all}
use Rattle.event_rooms.specs.Out.Laws.{Written, Appends, all_append, all_none, room_for}
use Rattle.vecmarks.specs.Info.{is_second, has_marks, with_mark, marks_of}
use Rattle.vecmarks.specs.Full.{full_in}
use Rattle.vecstarts.specs.Numbers.{listed_in}
use Rattle.vecbuffer.specs.Changes as change
use Rattle.vecbuffer.specs.Changes.{updated}
use Rattle.vecbuffer.specs.Stands.{storing, clearing}
use Rattle.vecbuffer.proofs.Stands.Order.{none_listed}
use Rattle.vecbuffer.proofs.Stands.Laws.{asks_flags, asks_vector, asks_known, asks_update, second_is, full_is, has_is, stands_update, listed_at, stands_unlisted, stands_over}
use Rattle.gather.specs.declared.VecInfo.{VecInfo}
use Rattle.rules.specs.Scan.{Scan, say}
use Rattle.gather.specs.Run.{gathers, alone, of_vector, events_of, out, fitted, acted, after, run}
use Rattle.gather.specs.Memory.{Holds, Mem, mem_of, Tabled, HoldsAt}
use Rattle.gather.specs.Memory.Laws.{clean_updated, clean_unlisted}
use Rattle.gather.specs.Makes.{Seen, Shown, vec_info, event_of, shown_events, shown_state, always}
use Rattle.gather.specs.Makes.Laws.{events_append, events_fires, wrote_of}
use Rattle.gather.specs.Makes.Code.{event_full, event_done}
use Rattle.gather.specs.Writes.{ask_kinds, ask_refs}
use Rattle.gather.specs.declared.Gathered.{Gathered}
use Rattle.turns.specs.declared.Turned.{Turned}
use Rattle.turns.specs.Turns as turn
use Rattle.turns.specs.Turns.{stored_turn, turn_write, turn_end, show_vector}
use Rattle.plain_writes.specs.Plain.{AloneAt}
use Rattle.turns.specs.Parts.{Leaves, Closes, firing, without}
use Rattle.turns.specs.Parts.Laws.{clash_leaves, store_closes, plain_closes, end_leaves, end_closes}
use Rattle.turns.specs.Goes.{left_of, After, Goes, Stops}

-- ---- the run

module _ (t : Lists) (r : Rooms) {a : Act} {g : State} {hs : List Happening} {g' : State} where
  pub run_closes : Closes acts_early (gathers t) a g hs g' → (p : ℕ) (rest : Scan) (o : Out)
      → run t r (say a p rest) g o ≡ fitted p (append_all r (events_of t hs) (some o)) out (λ o'. run t r rest g' o')
  unfolding run acted after
  run_closes l p rest o = rw (l.happen, l.state)

  pub run_leaves : Leaves acts_early (gathers t) a g hs g' → (p : ℕ) (rest : Scan) (o : Out)
      → run t r (say a p rest) g o ≡ fitted p (append_all r (events_of t hs) (some o)) out (λ o'. run t r (say a p rest) g' o')
  unfolding run acted after fitted
  run_leaves l p rest o =
      rw (l.happen, events_append t hs, all_append r (events_of t hs), l.state) (go (append_all r (events_of t hs) (some o)))
    where
      later : List Event
      later = events_of t (does acts_early (gathers t) g' a).0

      go : (x : Option Out)
          → fitted p (append_all r later x) out (λ o'. run t r rest (does acts_early (gathers t) g' a).1 o')
          ≡ fitted p x out (λ o'. fitted p (append_all r later (some o')) out (λ o''. run t r rest (does acts_early (gathers t) g' a).1 o''))
      go none = rw all_none
      go (some o') = refl

-- ---- a write to a bit

module _ {t : Lists} {v : ℕ} {x : VecInfo} (s : Seen t v x) {r : Rooms} {room list events values : List ℕ} {c : Gathered} {g : State} {o : Out} (h : Holds t r (mem_of room list events values) c g o)
    (begun : c.ended ≡ 0) (id bit y pos : ℕ) (number : nth t.vecs id ≡ suc v) (place : bit ≡ get_or t.maxs v 0 - id) (wide : width (gathers t) v ≡ (layout_of t).width v)
    (inside : bit < (layout_of t).width v) (small : y < 2 ^ bits ((layout_of t).state v)) where
  abbrev w : Write
  w = record { bit = bit; value = y; pos = pos }

  is_write : bit_write (gathers t) v id y pos ≡ w
  unfolding bit_write gathers
  is_write = rw (← place)

  numbered : (gathers t).vector id ≡ suc v
  unfolding gathers
  numbered = number

  clash_is : is_second x.info bit y room ≡ clashes (g.vecs v) (bit_write (gathers t) v id y pos)
  clash_is = rw (is_write, s.is) (second_is h.stands s.known w inside)

  abbrev AfterIn : turn.Left → Type 0
  AfterIn (turn.mk room' list' u) = After t r v (write id y pos) (mem_of room' list' events values) c u g o

  -- (a): nothing has changed
  clash_after : is_second x.info bit y room ≡ true → AfterIn (turn.mk room list (record { due = true; over = false; ended = c.ended; listed = c.listed }))
  unfolding events_of of_vector event_of firing
  clash_after z =
      record {
        state = g;
        holds = h;
        left = λ p rest. run_leaves t r (clash_leaves acts_early (gathers t) g id v y pos numbered (sym clash_is ∙ z)) p rest o;
      }

  stored_is : (storing g v w).vecs v ≡ stored (g.vecs v) w
  unfolding storing
  stored_is = with_same g.vecs v (stored (g.vecs v) w)

  -- (b), and (c) may act
  stored_after : is_second x.info bit y room ≡ false → (l : change.Lent) → l ≡ updated x.info x.flags x.v c.listed bit y room list → AfterIn (stored_turn x c l)
  unfolding stored_turn events_of of_vector
  stored_after z (change.mk room' list' k) e =
      record {
        state = storing g v w;
        holds = now;
        left = λ p rest. run_closes t r closes p rest o ∙ rw (events_fires t v full complete (stored (g.vecs v) w), due_is, stored_is);
      }
    where
      full : Bool
      full = acts_early (width (gathers t) v) && all (stored (g.vecs v) w).marks

      closes : Closes acts_early (gathers t) (write id y pos) g (of v (wrote w) ∷ map (of v) (fires full complete (stored (g.vecs v) w)).0) (firing full v (storing g v w))
      closes = rw is_write at (store_closes acts_early (gathers t) g id v y pos numbered (sym clash_is ∙ z))

      at : change.mk room' list' k ≡ updated (vec_info t v).info (vec_info t v).flags v c.listed bit y room list
      at = rw s.is at e

      start : HoldsAt t r (mem_of room list events values) 0 c g o
      start = subst (λ (n : ℕ). HoldsAt t r (mem_of room list events values) n c g o) begun h

      now : Holds t r (mem_of room' list' events values) (record { ended = c.ended; listed = k; counts = c.counts }) (storing g v w) o
      now =
          rw begun
          (record {
            stands = stands_update start.stands s.known w inside small at;
            clean = clean_updated start.stands start.clean s.known inside small at;
            written = h.written;
          })

      due_is : full_in x.info.width (marks_of x.info room') ≡ full
      due_is = rw (s.is, wide) (full_is now.stands s.known now.clean.byte ∙ rw stored_is)

  -- so a turn of a write
  pub write_after : {room' list' : List ℕ} {u : Turned} → turn.mk room' list' u ≡ turn_write x c bit y room list → After t r v (write id y pos) (mem_of room' list' events values) c u g o
  unfolding turn_write
  write_after e =
      subst AfterIn (sym e)
      (cond_ind (is_second x.info bit y room) (turn.mk room list (record { due = true; over = false; ended = c.ended; listed = c.listed }))
      (stored_turn x c (updated x.info x.flags x.v c.listed bit y room list)) AfterIn clash_after (λ z. stored_after z _ refl))

-- ---- the step's end of one vector

module _ {t : Lists} {v : ℕ} {x : VecInfo} (s : Seen t v x) {r : Rooms} {room list events values : List ℕ} {c : Gathered} {g : State} {o : Out} (h : Holds t r (mem_of room list events values) c g o)
    (first : listed_in list c.ended ≡ v) (more : c.ended < c.listed) where
  abbrev AfterEnd : List ℕ × Turned → Type 0
  AfterEnd (room', u) = After t r v step_end (mem_of room' list events values) c u g o

  pub end_after : {room' : List ℕ} {u : Turned} → (room', u) ≡ turn_end x c room → After t r v step_end (mem_of room' list events values) c u g o
  unfolding turn_end without
  end_after e =
      subst AfterEnd (sym e)
      (record {
        state = without us g;
        holds = rw s.is (record { stands = stands_unlisted h.stands is; clean = clean_unlisted h.stands h.clean s.known; written = h.written });
        left = λ p rest. run_leaves t r (end_leaves acts_early (gathers t) g v us is) p rest o ∙ rw (events_fires t v (any (g.vecs v).marks) ended (g.vecs v), due_is);
      })
    where
      us : List ℕ
      us = (listed_at h.stands more).0

      is : g.listed ≡ v ∷ us
      is = (listed_at h.stands more).1 ∙ rw first

      due_is : has_marks x.flags x.v (with_mark x.flags x.v 0 room) ≡ any (g.vecs v).marks
      due_is = rw s.is (has_is (stands_unlisted h.stands is) s.known)

-- when it has come to all, the step is over
pub ends_over : {t : Lists} {r : Rooms} {m : Mem} {c : Gathered} {g : State} {o : Out} → Holds t r m c g o → c.listed ≤ c.ended → Goes t r step_end m (record { ended = 0; listed = 0; counts = c.counts }) true g o
unfolding events_of append_all fitted
ends_over {t} {r} {g = g} {o} h all =
    record {
      state = g;
      output = o;
      holds = record { stands = stands_over h.stands all; clean = h.clean; written = h.written };
      left = λ p rest. run_closes t r (end_closes acts_early (gathers t) g (none_listed h.stands.listed all)) p rest o;
    }

-- ---- the event that is due

-- what `show` leaves
module _ (x : VecInfo) (room events values : List ℕ) (c : Gathered) where
  abbrev ShownIn : turn.Made → Type 0
  ShownIn (turn.mk room' events' values' p) = Shown x room events values c room' events' values' (wrote_of c p) always

  pub shown_from : {room' events' values' : List ℕ} {p : Put} → turn.mk room' events' values' p ≡ show_vector x c.counts room events values → Shown x room events values c room' events' values' (wrote_of c p) always
  unfolding show_vector
  shown_from e =
      subst ShownIn (sym e)
      (cond_ind (room_for (length events) (length values) c.counts 13 x.info.bytes) _ (turn.mk room events values None) ShownIn (λ z. event_done (sym z) refl refl refl refl)
      (λ z. event_full (sym z) refl))

module _ {t : Lists} {r : Rooms} {v : ℕ} {a : Act} {room list events values : List ℕ} {c : Gathered} {w : Turned} {g : State} {o : Out} (f : After t r v a (mem_of room list events values) c w g o) where
  -- none is due
  pub after_quiet : w.due ≡ false → Goes t r a (mem_of room list events values) (record { ended = w.ended; listed = w.listed; counts = c.counts }) w.over g o
  unfolding firing append_all fitted
  after_quiet z = record { state = f.state; output = o; holds = f.holds; left = λ p rest. f.left p rest ∙ rw z }

  due_left : w.due ≡ true → {o' : Out} → append_all r (event_of t v (f.state.vecs v) ∷ []) (some o) ≡ some o'
      → (p : ℕ) (rest : Scan) → run t r (say a p rest) g o ≡ run t r (left_of w.over a p rest) (clearing f.state v) o'
  unfolding firing fitted
  due_left z e p rest = f.left p rest ∙ rw (z, e)

  due_goes : w.due ≡ true → {m : Mem} {n : Counts}
      → (o' : Out) × (append_all r (event_of t v (f.state.vecs v) ∷ []) (some o) ≡ some o') × Holds t r m (record { ended = w.ended; listed = w.listed; counts = n }) (clearing f.state v) o'
      → Goes t r a m (record { ended = w.ended; listed = w.listed; counts = n }) w.over g o
  due_goes z k = record { state = clearing f.state v; output = k.0; holds = k.2; left = due_left z k.1 }

  due_stops : w.due ≡ true → append_all r (event_of t v (f.state.vecs v) ∷ []) (some o) ≡ none → (p : ℕ) (rest : Scan) → run t r (say a p rest) g o ≡ out 16 p
  unfolding fitted
  due_stops z e p rest = f.left p rest ∙ rw (z, e)

  module _ (z : w.due ≡ true) {x : VecInfo} (s : Seen t v x) {room' events' values' : List ℕ} {q : Put} (e : turn.mk room' events' values' q ≡ show_vector x c.counts room events values) where
    -- it fits
    pub after_shown : {n : Counts} → q ≡ Some n → Goes t r a (mem_of room' list events' values') (record { ended = w.ended; listed = w.listed; counts = n }) w.over g o
    unfolding shown_events shown_state always
    after_shown {n} d = due_goes z (((rw d at (shown_from x room events values (record { ended = w.ended; listed = w.listed; counts = c.counts }) e)).shown t v list w.ended s).makes r f.state o f.holds)

    -- or not
    pub after_full : q ≡ None → Stops t r a g o
    unfolding shown_events always
    after_full d = record { stops = due_stops z (((rw d at (shown_from x room events values (record { ended = w.ended; listed = w.listed; counts = c.counts }) e)).shown t v list w.ended s).makes r f.state o f.holds) }

-- ---- a signal outside vectors

module _ {t : Lists} {r : Rooms} {room list events values : List ℕ} {c : Gathered} {g : State} {o : Out} (h : Holds t r (mem_of room list events values) c g o)
    (id y pos : ℕ) (number : nth t.vecs id ≡ 0) {events' values' : List ℕ} {q : Put} (f : Appends (alone (nth t.kinds id) (nth t.refs id) y ∷ []) events values c.counts events' values' q) where
  left_plain : (p : ℕ) (rest : Scan) → run t r (say (write id y pos) p rest) g o ≡ fitted p (append_all r (alone (nth t.kinds id) (nth t.refs id) y ∷ []) (some o)) out (λ o'. run t r rest g o')
  unfolding events_of gathers
  left_plain p rest = run_closes t r (plain_closes acts_early (gathers t) g id y pos number) p rest o

  plain_left : {o' : Out} → append_all r (alone (nth t.kinds id) (nth t.refs id) y ∷ []) (some o) ≡ some o' → (p : ℕ) (rest : Scan) → run t r (say (write id y pos) p rest) g o ≡ run t r rest g o'
  unfolding fitted
  plain_left e p rest = left_plain p rest ∙ rw e

  comes_goes : {n : Counts} → (o' : Out) × (append_all r (alone (nth t.kinds id) (nth t.refs id) y ∷ []) (some o) ≡ some o') × Written r events' values' n o'
      → Goes t r (write id y pos) (mem_of room list events' values') (record { ended = c.ended; listed = c.listed; counts = n }) true g o
  comes_goes k = record { state = g; output = k.0; holds = record { stands = h.stands; clean = h.clean; written = k.2 }; left = plain_left k.1 }

  pub plain_goes : {n : Counts} → q ≡ Some n → Goes t r (write id y pos) (mem_of room list events' values') (record { ended = c.ended; listed = c.listed; counts = n }) true g o
  plain_goes d = comes_goes ((rw d at f).comes r o h.written)

  pub plain_stops : q ≡ None → Stops t r (write id y pos) g o
  unfolding fitted
  plain_stops d = let k = (rw d at f).comes r o h.written in record { stops = λ p rest. left_plain p rest ∙ rw k }

-- ---- what the turns ask

module _ {t : Lists} {v : ℕ} {x : VecInfo} (s : Seen t v x) {r : Rooms} {room list events values : List ℕ} {c : Gathered} {g : State} {o : Out} (h : Holds t r (mem_of room list events values) c g o) where
  pub asks_write : c.ended ≡ 0 → {bit y : ℕ} → bit < (layout_of t).width v → y < 2 ^ bits ((layout_of t).state v) → turn.Writing room list x c bit y
  asks_write begun inside small = record { updates = rw s.is (asks_update (rw begun at h).stands s.known inside small) }

  pub asks_end : c.ended < c.listed → turn.Unlists room x c
  asks_end more = record { flags = rw s.is (asks_flags h.stands); known = rw s.is (asks_known h.stands s.known); more = more }

  pub asks_show : turn.Showing room events values c.counts x
  asks_show =
      record {
        vector = rw s.is (asks_vector h.stands s.known);
        flags = rw s.is (asks_flags h.stands);
        known = rw s.is (asks_known h.stands s.known);
        in_events = h.written.in_events;
        in_values = h.written.in_values;
      }

pub asks_plain : {t : Lists} → Tabled t → {r : Rooms} {m : Mem} {c : Gathered} {g : State} {o : Out} → Holds t r m c g o → {id y : ℕ} → 1 ≤ id → id ≤ signals t → Suits (nth t.kinds id) y
    → AloneAt t.kinds t.refs m.events m.values c.counts id y
asks_plain k h first most suits =
    record {
      some = first;
      in_kinds = ask_kinds k first most suits;
      in_refs = ask_refs k first most suits;
      in_events = h.written.in_events;
      in_values = h.written.in_values;
      suits = suits;
    }

-- ---- that the turns of an act come to an end

-- a write that is still to be made was one that clashes
module _ (x : VecInfo) (c : Gathered) (bit y : ℕ) (room list : List ℕ) where
  abbrev Waits : turn.Left → Type 0
  Waits (turn.mk room' list' u) = u.over ≡ false → is_second x.info bit y room ≡ true

  made : (l : change.Lent) → Waits (stored_turn x c l)
  unfolding stored_turn
  made (change.mk room' list' k) = λ z. absurd (true≢false z)

  pub write_waits : {room' list' : List ℕ} {u : Turned} → turn.mk room' list' u ≡ turn_write x c bit y room list → u.over ≡ false → is_second x.info bit y room ≡ true
  unfolding turn_write
  write_waits e =
      subst Waits (sym e)
      (cond_ind (is_second x.info bit y room) (turn.mk room list (record { due = true; over = false; ended = c.ended; listed = c.listed }))
      (stored_turn x c (updated x.info x.flags x.v c.listed bit y room list)) Waits (λ z _. z) (λ _. made _))

-- after the event it does not
module _ {t : Lists} {v : ℕ} {x : VecInfo} (s : Seen t v x) {r : Rooms} {room list events values : List ℕ} {c : Gathered} {g : State} {o : Out} (h : Holds t r (mem_of room list events values) c g o) where
  pub shown_settles : {room' events' values' : List ℕ} {q : Put} → turn.mk room' events' values' q ≡ show_vector x c.counts room events values → {n : Counts} → q ≡ Some n
      → (bit y : ℕ) → bit < (layout_of t).width v → is_second x.info bit y room' ≡ false
  unfolding shown_state always clearing
  shown_settles e d bit y inside =
      let k = ((rw d at (shown_from x room events values c e)).shown t v list c.ended s).makes r g o h in
      rw s.is (second_is k.2.stands s.known (record { bit = bit; value = y; pos = 0 }) inside ∙ (rw (with_same g.vecs v (cleared (g.vecs v))) (cleared_clash (g.vecs v) _)))

-- a step's end of one vector leaves one less
pub end_further : (x : VecInfo) (c : Gathered) (room : List ℕ) {room' : List ℕ} {u : Turned} → (room', u) ≡ turn_end x c room → (u.ended ≡ c.ended + 1) × (u.listed ≡ c.listed) × (u.over ≡ false)
unfolding turn_end
end_further x c room e = (ap (λ (p : List ℕ × Turned). p.1.ended) e, ap (λ (p : List ℕ × Turned). p.1.listed) e, ap (λ (p : List ℕ × Turned). p.1.over) e)
