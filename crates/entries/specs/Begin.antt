-- From tables that passed their checks to the entries' promises: what a reading asks at its beginning, and what it leaves at its end.
-- Assumes nothing.
use Rattle.std.specs.Prelude.{◌≡◌, take, drop, replicate}
use Rattle.std.proofs.Math.Path.{refl, ap}
use Rattle.std.proofs.Common.{sym, ◌∙◌, zero-add, arith, length-set, length-append, length-take-le, take_at, drop_at}
use Prim.Native.Nat.{ℕ, zero, suc, ◌+◌, ◌-◌, ◌≤◌}
use mathlib.Core.List.{List, ◌++◌}
use borrow.Author.Tests.{le-leb}
use Rattle.std.proofs.Math.ListN.{length, set}
use Rattle.std.proofs.lemmas.List.{length-replicate, replicate-append-replicate}
use Rattle.std.proofs.Math.Seq.{length_front, take-set-lt, drop-set-lt}
use Rattle.slices.specs.Splice.{splice}
use Rattle.tables.specs.Lists.{Lists, vectors}
use Rattle.tables.specs.Layout.{Layout, layout_of, start, total_bytes}
use Rattle.tables.specs.Checks.{unless, and_then, within_limit, check1, check6, checks}
use Rattle.tables.specs.Checks.Laws.{then_passed}
use Rattle.tables.specs.Good.{Sized, Ranged, Named, Good}
use Rattle.tables.specs.Good.Laws.{limited, good}
use Rattle.tables.specs.Check.{Check, Passed, Refused}
use Rattle.values.specs.declared.How.{How}
use Rattle.rules.specs.Gather.{begin}
use Rattle.event_rooms.specs.Out.{empty}
use Rattle.vecstarts.specs.Numbers.{Shapes, filled}
use Rattle.rules.specs.Scan.{Scan}
use Rattle.gather.specs.Run.{run_all, gathers}
use Rattle.section_scan.specs.Sections.{scan_sections}
use Rattle.changes.specs.Changes.{scan_changes}
use Rattle.gather.specs.Memory.{Mem, mem_of, Holds}
use Rattle.gather.specs.Follows.{Ends, Runs, Asks}
use Rattle.gather.specs.Writes.{shapes_of}
use Rattle.gather.specs.Begin.{tabled, nothing, rooms_of, numbers_of, begins, written_events, written_values, written_steps}
use Rattle.gather.specs.declared.Part.{Part}
use Rattle.gather.specs.declared.Part.TheVariants as part
use Rattle.answers.specs.Outcome.{Outcome, refused, Left, Lent, leaves}
use Rattle.entries.specs.Entries.{outcome, checked, reads, read_sections, read_changes}
use Rattle.left_buffers.specs.Left.{lent_of, Used}
use Rattle.reading_ends.specs.Reading.{ended_at, Within, Finish, Ended}

-- ---- zeros, and a part of them lent

abbrev zeros : ℕ → List ℕ
zeros n = replicate n 0

zeros_split : (m n : ℕ) → m ≤ n → zeros n ≡ zeros m ++ zeros (n - m)
zeros_split m n h =
    let e : m + (n - m) ≡ n = omega arith in
    sym (replicate-append-replicate m (n - m) 0 ∙ rw e)

take_zeros : (m n : ℕ) → m ≤ n → take m (zeros n) ≡ zeros m
take_zeros m n h = rw (zeros_split m n h) (take_at (zeros m) (zeros (n - m)) m (length-replicate m 0))

drop_zeros : (m n : ℕ) → m ≤ n → drop m (zeros n) ≡ zeros (n - m)
drop_zeros m n h = rw (zeros_split m n h) (drop_at (zeros m) (zeros (n - m)) m (length-replicate m 0))

length_filled : (l : Layout) (nums : List ℕ) (i : ℕ) → length (filled l nums i) ≡ length nums
unfolding filled
length_filled l nums zero = refl
length_filled l nums (suc i) = length-set (filled l nums i) i (start l (suc i)) ∙ length_filled l nums i

module _ (l : Layout) (nums : List ℕ) (n : ℕ) where
  take_filled : (i : ℕ) → i ≤ n → take n (filled l nums i) ≡ filled l (take n nums) i
  unfolding filled
  take_filled zero h = refl
  take_filled (suc i) h = take-set-lt n (filled l nums i) i (start l (suc i)) h ∙ ap (λ (x : List ℕ). set x i (start l (suc i))) (take_filled i (omega arith))

  drop_filled : (i : ℕ) → i ≤ n → drop n (filled l nums i) ≡ drop n nums
  unfolding filled
  drop_filled zero h = refl
  drop_filled (suc i) h = drop-set-lt n (filled l nums i) i (start l (suc i)) h ∙ drop_filled i (omega arith)

-- what comes back in place of the first m, where there are zeros past them
front_zeros : (l l' : List ℕ) (m k : ℕ) → length l' ≡ m → drop m l ≡ zeros k → splice (l' ++ drop m l) 0 (zeros m) ≡ zeros (length (l' ++ drop m l))
unfolding splice
front_zeros l l' m k h z = rw (length-replicate, zero-add, drop_at l' (drop m l) m h, z, replicate-append-replicate, length-append, h, length-replicate)

-- the whole is as long as it was
pub length_back : (d e : List ℕ) (n : ℕ) → length e ≡ length (take n d) → {k : ℕ} → length d ≡ k → length (e ++ drop n d) ≡ k
length_back d e n l h = length_front d e n l ∙ h

-- ---- the beginning

both_passed : {first later : Check} → first ≡ Passed → later ≡ Passed → and_then first later ≡ Passed
unfolding and_then
both_passed p q = rw p q

module _ (t : Lists) (input e v n k : ℕ) (c : checks t input e v n k ≡ Passed) where
  its : Good t n k
  its = good t input e v n k c

  pub ask_total : Sized t × Ranged t × Named t
  ask_total = (its.sized, its.ranged, its.named)

  pub start_shapes : Shapes t.mins t.maxs t.states
  start_shapes = shapes_of (tabled t input e v n k c)

  pub start_long : length t.mins ≤ k
  start_long = its.numbers

  limits_least : check1 input e v (total_bytes (layout_of t)) (length t.mins) ≡ Passed
  unfolding check1 within_limit unless
  limits_least =
      let l = limited t input e v n k c in
      let a : total_bytes (layout_of t) ≤ 1073741823 = omega (arith, its.bytes, l.of_room) in
      let b : length t.mins ≤ 1073741823 = omega (arith, its.numbers, l.of_list) in
      rw (le-leb _ _ l.of_input, le-leb _ _ l.of_events, le-leb _ _ l.of_values, le-leb _ _ a, le-leb _ _ b)

  room_least : check6 t (total_bytes (layout_of t)) (length t.mins) ≡ Passed
  unfolding check6 unless vectors
  room_least = rw (le-leb (total_bytes (layout_of t)) (total_bytes (layout_of t)) (omega arith), le-leb (length t.mins) (length t.mins) (omega arith))

  -- they pass with no more room than they need
  checks_least : checks t input e v (total_bytes (layout_of t)) (length t.mins) ≡ Passed
  unfolding checks
  checks_least =
      let two = then_passed _ _ (then_passed _ _ c).1 in
      let three = then_passed _ _ two.1 in
      let four = then_passed _ _ three.1 in
      let five = then_passed _ _ four.1 in
      both_passed limits_least (both_passed two.0 (both_passed three.0 (both_passed four.0 (both_passed five.0 room_least))))

  module _ {room list : List ℕ} (p : room ≡ zeros n) (q : list ≡ numbers_of t k) {m : ℕ} (u : m ≡ total_bytes (layout_of t)) where
    least : m ≤ n
    least = rw u its.bytes

    pub lend_bytes : m ≤ length room
    lend_bytes = rw (p, length-replicate) least

    pub lend_numbers : length t.mins ≤ length list
    lend_numbers = rw (q, length_filled, length-replicate) start_long

    pub lent_bytes : m ≡ length (take m room)
    lent_bytes = sym (length-take-le m room lend_bytes)

    pub lent_numbers : length t.mins ≡ length (take (length t.mins) list)
    lent_numbers = sym (length-take-le (length t.mins) list lend_numbers)

    room_lent : take m room ≡ zeros (total_bytes (layout_of t))
    room_lent = rw (p, u) (take_zeros (total_bytes (layout_of t)) n its.bytes)

    list_lent : take (length t.mins) list ≡ numbers_of t (length t.mins)
    list_lent = rw q (take_filled _ (zeros k) (length t.mins) (length t.mins) (omega arith) ∙ rw (take_zeros (length t.mins) k start_long))

    -- whatever comes back
    used_back : (room' list' : List ℕ) → length room' ≡ length (take m room) → length list' ≡ length (take (length t.mins) list)
        → Used m (length t.mins) (room' ++ drop m room) (list' ++ drop (length t.mins) list)
    used_back room' list' a b =
        let a' : length room' ≡ m = a ∙ sym lent_bytes in
        let b' : length list' ≡ length t.mins = b ∙ sym lent_numbers in
        record {
          bytes = rw length-append (omega (arith, a'));
          numbers = rw length-append (omega (arith, b'));
          room_zeros = front_zeros room room' m (n - m) a' (rw p (drop_zeros m n least));
          list_zeros = front_zeros list list' (length t.mins) (k - length t.mins) b'
              (rw q (drop_filled _ (zeros k) (length t.mins) (length t.mins) (omega arith) ∙ drop_zeros (length t.mins) k start_long));
        }

module _ (t : Lists) (input : ℕ) (events values : List ℕ) (n k : ℕ) (e : checks t input (length events) (length values) n k ≡ Passed) where
  module _ {room list : List ℕ} (p : room ≡ zeros n) (q : list ≡ numbers_of t k) {m : ℕ} (u : m ≡ total_bytes (layout_of t)) where
    abbrev lent : Mem
    lent = mem_of (take m room) (take (length t.mins) list) events values

    holds : Holds t (rooms_of events values) lent nothing (begin (gathers t)) empty
    holds =
        rw (room_lent t input (length events) (length values) n k e p q u, list_lent t input (length events) (length values) n k e p q u)
        (begins t input events values (total_bytes (layout_of t)) (length t.mins) (checks_least t input (length events) (length values) n k e))

    pub start_asks : Asks t lent nothing
    start_asks = record { tabled = tabled t input (length events) (length values) n k e; rooms = rooms_of events values; state = begin (gathers t); output = empty; holds = holds; begun = refl }

    -- ---- the end

    module _ {room' list' events' values' : List ℕ} {x : Part} {sc : Scan} (r : Runs t lent (mem_of room' list' events' values') nothing x sc) where
      abbrev Ending : Part → Type 0
      Ending x = Ends t (rooms_of events values) (mem_of room' list' events' values') x (run_all t (rooms_of events values) sc)

      ends : Ending x
      unfolding run_all
      ends = r.runs (rooms_of events values) (begin (gathers t)) empty holds

      outcomes : ended_at events' values' x ≡ outcome (run_all t (rooms_of events values) sc)
      unfolding ended_at outcome
      outcomes = go x ends
        where
          go : (x : Part) → Ending x → ended_at events' values' x ≡ outcome (run_all t (rooms_of events values) sc)
          go (part.Went i c) (g, o, w, h) = rw (w, written_events h, written_values h, written_steps h)
          go (part.Out number place) w = rw w

      pub run_ended : length room' ≡ length (take m room) → length list' ≡ length (take (length t.mins) list)
          → Ended m (length t.mins) (room' ++ drop m room) (list' ++ drop (length t.mins) list) events' values' x (outcome (run_all t (rooms_of events values) sc))
      run_ended a b = record { finish = record { used = used_back t input (length events) (length values) n k e p q u room' list' a b; within = go x ends }; is = outcomes }
        where
          go : (x : Part) → Ending x → Within events' values' x
          go (part.Went i c) (g, o, w, h) = (h.written.in_events.used, h.written.in_values.used)
          go (part.Out number place) w = tt

pub ruleset from_laws = (start_shapes, start_long, length_back)

-- ---- from tables that passed

module _ {m w : ℕ} {room list events values : List ℕ} {x : Part} {o : Outcome} (d : Ended m w room list events values x o) where
  pub passed_finish : Finish m w room list events values x
  passed_finish = d.finish

  pub passed_read : {e v n k : ℕ} → length events ≡ e → length values ≡ v → length room ≡ n → length list ≡ k
      → {y : Left} → y ≡ leaves (lent_of events values room list) (ended_at events values x) → y ≡ leaves (record { events = e; values = v; room = n; list = k }) o
  passed_read a b f g h = rw (← d.is) (h ∙ rw (a, b, f, g))

pub ruleset passed_laws = (ask_total, passed_finish, passed_read)

-- ---- the entries

abbrev pub rooms : (e v n k : ℕ) → Lent
rooms e v n k = record { events = e; values = v; room = n; list = k }

module _ (t : Lists) (input e v n k : ℕ) {m : Check} (c : m ≡ checks t input e v n k) where
  pub ask_passed : m ≡ Passed → checks t input e v n k ≡ Passed
  ask_passed q = sym c ∙ q

  module _ (sc : Scan) {y : Left} where
    pub checked_refused : {number place : ℕ} → m ≡ Refused number place → y ≡ leaves (rooms e v n k) (refused number place) → y ≡ leaves (rooms e v n k) (reads t input (rooms e v n k) sc)
    unfolding reads checked
    checked_refused q h = rw (← c, q) h

    pub checked_passed : m ≡ Passed → y ≡ leaves (rooms e v n k) (outcome (run_all t (record { events = e; values = v }) sc)) → y ≡ leaves (rooms e v n k) (reads t input (rooms e v n k) sc)
    unfolding reads checked
    checked_passed q h = rw (← c, q) h

pub sections_read : (t : Lists) (how : How) (s : List ℕ) (l : Lent) {y : Left} → y ≡ leaves l (reads t (length s) l (scan_sections t how s)) → y ≡ read_sections t how s l
unfolding read_sections
sections_read t how s l h = h

pub changes_read : (t : Lists) (s : List ℕ) (l : Lent) {y : Left} → y ≡ leaves l (reads t (length s) l (scan_changes t s)) → y ≡ read_changes t s l
unfolding read_changes
changes_read t s l h = h

pub ruleset entry_laws = (ask_passed, checked_refused, checked_passed, sections_read, changes_read)
