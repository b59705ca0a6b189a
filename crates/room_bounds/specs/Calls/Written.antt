-- A step takes 10 bytes of change records and at most 11 of sections; a write never takes more than its record; 29
-- bytes open and close the section.
-- Assumes nothing.
use Prim.Native.Nat.{ℕ, zero, suc, ◌+◌, ◌*◌, ◌-◌, ◌^◌, ◌≤◌, ◌<◌}
use Rattle.std.specs.Prelude.{◌≡◌, refl, ◌≢◌, ◌⊎◌, Bool, replicate, ltb, leb, eqb}
use Rattle.std.proofs.Common.{inl, inr, ⊎_elim, arith, leb-false, ne_eqb}
use Rattle.std.proofs.Math.Bool.{true, false}
use mathlib.Core.List.{List, [], ◌∷◌, ◌++◌}
use Rattle.std.proofs.Math.ListN.{length, length-append}
use Rattle.slices.specs.Choice.{cond_ind, le_or_lt}
use Rattle.numbers.specs.Marks.{ecy, tai}
use Rattle.leb128.specs.Shortest.{unsigned_bytes, signed_bytes}
use Rattle.leb128.specs.Shortest.Groups.{unsigned_short}
use Rattle.leb128.specs.Shortest.Laws.{bytes_most}
use Rattle.number_writer.specs.Little.Laws.{length_little_bytes, length_fixed_bytes}
use Rattle.tables.specs.Lists.{Lists, nth, signals}
use Rattle.tables.specs.Checks.Laws.{then_passed}
use Rattle.tables.specs.Good.Laws as good
use Rattle.tables.specs.Check.{Passed}
use Rattle.checks.specs.Checked.{checks_without_room, without_number}
use Rattle.rules.proofs.Vector.Laws.{by_test}
use Rattle.rules.specs.Gather.{time, write, step_end}
use Rattle.rules.specs.Scan.{Scan, say}
use Rattle.rules.specs.Scan as scan
use Rattle.changes.specs.Change.{ChangeFound}
use Rattle.changes.specs.Change as change
use Rattle.changes.specs.Changes.{next_change, scan_changes}
use Rattle.changes.specs.Changes.Steps.{changes_number}
use Rattle.sections_writer.specs.declared.Pen.{Pen}
use Rattle.sections_writer.specs.Writer.{goes, ends, stops, time_bytes, time_good, timed, value_bytes, write_bytes, wrote_to, stepped, cycle_end, closing, given_time, given_write, given, begin}
use Rattle.entries.specs.Written.{write_sections}
use Rattle.courses.specs.Course.{Course, done, bytes_of}
use Rattle.courses.specs.Written.{follows, in_order, orderly}
use Rattle.courses.specs.Written.{on_given, written_from, written}
use Rattle.call_pages.proofs.Pages.Proofs.{write_page}
use Rattle.room_bounds.specs.Rooms.{write_room}
use Rattle.room_bounds.specs.Costs.Changes.{Long, next_long}
use Rattle.room_bounds.specs.Calls.{not_full}

-- ---- how long each part is

module _ (flag : Bool) (p : Pen) (u : ℕ) where
  -- the first time opens the section with 12 bytes, a later one is a number
  time_long : length (time_bytes flag p u) ≤ 12
  unfolding time_bytes
  time_long =
      cond_ind (eqb p.steps 0) _ _ (λ (l : List ℕ). length l ≤ 12)
      (λ e. rw (length_fixed_bytes flag 8 u) (omega arith)) (λ e. omega (arith, bytes_most true (u - p.time)))

  later_long : eqb p.steps 0 ≡ false → length (time_bytes flag p u) ≤ 10
  unfolding time_bytes
  later_long e = rw e (bytes_most true (u - p.time))

closing_long : (p : Pen) → length (closing p) ≤ 26
unfolding closing cycle_end
closing_long p =
    let a : length (cycle_end p) ≤ 14 = cond_ind (eqb p.steps 0) _ _ (λ (l : List ℕ). length l ≤ 14)
    (λ e. omega arith)
    (λ e. omega (arith, length-append (signed_bytes (2 ^ 64 - 1)) ecy, bytes_most true (2 ^ 64 - 1))) in
    omega (arith, length-append (cycle_end p) (tai ++ replicate 8 0))

value_long : (kind v : ℕ) (s : List ℕ) (j : ℕ) → (kind ≤ 4 → length (value_bytes kind v s j) ≤ 1)
    × (length (value_bytes kind v s j) ≤ 10)
unfolding value_bytes
value_long kind v s j =
    cond_ind (leb kind 4) _ _ (λ (l : List ℕ). (kind ≤ 4 → length l ≤ 1) × (length l ≤ 10))
    (λ e. ((λ k. omega arith), omega arith))
    (λ e. cond_ind (eqb kind 5) _ _ (λ (l : List ℕ). (kind ≤ 4 → length l ≤ 1) × (length l ≤ 10))
    (λ f. ((λ k. absurd (omega (arith, leb-false kind 4 e))), bytes_most true v))
    (λ f. ((λ k. absurd (omega (arith, leb-false kind 4 e))), omega (arith, length_little_bytes 8 v))))

-- "a write never takes more than its record": ids are at most 65,535, and so a delta has at most three bytes
write_long : (p : Pen) (kind id v : ℕ) (s : List ℕ) (i j : ℕ) → id ≤ 65535 → i + 6 ≤ j → (5 ≤ kind → i + 13 ≤ j)
    → length (write_bytes p kind id v s j) ≤ j - i
unfolding write_bytes
write_long p kind id v s i j h l w =
    let a = length-append (unsigned_bytes (id - p.id)) (value_bytes kind v s j) in
    let b : length (unsigned_bytes (id - p.id)) ≤ 3 = unsigned_short 9 (id - p.id) 2 (omega arith) in
    let c = value_long kind v s j in
    ⊎_elim (λ (k : kind ≤ 4). omega (arith, c.0 k))
    (λ (k : 4 < kind). omega (arith, c.1, w (omega arith))) (le_or_lt kind 4)

-- ---- all of them

-- ten times what may be written over eleven for each ten bytes read: nothing before the first time, and behind it 21
-- inside a step, 20 between steps
abbrev slack : (first inside : Bool) → ℕ
slack true inside = 0
slack false true = 21
slack false false = 20

slack_most : (x y : Bool) → slack x y ≤ 21
slack_most true y = omega arith
slack_most false true = omega arith
slack_most false false = omega arith

slack_write : (x y : Bool) → slack x y ≤ slack x true
slack_write true y = omega arith
slack_write false true = omega arith
slack_write false false = omega arith

slack_end : (x y : Bool) → slack x y ≤ slack x false + 1
slack_end true y = omega arith
slack_end false true = omega arith
slack_end false false = omega arith

module _ (t : Lists) (flag : Bool) (s : List ℕ) (few : signals t ≤ 65535) where
  abbrev Within : Pen → (i n : ℕ) → Type 0
  Within p i n = 10 * n ≤ 11 * i + slack (eqb p.steps 0) p.inside

  abbrev Fits : ℕ → Course → Type 0
  Fits n c = 10 * (n + length (bytes_of c)) ≤ 11 * length s + 320

  module _ (p : Pen) (i n : ℕ) (w : Within p i n) (l : i ≤ length s) (more : Pen → ℕ → Course)
      (rec : (q : Pen) (j m : ℕ) → Within q j m → j ≤ length s → Fits m (more q j)) where
    on_goes : (bs : List ℕ) (q : Pen) (j : ℕ) → Within q j (n + length bs) → j ≤ length s
        → Fits n (on_given t flag s p (goes bs q j) more)
    unfolding on_given bytes_of
    on_goes bs q j h k = omega (arith, length-append bs (bytes_of (more q j)), rec q j (n + length bs) h k)

    on_stops : (m q : ℕ) → Fits n (on_given t flag s p (stops m q) more)
    unfolding on_given bytes_of
    on_stops m q = omega (arith, slack_most (eqb p.steps 0) p.inside)

    on_ends : (j : ℕ) → Fits n (on_given t flag s p (ends (closing p) j) more)
    unfolding on_given bytes_of
    on_ends j = omega (arith, length-append (closing p) [], closing_long p, slack_most (eqb p.steps 0) p.inside)

    -- what a time leaves
    time_within : (u j : ℕ) → i + 9 ≤ j → p.inside ≡ false → Within (timed p u) j (n + length (time_bytes flag p u))
    time_within u j h o =
        let z : slack (eqb (p.steps + 1) 0) true ≡ 21 = rw (ne_eqb (p.steps + 1) 0 (λ e. omega arith)) in
        by_test (eqb p.steps 0)
        (λ e. let x : slack (eqb p.steps 0) p.inside ≡ 0 = rw e in omega (arith, time_long flag p u))
        (λ e. let x : slack (eqb p.steps 0) p.inside ≡ 20 = rw (e, o) in omega (arith, later_long flag p u e))

    turn : (c : ChangeFound) → Long t s p.inside i c → Fits n (on_given t flag s p (given t flag s p i c) more)
    unfolding given given_time given_write
    turn (change.Time u j) o =
        cond_ind (time_good p u) _ _ (λ g. Fits n (on_given t flag s p g more))
        (λ h. on_goes (time_bytes flag p u) (timed p u) j (time_within u j o.0 o.2) o.1) (λ h. on_stops 23 i)
    turn (change.Write id v j) o =
        cond_ind (ltb p.id id) _ _ (λ g. Fits n (on_given t flag s p g more))
        (λ h.
        let a = write_long p (nth t.kinds id) id v s i j (omega (arith, o.3)) o.0 o.2 in
        on_goes (write_bytes p (nth t.kinds id) id v s j) (wrote_to p id) j
        (omega (arith, o.0, slack_write (eqb p.steps 0) p.inside)) o.1)
        (λ h. on_stops 22 i)
    turn (change.StepEnd j) o =
        on_goes (0 ∷ []) (stepped p) j (omega (arith, o.0, slack_end (eqb p.steps 0) p.inside)) o.1
    turn (change.End j) o = on_ends j
    turn (change.Bad m q) o = on_stops m q

  last_fits : (p : Pen) (i n : ℕ) → Within p i n → i ≤ length s → Fits n (done i p.steps)
  unfolding bytes_of
  last_fits p i n w l = omega (arith, slack_most (eqb p.steps 0) p.inside)

  all_fit : (fuel : ℕ) (p : Pen) (i n : ℕ) → Within p i n → i ≤ length s → Fits n (written_from t flag s fuel p i)
  unfolding written_from
  all_fit zero p i n w l =
      turn p i n w l (λ q j. done j q.steps) (λ q j m h k. last_fits q j m h k) (next_change t s p.inside i)
      (next_long t s i p.inside)
  all_fit (suc fuel) p i n w l =
      turn p i n w l (λ q j. written_from t flag s fuel q j)
      (λ q j m h k. all_fit fuel q j m h k) (next_change t s p.inside i) (next_long t s i p.inside)

  pub written_long : length (bytes_of (written t flag s)) ≤ write_room (length s)
  unfolding written
  written_long = omega (arith, all_fit (length s) begin 0 0 (omega arith) (omega arith))

-- ---- no 16 but for the room

-- a scan in order is refused as the scan, or with 22 or 23
order_number : (sc : Scan) (begun : Bool) (u id i n p : ℕ) → scan.Faults n p (in_order begun u id i sc)
    → scan.Faults n p sc ⊎ ((n ≡ 22) ⊎ (n ≡ 23))
unfolding in_order scan.Faults
order_number (say (time v) q rest) false u id i n p = λ f. order_number rest true v 0 q n p f
order_number (say (time v) q rest) true u id i n p =
    cond_ind (follows u v) _ _ (λ x. scan.Faults n p x → scan.Faults n p rest ⊎ ((n ≡ 22) ⊎ (n ≡ 23)))
    (λ h f. order_number rest true v 0 q n p f) (λ h f. inr (inr f.0))
order_number (say (write k x r) q rest) begun u id i n p =
    cond_ind (ltb id k) _ _ (λ x. scan.Faults n p x → scan.Faults n p rest ⊎ ((n ≡ 22) ⊎ (n ≡ 23)))
    (λ h f. order_number rest begun u k q n p f) (λ h f. inr (inl f.0))
order_number (say step_end q rest) begun u id i n p = λ f. order_number rest begun u id q n p f
order_number (scan.done j) begun u id i n p = λ f. absurd f
order_number (scan.fault m q) begun u id i n p = λ f. inl f

module _ (t : Lists) (flag : Bool) (s : List ℕ) (room : ℕ) where
  few_signals : checks_without_room t (length s) room ≡ Passed → signals t ≤ 65535
  unfolding checks_without_room signals
  few_signals k = (good.sized t (then_passed _ _ (then_passed _ _ k).1).0).few_signals

  none_16 : (p : ℕ) → scan.Faults 16 p (scan_changes t s) ⊎ (◌≡◌ {A = ℕ} 16 22 ⊎ ◌≡◌ {A = ℕ} 16 23) → ⊥
  none_16 p (inl f) = (changes_number t s 16 p f).2 refl
  none_16 p (inr (inl e)) = omega arith
  none_16 p (inr (inr e)) = omega arith

  -- a byte more for every ten of change records, and 32
  pub write_room_lem : write_room (length s) ≤ room → (write_sections t flag s room).answer.number ≢ 16
  unfolding orderly
  write_room_lem h =
      not_full (checks_without_room t (length s) room) _ _ room (written t flag s) (write_sections t flag s room)
      (write_page t flag s room)
      (λ p e. omega (arith, (without_number t (length s) room 16 p e).1))
      (λ p f. none_16 p (order_number (scan_changes t s) false 0 0 0 16 p f))
      (λ k. omega (arith, written_long t flag s (few_signals k)))
