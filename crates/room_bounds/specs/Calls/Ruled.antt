-- The time rule keeps no more than it reads.
-- Assumes nothing.
use Prim.Native.Nat.{ℕ, zero, suc, ◌+◌, ◌-◌, ◌≤◌}
use Rattle.std.specs.Prelude.{◌≡◌, ◌≢◌, Bool, List, get_or}
use Rattle.std.proofs.Math.Path.{refl}
use Rattle.std.proofs.Common.{sym}
use Rattle.std.proofs.Math.Bool.{true, false}
use native.Mathlib.Omega.{arith}
use Rattle.std.proofs.Math.ListN.{length, length-append}
use Rattle.slices.specs.Choice.{cond_ind}
use Rattle.slices.specs.Splice.{part}
use Rattle.slices.specs.Splice.Laws.{length_part}
use Rattle.event_streams.specs.Next.{Next, Event, End, Bad}
use Rattle.event_streams.specs.Stream.{event_length, next_event}
use Rattle.event_streams.proofs.Stream.Laws.{found_event}
use Rattle.encoder.specs.declared.Clock.{Clock}
use Rattle.encoder.specs.Rule.{keeps, ticks, times}
use Rattle.encoder.specs.Rule.Keeping.{unset}
use Rattle.encoder.specs.Rule.Keeping.Laws.{next_is}
use Rattle.entries.specs.Entries.{apply_time_rule}
use Rattle.entries.specs.Entries.Keeps as keeping
use Rattle.courses.specs.Course.{bytes_of, Faults}
use Rattle.courses.specs.Ruled.{on_record, rules_from, ruled, on_next, read_from, read}
use Rattle.call_pages.specs.Pages.{rule_checks}
use Rattle.call_pages.proofs.Pages.Proofs.{rule_page}
use Rattle.room_bounds.specs.Rooms.{rule_room}
use Rattle.room_bounds.specs.Calls.{not_full, unless_not}

module _ (s : List ℕ) (values : ℕ) where
  on_long : (fuel : ℕ) (c : Clock) (n i : ℕ) → i ≤ length s
      → ((d : Clock) (m j : ℕ) → j ≤ length s → j + length (bytes_of (rules_from s values fuel d m j)) ≤ length s)
      → (x : Next) → next_event s values c.begun i ≡ x
      → i + length (bytes_of (on_record s values c n i x (λ d m j. rules_from s values fuel d m j))) ≤ length s
  unfolding on_record bytes_of
  on_long fuel c n i l rec (Event r j) e =
      let f = found_event s values c.begun i e in
      let k = rec (ticks c r) (n + times r) j f.within in
      let m = rec (ticks c r) n j f.within in
      cond_ind (keeps c r) _ _ (λ y. i + length (bytes_of y) ≤ length s)
      (λ h.
      let a = length-append (part s i (j - i)) (bytes_of (rules_from s values fuel (ticks c r) (n + times r) j)) in
      let b = length_part s i (j - i) (omega (arith, f.ahead, f.within)) in
      omega (arith, f.ahead))
      (λ h. omega (arith, f.ahead))
  on_long fuel c n i l rec End e = omega arith
  on_long fuel c n i l rec (Bad m p) e = omega arith

  kept_long : (fuel : ℕ) (c : Clock) (n i : ℕ) → i ≤ length s
      → i + length (bytes_of (rules_from s values fuel c n i)) ≤ length s
  unfolding rules_from bytes_of
  kept_long zero c n i l = omega arith
  kept_long (suc fuel) c n i l =
      on_long fuel c n i l (λ d m j k. kept_long fuel d m j k) (next_event s values c.begun i) refl

  ruled_long : length (bytes_of (ruled s values)) ≤ length s
  unfolding ruled
  ruled_long = omega (arith, kept_long (length s) unset 0 0 (omega arith))

  -- a record is never refused with 16
  never_16 : (fuel : ℕ) (begun : Bool) (i p : ℕ) → Faults 16 p (read_from s values fuel begun i) → ⊥
  unfolding read_from on_next Faults
  never_16 zero begun i p = λ f. f
  never_16 (suc fuel) begun i p =
      next_is s values (λ x. Faults 16 p (on_next s values i x (λ j. read_from s values fuel true j)) → ⊥) begun i
      (λ a f. f) (λ a b d f. never_16 fuel true (i + event_length (get_or s i 0)) p f) (λ n o f. o.2 (sym f.0))

  -- room as long as its input
  pub rule_room_lem : (room : ℕ) → rule_room (length s) ≤ room → (apply_time_rule s values room).answer.number ≢ 16
  unfolding read
  rule_room_lem room h =
      not_full (rule_checks s values room) _ _ room (ruled s values) (apply_time_rule s values room)
      (rule_page s values room)
      (unless_not (keeping.limits_of s values room) 1 (λ e. omega arith)) (λ p f. never_16 (length s) false 0 p f)
      (λ k. omega (arith, ruled_long))
