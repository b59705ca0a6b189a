-- A write's record has 6 bytes, or 13 for a number or a real; a number may take one byte of a section, a real takes
-- eight.
-- Assumes nothing.
use Rattle.std.specs.Prelude.{ℕ, ◌+◌, ◌*◌, ◌≤◌, ◌<◌, ◌≡◌, ◌≢◌, Bool, true, false, leb}
use Rattle.std.proofs.Math.Path.{refl, ap}
use Rattle.std.proofs.Common.{sym, ◌∙◌, ⊎_elim, true≢false}
use mathlib.Core.List.{List}
use native.Mathlib.Omega.{arith}
use borrow.Author.Tests.{leb-false}
use Rattle.std.proofs.Math.ListN.{length, length-append}
use Rattle.slices.specs.Choice.{cond_ind, le_or_lt}
use Rattle.numbers.specs.Fixed.{big_bytes}
use Rattle.tables.specs.Lists.{Lists, nth}
use Rattle.checks.specs.Checked.{checks_without_room, without_number}
use Rattle.values.specs.declared.How.{How}
use Rattle.values.specs.Read.{Read, Value, Bad}
use Rattle.values.specs.Value.{ordinary, value, real}
use Rattle.values.specs.Value.Laws.{value_next, value_real}
use Rattle.rules.proofs.Vector.Laws.{by_test}
use Rattle.rules.specs.Gather.{Act, time, write, step_end}
use Rattle.rules.specs.Scan.{Scan, say}
use Rattle.rules.specs.Scan as scan
use Rattle.section_scan.specs.Sections.{scan_sections}
use Rattle.section_scan.specs.Sections.Stepped.{sections_number}
use Rattle.read_back.specs.ReadBack.{write_of, record_of, times}
use Rattle.entries.specs.Written.{read_back}
use Rattle.courses.specs.Course.{bytes_of}
use Rattle.courses.specs.GivenBack.{given_from, given_back}
use Rattle.call_pages.proofs.Pages.Proofs.{back_page}
use Rattle.room_bounds.specs.Rooms.{has_number, back_room}
use Rattle.room_bounds.specs.Rooms.Laws.{has_number_lem}
use Rattle.room_bounds.specs.Costs.{costs_of, covers_all}
use Rattle.room_bounds.specs.Costs.Sections.{Pays, sections_covered}
use Rattle.room_bounds.specs.Calls.{not_full}

-- the place after what was read
next_in : Read → ℕ
next_in (Value v j) = j
next_in (Bad n p) = 0

-- a real has eight bytes
real_long : (how : How) (s : List ℕ) (i v j : ℕ) → real how s i ≡ Value v j → i + 8 ≤ j
unfolding real next_in
real_long how s i v j = cond_ind (leb (i + 8) (length s)) _ _ (λ (r : Read). r ≡ Value v j → i + 8 ≤ j)
    (λ a e. let f : i + 8 ≡ j = ap next_in e in omega arith) (λ a e. let z : ◌≡◌ {A = ℕ} 0 1 = cc in absurd (omega arith))

module _ (t : Lists) (s : List ℕ) where
  abbrev long : Act → ℕ
  long a = length (record_of t a)

  write_long : (id v q : ℕ) → (nth t.kinds id ≤ 4 → long (write id v q) ≡ 6) × (long (write id v q) ≤ 13)
  unfolding record_of write_of big_bytes
  write_long id v q =
      cond_ind (leb (nth t.kinds id) 4)
      _ _ (λ (l : List ℕ). (nth t.kinds id ≤ 4 → length l ≡ 6) × (length l ≤ 13))
      (λ a. ((λ k. refl), omega arith))
      (λ a. ((λ k. absurd (omega (arith, leb-false (nth t.kinds id) 4 a))), omega arith))

  time_long : (u : ℕ) → long (time u) ≡ 9
  unfolding record_of big_bytes
  time_long u = refl

  end_long : long step_end ≡ 1
  unfolding record_of
  end_long = refl

  pays_13 : Pays t s long (λ p. 13 * p)
  pays_13 = record {
    spare = 12;
    more = λ i j h. omega arith;
    of_write = λ how id q i v j e. omega (arith, (value_next how (nth t.kinds id) s i refl e).0, (write_long id v q).1);
    of_head = λ u i j h. omega (arith, time_long u, end_long);
    of_end = λ i j h. omega (arith, end_long);
    of_time = λ u i j h. omega (arith, time_long u);
  }

  module _ (none : has_number t.kinds ≡ false) where
    write_pays : (how : How) (id q i v j : ℕ) → value how (nth t.kinds id) s i ≡ Value v j
        → 6 * i + long (write id v q) ≤ 6 * j
    write_pays how id q i v j e =
        ⊎_elim (λ (l : nth t.kinds id ≤ 4). omega
        (arith, (value_next how (nth t.kinds id) s i refl e).0, (write_long id v q).0 l))
        (λ (l : 4 < nth t.kinds id).
        let r = value_real how (nth t.kinds id) s i l (λ k. true≢false (sym (has_number_lem t id k) ∙ none)) refl in
        omega (arith, real_long how s i v j (r ∙ e), (write_long id v q).1)) (le_or_lt (nth t.kinds id) 4)

    pays_6 : Pays t s long (λ p. 6 * p)
    pays_6 = record {
      spare = 5;
      more = λ i j h. omega arith;
      of_write = write_pays;
      of_head = λ u i j h. omega (arith, time_long u, end_long);
      of_end = λ i j h. omega (arith, end_long);
      of_time = λ u i j h. omega (arith, time_long u);
    }

  given_long : (sc : Scan) (n : ℕ) → length (bytes_of (given_from t n sc)) ≡ costs_of long sc
  unfolding given_from bytes_of costs_of
  given_long (say a p rest) n =
      length-append (record_of t a) _ ∙ ap (λ (m : ℕ). length (record_of t a) + m) (given_long rest (n + times a))
  given_long (scan.done i) n = refl
  given_long (scan.fault m p) n = refl

  module _ (flag : Bool) where
    back_long : length (bytes_of (given_back t flag s)) ≤ back_room t (length s)
    unfolding given_back
    back_long =
        by_test (has_number t.kinds)
        (λ h. rw (h, given_long (scan_sections t (ordinary flag) s) 0)
        (omega (
          arith,
          covers_all long (λ p. 13 * p) (length s)
              (λ i j l. omega arith) (scan_sections t (ordinary flag) s) 0 (omega arith)
              (sections_covered t s long (λ p. 13 * p) pays_13 (ordinary flag)),
        )))
        (λ h. rw (h, given_long (scan_sections t (ordinary flag) s) 0)
        (omega (
          arith,
          covers_all long (λ p. 6 * p) (length s)
              (λ i j l. omega arith) (scan_sections t (ordinary flag) s) 0 (omega arith)
              (sections_covered t s long (λ p. 6 * p) (pays_6 h) (ordinary flag)),
        )))

    -- 13 bytes for each byte of sections, 6 where no signal is a number
    pub back_room_lem : (room : ℕ) → back_room t (length s) ≤ room → (read_back t flag s room).answer.number ≢ 16
    back_room_lem room h =
        not_full (checks_without_room t (length s) room) _ _ room (given_back t flag s) (read_back t flag s room)
        (back_page t flag s room)
        (λ p e. omega (arith, (without_number t (length s) room 16 p e).1))
        (λ p f. omega (arith, (sections_number t (ordinary flag) s 16 p f).1)) (λ k. omega (arith, back_long))
