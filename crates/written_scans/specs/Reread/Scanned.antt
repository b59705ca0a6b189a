-- What section reading scans where written bytes stand.
-- Assumes nothing.
use Rattle.std.specs.Prelude.{◌≡◌, ℕ, suc, ◌+◌, ◌-◌, ◌^◌, ◌≤◌, ◌<◌, Bool, List, [], ◌∷◌, ◌++◌}
use Rattle.std.proofs.Common.{◌∙◌}
use native.Mathlib.Omega.{arith}
use borrow.Author.Tests.{lt-ltb, le-leb, lt-leb, ne_eqb}
use Rattle.std.proofs.Math.ListN.{length, replicate}
use Rattle.slices.specs.Splice.{part}
use Rattle.numbers.specs.Fixed.{fixed, negative}
use Rattle.numbers.specs.Marks.{cyc, ecy, tai}
use Rattle.numbers.specs.Marks.Laws.{same_is, marks_open}
use Rattle.tables.specs.Lists.{Lists, nth, signals}
use Rattle.values.specs.declared.How.{How}
use Rattle.values.specs.Read.{Value}
use Rattle.values.specs.Value.{ordinary, on_read, value}
use Rattle.rules.specs.Gather.{time, write}
use Rattle.rules.specs.Scan.{Scan, say, done, and_then}
use Rattle.section_scan.specs.FoundTime as times
use Rattle.section_scan.specs.Sections.{field, end_mark, next_id, one_change, change_list, next_time, one_step, steps, cycle, one_section, sections}
use Rattle.leb128.specs.Shortest.{unsigned_bytes, signed_bytes, groups, fits, rest}
use Rattle.number_writer.specs.Little.{fixed_bytes}
use Rattle.number_writer.specs.Little.Laws.{length_fixed_bytes}
use Rattle.written_scans.specs.Reread.Stands.{Stands, stands_first, stands_next, stands_part, stands_inside, unsigned_is, signed_is, fixed_is}

-- a field that lies within the input
field_is : (n : ℕ) (s : List ℕ) (i : ℕ) (k : ℕ → Scan) → i + n ≤ length s → field n s i k ≡ k (i + n)
unfolding field
field_is n s i k h = rw (le-leb (i + n) (length s) h)

module _ (t : Lists) (flag : Bool) (bs : List ℕ) where
  abbrev how : How
  how = ordinary flag

  -- a cycle's mark and its time
  pub cycle_opens : (at u f : ℕ) {more : List ℕ} → u < 2 ^ 64 → Stands bs at (cyc ++ fixed_bytes flag 8 u) more
      → sections t how bs (suc f) at ≡ say (time u) (at + 4 + 8) (and_then (steps t how bs (length bs) u (at + 4 + 8)) (λ k. sections t how bs f k))
  unfolding sections one_section cycle and_then
  cycle_opens at u f {more} h w =
      let a : Stands bs at cyc (fixed_bytes flag 8 u ++ more) = stands_first cyc (fixed_bytes flag 8 u) w in
      let b : Stands bs (at + 4) (fixed_bytes flag 8 u) more = stands_next cyc (fixed_bytes flag 8 u) w in
      let k : length (fixed_bytes flag 8 u) ≡ 8 = length_fixed_bytes flag 8 u in
      let i : at + 4 + 8 ≤ length bs = rw k at (stands_inside (fixed_bytes flag 8 u) b (omega arith)) in
      field_is 4 bs at _ (omega arith)
      ∙ rw (stands_part cyc a, marks_open.1, field_is 8 bs (at + 4) (λ j. say (time (fixed flag (part bs (at + 4) 8))) j (steps t how bs (length bs) (fixed flag (part bs (at + 4) 8)) j)) i, fixed_is h flag b)

  -- the tailer
  pub tailer_ends : (at f : ℕ) {more : List ℕ} → Stands bs at (tai ++ replicate 8 0) more → sections t how bs (suc f) at ≡ done (at + 4 + 8)
  unfolding sections one_section
  tailer_ends at f {more} w =
      let a : Stands bs at tai (replicate 8 0 ++ more) = stands_first tai (replicate 8 0) w in
      let i : at + 12 ≤ length bs = stands_inside (tai ++ replicate 8 0) w (omega arith) in
      field_is 4 bs at _ (omega arith) ∙ rw (stands_part tai a, marks_open.3) (field_is 8 bs (at + 4) done (omega arith))

  -- a later time
  pub time_later : (at u u' : ℕ) {more : List ℕ} → u ≤ u' → u' - u < 2 ^ 63 → u' < 2 ^ 64 → Stands bs at (signed_bytes (u' - u)) more
      → next_time bs u at ≡ times.Time u' (at + length (signed_bytes (u' - u)))
  unfolding next_time on_read negative
  time_later at u u' h d l w =
      let e : u + (u' - u) ≡ u' = omega arith in
      rw (signed_is (omega arith) w, lt-leb (2 ^ 63) (u' - u) d, e, lt-ltb u' (2 ^ 64) l)

  -- "a closing delta of -1", and the end mark
  pub cycle_ends : (at u : ℕ) (k : ℕ → ℕ → Scan) {more : List ℕ} → Stands bs at (signed_bytes (2 ^ 64 - 1) ++ ecy) more → one_step t how bs (next_time bs u at) k ≡ done (at + 1 + 4)
  unfolding next_time on_read negative one_step end_mark groups fits rest
  cycle_ends at u k {more} w =
      let a : Stands bs at (signed_bytes (2 ^ 64 - 1)) (ecy ++ more) = stands_first (signed_bytes (2 ^ 64 - 1)) ecy w in
      let b : Stands bs (at + 1) ecy more = stands_next (signed_bytes (2 ^ 64 - 1)) ecy w in
      let i : at + 1 + 4 ≤ length bs = stands_inside ecy b (omega arith) in
      rw (signed_is {n = 2 ^ 64 - 1} (omega arith) a) (field_is 4 bs (at + 1) _ i ∙ rw (same_is (stands_part ecy b)))

  -- a write
  pub write_on : (f id id' v at : ℕ) (vb : List ℕ) {more : List ℕ} → id < id' → id' ≤ signals t → id' < 2 ^ 64 → Stands bs at (unsigned_bytes (id' - id) ++ vb) more
      → value how (nth t.kinds id') bs (at + length (unsigned_bytes (id' - id))) ≡ Value v (at + length (unsigned_bytes (id' - id)) + length vb)
      → change_list t how bs (suc f) id at
      ≡ say (write id' v (at + length (unsigned_bytes (id' - id)))) (at + length (unsigned_bytes (id' - id)) + length vb) (change_list t how bs f id' (at + length (unsigned_bytes (id' - id)) + length vb))
  unfolding change_list next_id one_change on_read
  write_on f id id' v at vb {more} h n l w e =
      let a : Stands bs at (unsigned_bytes (id' - id)) (vb ++ more) = stands_first (unsigned_bytes (id' - id)) vb w in
      let q : id + (id' - id) ≡ id' = omega arith in
      rw (unsigned_is (omega arith) a, ne_eqb (id' - id) 0 (λ z. omega arith), q, le-leb id' (signals t) n, e)

  -- a step's end
  pub list_ends : (f id at : ℕ) {more : List ℕ} → Stands bs at (0 ∷ []) more → change_list t how bs (suc f) id at ≡ done (at + 1)
  unfolding change_list next_id one_change on_read groups fits rest
  list_ends f id at w = rw (unsigned_is {n = 0} (omega arith) w)
