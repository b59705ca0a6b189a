-- What an accepted listing prints: a line for each event that the section rules make, in their order, and the last line.
-- Assumes nothing.
use Rattle.std.specs.Prelude.{◌≡◌, Bool}
use Rattle.std.proofs.Math.Path.{refl, sym, ap}
use Rattle.std.proofs.Common.{◌∙◌, mod-eq_of_lt, div-add-mod', arith, take-append-drop, take_at, drop_at}
use Prim.Native.Nat.{ℕ, zero, suc, ◌+◌, ◌/◌, ◌%◌, ◌^◌, ◌≤◌, ◌<◌}
use Rattle.std.proofs.Math.Bool.{true}
use mathlib.Core.List.{List, [], ◌∷◌, ◌++◌, append_assoc, append-nil}
use borrow.Author.Tests.{lt-leb, le-leb, eq-eqb}
use Rattle.std.proofs.Math.ListN.{length, drop, get_or, length-append}
use Rattle.std.proofs.Math.Seq.{get_or-append_seam}
use Rattle.slices.specs.Splice.{part}
use Rattle.numbers.specs.Fixed.{big, big_bytes}
use Rattle.numbers.specs.Fixed.Laws.{big_big_bytes, length_big_bytes, big_bytes_low}
use Rattle.tables.specs.Lists.{Lists}
use Rattle.states.specs.declared.States.{States}
use Rattle.states.specs.declared.States.TheVariants.{Two, Nine}
use Rattle.values.specs.Value.{ordinary}
use Rattle.records.specs.declared.Record.{Record}
use Rattle.records.specs.declared.Record.TheVariants.{Time, Value, Real}
use Rattle.event_streams.specs.Next as next
use Rattle.records.specs.Event.{Event, time, value, real, record_of, record_bytes, event_value}
use Rattle.records.specs.Event.Laws.{length_time, length_value, length_real}
use Rattle.event_streams.specs.Stream.{event_length, record_at, is_time, in_values, judged, next_event}
use Rattle.event_streams.proofs.Stream.Laws.{past_end}
use Rattle.gather.specs.Run.Rendered.{rendered, values_of}
use Rattle.section_scan.specs.Sections.{scan_sections}
use Rattle.answers.specs.Outcome.{Left}
use Rattle.entries.specs.Entries.{read_sections}
use Rattle.entries.specs.Entries.Reads.{events_from}
use Rattle.entries.specs.Demands.{sections_1, sections_2}
use Rattle.listing_text.specs.Lines.{real_word, done_word, time_line, hex_line, pair_line, state_word, event_line, one_line, lines_from, event_lines}
use Rattle.listing_text.specs.Listing.{told, lends, section_lines}

-- the line of an event, its numbers taken to the width that its record gives them
unfoldable pub line_of : Event → List ℕ
line_of (time u) = time_line (u % 2 ^ 64)
line_of (value v s reference bs) = hex_line (state_word s) (reference % 2 ^ 32) bs
line_of (real reference bits) = hex_line real_word (reference % 2 ^ 32) (big_bytes 8 bits)

unfoldable pub lines_of : List Event → List ℕ
lines_of [] = []
lines_of (e ∷ es) = line_of e ++ lines_of es

-- ---- what stands where

part_here : (s pre mid rest : List ℕ) (i n : ℕ) → s ≡ pre ++ (mid ++ rest) → length pre ≡ i → length mid ≡ n → part s i n ≡ mid
unfolding part
part_here s pre mid rest i n q a b = rw (q, drop_at pre (mid ++ rest) i a, take_at mid rest n b)

number_here : (s pre rest : List ℕ) (i n v : ℕ) → s ≡ pre ++ (big_bytes n v ++ rest) → length pre ≡ i → big (part s i n) ≡ v % 256 ^ n
number_here s pre rest i n v q a = ap big (part_here s pre (big_bytes n v) rest i n q a (length_big_bytes n v)) ∙ big_big_bytes n v

bits_low : (v : ℕ) → big_bytes 8 (v % 256 ^ 8) ≡ big_bytes 8 v
bits_low v = sym (big_bytes_low 8 (v / 256 ^ 8) (v % 256 ^ 8)) ∙ ap (big_bytes 8) (div-add-mod' v (256 ^ 8))

-- ---- one record

module _ (s values pre rest : List ℕ) where
  -- the record that is found, where the next starts, and its line
  abbrev Reads : (size : ℕ) → List ℕ → Type 0
  Reads size l = (r : Record) × (next_event s (length values) true (length pre) ≡ next.Event r (length pre + size)) × (event_line values r ≡ l)

  kind_is : (k : ℕ) (l : List ℕ) → s ≡ pre ++ k ∷ l → get_or s (length pre) 0 ≡ k
  kind_is k l q = ap (λ (x : List ℕ). get_or x (length pre) 0) q ∙ get_or-append_seam pre k l 0

  long_is : (l : List ℕ) → s ≡ pre ++ (l ++ rest) → length pre + length l ≤ length s
  long_is l q = omega (arith, simp length-append at (ap length q))

  time_reads : (u : ℕ) → s ≡ pre ++ (record_bytes (Time u) ++ rest) → Reads 9 (time_line (u % 256 ^ 8))
  unfolding next_event judged event_length record_at is_time in_values record_bytes event_line
  time_reads u q =
      let long : length pre + 9 ≤ length s = omega (arith, long_is (record_bytes (Time u)) q, length_time u) in
      let k : get_or s (length pre) 0 ≡ 1 = kind_is 1 (big_bytes 8 u ++ rest) q in
      let v : big (part s (length pre + 1) 8) ≡ u % 256 ^ 8 = number_here s (pre ++ (1 ∷ [])) rest (length pre + 1) 8 u (q ∙ simp append_assoc) (length-append pre (1 ∷ [])) in
      (Time (u % 256 ^ 8), rw (lt-leb (length s) (length pre) (omega arith), k, le-leb (length pre + 9) (length s) long, v), refl)

  real_reads : (a u : ℕ) → s ≡ pre ++ (record_bytes (Real a u) ++ rest) → Reads 13 (hex_line real_word (a % 256 ^ 4) (big_bytes 8 u))
  unfolding next_event judged event_length record_at is_time in_values record_bytes event_line
  real_reads a u q =
      let long : length pre + 13 ≤ length s = omega (arith, long_is (record_bytes (Real a u)) q, length_real a u) in
      let k : get_or s (length pre) 0 ≡ 4 = kind_is 4 (big_bytes 4 a ++ big_bytes 8 u ++ rest) q in
      let va : big (part s (length pre + 1) 4) ≡ a % 256 ^ 4 = number_here s (pre ++ (4 ∷ [])) (big_bytes 8 u ++ rest) (length pre + 1) 4 a (q ∙ simp append_assoc) (length-append pre (4 ∷ [])) in
      let vu : big (part s (length pre + 5) 8) ≡ u % 256 ^ 8 = number_here s (pre ++ (4 ∷ big_bytes 4 a)) rest (length pre + 5) 8 u (q ∙ simp append_assoc) (simp (length-append, length_big_bytes)) in
      (Real (a % 256 ^ 4) (u % 256 ^ 8), rw (lt-leb (length s) (length pre) (omega arith), k, le-leb (length pre + 13) (length s) long, va, vu), rw (bits_low u))

  module _ (vpre bs vrest : List ℕ) (v : values ≡ vpre ++ (bs ++ vrest)) (few : length values < 256 ^ 4) where
    values_long : length vpre + length bs ≤ length values
    values_long = omega (arith, simp length-append at (ap length v))

    module _ (k a : ℕ) (q : s ≡ pre ++ ((k ∷ big_bytes 4 a ++ big_bytes 4 (length vpre) ++ big_bytes 4 (length bs)) ++ rest)) where
      reference_is : big (part s (length pre + 1) 4) ≡ a % 256 ^ 4
      reference_is =
          number_here s (pre ++ (k ∷ [])) (big_bytes 4 (length vpre) ++ (big_bytes 4 (length bs) ++ rest)) (length pre + 1) 4 a (q ∙ simp append_assoc) (length-append pre (k ∷ []))

      start_is : big (part s (length pre + 5) 4) ≡ length vpre
      start_is =
          number_here s (pre ++ (k ∷ big_bytes 4 a)) (big_bytes 4 (length bs) ++ rest) (length pre + 5) 4 (length vpre) (q ∙ simp append_assoc) (simp (length-append, length_big_bytes))
          ∙ mod-eq_of_lt (omega (arith, values_long))

      length_is : big (part s (length pre + 9) 4) ≡ length bs
      length_is =
          number_here s (pre ++ (k ∷ big_bytes 4 a ++ big_bytes 4 (length vpre))) rest (length pre + 9) 4 (length bs) (q ∙ simp append_assoc) (simp (length-append, length_big_bytes) (omega arith))
          ∙ mod-eq_of_lt (omega (arith, values_long))

    value_reads : (st : States) (a : ℕ) → s ≡ pre ++ (record_bytes (Value st a (length vpre) (length bs)) ++ rest) → Reads 13 (hex_line (state_word st) (a % 256 ^ 4) bs)
    unfolding next_event judged event_length record_at is_time in_values record_bytes event_line
    value_reads Two a q =
        let long : length pre + 13 ≤ length s = omega (arith, long_is (record_bytes (Value Two a (length vpre) (length bs))) q, length_value Two a (length vpre) (length bs)) in
        let k : get_or s (length pre) 0 ≡ 2 = kind_is 2 (big_bytes 4 a ++ big_bytes 4 (length vpre) ++ big_bytes 4 (length bs) ++ rest) q in (
          Value Two (a % 256 ^ 4) (length vpre) (length bs),
          rw (lt-leb (length s) (length pre) (omega arith), k, le-leb (length pre + 13) (length s) long, reference_is 2 a q, start_is 2 a q, length_is 2 a q, le-leb (length vpre + length bs) (length values) values_long),
          rw (part_here values vpre bs vrest (length vpre) (length bs) v refl refl),
        )
    value_reads Nine a q =
        let long : length pre + 13 ≤ length s = omega (arith, long_is (record_bytes (Value Nine a (length vpre) (length bs))) q, length_value Nine a (length vpre) (length bs)) in
        let k : get_or s (length pre) 0 ≡ 3 = kind_is 3 (big_bytes 4 a ++ big_bytes 4 (length vpre) ++ big_bytes 4 (length bs) ++ rest) q in (
          Value Nine (a % 256 ^ 4) (length vpre) (length bs),
          rw (lt-leb (length s) (length pre) (omega arith), k, le-leb (length pre + 13) (length s) long, reference_is 3 a q, start_is 3 a q, length_is 3 a q, le-leb (length vpre + length bs) (length values) values_long),
          rw (part_here values vpre bs vrest (length vpre) (length bs) v refl refl),
        )

  event_reads : (e : Event) (vpre vrest : List ℕ) → s ≡ pre ++ (record_bytes (record_of (length vpre) e) ++ rest) → values ≡ vpre ++ (event_value e ++ vrest) → length values < 256 ^ 4
      → Reads (length (record_bytes (record_of (length vpre) e))) (line_of e)
  unfolding record_of event_value line_of
  event_reads (time u) vpre vrest q v few = rw (length_time u) (time_reads u q)
  event_reads (value n st a bs) vpre vrest q v few = rw (length_value st a (length vpre) (length bs)) (value_reads vpre bs vrest v few st a q)
  event_reads (real a u) vpre vrest q v few = rw (length_real a u) (real_reads a u q)

-- ---- all records

record_some : (start : ℕ) (e : Event) → 1 ≤ length (record_bytes (record_of start e))
unfolding record_of
record_some start (time u) = omega (arith, length_time u)
record_some start (value v st a bs) = omega (arith, length_value st a start (length bs))
record_some start (real a u) = omega (arith, length_real a u)

module _ (s values vrest : List ℕ) (few : length values < 256 ^ 4) where
  lines_are : (fuel : ℕ) (es : List Event) (pre vpre : List ℕ) → s ≡ pre ++ rendered (length vpre) es → values ≡ vpre ++ (values_of es ++ vrest) → length s ≤ length pre + fuel
      → lines_from s values fuel (length pre) ≡ lines_of es
  unfolding lines_from one_line rendered values_of lines_of
  lines_are zero [] pre vpre q v h = refl
  lines_are (suc fuel) [] pre vpre q v h = rw (past_end s (length values) true (length pre) (omega (arith, ap length q ∙ ap length (append-nil pre))))
  lines_are zero (e ∷ es) pre vpre q v h =
      absurd (omega (arith, record_some (length vpre) e, simp length-append at (ap length q)))
  lines_are (suc fuel) (e ∷ es) pre vpre q v h =
      let c = event_reads s values pre (rendered (length vpre + length (event_value e)) es) e vpre (values_of es ++ vrest) q (v ∙ ap (λ (x : List ℕ). vpre ++ x) (append_assoc (event_value e) (values_of es) vrest)) few in
      let here : length (pre ++ record_bytes (record_of (length vpre) e)) ≡ length pre + length (record_bytes (record_of (length vpre) e)) = length-append pre (record_bytes (record_of (length vpre) e)) in
      let there : length (vpre ++ event_value e) ≡ length vpre + length (event_value e) = length-append vpre (event_value e) in
      let more : lines_from s values fuel (length (pre ++ record_bytes (record_of (length vpre) e))) ≡ lines_of es =
      lines_are fuel es (pre ++ record_bytes (record_of (length vpre) e)) (vpre ++ event_value e)
      (rw there (q ∙ sym (append_assoc pre (record_bytes (record_of (length vpre) e)) (rendered (length vpre + length (event_value e)) es))))
      (v ∙ simp append_assoc)
      (omega (arith, here, record_some (length vpre) e)) in
      rw (c.1, c.2) (ap (λ (x : List ℕ). line_of e ++ x) (rw here at more))

pub event_lines_are : (es : List Event) (values vrest : List ℕ) → values ≡ values_of es ++ vrest → length values < 256 ^ 4 → event_lines (rendered 0 es) values ≡ lines_of es
unfolding event_lines
event_lines_are es values vrest v few = lines_are (rendered 0 es) values vrest few (length (rendered 0 es)) es [] [] refl v (omega arith)

-- ---- all of it

module _ (t : Lists) (flag : Bool) (s : List ℕ) where
  abbrev pub leaves : Left
  leaves = read_sections t (ordinary flag) s lends

  -- "It prints section reading's events"
  pub accepted_lines : leaves.answer.number ≡ 0 → section_lines t flag s ≡ lines_of (events_from t (scan_sections t (ordinary flag) s)) ++ pair_line done_word leaves.answer.read leaves.answer.steps
  unfolding section_lines told
  accepted_lines z =
      let d = sections_1 t (ordinary flag) s lends in
      let f = sections_2 t (ordinary flag) s lends in
      let values : leaves.values ≡ values_of (events_from t (scan_sections t (ordinary flag) s)) ++ drop leaves.answer.values leaves.values =
      sym (rw (f.values z) at (take-append-drop leaves.answer.values leaves.values)) in
      let lines = event_lines_are (events_from t (scan_sections t (ordinary flag) s)) leaves.values (drop leaves.answer.values leaves.values) values (omega (arith, d.values.long)) in
      rw (eq-eqb leaves.answer.number 0 z, f.events z, lines)
