-- No text of the listing is longer than 65,536 bytes.
-- Assumes nothing.
use Rattle.std.specs.Prelude.{◌≡◌, Bool, leb, ltb, eqb, drop}
use Rattle.std.proofs.Math.Path.{refl, sym, ap}
use Rattle.std.proofs.Common.{◌∙◌, ltb-false, eqb-true}
use Prim.Native.Nat.{ℕ, zero, suc, ◌+◌, ◌*◌, ◌/◌, ◌^◌, ◌≤◌, ◌<◌}
use Rattle.std.proofs.Math.Bool.{true}
use mathlib.Core.List.{List, [], ◌∷◌, ◌++◌, append_assoc, append-nil}
use Rattle.std.proofs.Math.Nat.{pow-succ', mod-le}
use native.Mathlib.Omega.{arith}
use Rattle.std.proofs.Math.ListN.{length, take, get_or, length-append, length-take}
use Rattle.std.proofs.Math.Seq.{get_or-append_seam, take_at, drop_at}
use Rattle.slices.specs.Choice.{cond_ind}
use Rattle.slices.specs.Splice.{part}
use Rattle.numbers.specs.Fixed.{big, big_bytes, fixed}
use Rattle.numbers.specs.Fixed.Laws.{Bytes, big_big_bytes, length_big_bytes, big_bytes_bytes, part_below}
use Rattle.tables.specs.Lists.{Lists}
use Rattle.states.specs.declared.States.{States}
use Rattle.states.specs.declared.States.TheVariants.{Two, Nine}
use Rattle.values.specs.Value.{ordinary}
use Rattle.records.specs.declared.Record.{Record}
use Rattle.records.specs.declared.Record.TheVariants.{Time, Value, Real}
use Rattle.event_streams.specs.Next.{Next}
use Rattle.event_streams.specs.Next as next
use Rattle.records.specs.Event.{Event, time, value, real, kind_of, record_of, record_bytes, event_value}
use Rattle.records.specs.Event.Laws.{length_time, length_value, length_real}
use Rattle.event_streams.specs.Stream.{event_length, record_at, next_event}
use Rattle.event_streams.proofs.Stream.Laws.{Stands, found_event}
use Rattle.gather.specs.Run.Rendered.{rendered, values_of}
use Rattle.section_scan.specs.Sections.{scan_sections}
use Rattle.answers.specs.Outcome.{Left}
use Rattle.entries.specs.Entries.{read_sections}
use Rattle.entries.specs.Entries.Reads.{events_from}
use Rattle.entries.specs.Demands.{sections_1, sections_2}
use Rattle.plain_text.specs.Text.{decimal_of, decimal, hex, Holds, Prints}
use Rattle.plain_text.specs.Text.Laws.{holds_all, holds_fits, holds_front}
use Rattle.listing_text.specs.Lines.{real_word, done_word, refused_word, time_line, hex_line, pair_line, state_word, event_line, one_line, lines_from, event_lines}
use Rattle.preamble.specs.Preamble.{Opening, opens, refused, preamble}
use Rattle.listing_text.specs.Listing.{told, lends, section_lines, after_preamble, listing}

-- ---- numbers, bytes and lines

few_digits : (k most n : ℕ) → 1 ≤ k → n < 10 ^ k → length (decimal_of most n) ≤ k
unfolding decimal_of
few_digits k zero n l h = omega arith
few_digits zero (suc most) n l h = absurd (omega arith)
few_digits (suc zero) (suc most) n l h =
    cond_ind (ltb n 10) _ _ (λ (x : List ℕ). length x ≤ 1) (λ t. omega arith) (λ t. let o : 10 ≤ n = ltb-false n 10 t in absurd (omega arith))
few_digits (suc (suc k)) (suc most) n l h =
    let two : 10 ^ suc (suc k) ≡ 10 * 10 ^ suc k = pow-succ' 10 (suc k) in
    cond_ind (ltb n 10) _ _ (λ (x : List ℕ). length x ≤ suc (suc k)) (λ t. omega arith)
    (λ t. rw length-append (omega (arith, few_digits (suc k) most (n / 10) (omega arith) (omega arith))))

most_digits : (most n : ℕ) → length (decimal_of most n) ≤ most
unfolding decimal_of
most_digits zero n = omega arith
most_digits (suc most) n = cond_ind (ltb n 10) _ _ (λ (x : List ℕ). length x ≤ suc most) (λ t. omega arith) (λ t. rw length-append (omega (arith, most_digits most (n / 10))))

length_decimal : (n : ℕ) → length (decimal n) ≤ 20
unfolding decimal
length_decimal n = most_digits 20 n

ten_digits : (n : ℕ) → n < 4294967296 → length (decimal n) ≤ 10
unfolding decimal
ten_digits n h = few_digits 10 20 n (omega arith) (omega arith)

length_hex : (bs : List ℕ) → length (hex bs) ≡ 2 * length bs
unfolding hex
length_hex [] = refl
length_hex (b ∷ bs) = omega (arith, length_hex bs)

length_time_line : (u : ℕ) → length (time_line u) ≤ 26
unfolding time_line
length_time_line u = simp length-append (omega (arith, length_decimal u))

length_pair_line : (word : List ℕ) (a b : ℕ) → length (pair_line word a b) ≤ length word + 42
unfolding pair_line
length_pair_line word a b = simp length-append (omega (arith, length_decimal a, length_decimal b))

length_hex_line : (word : List ℕ) (r : ℕ) (bs : List ℕ) → r < 4294967296 → length (hex_line word r bs) ≤ length word + 12 + 2 * length bs
unfolding hex_line
length_hex_line word r bs h = simp length-append (omega (arith, ten_digits r h, length_hex bs))

length_state_word : (s : States) → length (state_word s) ≤ 5
length_state_word Two = omega arith
length_state_word Nine = omega arith

-- ---- bytes of records

bytes_cons : (x : ℕ) (l : List ℕ) → x < 256 → Bytes l → Bytes (x ∷ l)
bytes_cons x l h b zero = h
bytes_cons x l h b (suc i) = b i

bytes_append : (a b : List ℕ) → Bytes a → Bytes b → Bytes (a ++ b)
bytes_append [] b ha hb i = hb i
bytes_append (x ∷ a) b ha hb zero = ha 0
bytes_append (x ∷ a) b ha hb (suc i) = bytes_append a b (λ k. ha (suc k)) hb i

kind_byte : (s : States) → kind_of s < 256
kind_byte Two = omega arith
kind_byte Nine = omega arith

record_bytes_lem : (r : Record) → Bytes (record_bytes r)
unfolding record_bytes
record_bytes_lem (Time u) = bytes_cons 1 (big_bytes 8 u) (omega arith) (big_bytes_bytes 8 u)
record_bytes_lem (Value s r a n) =
    bytes_cons (kind_of s) (big_bytes 4 r ++ big_bytes 4 a ++ big_bytes 4 n) (kind_byte s) (bytes_append (big_bytes 4 r ++ big_bytes 4 a) (big_bytes 4 n) (bytes_append (big_bytes 4 r) (big_bytes 4 a) (big_bytes_bytes 4 r) (big_bytes_bytes 4 a)) (big_bytes_bytes 4 n))
record_bytes_lem (Real r u) = bytes_cons 4 (big_bytes 4 r ++ big_bytes 8 u) (omega arith) (bytes_append (big_bytes 4 r) (big_bytes 8 u) (big_bytes_bytes 4 r) (big_bytes_bytes 8 u))

rendered_bytes : (start : ℕ) (es : List Event) → Bytes (rendered start es)
unfolding rendered
rendered_bytes start [] i = omega arith
rendered_bytes start (e ∷ es) i = bytes_append (record_bytes (record_of start e)) (rendered (start + length (event_value e)) es) (record_bytes_lem (record_of start e)) (rendered_bytes (start + length (event_value e)) es) i

-- ---- one record

module _ (s values pre rest : List ℕ) (b : Bytes s) (r : Record) (j : ℕ) (w : Stands s (length values) true (length pre) r j) where
  -- where the next record starts, and how long the line is at most
  abbrev Costs : (size n : ℕ) → Type 0
  Costs size n = (j ≡ length pre + size) × (9 * length (event_line values r) ≤ 26 * size + 18 * n)

  reference_small : length pre + 5 ≤ length s → big (part s (length pre + 1) 4) < 4294967296
  unfolding fixed
  reference_small h = part_below true s (length pre + 1) 4 b (omega arith)

  kind_is : (k : ℕ) (l : List ℕ) → s ≡ pre ++ k ∷ l → get_or s (length pre) 0 ≡ k
  kind_is k l q = ap (λ (x : List ℕ). get_or x (length pre) 0) q ∙ get_or-append_seam pre k l 0

  time_cost : (u : ℕ) → s ≡ pre ++ (record_bytes (Time u) ++ rest) → Costs 9 0
  unfolding record_bytes record_at event_length event_line
  time_cost u q =
      let k : get_or s (length pre) 0 ≡ 1 = kind_is 1 (big_bytes 8 u ++ rest) q in
      let is : r ≡ Time (big (part s (length pre + 1) 8)) = w.is ∙ rw k in
      (w.next ∙ rw k, rw is (omega (arith, length_time_line (big (part s (length pre + 1) 8)))))

  real_cost : (a u : ℕ) → s ≡ pre ++ (record_bytes (Real a u) ++ rest) → Costs 13 0
  unfolding record_bytes record_at event_length event_line
  real_cost a u q =
      let k : get_or s (length pre) 0 ≡ 4 = kind_is 4 (big_bytes 4 a ++ big_bytes 8 u ++ rest) q in
      let is : r ≡ Real (big (part s (length pre + 1) 4)) (big (part s (length pre + 5) 8)) = w.is ∙ rw k in
      let n : j ≡ length pre + 13 = w.next ∙ rw k in (
        n,
        rw is
            (omega (arith, length_hex_line real_word (big (part s (length pre + 1) 4)) (big_bytes 8 (big (part s (length pre + 5) 8))) (reference_small (omega (arith, n, w.within))), length_big_bytes 8 (big (part s (length pre + 5) 8)))),
      )

  -- the length that a value's record says is no more than the value's
  length_read : (k a c n : ℕ) → s ≡ pre ++ ((k ∷ big_bytes 4 a ++ big_bytes 4 c ++ big_bytes 4 n) ++ rest) → big (part s (length pre + 9) 4) ≤ n
  unfolding part
  length_read k a c n q =
      let long : length (pre ++ (k ∷ big_bytes 4 a ++ big_bytes 4 c)) ≡ length pre + 9 = simp (length-append, length_big_bytes) (omega arith) in
      let split : s ≡ (pre ++ (k ∷ big_bytes 4 a ++ big_bytes 4 c)) ++ (big_bytes 4 n ++ rest) =
      q ∙ (ap (λ (x : List ℕ). pre ++ x) (append_assoc (k ∷ big_bytes 4 a ++ big_bytes 4 c) (big_bytes 4 n) rest) ∙ sym (append_assoc pre (k ∷ big_bytes 4 a ++ big_bytes 4 c) (big_bytes 4 n ++ rest))) in
      let found : take 4 (drop (length pre + 9) s) ≡ big_bytes 4 n =
      rw (split, drop_at (pre ++ (k ∷ big_bytes 4 a ++ big_bytes 4 c)) (big_bytes 4 n ++ rest) (length pre + 9) long, take_at (big_bytes 4 n) rest 4 (length_big_bytes 4 n)) in
      rw (found, big_big_bytes 4 n) (mod-le n (256 ^ 4))

  value_cost : (st : States) (a c n : ℕ) → s ≡ pre ++ (record_bytes (Value st a c n) ++ rest) → Costs 13 n
  unfolding record_bytes record_at event_length event_line part
  value_cost Two a c n q =
      let k : get_or s (length pre) 0 ≡ 2 = kind_is 2 (big_bytes 4 a ++ big_bytes 4 c ++ big_bytes 4 n ++ rest) q in
      let is : r ≡ Value Two (big (part s (length pre + 1) 4)) (big (part s (length pre + 5) 4)) (big (part s (length pre + 9) 4)) = w.is ∙ rw k in
      let m : j ≡ length pre + 13 = w.next ∙ rw k in
      let low : big (part s (length pre + 9) 4) ≤ n = length_read 2 a c n q in (
        m,
        rw is
            (omega (arith, length_hex_line (state_word Two) (big (part s (length pre + 1) 4)) (part values (big (part s (length pre + 5) 4)) (big (part s (length pre + 9) 4))) (reference_small (omega (arith, m, w.within))), length-take (big (part s (length pre + 9) 4)) (drop (big (part s (length pre + 5) 4)) values))),
      )
  value_cost Nine a c n q =
      let k : get_or s (length pre) 0 ≡ 3 = kind_is 3 (big_bytes 4 a ++ big_bytes 4 c ++ big_bytes 4 n ++ rest) q in
      let is : r ≡ Value Nine (big (part s (length pre + 1) 4)) (big (part s (length pre + 5) 4)) (big (part s (length pre + 9) 4)) = w.is ∙ rw k in
      let m : j ≡ length pre + 13 = w.next ∙ rw k in
      let low : big (part s (length pre + 9) 4) ≤ n = length_read 3 a c n q in (
        m,
        rw is
            (omega (arith, length_hex_line (state_word Nine) (big (part s (length pre + 1) 4)) (part values (big (part s (length pre + 5) 4)) (big (part s (length pre + 9) 4))) (reference_small (omega (arith, m, w.within))), length-take (big (part s (length pre + 9) 4)) (drop (big (part s (length pre + 5) 4)) values))),
      )

  record_cost : (start : ℕ) (e : Event) → s ≡ pre ++ (record_bytes (record_of start e) ++ rest) → Costs (length (record_bytes (record_of start e))) (length (event_value e))
  unfolding record_of event_value
  record_cost start (time u) q = rw (length_time u) (time_cost u q)
  record_cost start (value v st a bs) q = rw (length_value st a start (length bs)) (value_cost st a start (length bs) q)
  record_cost start (real a u) q = rw (length_real a u) (real_cost a u q)

-- ---- all records

module _ (s values : List ℕ) (b : Bytes s) where
  abbrev Bounded : ℕ → Type 0
  Bounded fuel =
      (es : List Event) (pre : List ℕ) (start : ℕ) → s ≡ pre ++ rendered start es → 9 * length (lines_from s values fuel (length pre)) ≤ 26 * length (rendered start es) + 18 * length (values_of es)

  one_cost : (fuel : ℕ) → Bounded fuel → (n : Next) (es : List Event) (pre : List ℕ) (start : ℕ) → next_event s (length values) true (length pre) ≡ n → s ≡ pre ++ rendered start es
      → 9 * length (one_line s values n (λ k. lines_from s values fuel k)) ≤ 26 * length (rendered start es) + 18 * length (values_of es)
  unfolding one_line rendered values_of
  one_cost fuel more next.End es pre start e q = omega arith
  one_cost fuel more (next.Bad m p) es pre start e q = omega arith
  one_cost fuel more (next.Event r j) [] pre start e q =
      let w = found_event s (length values) true (length pre) e in
      let h : length s ≡ length pre = ap length q ∙ ap length (append-nil pre) in absurd (omega (arith, w.ahead, w.within))
  one_cost fuel more (next.Event r j) (x ∷ xs) pre start e q =
      let w = found_event s (length values) true (length pre) e in
      let c = record_cost s values pre (rendered (start + length (event_value x)) xs) b r j w start x q in
      let here : length (pre ++ record_bytes (record_of start x)) ≡ j = length-append pre (record_bytes (record_of start x)) ∙ sym c.0 in
      let rest = more xs (pre ++ record_bytes (record_of start x)) (start + length (event_value x)) (q ∙ sym (append_assoc pre (record_bytes (record_of start x)) (rendered (start + length (event_value x)) xs))) in
      simp length-append (omega (arith, c.1, rw here at rest))

  rendered_cost : (fuel : ℕ) → Bounded fuel
  unfolding lines_from
  rendered_cost zero es pre start q = omega arith
  rendered_cost (suc fuel) es pre start q = one_cost fuel (rendered_cost fuel) (next_event s (length values) true (length pre)) es pre start refl q

pub length_event_lines : (es : List Event) (values : List ℕ) → 9 * length (event_lines (rendered 0 es) values) ≤ 26 * length (rendered 0 es) + 18 * length (values_of es)
unfolding event_lines
length_event_lines es values = rendered_cost (rendered 0 es) values (rendered_bytes 0 es) (length (rendered 0 es)) es [] 0 refl

-- ---- all of it

length_section_lines : (t : Lists) (flag : Bool) (s : List ℕ) → length (section_lines t flag s) ≤ 65536
unfolding section_lines told
length_section_lines t flag s =
    cond_ind (eqb x.answer.number 0) _ _ (λ (l : List ℕ). length l ≤ 65536)
    (λ e. let z : x.answer.number ≡ 0 = eqb-true _ 0 e in
    let d = sections_1 t (ordinary flag) s lends in
    let f = sections_2 t (ordinary flag) s lends in
    let events : take x.answer.events x.events ≡ rendered 0 (events_from t (scan_sections t (ordinary flag) s)) = f.events z in
    let values : take x.answer.values x.values ≡ values_of (events_from t (scan_sections t (ordinary flag) s)) = f.values z in
    rw (events, length-append)
    (omega (arith, length_event_lines (events_from t (scan_sections t (ordinary flag) s)) x.values, ap length events, ap length values, length-take x.answer.events x.events, length-take x.answer.values x.values, d.events.within, d.values.within, length_pair_line done_word x.answer.read x.answer.steps)))
    (λ e. omega (arith, length_pair_line refused_word x.answer.number x.answer.place))
  where
    x : Left
    x = read_sections t (ordinary flag) s lends

length_after : (s : List ℕ) (o : Opening) → length (after_preamble s o) ≤ 65536
unfolding after_preamble
length_after s (opens t flag at) = length_section_lines t flag (drop at s)
length_after s (refused n p) = omega (arith, length_pair_line refused_word n p)

-- whatever the input
pub length_listing : (s : List ℕ) → length (listing s) ≤ 65536
unfolding listing
length_listing s =
    cond_ind (leb (length s) 32768) _ _ (λ (l : List ℕ). length l ≤ 65536) (λ e. length_after s (preamble s)) (λ e. omega (arith, length_pair_line refused_word 1 32768))

-- so a room of 65,536 bytes holds all of it
pub prints : (s : List ℕ) {room room' : List ℕ} {n : ℕ} → length room ≡ 65536 → Holds room (listing s) room' n → Prints room (listing s) room' n
prints s e h = holds_all h (omega (arith, length_listing s))

pub ruleset print_laws = (prints, holds_fits, holds_front)
