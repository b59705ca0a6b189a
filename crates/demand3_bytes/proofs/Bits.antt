-- The bits of an event, found in the value buffer by its record.
-- Assumes nothing.
use Rattle.std.specs.Prelude.{ℕ, ◌+◌, ◌-◌, ◌*◌, ◌/◌, ◌%◌, ◌^◌, ◌≤◌, ◌<◌, ◌≡◌, refl, List, ◌∷◌, ◌++◌, get_or}
use Rattle.std.proofs.Math.Path.{ap}
use Rattle.std.proofs.Common.{◌∙◌, append_assoc, zero-add, mod-eq_of_lt, arith, get_or-append-add}
use Rattle.std.proofs.Math.ListN.{length, length-append, get_or-append}
use Rattle.slices.specs.Splice.{part}
use Rattle.numbers.specs.Fixed.{big, big_bytes}
use Rattle.numbers.specs.Fixed.Laws.{big_big_bytes}
use Rattle.states.specs.declared.States.{States}
use Rattle.states.specs.declared.States.TheVariants.{Two, Nine}
use Rattle.states.specs.Kind.{bits, per_byte, bytes_required}
use Rattle.states.specs.Packed.{packed, field_at, value_place}
use Rattle.states.specs.Packed.Laws.{bit_fits}
use Rattle.states.specs.Packed.Bytes.{get_d_past, length_packed, Small, bytes_field}
use Rattle.tables.specs.Lists.{Lists}
use Rattle.rules.specs.Vector.{Cause, shown}
use Rattle.rules.specs.Gather.{Happening, of}
use Rattle.records.specs.declared.Record.TheVariants.{Value}
use Rattle.records.specs.Event.{record_bytes, record_of, event_value}
use Rattle.event_streams.specs.Stream.{record_at}
use Rattle.gather.specs.Run.{events_of, of_vector}
use Rattle.gather.specs.Run.Rendered.{values_of}
use Rattle.demand3_bytes.specs.Statements.{label_of, bit_in, shows, state_in, Shows}
use Rattle.demand3_bytes.specs.Trace.{labelled}
use Rattle.demand3_bytes.proofs.Trace.{event_of, size, events_append, values_append}

-- ---- a field of bytes that lie among others

place_of : (s : States) (at n k : ℕ)
    → (value_place s at n k / 8 ≡ at + (n - 1 - k / per_byte s)) × (value_place s at n k % 8 ≡ k % per_byte s * bits s)
unfolding value_place
place_of Two at n k = omega arith
place_of Nine at n k = omega arith

inside : (s : States) (n k : ℕ) → k < per_byte s * n → n - 1 - k / per_byte s < n
inside Two n k h = omega arith
inside Nine n k h = omega arith

field_among : (s : States) (pre bs post : List ℕ) (k : ℕ) → k < per_byte s * length bs
    → field_at (bits s) (value_place s (length pre) (length bs) k) (pre ++ (bs ++ post)) ≡ field_at (bits s)
    (value_place s 0 (length bs) k) bs
unfolding field_at
field_among s pre bs post k h =
    let a = place_of s (length pre) (length bs) k in
    let b = place_of s 0 (length bs) k in
    rw (
      a.0,
      a.1,
      b.0,
      b.1,
      zero-add,
      get_or-append-add pre (bs ++ post)
          (length bs - 1 - k / per_byte s) 0,
      get_or-append bs post 0 (length bs - 1 - k / per_byte s)
          (inside s (length bs) k h),
    )

-- ---- a value record read from its bytes

fields : (s : States) (reference start n : ℕ)
    → record_at (record_bytes (Value s reference start n)) 0 ≡ Value s (big (big_bytes 4 reference))
    (big (big_bytes 4 start)) (big (big_bytes 4 n))
unfolding record_at record_bytes big_bytes part
fields Two reference start n = refl
fields Nine reference start n = refl

value_read : (s : States) (reference start n : ℕ) → start < 2 ^ 32 → n < 2 ^ 32
    → record_at (record_bytes (Value s reference start n)) 0 ≡ Value s (reference % 2 ^ 32) start n
value_read s reference start n a b =
    fields s reference start n ∙ rw
    (big_big_bytes 4 reference, big_big_bytes 4 start, big_big_bytes 4 n, mod-eq_of_lt a, mod-eq_of_lt b)

-- ---- an event of a vector

module _ (t : Lists) (h : List Happening) (values zeros : List ℕ) (held : values ≡ values_of (events_of t h) ++ zeros)
    (few : size t h < 2 ^ 32)
    (v : ℕ) (c : Cause) (l : List ℕ) (before behind : List Happening) (split : h ≡ before ++ of v (shown c l) ∷ behind)
    (small : Small (state_in t v) l) where
  abbrev st : States
  st = state_in t v

  abbrev bs : List ℕ
  bs = packed st l

  abbrev pre : List ℕ
  pre = values_of (events_of t before)

  abbrev post : List ℕ
  post = values_of (events_of t behind)

  all_values : values_of (events_of t h) ≡ pre ++ (bs ++ post)
  unfolding events_of of_vector values_of event_value
  all_values =
      ap (λ k. values_of (events_of t k)) split ∙ rw (
        events_append t before (of v (shown c l) ∷ behind),
        values_append t (events_of t before)
            (events_of t (of v (shown c l) ∷ behind)),
      )

  in_buffer : values ≡ pre ++ (bs ++ (post ++ zeros))
  in_buffer = held ∙ rw (all_values, append_assoc pre (bs ++ post) zeros, append_assoc bs post zeros)

  total : length pre + length bs ≤ size t h
  total = omega (arith, ap length all_values, length-append pre (bs ++ post), length-append bs post)

  wide : length bs ≡ bytes_required st (length l)
  wide = length_packed st l

  says : record_at (record_bytes (Value st (get_or t.vec_refs v 0) (length pre) (length bs))) 0 ≡ Value st
      (get_or t.vec_refs v 0 % 2 ^ 32) (length pre) (length bs)
  says = value_read st (get_or t.vec_refs v 0) (length pre) (length bs) (omega (arith, total)) (omega (arith, total))

  packed_field : (n k : ℕ) → n ≡ bytes_required st (length l) → k < per_byte st * n
      → field_at (bits st) (value_place st 0 n k) bs ≡ get_or l k 0
  unfolding packed
  packed_field n k e o = rw e (bytes_field st (bytes_required st (length l)) l small k (rw (← e) o))

  bit : (k : ℕ) → k < per_byte st * length bs → shows values (labelled (size t before) (event_of t v l)) k ≡ get_or l k 0
  unfolding shows bit_in labelled record_of
  bit k o = rw says (rw in_buffer (field_among st pre bs (post ++ zeros) k o ∙ packed_field (length bs) k wide o))

  pub shows_event : Shows t v (length l) values (labelled (size t before) (event_of t v l)) l
  unfolding labelled label_of record_of
  shows_event = record {
    label = refl;
    start = length pre;
    says = rw (← wide) says;
    inside = rw (← wide, held, length-append (values_of (events_of t h)) zeros) (omega (arith, total));
    fits = small;
    bit = λ k o. bit k (rw wide (bit_fits st (length l) k o));
    unused = λ k o d. bit k (rw wide d) ∙ get_d_past l k o;
  }
