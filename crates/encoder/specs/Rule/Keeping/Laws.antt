-- The time rule keeps of the records of its input those that the clock keeps, in order, their bytes unaltered.
-- Assumes nothing.
use Prim.Native.Nat.{ℕ, zero, suc, ◌+◌, ◌-◌, ◌≤◌, ◌<◌}
use Rattle.std.proofs.Math.Path.{◌≡◌, refl}
use Rattle.std.proofs.Common.{sym, ◌∙◌, add-zero, arith, leb-true, leb-false, le-leb, length-append, drop_of_length-le, take-append-drop}
use Rattle.std.specs.Prelude.{◌≢◌, Bool, true, false, ◌||◌, length, get_or, drop, leb, eqb}
use mathlib.Core.List.{List, [], ◌∷◌, ◌++◌, append_assoc, append-nil, Sublistᴰ}
use Rattle.std.proofs.Math.Nat.{zero-add, add_assoc}
use Rattle.std.proofs.lemmas.Bool.{eqb-false, lt-leb}
use Rattle.std.proofs.Math.Seq.{drop-drop}
use Rattle.slices.specs.Choice.{cond_ind}
use Rattle.slices.specs.Splice.{part}
use Rattle.slices.specs.Splice.Laws.{length_part}
use Rattle.records.specs.declared.Record.{Record}
use Rattle.event_streams.specs.Next.{Next, Event, End, Bad}
use Rattle.event_streams.specs.Stream.{event_length, record_at, is_time, in_values, judged, next_event}
use Rattle.encoder.specs.declared.Clock.{Clock}
use Rattle.encoder.specs.Rule.{keeps, ticks, times, Kept, ruled, one, rule, time_rule}
use Rattle.encoder.specs.Rule.Keeping.{Piece, piece_at, records_from, records, bytes_of, times_of, kept_of, unset, nothing, RecordNumber, Keeps}

-- what is kept is a part of what there is, in the same order
pub kept_part : (c : Clock) (ps : List Piece) → Sublistᴰ (kept_of c ps) ps
unfolding kept_of
kept_part c [] = Sublistᴰ.slnil
kept_part c (p ∷ ps) =
    let rest = kept_part (ticks c p.says) ps in
    cond_ind (keeps c p.says) _ _ (λ l. Sublistᴰ l (p ∷ ps)) (λ h. Sublistᴰ.cons-cons refl rest) (λ h. Sublistᴰ.cons rest)

-- what stands at a place: the stream's end, or a whole record, or a refusal
pub next_is : (s : List ℕ) (values : ℕ) (P : Next → Type 0) (begun : Bool) (i : ℕ) → (length s ≤ i → P End)
    → (i < length s → event_length (get_or s i 0) ≢ 0 → i + event_length (get_or s i 0) ≤ length s → P (Event (record_at s i) (i + event_length (get_or s i 0))))
    → ((n : ℕ) → RecordNumber n → P (Bad n i)) → P (next_event s values begun i)
unfolding next_event judged
next_is s values P begun i end event bad =
    cond_ind (leb (length s) i) _ _ P (λ a. end (leb-true _ _ a))
    (λ a. cond_ind (eqb (event_length (get_or s i 0)) 0) _ _ P (λ b. bad 17 (omega arith, omega arith, λ e. omega arith))
    (λ b. cond_ind (leb (i + event_length (get_or s i 0)) (length s)) _ _ P
    (λ l. cond_ind (is_time (record_at s i) || begun) _ _ P
    (λ d. cond_ind (in_values values (record_at s i)) _ _ P (λ f. event (leb-false _ _ a) (eqb-false _ _ b) (leb-true _ _ l)) (λ f. bad 20 (omega arith, omega arith, λ e. omega arith)))
    (λ d. bad 18 (omega arith, omega arith, λ e. omega arith)))
    (λ l. bad 7 (omega arith, omega arith, λ e. omega arith))))

pub first_record : (s : List ℕ) (fuel i : ℕ) → i < length s → records_from s (suc fuel) i ≡ piece_at s i ∷ records_from s fuel (i + event_length (get_or s i 0))
unfolding records_from
first_record s fuel i l = rw (lt-leb (length s) i l)

module _ (s : List ℕ) (values room : ℕ) where
  -- where all was read: from a place on, behind what was kept before
  record KeepsFrom (fuel : ℕ) (c : Clock) (k : Kept) (i i' : ℕ) (k' : Kept) : Type 0 where
    read : i' ≡ length s
    whole : bytes_of (records_from s fuel i) ≡ drop i s
    events : k'.events ≡ k.events ++ bytes_of (kept_of c (records_from s fuel i))
    steps : k'.steps ≡ k.steps + times_of (kept_of c (records_from s fuel i))
    fits : length k.events ≤ room → length k'.events ≤ room

  keeps_end : (fuel : ℕ) (c : Clock) (k : Kept) (i i' : ℕ) (k' : Kept) → records_from s fuel i ≡ [] → length s ≤ i → i ≤ length s → ruled i k ≡ ruled i' k' → KeepsFrom fuel c k i i' k'
  unfolding bytes_of times_of kept_of
  keeps_end fuel c k i i' k' n a b e =
      let f : k ≡ k' = cc in
      let g : i ≡ i' = cc in
      record {
        read = omega arith;
        whole = rw n (sym (drop_of_length-le s a));
        events = rw (n, f) (sym (append-nil k'.events));
        steps = rw (n, f) (sym (add-zero k'.steps));
        fits = λ h. rw (← f) h;
      }

  -- one record: it is kept or not, and the rest follows
  module _ (fuel : ℕ) (c : Clock) (k : Kept) (i i' : ℕ) (k' : Kept) (l : i < length s) (h : i + event_length (get_or s i 0) ≤ length s) where
    abbrev n : ℕ
    n = event_length (get_or s i 0)

    abbrev r : Record
    r = record_at s i

    first : records_from s (suc fuel) i ≡ piece_at s i ∷ records_from s fuel (i + n)
    first = first_record s fuel i l

    part_drop : part s i n ++ drop (i + n) s ≡ drop i s
    unfolding part
    part_drop = rw (← drop-drop n i s) (take-append-drop n (drop i s))

    more_whole : bytes_of (records_from s fuel (i + n)) ≡ drop (i + n) s → bytes_of (records_from s (suc fuel) i) ≡ drop i s
    unfolding bytes_of piece_at
    more_whole e = rw (first, e) part_drop

    long : i + n - i ≡ n
    long = omega arith

    keeps_kept : keeps c r ≡ true → length k.events + (i + n - i) ≤ room
        → KeepsFrom fuel (ticks c r) (record { events = k.events ++ part s i (i + n - i); steps = k.steps + times r }) (i + n) i' k' → KeepsFrom (suc fuel) c k i i' k'
    unfolding bytes_of times_of kept_of piece_at
    keeps_kept q f m = record {
      read = m.read;
      whole = more_whole m.whole;
      events = rw (first, q) (m.events ∙ rw (long, append_assoc));
      steps = rw (first, q) (m.steps ∙ add_assoc k.steps (times r) _);
      fits = λ w. m.fits (rw (length-append, long, length_part s i n h) (rw long at f));
    }

    keeps_dropped : keeps c r ≡ false → KeepsFrom fuel (ticks c r) k (i + n) i' k' → KeepsFrom (suc fuel) c k i i' k'
    unfolding kept_of piece_at
    keeps_dropped q m = record {
      read = m.read;
      whole = more_whole m.whole;
      events = rw (first, q) m.events;
      steps = rw (first, q) m.steps;
      fits = m.fits;
    }

  keeping : (fuel : ℕ) (c : Clock) (k : Kept) (i i' : ℕ) (k' : Kept) → length s ≤ i + fuel → i ≤ length s → rule s values room fuel c k i ≡ ruled i' k' → KeepsFrom fuel c k i i' k'
  unfolding rule one records_from
  keeping zero c k i i' k' h l = λ e. keeps_end zero c k i i' k' refl (omega arith) l e
  keeping (suc fuel) c k i i' k' h l =
      next_is s values (λ x. one s values room c k i x (λ c₁ k₁ j. rule s values room fuel c₁ k₁ j) ≡ ruled i' k' → KeepsFrom (suc fuel) c k i i' k') c.begun i
      (λ a e. keeps_end (suc fuel) c k i i' k' (rw (le-leb (length s) i a)) a l e)
      (λ a b d. cond_ind (keeps c (record_at s i)) _ _ (λ y. y ≡ ruled i' k' → KeepsFrom (suc fuel) c k i i' k')
      (λ q. cond_ind (leb (length k.events + (i + event_length (get_or s i 0) - i)) room) _ _ (λ y. y ≡ ruled i' k' → KeepsFrom (suc fuel) c k i i' k')
      (λ f e. keeps_kept fuel c k i i' k' a d q (leb-true _ _ f) (keeping fuel (ticks c (record_at s i)) (record { events = k.events ++ part s i (i + event_length (get_or s i 0) - i); steps = k.steps + times (record_at s i) }) (i + event_length (get_or s i 0)) i' k' (omega (arith, b)) d e))
      (λ f e. let z : ◌≡◌ {A = ℕ} 0 1 = cc in absurd (omega arith)))
      (λ q e. keeps_dropped fuel c k i i' k' a d q (keeping fuel (ticks c (record_at s i)) k (i + event_length (get_or s i 0)) i' k' (omega (arith, b)) d e)))
      (λ m o e. let z : ◌≡◌ {A = ℕ} 0 1 = cc in absurd (omega arith))

  pub rule_keeps : (i : ℕ) (k : Kept) → time_rule s values room ≡ ruled i k → Keeps s values room i k
  unfolding time_rule records
  rule_keeps i k e =
      let m = keeping (length s) unset nothing 0 i k (omega arith) (omega arith) e in
      record { read = m.read; whole = m.whole; events = m.events; steps = m.steps ∙ zero-add _; fits = m.fits (omega arith) }
