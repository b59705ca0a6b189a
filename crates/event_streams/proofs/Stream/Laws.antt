-- Laws of an event stream: what is known of the record that stands at a place.
-- Assumes nothing.
use Rattle.std.specs.Prelude.{◌≡◌, refl, ℕ, ◌+◌, ◌≤◌, ◌<◌, Bool, true, ◌||◌, List, leb, eqb, length, get_or}
use Rattle.std.proofs.Common.{subst, arith}
use borrow.Author.Tests.{le-leb, leb-true, leb-false, eqb-false}
use Rattle.slices.specs.Choice.{cond_ind}
use Rattle.records.specs.declared.Record.{Record}
use Rattle.event_streams.specs.Next.{Next, Event, End, Bad}
use Rattle.event_streams.specs.Stream.{event_length, record_at, is_time, in_values, judged, next_event}

module _ (s : List ℕ) (values : ℕ) (begun : Bool) (i : ℕ) where
  -- the record `r` stands at `i` and ends before `j`
  pub record Stands (r : Record) (j : ℕ) : Type 0 where
    pub is : r ≡ record_at s i
    pub next : j ≡ i + event_length (get_or s i 0)
    pub ahead : i < j
    pub within : j ≤ length s
    pub may : (is_time r || begun) ≡ true
    pub inside : in_values values r ≡ true

  abbrev pub Found : Next → Type 0
  Found (Event r j) = Stands r j
  Found End = length s ≤ i
  Found (Bad number place) = (place ≡ i) × (i < length s)

  pub found : Found (next_event s values begun i)
  unfolding next_event judged
  found =
      cond_ind (leb (length s) i) _ _ Found (λ e. leb-true _ _ e)
      (λ e. cond_ind (eqb (event_length (get_or s i 0)) 0) _ _ Found (λ k. (refl, leb-false (length s) i e))
      (λ k. cond_ind (leb (i + event_length (get_or s i 0)) (length s)) _ _ Found
      (λ w. cond_ind (is_time (record_at s i) || begun) _ _ Found
      (λ m. cond_ind (in_values values (record_at s i)) _ _ Found
      (λ v. record { is = refl; next = refl; ahead = omega (arith, eqb-false (event_length (get_or s i 0)) 0 k); within = leb-true _ _ w; may = m; inside = v })
      (λ v. (refl, leb-false (length s) i e)))
      (λ m. (refl, leb-false (length s) i e)))
      (λ w. (refl, leb-false (length s) i e))))

  pub found_event : {r : Record} {j : ℕ} → next_event s values begun i ≡ Event r j → Stands r j
  found_event e = subst Found e found

  pub found_end : next_event s values begun i ≡ End → length s ≤ i
  found_end e = subst Found e found

  pub past_end : length s ≤ i → next_event s values begun i ≡ End
  unfolding next_event
  past_end h = rw (le-leb (length s) i h)
