-- The theorems of the bench, proved over step ends.
-- Assumes nothing.
use Rattle.std.proofs.Math.Path.{◌≡◌, ap}
use Rattle.std.specs.Prelude.{refl, ℕ, zero, suc, ◌+◌, ◌^◌, ◌≤◌, ◌<◌, Bool, true, false, cond, get_or, leb, eqb}
use Rattle.std.proofs.Common.{◌∙◌, inl, inr, length-append}
use mathlib.Core.List.{List, [], ◌∷◌, ◌++◌, append_assoc, append-nil}
use native.Mathlib.Omega.{arith}
use borrow.Author.Tests.{leb-true, eqb-false}
use Rattle.std.proofs.Math.ListN.{length}
use Rattle.slices.specs.Choice.{cond_ind}
use Rattle.numbers.specs.Fixed.Laws.{Bytes}
use Rattle.number_writer.specs.Ended as ended
use Rattle.step_ends.specs.declared.Names.{Names}
use Rattle.step_ends.specs.declared.Watch.{Watch}
use Rattle.step_ends.specs.Steps.{Steps, step, done, refused, unseen, step_ends, rose, rises_from, rises, count}
use Rattle.step_ends.specs.Steps.Laws.{Ends, ends}
use Rattle.step_ends.specs.Steps.Shown.{Narrow, Shown, shown, rises_most}
use Rattle.sessions.specs.declared.Bench.{Bench}
use Rattle.sessions.specs.Places.{is_free, place_of, place_for, counted, empty}
use Rattle.sessions.specs.Places.Laws.{total, Whole, counted_whole, dropped_whole, counted_total, dropped_total, empty_whole, empty_total, Below, counted_below, dropped_below, empty_below, counted_distinct, dropped_distinct, empty_distinct}
use Rattle.sessions.specs.Places.Laws.Tally.{onto, without, Agrees, empty_agrees, counted_agrees, closed_agrees, dropped_agrees}
use Rattle.fragment_records.specs.Output.{Out, fragment, closed, held, bytes_of, records_in, held_at, held_from, held_of, fragments_of, counts_in}
use Rattle.fragment_records.specs.Output.Laws.{fragments_append, counts_append, held_total, held_fragments}
use Rattle.fragment_records.specs.Output.Back.{Fits, records_back}
use Rattle.fragments.specs.Counting.{Does, went, stops, closed_of, step_end, finished, on_does, runs, count_fragments}
use Rattle.fragments.specs.Counting.Laws.{After, step_after, Stops, step_stops}
use Rattle.fragments.specs.Theorems.{fragments_from, Tallies, Accounts, Why, Closes, Good, onward, benches, Every}

-- ---- records that fit their fields

-- their times and sessions do
abbrev Named : List Out → Type 0
Named [] = Unit {0}
Named (fragment time session ∷ outs) = (time < 256 ^ 8) × (session < 256 ^ 4) × Named outs
Named (closed time session count ∷ outs) = (time < 256 ^ 8) × (session < 256 ^ 4) × Named outs
Named (held session count ∷ outs) = (session < 256 ^ 4) × Named outs

named_append : (a b : List Out) → Named a → Named b → Named (a ++ b)
named_append [] b h g = g
named_append (fragment t x ∷ a) b h g = (h.0, h.1, named_append a b h.2 g)
named_append (closed t x n ∷ a) b h g = (h.0, h.1, named_append a b h.2 g)
named_append (held x n ∷ a) b h g = (h.0, named_append a b h.1 g)

-- .. and each count, where their sum does
fits : (outs : List Out) → Named outs → counts_in outs < 256 ^ 8 → Fits outs
unfolding counts_in
fits [] h l = tt
fits (fragment t x ∷ outs) h l = (h.0, h.1, fits outs h.2 l)
fits (closed t x n ∷ outs) h l = (h.0, h.1, omega arith, fits outs h.2 (omega arith))
fits (held x n ∷ outs) h l = (h.0, omega arith, fits outs h.1 (omega arith))

-- ---- one step's end

-- a fragment where there was a rise, and one more in the counts
pub record Counts (b : Bench) (fs : List Out) (n : ℕ) (c : Bench) (outs : List Out) : Type 0 where
  pub whole : Whole c
  pub counts : counts_in outs + total c.counts ≡ total b.counts + n
  pub fragments : fragments_of outs ≡ fs

-- what a tally says of the records that follow, from the bench before and the one after
abbrev Tallied : (b d : Bench) → List Out → Type 0
Tallied b d new = (c : ℕ → ℕ) → Agrees b c → (rest : List Out) → ((e : ℕ → ℕ) → Agrees d e → Tallies e rest) → Tallies c (new ++ rest)

-- .. and of their times and sessions
abbrev Naming : Bench → Watch → Bench → List Out → Type 0
Naming b w c new = Below (256 ^ 4) b → Narrow w → Below (256 ^ 4) c × Named new

-- all that is told of a step's end
abbrev Facts : (before : Watch) → Bench → Watch → Bench → List Out → Type 0
Facts before b w c new =
    Counts b (cond (rose before w) (fragment w.time w.session ∷ []) []) (cond (rose before w) 1 0) c new × (Good c × (Tallied b c new × Naming b w c new))

-- both of two things hold
both : (R S : Bench → List Out → Type 0) (d : Does) → After R d → After S d → After (λ c outs. R c outs × S c outs) d
both R S (went c outs) r s = (r, s)
both R S (stops m p) r s = tt

module _ (room n : ℕ) (before : Watch) (b : Bench) (w : Watch) (at next : ℕ) where
  abbrev fs : List Out
  fs = cond (rose before w) (fragment w.time w.session ∷ []) []

  abbrev rise : ℕ
  rise = cond (rose before w) 1 0

  pub step_counts : Whole b → After (Counts b fs rise) (step_end room n before b w at next)
  unfolding counts_in fragments_of
  step_counts v =
      step_after room n before b w at next (Counts b fs rise) (Counts b fs rise)
      (λ e. record { whole = v; counts = rw e (omega arith); fragments = rw e })
      (λ e l. record { whole = counted_whole b v (place_for b w.session) l w.session; counts = rw e (omega (arith, counted_total b v (place_for b w.session) l w.session)); fragments = rw e })
      (λ c outs q. rw (append-nil outs) q)
      (λ c outs q l.
      record {
        whole = dropped_whole c q.whole (place_of c w.session) l;
        counts = rw (counts_append outs (closed_of c w ∷ [])) (omega (arith, q.counts, dropped_total c q.whole (place_of c w.session) l));
        fragments = rw (fragments_append outs (closed_of c w ∷ []), append-nil (fragments_of outs)) q.fragments;
      })

  counted_good : Good b → place_for b w.session < 32 → Good (counted b (place_for b w.session) w.session)
  counted_good g l = record { whole = counted_whole b g.whole (place_for b w.session) l w.session; distinct = counted_distinct b w.session g.whole g.distinct l }

  pub step_good : Good b → After (λ c outs. Good c) (step_end room n before b w at next)
  step_good g =
      step_after room n before b w at next (λ c outs. Good c) (λ c outs. Good c)
      (λ e. g)
      (λ e l. counted_good g l)
      (λ c outs q. q)
      (λ c outs q l. record { whole = dropped_whole c q.whole (place_of c w.session) l; distinct = dropped_distinct c q.distinct (place_of c w.session) })

  step_tallied : Good b → After (Tallied b) (step_end room n before b w at next)
  step_tallied g =
      step_after room n before b w at next (λ d new. Good d × Tallied b d new) (Tallied b)
      (λ e. (g, λ c a rest f. f c a))
      (λ e l. (counted_good g l, λ c a rest f. f (onto c w.session) (counted_agrees b w.session g.whole g.distinct c a l)))
      (λ d new q. rw (append-nil new) q.1)
      (λ d new q l c a rest f.
      rw (append_assoc new (closed_of d w ∷ []) rest)
      (q.1 c a (closed_of d w ∷ rest)
      (λ e m. (closed_agrees d w.session q.0.whole q.0.distinct e m l, f (without e w.session) (dropped_agrees d w.session q.0.whole q.0.distinct e m l)))))

  step_named : After (Naming b w) (step_end room n before b w at next)
  step_named =
      step_after room n before b w at next (Naming b w) (Naming b w)
      (λ e h v. (h, tt))
      (λ e l h v. (counted_below b (place_for b w.session) w.session (256 ^ 4) h v.1, (v.0, v.1, tt)))
      (λ c outs q. rw (append-nil outs) q)
      (λ c outs q l h v. (dropped_below c (place_of c w.session) (256 ^ 4) (q h v).0, named_append outs (closed_of c w ∷ []) (q h v).1 (v.0, v.1, tt)))

  facts : Good b → After (Facts before b w) (step_end room n before b w at next)
  facts g =
      both (Counts b fs rise) (λ c new. Good c × (Tallied b c new × Naming b w c new)) (step_end room n before b w at next) (step_counts g.whole)
      (both (λ c new. Good c) (λ c new. Tallied b c new × Naming b w c new) (step_end room n before b w at next) (step_good g)
      (both (Tallied b) (Naming b w) (step_end room n before b w at next) (step_tallied g) step_named))

-- what is held, by the tally
held_tallies : (b : Bench) (c : ℕ → ℕ) → Agrees b c → (n k : ℕ) → Tallies c (held_from b n k)
unfolding held_from held_at is_free
held_tallies b c a zero k = tt
held_tallies b c a (suc n) k =
    let more = held_tallies b c a n (suc k) in
    cond_ind (eqb (get_or b.counts k 0) 0) _ _ (λ l. Tallies c (l ++ held_from b n (suc k))) (λ e. more) (λ e. (a.live k (omega (arith, eqb-false (get_or b.counts k 0) 0 e)), more))

held_named : (b : Bench) → Below (256 ^ 4) b → (n k : ℕ) → Named (held_from b n k)
unfolding held_from held_at
held_named b h zero k = tt
held_named b h (suc n) k =
    let more = held_named b h n (suc k) in
    cond_ind (is_free b k) _ _ (λ l. Named (l ++ held_from b n (suc k))) (λ e. more) (λ e. (h k, more))

-- ---- all of them

module _ (room : ℕ) where
  -- what is accepted from a bench and some records on
  record Tells (b : Bench) (outs : List Out) (before : Watch) (ends : Steps) (bytes : List ℕ) : Type 0 where
    more : List Out
    is : bytes ≡ bytes_of (outs ++ more)
    counts : counts_in (outs ++ more) ≡ counts_in outs + total b.counts + rises_from before ends
    fragments : fragments_of (outs ++ more) ≡ fragments_of outs ++ fragments_from before ends
    tallies : (c : ℕ → ℕ) → Agrees b c → Tallies c more
    named : Below (256 ^ 4) b → Shown ends → Named more

  tells_done : (b : Bench) (outs : List Out) (before : Watch) (read steps : ℕ) → Good b → (read' steps' : ℕ) (bytes : List ℕ) → finished room b outs read steps ≡ ended.wrote read' bytes steps' → Tells b outs before (done read) bytes
  unfolding finished rises_from fragments_from
  tells_done b outs before read steps v read' steps' bytes =
      cond_ind (leb (length (bytes_of (outs ++ held_of b))) room) _ _ (λ x. x ≡ ended.wrote read' bytes steps' → Tells b outs before (done read) bytes)
      (λ f e.
      record {
        more = held_of b;
        is = (cc);
        counts = rw (counts_append outs (held_of b), held_total b v.whole) (omega arith);
        fragments = rw (fragments_append outs (held_of b), held_fragments b);
        tallies = λ c a. held_tallies b c a 32 0;
        named = λ h v. held_named b h 32 0;
      })
      (λ f e. absurd (let z : ◌≡◌ {A = ℕ} 0 1 = cc in omega arith))

  tells : (ends : Steps) (b : Bench) (outs : List Out) (before : Watch) (steps : ℕ) → Good b → (read' steps' : ℕ) (bytes : List ℕ) → runs room b outs before steps ends ≡ ended.wrote read' bytes steps' → Tells b outs before ends bytes
  unfolding runs on_does rises_from fragments_from
  tells (step w at next rest) b outs before steps v read' steps' bytes e =
      by (step_end room (length (bytes_of outs)) before b w at next) (facts room (length (bytes_of outs)) before b w at next v) e
      (λ c new u f. tells rest c (outs ++ new) w (steps + 1) u read' steps' bytes f)
    where
      by : (d : Does) → After (Facts before b w) d → on_does room d (λ c new. runs room c (outs ++ new) w (steps + 1) rest) ≡ ended.wrote read' bytes steps'
          → ((c : Bench) (new : List Out) → Good c → runs room c (outs ++ new) w (steps + 1) rest ≡ ended.wrote read' bytes steps' → Tells c (outs ++ new) w rest bytes)
          → Tells b outs before (step w at next rest) bytes
      by (went c new) q e more =
          let t = more c new q.1.0 e in
          let s : (outs ++ new) ++ t.more ≡ outs ++ (new ++ t.more) = append_assoc outs new t.more in
          record {
            more = new ++ t.more;
            is = rw (← s) t.is;
            counts = rw (← s) (t.counts ∙ rw (counts_append outs new) (omega (arith, q.0.counts)));
            fragments = rw (← s) (t.fragments ∙ rw (fragments_append outs new, q.0.fragments, append_assoc));
            tallies = λ d a. q.1.1.0 d a t.more (λ f m. t.tallies f m);
            named = λ h v. let r = q.1.1.1 h v.0 in named_append new t.more r.1 (t.named r.0 v.1);
          }
      by (stops m p) q e more = absurd (let z : ◌≡◌ {A = ℕ} 0 1 = cc in omega arith)
  tells (done read) b outs before steps v read' steps' bytes e = tells_done b outs before read steps v read' steps' bytes e
  tells (refused m p) b outs before steps v read' steps' bytes e = absurd (let z : ◌≡◌ {A = ℕ} 0 1 = cc in omega arith)

  pub always_good : (ends : Steps) (b : Bench) (n : ℕ) (before : Watch) → Good b → Every Good (benches room b n before ends)
  unfolding benches onward
  always_good (step w at next rest) b n before g = by (step_end room n before b w at next) (step_good room n before b w at next g)
      (λ c new q. always_good rest c (n + length (bytes_of new)) w q)
    where
      by : (d : Does) → After (λ c outs. Good c) d → ((c : Bench) (new : List Out) → Good c → Every Good (benches room c (n + length (bytes_of new)) w rest))
          → Every Good (onward d (λ c new. benches room c (n + length (bytes_of new)) w rest))
      by (went c new) q more = (q, more c new q)
      by (stops m p) q more = tt
  always_good (done read) b n before g = tt
  always_good (refused m p) b n before g = tt

module _ (room : ℕ) (s : List ℕ) where
  -- .. after `k` steps
  abbrev ClosesFrom : Steps → (k : ℕ) → ended.Ended → Type 0
  ClosesFrom ends k (ended.wrote read bytes steps) = (read ≡ length s) × (length bytes ≤ room) × (steps ≡ k + count ends)
  ClosesFrom ends k (ended.refused n p) = Why n p ends × (7 ≤ n) × (n ≤ 34)

  later : (w : Watch) (at next : ℕ) (rest : Steps) (k : ℕ) (e : ended.Ended) → ClosesFrom rest (k + 1) e → ClosesFrom (step w at next rest) k e
  unfolding count
  later w at next rest k (ended.wrote read bytes steps) h = (h.0, h.1, omega (arith, h.2))
  later w at next rest k (ended.refused n p) h = (inr (inr h.0), h.1, h.2)

  closes_from : (ends : Steps) → Ends s ends → (b : Bench) (outs : List Out) (before : Watch) (k : ℕ) → ClosesFrom ends k (runs room b outs before k ends)
  unfolding runs on_does finished count
  closes_from (step w at next rest) h b outs before k =
      by (step_end room (length (bytes_of outs)) before b w at next) (step_stops room (length (bytes_of outs)) before b w at next)
      (λ c new. later w at next rest k (runs room c (outs ++ new) w (k + 1) rest) (closes_from rest h c (outs ++ new) w (k + 1)))
    where
      by : (d : Does) → Stops at next d → ((c : Bench) (new : List Out) → ClosesFrom (step w at next rest) k (runs room c (outs ++ new) w (k + 1) rest))
          → ClosesFrom (step w at next rest) k (on_does room d (λ c new. runs room c (outs ++ new) w (k + 1) rest))
      by (went c new) q more = more c new
      by (stops n p) (inl e) more = (inl e, omega (arith, e.0), omega (arith, e.0))
      by (stops n p) (inr e) more = (inr (inl e), omega (arith, e.0), omega (arith, e.0))
  closes_from (done read) h b outs before k =
      cond_ind (leb (length (bytes_of (outs ++ held_of b))) room) _ _ (ClosesFrom (done read) k) (λ e. (h, leb-true _ _ e, omega arith)) (λ e. ((refl, refl), omega arith, omega arith))
  closes_from (refused n p) h b outs before k = ((refl, refl), h.0, h.1)

-- one fragment for each rise
number : (ends : Steps) (before : Watch) → length (fragments_from before ends) ≡ rises_from before ends
unfolding fragments_from rises_from
number (step w at next rest) before = rw (length-append, number rest w) (cond_len (rose before w))
  where
    cond_len : (x : Bool) → length (cond x (fragment w.time w.session ∷ []) []) + rises_from w rest ≡ cond x 1 0 + rises_from w rest
    cond_len true = refl
    cond_len false = refl
number (done read) before = refl
number (refused m p) before = refl

empty_good : Good empty
empty_good = record { whole = empty_whole; distinct = empty_distinct }

module _ (names : Names) (s values : List ℕ) (room : ℕ) where
  module _ (read steps : ℕ) (bytes : List ℕ) (e : count_fragments names s values room ≡ ended.wrote read bytes steps) where
    told : Tells room empty [] unseen (step_ends names s values) bytes
    unfolding count_fragments
    told = tells room (step_ends names s values) empty [] unseen 0 empty_good read steps bytes e

    all_told : Accounts (step_ends names s values) bytes told.more
    unfolding rises counts_in fragments_of
    all_told = record {
      is = told.is;
      counts = told.counts ∙ omega (arith, empty_total);
      fragments = told.fragments;
      number = ap length told.fragments ∙ number (step_ends names s values) unseen;
      tallies = told.tallies (λ session. 0) empty_agrees;
    }

    -- an accepted bench accounts for every rise
    pub accounts : (outs : List Out) × Accounts (step_ends names s values) bytes outs
    accounts = (told.more, all_told)

    -- .. in the records that its bytes spell, where the inputs are bytes, and no more of them than 8 bytes can count
    module _ (b : Bytes s) (c : Bytes values) (l : length s + 1 < 256 ^ 8) where
      spelled : records_in bytes ≡ told.more
      spelled =
          let named : Named told.more = told.named (empty_below (256 ^ 4) (omega arith)) (shown names s values b c) in
          ap records_in told.is ∙ records_back told.more (fits told.more named (omega (arith, all_told.counts, rises_most names s values)))

      pub reads : Accounts (step_ends names s values) bytes (records_in bytes)
      reads = rw spelled all_told

  -- how it ends
  pub closes : Closes (length s) room (step_ends names s values) (count_fragments names s values room)
  unfolding count_fragments
  closes = by (runs room empty [] unseen 0 (step_ends names s values)) (closes_from room s (step_ends names s values) (ends names s values) empty [] unseen 0)
    where
      by : (e : ended.Ended) → ClosesFrom room s (step_ends names s values) 0 e → Closes (length s) room (step_ends names s values) e
      by (ended.wrote read bytes steps) h = (h.0, h.1, omega (arith, h.2))
      by (ended.refused n p) h = h

  -- live sessions are distinct, and there are 32 places, at every step's end
  pub good_always : Every Good (benches room empty 0 unseen (step_ends names s values))
  good_always = always_good room (step_ends names s values) empty 0 unseen empty_good
