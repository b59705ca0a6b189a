-- Sections that are written fill the room with their course, which ends where the scan does that is in order.
-- Assumes nothing.
use Prim.Native.Nat.{ℕ, zero, suc, ◌+◌}
use Rattle.std.specs.Prelude.{◌≡◌, Bool, not, ltb, leb, eqb}
use Rattle.std.proofs.Math.Path.{refl, ap}
use Rattle.std.proofs.Math.Bool.{true, false, cond}
use mathlib.Core.List.{List, [], ◌∷◌, ◌++◌}
use Rattle.std.proofs.Common.{arith, ne_eqb}
use Rattle.std.proofs.Math.ListN.{length}
use Rattle.number_writer.specs.Ended.{Ended, wrote, refused}
use Rattle.tables.specs.Lists.{Lists, nth}
use Rattle.rules.specs.Gather.{Act, time, write, step_end}
use Rattle.rules.specs.Scan.{Scan, say}
use Rattle.rules.specs.Scan as scan
use Rattle.changes.specs.Change.{ChangeFound}
use Rattle.changes.specs.Change as change
use Rattle.changes.specs.Changes.{next_change, one_record, changes, scan_changes}
use Rattle.sections_writer.specs.declared.Pen.{Pen}
use Rattle.sections_writer.specs.Writer.{Given, goes, ends, stops, time_bytes, time_good, timed, write_bytes, wrote_to, stepped, closing, given_time, given_write, given, begin, one, writing, write_sections}
use Rattle.courses.specs.Course.{Course, adds, done, fault, Ends, Faults, Told, fill}
use Rattle.courses.specs.Written.{on_given, written_from, written, follows, in_order, orderly}

module _ (t : Lists) (flag : Bool) (s : List ℕ) (room : ℕ) where
  one_fills : (p : Pen) (out : List ℕ) (g : Given) (more : Pen → List ℕ → ℕ → Ended) (then : Pen → ℕ → Course)
      → ((q : Pen) (o : List ℕ) (j : ℕ) → more q o j ≡ fill room (then q j) o)
      → one t flag s room p out g more ≡ fill room (on_given t flag s p g then) out
  unfolding one on_given fill
  one_fills p out (goes bs q j) more then h =
      ap (λ e. cond (leb (length out + length bs) room) e (refused 16 j)) (h q (out ++ bs) j)
  one_fills p out (ends bs j) more then h = refl
  one_fills p out (stops n q) more then h = refl

  writing_fills : (fuel : ℕ) (p : Pen) (out : List ℕ) (i : ℕ)
      → writing t flag s room fuel p out i ≡ fill room (written_from t flag s fuel p i) out
  unfolding writing written_from fill
  writing_fills zero p out i =
      one_fills p out (given t flag s p i (next_change t s p.inside i)) _ (λ q j. done j q.steps)
      (λ q o j. last q o j)
    where
      last : (q : Pen) (o : List ℕ) (j : ℕ) → wrote j o q.steps ≡ fill room (done j q.steps) o
      last q o j = refl
  writing_fills (suc fuel) p out i =
      one_fills p out (given t flag s p i (next_change t s p.inside i)) _ (λ q j. written_from t flag s fuel q j)
      (λ q o j. writing_fills fuel q o j)

  pub written_fills : write_sections t flag s room ≡ fill room (written t flag s) []
  unfolding write_sections written
  written_fills = writing_fills (length s) begin [] 0

-- ---- where it stops: as the scan that is in order

module _ (t : Lists) (flag : Bool) (s : List ℕ) where
  -- a course and a scan that end alike, the steps aside
  abbrev pub Alike : Course → Scan → Type 0
  Alike c sc = Told (λ i. scan.Ends i sc) (λ n p. scan.Faults n p sc) c

  like_say : (bs : List ℕ) (next : ℕ) (c : Course) (a : Act) (p : ℕ) (sc : Scan) → Alike c sc
      → Alike (adds bs next c) (say a p sc)
  unfolding Ends Faults scan.Ends scan.Faults
  like_say bs next c a p sc l = record { ends = l.ends; ended = l.ended; faults = l.faults; faulted = l.faulted }

  like_done : (i n : ℕ) → Alike (done i n) (scan.done i)
  unfolding Ends Faults scan.Ends scan.Faults
  like_done i n = record {
    ends = λ j m e. e.0;
    ended = λ j e. (n, (e, refl));
    faults = λ m p e. absurd e;
    faulted =
        λ m p e. absurd e;
  }

  like_last : (bs : List ℕ) (i n : ℕ) → Alike (adds bs i (done i n)) (scan.done i)
  unfolding Ends Faults scan.Ends scan.Faults
  like_last bs i n = record {
    ends = λ j m e. e.0;
    ended = λ j e. (n, (e, refl));
    faults =
        λ m p e. absurd e;
    faulted = λ m p e. absurd e;
  }

  like_fault : (n p : ℕ) → Alike (fault n p) (scan.fault n p)
  unfolding Ends Faults scan.Ends scan.Faults
  like_fault n p = record {
    ends = λ i m e. absurd e;
    ended = λ i e. absurd e;
    faults = λ m q e. e;
    faulted =
        λ m q e. e;
  }

  -- a pen, as what its past says
  abbrev begun : Pen → Bool
  begun p = not (eqb p.steps 0)

  abbrev scanned : Pen → (i : ℕ) → Scan → Scan
  scanned p i sc = in_order (begun p) p.time p.id i sc

  abbrev Later : (Pen → ℕ → Course) → (Bool → ℕ → Scan) → Type 0
  Later more more' = (q : Pen) (j : ℕ) → Alike (more q j) (scanned q j (more' q.inside j))

  -- a time in order, whether there was one before or not
  order_time : (b : Bool) (u id i v p : ℕ) (rest : Scan)
      → in_order b u id i (say (time v) p rest) ≡ cond (cond b (follows u v) true)
      (say (time v) p (in_order true v 0 p rest)) (scan.fault 23 i)
  unfolding in_order
  order_time true u id i v p rest = refl
  order_time false u id i v p rest = refl

  good_follows : (p : Pen) (u : ℕ) → time_good p u ≡ cond (begun p) (follows p.time u) true
  unfolding time_good follows
  good_follows p u = by (eqb p.steps 0)
    where
      by : (x : Bool) → cond x true (follows p.time u) ≡ cond (not x) (follows p.time u) true
      by true = refl
      by false = refl

  begun_next : (n : ℕ) → not (eqb (n + 1) 0) ≡ true
  begun_next n = rw (ne_eqb (n + 1) 0 (λ e. omega arith))

  module _ (p : Pen) (i : ℕ) (more : Pen → ℕ → Course) (more' : Bool → ℕ → Scan) (rec : Later more more') where
    by_test : (g : Bool) (bs : List ℕ) (q : Pen) (j m : ℕ) (a : Act) (sc : Scan) → Alike (more q j) sc
        → Alike (on_given t flag s p (cond g (goes bs q j) (stops m i)) more) (cond g (say a j sc) (scan.fault m i))
    unfolding on_given
    by_test true bs q j m a sc h = like_say bs j (more q j) a j sc h
    by_test false bs q j m a sc h = like_fault m i

    time_like : (u j : ℕ)
        → Alike (on_given t flag s p (given_time flag p i u j) more) (scanned p i (say (time u) j (more' true j)))
    unfolding given_time
    time_like u j =
        rw (order_time (begun p) p.time p.id i u j (more' true j), good_follows p u)
        (by_test (cond (begun p) (follows p.time u) true) (time_bytes flag p u) (timed p u) j 23 (time u)
        (in_order true u 0 j (more' true j)) (rw (begun_next p.steps) at (rec (timed p u) j)))

    turn : (c : ChangeFound) → Alike (on_given t flag s p (given t flag s p i c) more) (scanned p i (one_record t s c i more'))
    unfolding given given_write one_record on_given in_order
    turn (change.Time u j) = time_like u j
    turn (change.Write id v j) =
        by_test (ltb p.id id) (write_bytes p (nth t.kinds id) id v s j) (wrote_to p id) j 22 (write id v i)
        (in_order (begun p) p.time id j (more' true j)) (rec (wrote_to p id) j)
    turn (change.StepEnd j) = like_say (0 ∷ []) j (more (stepped p) j) step_end j _ (rec (stepped p) j)
    turn (change.End j) = like_last (closing p) j p.steps
    turn (change.Bad n q) = like_fault n q

  last_like : Later (λ q j. done j q.steps) (λ b j. scan.done j)
  unfolding in_order
  last_like q j = like_done j q.steps

  all : (fuel : ℕ) (p : Pen) (i : ℕ)
      → Alike (written_from t flag s fuel p i) (scanned p i (changes t s fuel p.inside i))
  unfolding written_from changes
  all zero p i = turn p i (λ q j. done j q.steps) (λ b j. scan.done j) last_like (next_change t s p.inside i)
  all (suc fuel) p i = turn p i (λ q j. written_from t flag s fuel q j) (λ b j. changes t s fuel b j)
      (λ q j. all fuel q j) (next_change t s p.inside i)

  -- a writing ends where the scan does that is in order
  pub written_orderly : Alike (written t flag s) (orderly t s)
  unfolding written orderly scan_changes
  written_orderly = all (length s) begin 0
