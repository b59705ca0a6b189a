-- The bench fills its room with its course.
-- Assumes nothing.
use Rattle.std.specs.Prelude.{ℕ, ◌+◌, ◌≡◌, Bool, ltb, leb}
use Rattle.std.proofs.Math.Path.{refl, ap}
use Rattle.std.proofs.Common.{sym, ◌∙◌}
use Rattle.std.proofs.Math.Bool.{true, false, cond}
use mathlib.Core.List.{List, [], ◌∷◌, ◌++◌, append_assoc, append-nil}
use Rattle.std.proofs.Math.ListN.{length, length-append}
use Rattle.number_writer.specs.Ended.{Ended}
use Rattle.number_writer.specs.Ended as ended
use Rattle.step_ends.specs.declared.Names.{Names}
use Rattle.step_ends.specs.declared.Watch.{Watch}
use Rattle.step_ends.specs.Steps.{Steps, unseen, step_ends, rose}
use Rattle.step_ends.specs.Steps as steps
use Rattle.sessions.specs.declared.Bench.{Bench}
use Rattle.sessions.specs.Places.{place_of, place_for, counted, dropped, empty}
use Rattle.fragment_records.specs.Output.{Out, fragment, out_bytes, bytes_of, held_of}
use Rattle.fragment_records.specs.Output.Laws.{bytes_append, bytes_one}
use Rattle.fragments.specs.Counting.{Does, went, stops, seated, closes, closed_of, behind, and_then, counting, closing, step_end, finished, on_does, runs, count_fragments}
use Rattle.courses.specs.Course.{Course, fault, fill}
use Rattle.courses.specs.Benched.{seats, counts, drops, benched_from, benched}

bytes_more : (a : List Out) (o : Out) → bytes_of (a ++ o ∷ []) ≡ bytes_of a ++ out_bytes o
bytes_more a o = bytes_append a (o ∷ []) ∙ ap (λ l. bytes_of a ++ l) (bytes_one o)

module _ (room : ℕ) where
  -- what follows, and its course
  abbrev Goes : (Bench → List Out → Ended) → (Bench → Course) → Type 0
  Goes more then = (b : Bench) (outs : List Out) → more b outs ≡ fill room (then b) (bytes_of outs)

  -- what was written before this step's end, and at it
  module _ (outs : List Out) (w : Watch) (next : ℕ) (more : Bench → List Out → Ended) (then : Bench → Course)
      (h : Goes more then) where
    abbrev onward : Does → Ended
    onward d = on_does room d (λ c new. more c (outs ++ new))

    drops_fills : (pre : List Out) (b : Bench) (n : ℕ) → n ≡ length (bytes_of (outs ++ pre)) → (x : Bool)
        → onward (behind pre (closing room x n b w next)) ≡ fill room (drops x b w next then) (bytes_of (outs ++ pre))
    unfolding behind on_does closing drops fill
    drops_fills pre b n e true = rw (← e) (by (leb (n + length (out_bytes (closed_of b w))) room))
      where
        by : (y : Bool) → onward
            (behind pre (cond y (went (dropped b (place_of b w.session)) (closed_of b w ∷ [])) (stops 16 next)))
            ≡ cond y (fill room (then (dropped b (place_of b w.session)))
            (bytes_of (outs ++ pre) ++ out_bytes (closed_of b w))) (ended.refused 16 next)
        by true =
            h (dropped b (place_of b w.session)) (outs ++ (pre ++ closed_of b w ∷ []))
            ∙ ap (fill room (then (dropped b (place_of b w.session))))
            (ap bytes_of (sym (append_assoc outs pre (closed_of b w ∷ []))) ∙ bytes_more (outs ++ pre) (closed_of b w))
        by false = refl
    drops_fills pre b n e false =
        h b (outs ++ (pre ++ [])) ∙ ap (λ l. fill room (then b) (bytes_of (outs ++ l))) (append-nil pre)

    abbrev closer : Bench → List Out → Does
    closer c new = closing room (closes c w) (length (bytes_of outs) + length (bytes_of new)) c w next

    abbrev drop : Bench → Course
    drop c = drops (closes c w) c w next then

    closed_fills : (pre : List Out) (b : Bench)
        → onward (and_then (went b pre) closer) ≡ fill room (drop b) (bytes_of (outs ++ pre))
    unfolding and_then
    closed_fills pre b = drops_fills pre b
        _ (sym (ap length (bytes_append outs pre) ∙ length-append (bytes_of outs) (bytes_of pre))) (closes b w)

    seats_fills : (b : Bench) (at : ℕ)
        → onward (and_then (seated b w at) closer) ≡ fill room (seats b w at drop)
        (bytes_of outs ++ out_bytes (fragment w.time w.session))
    unfolding seated seats and_then on_does fill
    seats_fills b at = by (ltb (place_for b w.session) 32)
      where
        by : (y : Bool) → onward
            (and_then (cond y (went (counted b (place_for b w.session) w.session)
            (fragment w.time w.session ∷ [])) (stops 21 at)) closer)
            ≡ fill room (cond y (drop (counted b (place_for b w.session) w.session)) (fault 21 at))
            (bytes_of outs ++ out_bytes (fragment w.time w.session))
        by true = closed_fills (fragment w.time w.session ∷ [])
            (counted b (place_for b w.session) w.session)
            ∙ ap (fill room (drop (counted b (place_for b w.session) w.session)))
            (bytes_more outs (fragment w.time w.session))
        by false = refl

    counts_fills : (b : Bench) (at : ℕ) (x : Bool)
        → onward (and_then (counting room x (length (bytes_of outs)) b w at next) closer) ≡ fill room
        (counts x b w at next drop) (bytes_of outs)
    unfolding counting counts fill and_then on_does
    counts_fills b at true =
        by (leb (length (bytes_of outs) + length (out_bytes (fragment w.time w.session))) room) (seats_fills b at)
      where
        by : (y : Bool) → onward (and_then (seated b w at) closer) ≡ fill room (seats b w at drop)
            (bytes_of outs ++ out_bytes (fragment w.time w.session))
            → onward (and_then (cond y (seated b w at) (stops 16 next)) closer) ≡ cond y
            (fill room (seats b w at drop) (bytes_of outs ++ out_bytes (fragment w.time w.session)))
            (ended.refused 16 next)
        by true e = e
        by false e = refl
    counts_fills b at false = closed_fills [] b ∙ ap (λ l. fill room (drop b) (bytes_of l)) (append-nil outs)

  runs_fills : (ends : Steps) (b : Bench) (outs : List Out) (before : Watch) (k : ℕ)
      → runs room b outs before k ends ≡ fill room (benched_from b before k ends) (bytes_of outs)
  unfolding runs benched_from finished fill step_end
  runs_fills (steps.step w at next rest) b outs before k =
      counts_fills outs w next (λ c o. runs room c o w (k + 1) rest) (λ c. benched_from c w (k + 1) rest)
      (λ c o. runs_fills rest c o w (k + 1)) b at (rose before w)
  runs_fills (steps.done read) b outs before k =
      rw (bytes_append outs (held_of b), length-append (bytes_of outs) (bytes_of (held_of b)))
  runs_fills (steps.refused n p) b outs before k = refl

-- the bench fills its room with its course
pub benched_fills : (names : Names) (s values : List ℕ) (room : ℕ)
    → count_fragments names s values room ≡ fill room (benched names s values) []
unfolding count_fragments benched bytes_of
benched_fills names s values room = runs_fills room (step_ends names s values) empty [] unseen 0
