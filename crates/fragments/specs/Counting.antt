-- Fragments counted to sessions at step ends, and sessions closed.
-- Assumes nothing.
use Rattle.std.specs.Prelude.{ℕ, ◌+◌, Bool, true, false, cond, ◌&&◌, List, [], ◌∷◌, ◌++◌, length, get_or, ltb, leb, eqb}
use Rattle.number_writer.specs.Ended as ended
use Rattle.step_ends.specs.declared.Names.{Names}
use Rattle.step_ends.specs.declared.Watch.{Watch}
use Rattle.step_ends.specs.Steps.{Steps, step, done, refused, unseen, step_ends, rose}
use Rattle.sessions.specs.declared.Bench.{Bench}
use Rattle.sessions.specs.Places.{place_of, place_for, counted, dropped, empty}
use Rattle.fragment_records.specs.Output.{Out, fragment, closed, out_bytes, bytes_of, held_of}
pub mod Laws
pub mod Step
pub mod Turn
pub mod Loop
pub mod Examples

-- what a step's end, or a part of it, does: the bench then and the records written; or a refusal
pub data Does : Type 0 where
  went : Bench → List Out → Does
  stops : (n p : ℕ) → Does

-- "21 when a new session meets 32 live ones .. at the record ending the step or the input's end"
unfoldable pub seated : Bench → Watch → (at : ℕ) → Does
seated b w at =
    cond (ltb (place_for b w.session) 32) (went (counted b (place_for b w.session) w.session) (fragment w.time w.session ∷ [])) (stops 21 at)

-- "Where close stands at 1 at step end"; "closing a session that isn't live does nothing"
unfoldable pub closes : Bench → Watch → Bool
closes b w = eqb w.close 1 && ltb (place_of b w.session) 32

-- ".. its count handed out"
abbrev pub closed_of : Bench → Watch → Out
closed_of b w = closed w.time w.session (get_or b.counts (place_of b w.session) 0)

-- what follows something that was done: the records of both
unfoldable pub behind : List Out → Does → Does
behind outs (went b more) = went b (outs ++ more)
behind outs (stops n p) = stops n p

unfoldable pub and_then : Does → (Bench → List Out → Does) → Does
and_then (went b outs) more = behind outs (more b outs)
and_then (stops n p) more = stops n p

-- "16: next event doesn't fit event or value room: next unread byte". `n` bytes have been written.
module _ (room : ℕ) where
  -- where the strobe rose, "one fragment is counted to the session value then shown"; 21 comes "after all of 01's"
  unfoldable pub counting : Bool → (n : ℕ) → Bench → Watch → (at next : ℕ) → Does
  counting false n b w at next = went b []
  counting true n b w at next = cond (leb (n + length (out_bytes (fragment w.time w.session))) room) (seated b w at) (stops 16 next)

  -- "the shown session is dropped after any counting, and its place is used again"
  unfoldable pub closing : Bool → (n : ℕ) → Bench → Watch → (next : ℕ) → Does
  closing false n b w next = went b []
  closing true n b w next = cond (leb (n + length (out_bytes (closed_of b w))) room) (went (dropped b (place_of b w.session)) (closed_of b w ∷ [])) (stops 16 next)

  -- a step's end, where `before` was shown at the previous one's
  unfoldable pub step_end : (n : ℕ) (before : Watch) → Bench → Watch → (at next : ℕ) → Does
  step_end n before b w at next =
      and_then (counting (rose before w) n b w at next) (λ c outs. closing (closes c w) (n + length (bytes_of outs)) c w next)

  -- at the input's end, `held` for each live session
  unfoldable pub finished : Bench → List Out → (read steps : ℕ) → ended.Ended
  finished b outs read k = cond (leb (length (bytes_of (outs ++ held_of b))) room) (ended.wrote read (bytes_of (outs ++ held_of b)) k) (ended.refused 16 read)

  unfoldable pub on_does : Does → (Bench → List Out → ended.Ended) → ended.Ended
  on_does (went b outs) more = more b outs
  on_does (stops n p) more = ended.refused n p

  -- step end by step end, from a bench and the records written so far, what was shown at the last step's end and the steps so far
  unfoldable pub runs : Bench → List Out → (before : Watch) (steps : ℕ) → Steps → ended.Ended
  runs b outs before k (step w at next rest) = on_does (step_end (length (bytes_of outs)) before b w at next) (λ c new. runs c (outs ++ new) w (k + 1) rest)
  runs b outs before k (done read) = finished b outs read k
  runs b outs before k (refused n p) = ended.refused n p

-- "(0 before the first)"; "steps are then time records read", and each of them opens a step that ends
unfoldable pub count_fragments : Names → (s values : List ℕ) → (room : ℕ) → ended.Ended
count_fragments names s values room = runs room empty [] unseen 0 (step_ends names s values)
