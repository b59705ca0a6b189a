-- The bench's first fault, from the step ends alone: the live sessions are a list, and no place, count or room is
-- asked.
-- Assumes nothing.
use Rattle.std.specs.Prelude.{ℕ, Bool, not, cond, ◌&&◌, List, [], ◌∷◌, length, leb, eqb}
use Rattle.rules.specs.Gather.{elem}
use Rattle.step_ends.specs.declared.Names.{Names}
use Rattle.step_ends.specs.declared.Watch.{Watch}
use Rattle.step_ends.specs.Steps.{Steps, unseen, step_ends, rose}
use Rattle.step_ends.specs.Steps as steps
use Rattle.courses.specs.Course.{Course, done, fault}
pub mod Places

unfoldable pub without : ℕ → List ℕ → List ℕ
without x [] = []
without x (y ∷ live) = cond (eqb x y) live (y ∷ without x live)

-- a session whose fragment is counted is live from then on ..
unfoldable pub joined : Bool → ℕ → List ℕ → List ℕ
joined rises x live = cond rises (cond (elem x live) live (x ∷ live)) live

-- .. until it is shown where "close stands at 1 at step end"
unfoldable pub parted : (close x : ℕ) → List ℕ → List ℕ
parted close x live = cond (eqb close 1) (without x live) live

-- "21 when a new session meets 32 live ones", "at the record ending the step"; a course that adds nothing
unfoldable pub crowded_from : (before : Watch) → List ℕ → Steps → Course
crowded_from before live (steps.step w at next rest) =
    cond (rose before w && (not (elem w.session live) && leb 32 (length live))) (fault 21 at)
    (crowded_from w (parted w.close w.session (joined (rose before w) w.session live)) rest)
crowded_from before live (steps.done read) = done read 0
crowded_from before live (steps.refused n p) = fault n p

unfoldable pub crowded : Names → (s values : List ℕ) → Course
crowded names s values = crowded_from unseen [] (step_ends names s values)
