-- What the bench's output says of the events: every rise of the strobe between step ends is one fragment, and is counted once.
-- Assumes nothing.
use Rattle.std.specs.Prelude.{◌≡◌, ℕ, ◌+◌, ◌≤◌, cond, List, [], ◌∷◌, ◌++◌, ◌⊎◌, length}
use Rattle.number_writer.specs.Ended as ended
use Rattle.step_ends.specs.declared.Watch.{Watch}
use Rattle.step_ends.specs.Steps.{Steps, step, done, refused, unseen, rose, rises, count}
use Rattle.sessions.specs.declared.Bench.{Bench}
use Rattle.sessions.specs.Places.Laws.{Whole, Distinct}
use Rattle.sessions.specs.Places.Laws.Tally.{onto, without}
use Rattle.fragment_records.specs.Output.{Out, fragment, closed, held, bytes_of, fragments_of, counts_in}
use Rattle.fragments.specs.Counting.{Does, went, stops, step_end}
pub mod Proofs

-- the fragments that the events ask for, with no bench in sight: the step's time and the session shown at its end, at each rise of the strobe
unfoldable pub fragments_from : (before : Watch) → Steps → List Out
fragments_from before (step w at next rest) = cond (rose before w) (fragment w.time w.session ∷ []) [] ++ fragments_from w rest
fragments_from before (done read) = []
fragments_from before (refused n p) = []

-- each count that is handed out or held is the number of its session's fragments since that was last closed: `c` is this number for each session, before the records
abbrev pub Tallies : (c : ℕ → ℕ) → List Out → Type 0
Tallies c [] = Unit {0}
Tallies c (fragment time session ∷ outs) = Tallies (onto c session) outs
Tallies c (closed time session count ∷ outs) = (count ≡ c session) × Tallies (without c session) outs
Tallies c (held session count ∷ outs) = (count ≡ c session) × Tallies c outs

-- the records of an accepted output
pub record Accounts (ends : Steps) (bytes : List ℕ) (outs : List Out) : Type 0 where
  pub is : bytes ≡ bytes_of outs
  -- "The counts held plus those handed out on closing equal the rises of the strobe between step ends, a number defined from the events alone."
  pub counts : counts_in outs ≡ rises ends
  -- .. and so do the fragment records, which name the sessions then shown
  pub fragments : fragments_of outs ≡ fragments_from unseen ends
  pub number : length (fragments_of outs) ≡ rises ends
  -- a count is its own session's
  pub tallies : Tallies (λ session. 0) outs

-- why a bench is refused, and where: 16 and 21 at a step's end, 16 at the input's, or as a record of the stream is
abbrev pub Why : (n p : ℕ) → Steps → Type 0
Why n p (step w at next rest) = ((n ≡ 16) × (p ≡ next)) ⊎ (((n ≡ 21) × (p ≡ at)) ⊎ Why n p rest)
Why n p (done read) = (n ≡ 16) × (p ≡ read)
Why n p (refused m q) = (n ≡ m) × (p ≡ q)

-- how a bench over `input` bytes ends: all was read, what was written fits, and "steps are then time records read", each of which opens a step that ends; or it is refused, and why
abbrev pub Closes : (input room : ℕ) → Steps → ended.Ended → Type 0
Closes input room ends (ended.wrote read bytes steps) = (read ≡ input) × (length bytes ≤ room) × (steps ≡ count ends)
Closes input room ends (ended.refused n p) = Why n p ends × (7 ≤ n) × (n ≤ 34)

-- "The bench state holds at most 32 live sessions": there are 32 places, and live sessions are distinct
pub record Good (b : Bench) : Type 0 where
  pub whole : Whole b
  pub distinct : Distinct b

-- the bench after each step's end, up to the first refusal
unfoldable pub onward : Does → (Bench → List Out → List Bench) → List Bench
onward (went b outs) more = b ∷ more b outs
onward (stops n p) more = []

unfoldable pub benches : (room : ℕ) → Bench → (n : ℕ) (before : Watch) → Steps → List Bench
benches room b n before (step w at next rest) = onward (step_end room n before b w at next) (λ c new. benches room c (n + length (bytes_of new)) w rest)
benches room b n before (done read) = []
benches room b n before (refused m p) = []

abbrev pub Every : (Bench → Type 0) → List Bench → Type 0
Every P [] = Unit {0}
Every P (b ∷ bs) = P b × Every P bs
