-- What a run of a scan may come to: the events of the scanned acts, where all of them fit; or a refusal, and why.
-- Assumes nothing.
use Rattle.std.specs.Prelude.{ℕ, ◌≡◌, ◌⊎◌, List, [], ◌∷◌}
use Rattle.std.proofs.Math.Option.{some}
use Rattle.tables.specs.Lists.{Lists}
use Rattle.rules.specs.Vector.{acts_early}
use Rattle.rules.specs.Gather.{Act, State, happens}
use Rattle.rules.specs.Gather.Laws.{state_after}
use Rattle.records.specs.Event.{Event}
use Rattle.event_rooms.specs.Out.{Rooms, Out, append_all}
use Rattle.rules.specs.Scan.{Scan, acts, Ends, Faults, Says}
use Rattle.gather.specs.Run.{gathers, events_of}
use Rattle.gather.specs.Run.Rendered.{Misfit}
pub mod Laws

module _ (t : Lists) where
  -- the events of some acts
  unfoldable pub made : State → List Act → List Event
  made g l = events_of t (happens acts_early (gathers t) g l)

  -- the state after them
  abbrev pub later : State → List Act → State
  later g l = state_after acts_early (gathers t) g l

  module _ (r : Rooms) where
    -- a run that went to the scan's end
    pub record Ran (sc : Scan) (g : State) (o : Out) (i : ℕ) (g' : State) (o' : Out) : Type 0 where
      pub ended : Ends i sc
      pub events : append_all r (made g (acts sc)) (some o) ≡ some o'
      pub state : g' ≡ later g (acts sc)

    -- "16: next event doesn't fit event or value room: next unread byte": the events of all acts before this one fit, and of its own one does not
    pub record Overflows (sc : Scan) (g : State) (o : Out) (p : ℕ) : Type 0 where
      pub before : List Act
      pub act : Act
      pub said : Says sc before act p
      pub filled : Out
      pub fill : append_all r (made g before) (some o) ≡ some filled
      pub full : Misfit r (made (later g before) (act ∷ [])) filled

    -- a run that was refused: the scan was, where all events fit, or else an event does not fit
    abbrev pub Refusal : Scan → State → Out → ℕ → ℕ → Type 0
    Refusal sc g o n p = (Faults n p sc × ((o' : Out) × (append_all r (made g (acts sc)) (some o) ≡ some o'))) ⊎ ((n ≡ 16) × Overflows sc g o p)
