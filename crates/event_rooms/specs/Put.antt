-- What appending an event gives.
-- Assumes nothing.
use Rattle.std.specs.Prelude.{Option}
use Rattle.event_rooms.specs.declared.Counts.{Counts}

-- how much of the rooms is used then; nothing where the event does not fit
abbrev pub Put : Type 0
Put = Option Counts
