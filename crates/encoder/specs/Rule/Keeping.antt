-- The records of an event stream, and those of them that the time rule keeps; what an accepted stream leaves, and why one is refused.
-- Assumes nothing.
use Rattle.std.specs.Prelude.{ℕ, zero, suc, ◌+◌, ◌≤◌, ◌<◌, ◌≡◌, ◌≢◌, ◌⊎◌, Bool, false, cond, List, [], ◌∷◌, ◌++◌, length, get_or, leb}
use Rattle.slices.specs.Splice.{part}
use Rattle.records.specs.declared.Record.{Record}
use Rattle.event_streams.specs.Next.{Bad}
use Rattle.event_streams.specs.Stream.{event_length, record_at, next_event}
use Rattle.encoder.specs.declared.Clock.{Clock}
use Rattle.encoder.specs.Rule.{keeps, ticks, times, Kept}
pub mod Laws
pub mod Refusals

-- a record of a stream: what it says, and its bytes
pub record Piece : Type 0 where
  pub says : Record
  pub bytes : List ℕ

unfoldable pub piece_at : List ℕ → ℕ → Piece
piece_at s i = record { says = record_at s i; bytes = part s i (event_length (get_or s i 0)) }

-- the records of a stream from a place on, up to its end
unfoldable pub records_from : List ℕ → (fuel i : ℕ) → List Piece
records_from s zero i = []
records_from s (suc fuel) i = cond (leb (length s) i) [] (piece_at s i ∷ records_from s fuel (i + event_length (get_or s i 0)))

unfoldable pub records : List ℕ → List Piece
records s = records_from s (length s) 0

unfoldable pub bytes_of : List Piece → List ℕ
bytes_of [] = []
bytes_of (p ∷ ps) = p.bytes ++ bytes_of ps

unfoldable pub times_of : List Piece → ℕ
times_of [] = 0
times_of (p ∷ ps) = times p.says + times_of ps

-- what a clock keeps of some records, as it ticks by each
unfoldable pub kept_of : Clock → List Piece → List Piece
kept_of c [] = []
kept_of c (p ∷ ps) = cond (keeps c p.says) (p ∷ kept_of (ticks c p.says) ps) (kept_of (ticks c p.says) ps)

-- the clock before any time, and nothing kept
abbrev pub unset : Clock
unset = record { begun = false; last = 0; skipping = false }

abbrev pub nothing : Kept
nothing = record { events = []; steps = 0 }

-- the numbers with which a record is refused
abbrev pub RecordNumber : ℕ → Type 0
RecordNumber n = (7 ≤ n) × (n ≤ 20) × (n ≢ 16)

module _ (s : List ℕ) (values room : ℕ) where
  -- an accepted stream: "Kept events are copied unaltered"; "steps are times kept"
  pub record Keeps (i : ℕ) (k : Kept) : Type 0 where
    pub read : i ≡ length s
    pub whole : bytes_of (records s) ≡ s
    pub events : k.events ≡ bytes_of (kept_of unset (records s))
    pub steps : k.steps ≡ times_of (kept_of unset (records s))
    pub fits : length k.events ≤ room

  -- a record that is refused where it stands, behind a time or before any
  pub record BadRecord (n p : ℕ) : Type 0 where
    pub number : RecordNumber n
    pub begun : Bool
    pub bad : next_event s values begun p ≡ Bad n p

  -- "16: next event doesn't fit ..: next unread byte": with this record what is kept is more than the room; from a place on, behind what was kept before
  pub record Overflows (ps : List Piece) (c : Clock) (k : Kept) (i p : ℕ) : Type 0 where
    pub before : List Piece
    pub piece : Piece
    pub behind : List Piece
    pub split : ps ≡ before ++ piece ∷ behind
    pub full : room < length k.events + length (bytes_of (kept_of c (before ++ piece ∷ [])))
    pub next : p ≡ i + length (bytes_of (before ++ piece ∷ []))

  abbrev pub RefusedFrom : List Piece → Clock → Kept → (i n p : ℕ) → Type 0
  RefusedFrom ps c k i n p = BadRecord n p ⊎ ((n ≡ 16) × Overflows ps c k i p)

  -- why a stream is refused
  abbrev pub Refusal : (n p : ℕ) → Type 0
  Refusal n p = RefusedFrom (records s) unset nothing 0 n p
