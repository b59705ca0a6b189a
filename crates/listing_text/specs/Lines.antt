-- The lines of the listing.
-- Assumes nothing.
use Rattle.std.specs.Prelude.{ℕ, zero, suc, true, List, [], ◌∷◌, ◌++◌, length}
use Rattle.slices.specs.Splice.{part}
use Rattle.numbers.specs.Fixed.{big_bytes}
use Rattle.states.specs.declared.States.{States}
use Rattle.states.specs.declared.States.TheVariants.{Two, Nine}
use Rattle.records.specs.declared.Record.{Record}
use Rattle.records.specs.declared.Record.TheVariants.{Time, Value, Real}
use Rattle.event_streams.specs.Next.{Next, Event, End, Bad}
use Rattle.event_streams.specs.Stream.{next_event}
use Rattle.plain_text.specs.Text.{decimal, hex}
pub mod Code

abbrev pub newline : List ℕ
newline = 10 ∷ []

abbrev pub space : List ℕ
space = 32 ∷ []

-- `time `
abbrev pub time_word : List ℕ
time_word = 116 ∷ 105 ∷ 109 ∷ 101 ∷ 32 ∷ []

-- `two `
abbrev pub two_word : List ℕ
two_word = 116 ∷ 119 ∷ 111 ∷ 32 ∷ []

-- `nine `
abbrev pub nine_word : List ℕ
nine_word = 110 ∷ 105 ∷ 110 ∷ 101 ∷ 32 ∷ []

-- `real `
abbrev pub real_word : List ℕ
real_word = 114 ∷ 101 ∷ 97 ∷ 108 ∷ 32 ∷ []

-- `done `
abbrev pub done_word : List ℕ
done_word = 100 ∷ 111 ∷ 110 ∷ 101 ∷ 32 ∷ []

-- `refused `
abbrev pub refused_word : List ℕ
refused_word = 114 ∷ 101 ∷ 102 ∷ 117 ∷ 115 ∷ 101 ∷ 100 ∷ 32 ∷ []

-- "`time` decimal"
unfoldable pub time_line : ℕ → List ℕ
time_line u = time_word ++ decimal u ++ newline

-- "`two` or `nine`, reference, value bytes in hex; `real`, reference, bits in hex"
unfoldable pub hex_line : List ℕ → (reference : ℕ) → List ℕ → List ℕ
hex_line word reference bytes = word ++ decimal reference ++ space ++ hex bytes ++ newline

-- "last `done`, bytes read, steps, or alone `refused`, number, place"
unfoldable pub pair_line : List ℕ → (a b : ℕ) → List ℕ
pair_line word a b = word ++ decimal a ++ space ++ decimal b ++ newline

abbrev pub state_word : States → List ℕ
state_word Two = two_word
state_word Nine = nine_word

-- the line of an event whose value bytes lie in `values`
unfoldable pub event_line : (values : List ℕ) → Record → List ℕ
event_line values (Time u) = time_line u
event_line values (Value s reference start n) = hex_line (state_word s) reference (part values start n)
event_line values (Real reference bits) = hex_line real_word reference (big_bytes 8 bits)

module _ (events values : List ℕ) where
  unfoldable pub one_line : Next → (ℕ → List ℕ) → List ℕ
  one_line (Event r j) more = event_line values r ++ more j
  one_line End more = []
  one_line (Bad n p) more = []

  unfoldable pub lines_from : (fuel : ℕ) → ℕ → List ℕ
  lines_from zero i = []
  lines_from (suc fuel) i = one_line (next_event events (length values) true i) (λ j. lines_from fuel j)

  -- a line for each record of an event stream
  unfoldable pub event_lines : List ℕ
  event_lines = lines_from (length events) 0
