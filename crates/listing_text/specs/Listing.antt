-- The listing program: from all bytes of its input to all bytes of its text.
-- Assumes nothing.
use Rattle.std.specs.Prelude.{ℕ, Bool, cond, List, ◌++◌, length, take, drop, leb, eqb}
use Rattle.tables.specs.Lists.{Lists}
use Rattle.values.specs.Value.{ordinary}
use Rattle.answers.specs.declared.Answer.{Answer}
use Rattle.answers.specs.Outcome.{Lent}
use Rattle.entries.specs.Entries.{read_sections}
use Rattle.listing_text.specs.Lines.{done_word, refused_word, pair_line, event_lines}
use Rattle.preamble.specs.Preamble.{Opening, opens, refused, preamble}
pub mod Code
pub mod Length
pub mod Shown
pub mod Room

-- "It prints section reading's events, without the time rule."; "last `done`, bytes read, steps, or alone `refused`, number, place"
unfoldable pub told : Answer → (events values : List ℕ) → List ℕ
told a events values =
    cond (eqb a.number 0) (event_lines (take a.events events) values ++ pair_line done_word a.read a.steps) (pair_line refused_word a.number a.place)

-- "It lends 16,384 event and 8,192 value bytes.", and working room for any 256 signals and 64 vectors
abbrev pub lends : Lent
lends = record { events = 16384; values = 8192; room = 264; list = 64 }

unfoldable pub section_lines : Lists → Bool → List ℕ → List ℕ
section_lines t flag s = let l = read_sections t (ordinary flag) s lends in told l.answer l.events l.values

-- "later places count from the first section byte"
unfoldable pub after_preamble : List ℕ → Opening → List ℕ
after_preamble s (opens t flag at) = section_lines t flag (drop at s)
after_preamble s (refused n p) = pair_line refused_word n p

-- "It reads at most 32,768 bytes"; "Longer input is 1 at place 32,768"
unfoldable pub listing : List ℕ → List ℕ
listing s = cond (leb (length s) 32768) (after_preamble s (preamble s)) (pair_line refused_word 1 32768)
