-- What the contracts of the faces say, by the names of their slices: the tables, and the lent buffers before and after.
-- Assumes nothing.
use Rattle.std.specs.Prelude.{ℕ, ◌≡◌, List, length}
use Rattle.std.specs.Borrow.{Bor, MutBor}
use denote.Triple.Both.{Both}
use Rattle.tables.specs.Lists.{Lists, lists}
use Rattle.tables.specs.Checks.{checks}
use Rattle.tables.specs.Check.{Passed}
use Rattle.rules.specs.Scan.{Scan}
use Rattle.gather.specs.Run.{run_all}
use Rattle.gather.specs.Begin.{rooms_of}
use Rattle.gather.specs.declared.Part.{Part}
use Rattle.answers.specs.declared.Answer.{Answer}
use Rattle.answers.specs.Outcome.{Outcome, Left, Lent, LeftKept}
use Rattle.left_buffers.specs.Left.{left_of, lent_of}
use Rattle.reading_ends.specs.Reading.{Ended}
use Rattle.entries.specs.Entries.{outcome}

abbrev pub Slice : Type 0
Slice = Bor (List ℕ)

abbrev pub Slices : Type 0
Slices = Both Slice Slice

abbrev pub Buffer : Type 0
Buffer = MutBor (List ℕ)

abbrev pub Buffers : Type 0
Buffers = Both Buffer Buffer

-- the tables, as they are passed and at a call's end
abbrev pub given : (kinds refs vecs mins maxs states vec_refs : Slice) → Lists
given k r v i a s e = lists k.now r.now v.now i.now a.now s.now e.now

abbrev pub tables : (kinds refs vecs mins maxs states vec_refs : Slices) → Lists
tables k r v i a s e =
    lists k.entry.now r.entry.now v.entry.now i.entry.now a.entry.now s.entry.now e.entry.now

-- how much is lent, and what is left there
abbrev pub lent : (events values room list : Buffers) → Lent
lent e v r l = lent_of e.entry.now v.entry.now r.entry.now l.entry.now

abbrev pub left : Answer → (events values room list : Buffers) → Left
left a e v r l = left_of a e.exit.now v.exit.now r.exit.now l.exit.now

-- where one output is lent
abbrev pub left_in : Answer → (out : Buffers) → LeftKept
left_in a o = record { answer = a; kept = o.exit.now }

-- ---- within a reading

-- its checks passed
abbrev pub Checked : Lists → (input : Slice) → (events values room list : Buffer) → Type 0
Checked t s e v r l = checks t (length s.now) (length e.now) (length v.now) (length r.now) (length l.now) ≡ Passed

-- what comes of its scan's acts
abbrev pub ran : Lists → (events values : Buffers) → Scan → Outcome
ran t e v sc = outcome (run_all t (rooms_of e.entry.now v.entry.now) sc)

-- its acts are over, and its end may come
abbrev pub Over : (bytes numbers : ℕ) → Part → (events values room list : Buffers) → Outcome → Type 0
Over n k p e v r l o = Ended n k r.exit.now l.exit.now e.exit.now v.exit.now p o
