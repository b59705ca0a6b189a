-- Rows that try the three entries on small inputs, each by computation: what a row says of an entry, and the tables and sizes that rows share.
-- Assumes nothing.
use Rattle.std.specs.Prelude.{ℕ, ◌≡◌, false, List, [], ◌∷◌, length, take, replicate}
use Rattle.numbers.specs.Fixed.{big_bytes}
use Rattle.tables.specs.Lists.{Lists}
use Rattle.values.specs.Value.{ordinary}
use Rattle.answers.specs.declared.Answer.{Answer}
use Rattle.answers.specs.Outcome.{Left, Lent, LeftKept}
use Rattle.entries.specs.Entries.{read_sections, read_changes, apply_time_rule}
pub mod Worked
pub mod Readings
pub mod Sentences
pub mod Refusals
pub mod Reals

-- number, place, bytes read, event bytes, value bytes, steps
abbrev pub Six : Type 0
Six = ℕ × ℕ × ℕ × ℕ × ℕ × ℕ

abbrev pub six : Answer → Six
six a = (a.number, a.place, a.read, a.events, a.values, a.steps)

abbrev pub Refuses : Answer → (number place : ℕ) → Type 0
Refuses a number place = six a ≡ (number, place, 0, 0, 0, 0)

-- the six numbers and the value bytes that they report
abbrev pub Gives : Left → Six → (values : List ℕ) → Type 0
Gives l n vs = ◌≡◌ {A = Six × List ℕ} (six l.answer, take l.answer.values l.values) (n, vs)

-- .. and the event bytes
abbrev pub Fully : Left → Six → (events values : List ℕ) → Type 0
Fully l n es vs = ◌≡◌ {A = Six × List ℕ × List ℕ} (six l.answer, take l.answer.events l.events, take l.answer.values l.values) (n, es, vs)

-- the six numbers and the kept bytes
abbrev pub Keeps : LeftKept → Six → (kept : List ℕ) → Type 0
Keeps l n ks = ◌≡◌ {A = Six × List ℕ} (six l.answer, take l.answer.events l.kept) (n, ks)

-- all of what a call leaves
abbrev pub left : Answer → (events values room list : List ℕ) → Left
left a e v r l = record { answer = a; events = e; values = v; room = r; list = l }

-- how much is lent
abbrev pub lent : (events values room list : ℕ) → Lent
lent e v r l = record { events = e; values = v; room = r; list = l }

-- more than any row needs
abbrev pub ample : Lent
ample = lent 500 500 50 9

abbrev pub tables : (kinds refs vecs mins maxs states vec_refs : List ℕ) → Lists
tables k r v a b s w = record { kinds = k; refs = r; vecs = v; mins = a; maxs = b; states = s; vec_refs = w }

-- no signals at all
abbrev pub no_signals : Lists
no_signals = tables [] [] [] [] [] [] []

-- signals outside vectors
abbrev pub plain : (kinds refs : List ℕ) → Lists
plain k r = tables k r (replicate (length k) 0) [] [] [] []

abbrev pub lone : (kind : ℕ) → Lists
lone k = plain (k ∷ []) (1 ∷ [])

-- ids 1..w are one vector, of reference 1
abbrev pub vector : (kind state w : ℕ) → Lists
vector kind state w = tables (replicate w kind) (replicate w 1) (replicate w 1) (1 ∷ []) (w ∷ []) (state ∷ []) (1 ∷ [])

abbrev pub nine_state : (w : ℕ) → Lists
nine_state w = vector 1 0 w

abbrev pub two_state : (w : ℕ) → Lists
two_state w = vector 3 1 w

-- of document 01's worked input: id 1 kind 0 ref 1; ids 2, 3 kind 3 ref 2 vector 1 (min 2, max 3, two-state); id 4 kind 4 ref 3
abbrev pub small : Lists
small = tables (0 ∷ 3 ∷ 3 ∷ 4 ∷ []) (1 ∷ 2 ∷ 2 ∷ 3 ∷ []) (0 ∷ 1 ∷ 1 ∷ 0 ∷ []) (2 ∷ []) (3 ∷ []) (1 ∷ []) (2 ∷ [])

-- the entries over n bytes, written as one number
abbrev pub sections : Lists → (n s : ℕ) → Lent → Left
sections t n s l = read_sections t (ordinary false) (big_bytes n s) l

-- only a tailer, so that the tables and what is lent decide
abbrev pub tailer : Lists → Lent → Left
tailer t l = sections t 12 0x544149000000000000000000 l

abbrev pub changes : Lists → (n s : ℕ) → Lent → Left
changes t n s l = read_changes t (big_bytes n s) l

abbrev pub rule : (n s values room : ℕ) → LeftKept
rule n s values room = apply_time_rule (big_bytes n s) values room
