-- The checks by computation: a table of what is lent and the answer, with a row for each sentence and each limit.
-- Assumes nothing.
use Rattle.std.specs.Prelude.{◌≡◌, refl, ℕ, List, [], ◌∷◌, ◌++◌, map, replicate}
use Rattle.tables.specs.Lists.{Lists, nth, signals, vectors}
use Rattle.tables.specs.Layout.{layout_of, start}
use Rattle.states.specs.Kind.{bytes_required}
use Rattle.tables.specs.Checks.{unless, lowest, and_then, within_limit, equal_lengths, good_vector, holds, suits, good_number, good_signal, names_all, check1, check2, check3, check4, check5, check6, checks}
use Rattle.tables.specs.Check.{Check, Passed, Refused}

-- kind, reference and vector number of each signal
abbrev Signals : Type 0
Signals = List (ℕ × ℕ × ℕ)

-- min, max, state and reference of each vector
abbrev Vectors : Type 0
Vectors = List (ℕ × ℕ × ℕ × ℕ)

table : Signals → Vectors → Lists
table s v =
    record {
      kinds = map (λ r. r.0) s;
      refs = map (λ r. r.1) s;
      vecs = map (λ r. r.2) s;
      mins = map (λ r. r.0) v;
      maxs = map (λ r. r.1) v;
      states = map (λ r. r.2) v;
      vec_refs = map (λ r. r.3) v;
    }

-- lists of these lengths
sizes : (kinds refs vecs mins maxs states vec_refs : ℕ) → Lists
sizes kinds refs vecs mins maxs states vec_refs =
    record { kinds = replicate kinds 2; refs = replicate refs 1; vecs = replicate vecs 0; mins = replicate mins 1; maxs = replicate maxs 1; states = replicate states 1; vec_refs = replicate vec_refs 1 }

-- with room for everything
ample : Lists → Check
ample t = checks t 12 1000 1000 1000 1000

-- the input, two outputs, and the two working buffers
lent : (input events values room list : ℕ) → Check
lent = checks (sizes 0 0 0 0 0 0 0)

-- the answer, and what it must be
abbrev Row : Type 0
Row = Check × Check

-- 1: "buffer over its limit"
limits : List Row
limits =
    (lent 16777215 1073741823 1073741823 1073741823 1073741823, Passed)
    ∷ (lent 16777216 1073741823 1073741823 1073741823 1073741823, Refused 1 0)
    ∷ (lent 16777215 1073741824 1073741823 1073741823 1073741823, Refused 1 0)
    ∷ (lent 16777215 1073741823 1073741824 1073741823 1073741823, Refused 1 0)
    ∷ (lent 16777215 1073741823 1073741823 1073741824 1073741823, Refused 1 0)
    ∷ (lent 16777215 1073741823 1073741823 1073741823 1073741824, Refused 1 0)
    ∷ []

-- 2: "lists of one table of unequal length, or too many records"
lengths : List Row
lengths =
    -- "65,535 signals pass, 65,536 give 2"
    (check2 (sizes 65535 65535 65535 0 0 0 0), Passed)
    ∷ (ample (sizes 65536 65536 65536 0 0 0 0), Refused 2 0)
    -- "16,383 vectors"
    ∷ (check2 (sizes 0 0 0 16383 16383 16383 16383), Passed)
    ∷ (ample (sizes 0 0 0 16384 16384 16384 16384), Refused 2 0)
    -- "lists of one table of unequal length"
    ∷ (ample (sizes 0 1 1 0 0 0 0), Refused 2 0)
    ∷ (ample (sizes 1 0 1 0 0 0 0), Refused 2 0)
    ∷ (ample (sizes 1 1 0 0 0 0 0), Refused 2 0)
    ∷ (ample (sizes 1 1 2 0 0 0 0), Refused 2 0)
    ∷ (ample (sizes 1 1 1 0 1 1 1), Refused 2 0)
    ∷ (ample (sizes 1 1 1 1 0 1 1), Refused 2 0)
    ∷ (ample (sizes 1 1 1 1 1 0 1), Refused 2 0)
    ∷ (ample (sizes 1 1 1 1 1 1 0), Refused 2 0)
    ∷ (ample (sizes 1 1 1 1 1 1 2), Refused 2 0)
    -- 1 comes first
    ∷ (checks (sizes 1 0 1 0 0 0 0) 12 1073741824 1000 1000 1000, Refused 1 0)
    ∷ []

-- 3: "bad vector record", at the vector number
vector_records : List Row
vector_records =
    -- "1 <= min <= max <= n"
    (ample (table ((3, 5, 1) ∷ (3, 5, 1) ∷ []) ((1, 2, 1, 5) ∷ [])), Passed)
    ∷ (ample (table ((3, 5, 1) ∷ (3, 5, 1) ∷ []) ((0, 2, 1, 5) ∷ [])), Refused 3 1)
    ∷ (ample (table ((3, 5, 1) ∷ (3, 5, 1) ∷ []) ((2, 1, 1, 5) ∷ [])), Refused 3 1)
    ∷ (ample (table ((3, 5, 1) ∷ (3, 5, 1) ∷ []) ((1, 3, 1, 5) ∷ [])), Refused 3 1)
    ∷ (ample (table ((3, 5, 1) ∷ (3, 5, 1) ∷ []) ((1, 4294967295, 1, 5) ∷ [])), Refused 3 1)
    ∷ (ample (table ([]) ((1, 1, 1, 5) ∷ [])), Refused 3 1)
    -- "state is 0 or 1"
    ∷ (ample (table ((1, 5, 1) ∷ (1, 5, 1) ∷ []) ((1, 2, 0, 5) ∷ [])), Passed)
    ∷ (ample (table ((3, 5, 1) ∷ (3, 5, 1) ∷ []) ((1, 2, 2, 5) ∷ [])), Refused 3 1)
    -- "the reference isn't 0"
    ∷ (ample (table ((3, 5, 1) ∷ (3, 5, 1) ∷ []) ((1, 2, 1, 0) ∷ [])), Refused 3 1)
    -- "lowest number first"
    ∷ (ample (table ((3, 5, 1) ∷ (3, 5, 1) ∷ []) ((1, 2, 1, 5) ∷ (0, 2, 1, 5) ∷ (1, 2, 1, 0) ∷ [])), Refused 3 2)
    -- before 4
    ∷ (ample (table ((7, 5, 1) ∷ (3, 5, 1) ∷ []) ((1, 3, 1, 5) ∷ [])), Refused 3 1)
    ∷ []

-- 4: "bad signal record", at the id
signal_records : List Row
signal_records =
    -- "its kind is at most 6"
    (ample (table ((6, 1, 0) ∷ []) ([])), Passed)
    ∷ (ample (table ((7, 1, 0) ∷ []) ([])), Refused 4 1)
    -- "its reference isn't 0"
    ∷ (ample (table ((2, 0, 0) ∷ []) ([])), Refused 4 1)
    -- "kinds 1 and 3 name a vector 1..V"
    ∷ (ample (table ((3, 5, 0) ∷ []) ([])), Refused 4 1)
    ∷ (ample (table ((1, 5, 0) ∷ []) ([])), Refused 4 1)
    ∷ (ample (table ((3, 5, 2) ∷ []) ((1, 1, 1, 5) ∷ [])), Refused 4 1)
    ∷ (ample (table ((3, 5, 4294967295) ∷ []) ((1, 1, 1, 5) ∷ [])), Refused 4 1)
    -- "whose range holds the id"
    ∷ (ample (table ((3, 5, 1) ∷ (3, 5, 1) ∷ []) ((1, 1, 1, 5) ∷ [])), Refused 4 2)
    ∷ (ample (table ((3, 5, 1) ∷ (3, 5, 1) ∷ []) ((2, 2, 1, 5) ∷ [])), Refused 4 1)
    -- "whose state matches (kind 1 nine, kind 3 two)"
    ∷ (ample (table ((1, 5, 1) ∷ []) ((1, 1, 1, 5) ∷ [])), Refused 4 1)
    ∷ (ample (table ((3, 5, 1) ∷ []) ((1, 1, 0, 5) ∷ [])), Refused 4 1)
    -- "whose reference is the same"
    ∷ (ample (table ((3, 6, 1) ∷ []) ((1, 1, 1, 5) ∷ [])), Refused 4 1)
    -- "other kinds have vector number 0"
    ∷ (ample (table ((0, 5, 1) ∷ []) ((1, 1, 1, 5) ∷ [])), Refused 4 1)
    ∷ (ample (table ((2, 5, 1) ∷ []) ((1, 1, 1, 5) ∷ [])), Refused 4 1)
    ∷ (ample (table ((4, 5, 1) ∷ []) ((1, 1, 1, 5) ∷ [])), Refused 4 1)
    ∷ (ample (table ((5, 5, 1) ∷ []) ((1, 1, 1, 5) ∷ [])), Refused 4 1)
    ∷ (ample (table ((6, 5, 1) ∷ []) ((1, 1, 1, 5) ∷ [])), Refused 4 1)
    -- "lowest number first"
    ∷ (ample (table ((2, 1, 0) ∷ (2, 0, 0) ∷ (7, 1, 0) ∷ []) ([])), Refused 4 2)
    -- before 5, although that is at id 1
    ∷ (ample (table ((2, 1, 0) ∷ (7, 5, 1) ∷ []) ((1, 2, 1, 5) ∷ [])), Refused 4 2)
    ∷ []

-- 5: "id in a range doesn't name its vector", at the id
names : List Row
names =
    -- "Every id inside a vector's range must name that vector."
    (ample (table ((3, 5, 1) ∷ (2, 1, 0) ∷ (3, 5, 1) ∷ []) ((1, 3, 1, 5) ∷ [])), Refused 5 2)
    -- the lowest id over all vectors, not the first in vector order
    ∷ (ample (table ((2, 1, 0) ∷ (2, 1, 0) ∷ []) ((2, 2, 1, 1) ∷ (1, 1, 1, 1) ∷ [])), Refused 5 1)
    -- ranges that overlap
    ∷ (ample (table ((3, 1, 1) ∷ []) ((1, 1, 1, 1) ∷ (1, 1, 1, 1) ∷ [])), Refused 5 1)
    -- "Two vectors may share a reference"
    ∷ (ample (table ((3, 1, 1) ∷ (3, 1, 2) ∷ []) ((1, 1, 1, 1) ∷ (2, 2, 1, 1) ∷ [])), Passed)
    -- before 6
    ∷ (checks (table ((3, 5, 1) ∷ (2, 1, 0) ∷ (3, 5, 1) ∷ []) ((1, 3, 1, 5) ∷ [])) 12 1000 1000 0 0, Refused 5 2)
    ∷ []

-- 6: "working room short"
rooms : List Row
rooms =
    -- width 9, two-state: 2 + 2 + 1 + 1 bytes, 1 number
    (checks (table ((3, 1, 1) ∷ (3, 1, 1) ∷ (3, 1, 1) ∷ (3, 1, 1) ∷ (3, 1, 1) ∷ (3, 1, 1) ∷ (3, 1, 1) ∷ (3, 1, 1) ∷ (3, 1, 1) ∷ []) ((1, 9, 1, 1) ∷ [])) 12 1000 1000 6 1, Passed)
    ∷ (checks (table ((3, 1, 1) ∷ (3, 1, 1) ∷ (3, 1, 1) ∷ (3, 1, 1) ∷ (3, 1, 1) ∷ (3, 1, 1) ∷ (3, 1, 1) ∷ (3, 1, 1) ∷ (3, 1, 1) ∷ []) ((1, 9, 1, 1) ∷ [])) 12 1000 1000 5 1, Refused 6 0)
    ∷ (checks (table ((3, 1, 1) ∷ (3, 1, 1) ∷ (3, 1, 1) ∷ (3, 1, 1) ∷ (3, 1, 1) ∷ (3, 1, 1) ∷ (3, 1, 1) ∷ (3, 1, 1) ∷ (3, 1, 1) ∷ []) ((1, 9, 1, 1) ∷ [])) 12 1000 1000 6 0, Refused 6 0)
    -- V = 0 needs 0 and 0
    ∷ (checks (table ((2, 1, 0) ∷ []) ([])) 12 1000 1000 0 0, Passed)
    -- width 3, nine-state: 2 + 1 + 1 + 1
    ∷ (checks (table ((1, 1, 1) ∷ (1, 1, 1) ∷ (1, 1, 1) ∷ []) ((1, 3, 0, 1) ∷ [])) 12 1000 1000 5 1, Passed)
    ∷ (checks (table ((1, 1, 1) ∷ (1, 1, 1) ∷ (1, 1, 1) ∷ []) ((1, 3, 0, 1) ∷ [])) 12 1000 1000 4 1, Refused 6 0)
    -- nine vectors of width 1: 9 + 9 + 2 + 2, and 9 numbers
    ∷ (checks (table ((3, 1, 1) ∷ (3, 1, 2) ∷ (3, 1, 3) ∷ (3, 1, 4) ∷ (3, 1, 5) ∷ (3, 1, 6) ∷ (3, 1, 7) ∷ (3, 1, 8) ∷ (3, 1, 9) ∷ []) ((1, 1, 1, 1) ∷ (2, 2, 1, 1) ∷ (3, 3, 1, 1) ∷ (4, 4, 1, 1) ∷ (5, 5, 1, 1) ∷ (6, 6, 1, 1) ∷ (7, 7, 1, 1) ∷ (8, 8, 1, 1) ∷ (9, 9, 1, 1) ∷ [])) 12 1000 1000 22 9, Passed)
    ∷ (checks (table ((3, 1, 1) ∷ (3, 1, 2) ∷ (3, 1, 3) ∷ (3, 1, 4) ∷ (3, 1, 5) ∷ (3, 1, 6) ∷ (3, 1, 7) ∷ (3, 1, 8) ∷ (3, 1, 9) ∷ []) ((1, 1, 1, 1) ∷ (2, 2, 1, 1) ∷ (3, 3, 1, 1) ∷ (4, 4, 1, 1) ∷ (5, 5, 1, 1) ∷ (6, 6, 1, 1) ∷ (7, 7, 1, 1) ∷ (8, 8, 1, 1) ∷ (9, 9, 1, 1) ∷ [])) 12 1000 1000 21 9, Refused 6 0)
    ∷ (checks (table ((3, 1, 1) ∷ (3, 1, 2) ∷ (3, 1, 3) ∷ (3, 1, 4) ∷ (3, 1, 5) ∷ (3, 1, 6) ∷ (3, 1, 7) ∷ (3, 1, 8) ∷ (3, 1, 9) ∷ []) ((1, 1, 1, 1) ∷ (2, 2, 1, 1) ∷ (3, 3, 1, 1) ∷ (4, 4, 1, 1) ∷ (5, 5, 1, 1) ∷ (6, 6, 1, 1) ∷ (7, 7, 1, 1) ∷ (8, 8, 1, 1) ∷ (9, 9, 1, 1) ∷ [])) 12 1000 1000 22 8, Refused 6 0)
    -- the table of the listing program's example
    ∷ (checks (table ((0, 1, 0) ∷ (3, 2, 1) ∷ (3, 2, 1) ∷ (4, 3, 0) ∷ []) ((2, 3, 1, 2) ∷ [])) 12 1000 1000 4 1, Passed)
    ∷ []

agree : List Row → Type 0
agree rows = map (λ r. r.0) rows ≡ map (λ r. r.1) rows

all_agree : agree (limits ++ lengths ++ vector_records ++ signal_records ++ names ++ rooms)
unfolding agree limits lengths vector_records signal_records names rooms table sizes ample lent nth signals vectors layout_of start bytes_required unless lowest and_then within_limit equal_lengths good_vector holds suits good_number good_signal names_all check1 check2 check3 check4 check5 check6 checks
all_agree = refl
