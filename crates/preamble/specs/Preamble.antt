-- The preamble of the listing's input: the records before the section bytes.
-- Assumes nothing.
use Rattle.std.specs.Prelude.{ℕ, zero, suc, ◌+◌, Bool, cond, List, [], ◌∷◌, ◌++◌, length, get_or, leb, ltb, eqb}
use Rattle.slices.specs.Splice.{part}
use Rattle.numbers.specs.Fixed.{big}
use Rattle.tables.specs.Lists.{Lists, lists, signals, vectors}
use Rattle.preamble.specs.Item.{ItemFound, Signal, Vector, Sections, Refused}
pub mod Code
pub mod Loop

-- "records 1 signal (1-byte kind, reference, vector number), 2 vector (min, max, 1-byte state, reference), then 3 (one byte ..)":
-- the length of a record, its house kind included; 0 for "unknown house kind"
unfoldable pub item_length : ℕ → ℕ
item_length k = cond (eqb k 1) 10 (cond (eqb k 2) 14 (cond (eqb k 3) 2 0))

-- what a whole record says, and the place after it

unfoldable pub signal_at : List ℕ → ℕ → ItemFound
signal_at s i = Signal (get_or s (i + 1) 0) (big (part s (i + 2) 4)) (big (part s (i + 6) 4)) (i + 10)

unfoldable pub vector_at : List ℕ → ℕ → ItemFound
vector_at s i = Vector (big (part s (i + 1) 4)) (big (part s (i + 5) 4)) (get_or s (i + 9) 0) (big (part s (i + 10) 4)) (i + 14)

-- "0 little or 1 big; else 17"
unfoldable pub flag_at : List ℕ → ℕ → ItemFound
flag_at s i = cond (leb (get_or s (i + 1) 0) 1) (Sections (eqb (get_or s (i + 1) 0) 1) (i + 2)) (Refused 17 i)

unfoldable pub whole_item : List ℕ → ℕ → ItemFound
whole_item s i = cond (eqb (get_or s i 0) 1) (signal_at s i) (cond (eqb (get_or s i 0) 2) (vector_at s i) (flag_at s i))

-- "7: input ends where a .. record must still follow: input length"; "17: unknown house kind: record"; "7: input ends inside a .. record: its first byte"
unfoldable pub item_at : List ℕ → ℕ → ItemFound
item_at s i =
    cond (leb (length s) i) (Refused 7 (length s))
    (cond (eqb (item_length (get_or s i 0)) 0) (Refused 17 i)
    (cond (leb (i + item_length (get_or s i 0)) (length s)) (whole_item s i) (Refused 7 i)))

-- the tables, the flag and the place of the first section byte; or a refusal
pub data Opening : Type 0 where
  opens : Lists → Bool → (at : ℕ) → Opening
  refused : (number place : ℕ) → Opening

-- "Ids and vector numbers follow record order."
abbrev pub with_signal : Lists → (kind reference vector : ℕ) → Lists
with_signal t k r v = lists (t.kinds ++ (k ∷ [])) (t.refs ++ (r ∷ [])) (t.vecs ++ (v ∷ [])) t.mins t.maxs t.states t.vec_refs

abbrev pub with_vector : Lists → (min max state reference : ℕ) → Lists
with_vector t a b s r = lists t.kinds t.refs t.vecs (t.mins ++ (a ∷ [])) (t.maxs ++ (b ∷ [])) (t.states ++ (s ∷ [])) (t.vec_refs ++ (r ∷ []))

-- "a 257th signal or 65th vector is 2 at that record, after 7"
unfoldable pub one_item : Lists → ℕ → ItemFound → (Lists → ℕ → Opening) → Opening
one_item t i (Signal k r v j) more = cond (ltb (signals t) 256) (more (with_signal t k r v) j) (refused 2 i)
one_item t i (Vector a b s r j) more = cond (ltb (vectors t) 64) (more (with_vector t a b s r) j) (refused 2 i)
one_item t i (Sections flag j) more = opens t flag j
one_item t i (Refused n p) more = refused n p

module _ (s : List ℕ) where
  unfoldable pub opening : (fuel : ℕ) → Lists → ℕ → Opening
  opening zero t i = refused 7 (length s)
  opening (suc fuel) t i = one_item t i (item_at s i) (λ t' j. opening fuel t' j)

  unfoldable pub preamble : Opening
  preamble = opening (length s) (lists [] [] [] [] [] [] []) 0
