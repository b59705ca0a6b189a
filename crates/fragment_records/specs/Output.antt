-- The records that the bench writes.
-- Assumes nothing.
use Rattle.std.specs.Prelude.{ℕ, zero, suc, ◌+◌, cond, List, [], ◌∷◌, ◌++◌, length, get_or, drop, eqb}
use Rattle.slices.specs.Splice.{part}
use Rattle.numbers.specs.Fixed.{big, big_bytes}
use Rattle.sessions.specs.declared.Bench.{Bench}
use Rattle.sessions.specs.Places.{is_free}
pub mod Laws
pub mod Code
pub mod Back
pub mod Examples

-- a fragment, where one is counted; closed, where a live session is dropped, with its count; held, for each live session at the input's end
pub data Out : Type 0 where
  fragment : (time session : ℕ) → Out
  closed : (time session count : ℕ) → Out
  held : (session count : ℕ) → Out

-- house form: "1 fragment (time of its step 8 bytes, session value 4)", "2 closed (time 8, session 4, count 8)", "3 held (session 4, count 8)"
unfoldable pub out_bytes : Out → List ℕ
out_bytes (fragment time session) = 1 ∷ big_bytes 8 time ++ big_bytes 4 session
out_bytes (closed time session count) = 2 ∷ big_bytes 8 time ++ big_bytes 4 session ++ big_bytes 8 count
out_bytes (held session count) = 3 ∷ big_bytes 4 session ++ big_bytes 8 count

unfoldable pub bytes_of : List Out → List ℕ
bytes_of [] = []
bytes_of (o ∷ outs) = out_bytes o ++ bytes_of outs

-- ---- the records that some bytes spell: what a reader of the output sees, who knows no bench

-- a record of a known kind, from its kind byte and the bytes behind that
unfoldable pub out_of : (kind : ℕ) → List ℕ → Out
out_of kind s =
    cond (eqb kind 1) (fragment (big (part s 0 8)) (big (part s 8 4)))
    (cond (eqb kind 2) (closed (big (part s 0 8)) (big (part s 8 4)) (big (part s 12 8))) (held (big (part s 0 4)) (big (part s 4 8))))

-- "a body whose length the kind fixes"
unfoldable pub body_length : (kind : ℕ) → ℕ
body_length kind = cond (eqb kind 2) 20 12

unfoldable pub records_from : (fuel : ℕ) → List ℕ → List Out
records_from zero s = []
records_from (suc fuel) [] = []
records_from (suc fuel) (kind ∷ s) = out_of kind s ∷ records_from fuel (drop (body_length kind) s)

unfoldable pub records_in : List ℕ → List Out
records_in s = records_from (length s) s

-- ---- what is held

-- "3 held (session 4, count 8) for each live session in the order of its place"
unfoldable pub held_at : Bench → ℕ → List Out
held_at b k = cond (is_free b k) [] (held (get_or b.sessions k 0) (get_or b.counts k 0) ∷ [])

unfoldable pub held_from : Bench → (n k : ℕ) → List Out
held_from b zero k = []
held_from b (suc n) k = held_at b k ++ held_from b n (suc k)

abbrev pub held_of : Bench → List Out
held_of b = held_from b 32 0

-- ---- what the records say of counts

-- the fragments among them
unfoldable pub fragments_of : List Out → List Out
fragments_of [] = []
fragments_of (fragment time session ∷ outs) = fragment time session ∷ fragments_of outs
fragments_of (closed time session count ∷ outs) = fragments_of outs
fragments_of (held session count ∷ outs) = fragments_of outs

-- "The counts held plus those handed out on closing"
unfoldable pub counts_in : List Out → ℕ
counts_in [] = 0
counts_in (fragment time session ∷ outs) = counts_in outs
counts_in (closed time session count ∷ outs) = count + counts_in outs
counts_in (held session count ∷ outs) = count + counts_in outs
