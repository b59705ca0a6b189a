-- Checks 1 to 6: "Checks 1 to 6 come first, in that order and lowest number first within one."
-- Assumes nothing.
use Rattle.std.specs.Prelude.{ℕ, zero, suc, Bool, true, not, cond, ◌&&◌, ◌||◌, length, leb, eqb}
use Rattle.tables.specs.Lists.{Lists, nth, signals, vectors}
use Rattle.tables.specs.Layout.{layout_of, total_bytes}
use Rattle.tables.specs.Check.{Check, Passed, Refused}
pub mod Laws
pub mod Loops

-- a check whose place is 0
unfoldable pub unless : Bool → ℕ → Check
unless good number = cond good Passed (Refused number 0)

-- a check whose place is the lowest of the n numbers from i that is not good
unfoldable pub lowest : ℕ → (ℕ → Bool) → ℕ → ℕ → Check
lowest number good zero i = Passed
lowest number good (suc n) i = cond (good i) (lowest number good n (suc i)) (Refused number i)

-- a later check, where an earlier one passed
unfoldable pub and_then : Check → Check → Check
and_then Passed later = later
and_then (Refused number place) later = Refused number place

-- "1,073,741,823 bytes or numbers in any other buffer"
unfoldable pub within_limit : ℕ → Bool
within_limit len = leb len 1073741823

-- 1: "buffer over its limit"; "16,777,215 section or change bytes"
unfoldable pub check1 : (input events values room list : ℕ) → Check
check1 input events values room list =
    unless (leb input 16777215 && within_limit events && within_limit values && within_limit room && within_limit list) 1

-- 2: "lists of one table of unequal length"
unfoldable pub equal_lengths : Lists → Bool
equal_lengths t =
    eqb (length t.refs) (signals t)
    && eqb (length t.vecs) (signals t)
    && eqb (length t.maxs) (vectors t)
    && eqb (length t.states) (vectors t)
    && eqb (length t.vec_refs) (vectors t)

-- "or too many records": "Most: 65,535 signals, 16,383 vectors"
unfoldable pub check2 : Lists → Check
check2 t = unless (equal_lengths t && leb (signals t) 65535 && leb (vectors t) 16383) 2

-- "A vector record is good when 1 <= min <= max <= n, state is 0 or 1 and the reference isn't 0."
unfoldable pub good_vector : Lists → ℕ → Bool
good_vector t v =
    leb 1 (nth t.mins v)
    && leb (nth t.mins v) (nth t.maxs v)
    && leb (nth t.maxs v) (signals t)
    && leb (nth t.states v) 1
    && not (eqb (nth t.vec_refs v) 0)

-- 3: "bad vector record", at the vector number
unfoldable pub check3 : Lists → Check
check3 t = lowest 3 (good_vector t) (vectors t) 1

-- the range of a vector holds an id
unfoldable pub holds : Lists → ℕ → ℕ → Bool
holds t v id = leb (nth t.mins v) id && leb id (nth t.maxs v)

-- "a vector 1..V whose range holds the id, whose state matches .. and whose reference is the same"
unfoldable pub suits : Lists → (id v state : ℕ) → Bool
suits t id v state =
    leb 1 v && leb v (vectors t) && holds t v id && eqb (nth t.states v) state && eqb (nth t.vec_refs v) (nth t.refs id)

-- "kinds 1 and 3 name [such] a vector (kind 1 nine, kind 3 two) ..; other kinds have vector number 0"
unfoldable pub good_number : Lists → (id v kind : ℕ) → Bool
good_number t id v kind = cond (eqb kind 1) (suits t id v 0) (cond (eqb kind 3) (suits t id v 1) (eqb v 0))

-- "A signal record is good when its kind is at most 6, its reference isn't 0, and: .."
unfoldable pub good_signal : Lists → ℕ → Bool
good_signal t id = leb (nth t.kinds id) 6 && not (eqb (nth t.refs id) 0) && good_number t id (nth t.vecs id) (nth t.kinds id)

-- 4: "bad signal record", at the id
unfoldable pub check4 : Lists → Check
check4 t = lowest 4 (good_signal t) (signals t) 1

-- "Every id inside a vector's range must name that vector.": one id, and the first v vectors
unfoldable pub names_all : Lists → (v id : ℕ) → Bool
names_all t zero id = true
names_all t (suc v) id = names_all t v id && (not (holds t (suc v) id) || eqb (nth t.vecs id) (suc v))

-- 5: "id in a range doesn't name its vector", at the id
unfoldable pub check5 : Lists → Check
check5 t = lowest 5 (names_all t (vectors t)) (signals t) 1

-- 6: "working room short": the bytes that all vectors and the flags need, and "another of V 4-byte numbers"
unfoldable pub check6 : Lists → (room list : ℕ) → Check
check6 t room list = unless (leb (total_bytes (layout_of t)) room && leb (vectors t) list) 6

unfoldable pub checks : Lists → (input events values room list : ℕ) → Check
checks t input events values room list =
    and_then (check1 input events values room list)
    (and_then (check2 t) (and_then (check3 t) (and_then (check4 t) (and_then (check5 t) (check6 t room list)))))
