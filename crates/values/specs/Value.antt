-- The value of a signal, by its kind.
-- Assumes nothing.
use Rattle.std.specs.Prelude.{ℕ, ◌+◌, ◌≤◌, Bool, false, cond, ◌&&◌, List, length, get_or, leb, eqb}
use Rattle.slices.specs.Splice.{part}
use Rattle.numbers.specs.Fixed.{fixed}
use Rattle.leb128.specs.Leb128.{read_unsigned, read_signed}
use Rattle.leb128.specs.Leb.{Leb}
use Rattle.leb128.specs.Leb as leb
use Rattle.states.specs.Letters.{mapped}
use Rattle.values.specs.declared.How.{How}
use Rattle.values.specs.Read.{Read, Value, Bad}
pub mod Laws
pub mod Reads
pub mod Manners

-- a manner of reading: the flag, and whether reals follow it
abbrev pub manner : (flag reals : Bool) → How
manner flag reals = record { big_endian = flag; reals_by_flag = reals }

-- the crate's own
abbrev pub ordinary : Bool → How
ordinary flag = manner flag false

-- what follows from what was read
unfoldable pub on_read : {R : Type 0} → Read → (ℕ → ℕ → R) → (ℕ → ℕ → R) → R
on_read (Value v i) fails reads = reads v i
on_read (Bad n p) fails reads = fails n p

-- "7: input ends inside a number: its first byte"; "12: LEB128 too large: its first byte"
unfoldable pub number : ℕ → Leb → Read
number i (leb.Value v next) = Value v next
number i leb.Short = Bad 7 i
number i leb.Large = Bad 12 i

unfoldable pub unsigned : List ℕ → ℕ → Read
unsigned s i = number i (read_unsigned s i)

-- as its 64 bits
unfoldable pub signed : List ℕ → ℕ → Read
signed s i = number i (read_signed s i)

-- one byte, at most `most`, taken by `map`; "14: value out of its kind's range: value byte"
unfoldable pub byte_up_to : ℕ → (ℕ → ℕ) → List ℕ → ℕ → Read
byte_up_to most map s i = cond (leb (i + 1) (length s)) (cond (leb (get_or s i 0) most) (Value (map (get_or s i 0)) (i + 1)) (Bad 14 i)) (Bad 7 i)

-- "eight bytes, always little-endian, the flag aside"; by W3 "a second mode that follows the flag"
abbrev pub big_real : How → Bool
big_real how = how.reals_by_flag && how.big_endian

-- the real's bits
unfoldable pub real : How → List ℕ → ℕ → Read
real how s i = cond (leb (i + 8) (length s)) (Value (fixed (big_real how) (part s i 8)) (i + 8)) (Bad 7 i)

-- "kinds 0 and 1 one byte 0..8, mapped ..; kinds 2 and 3 one byte 0 or 1; kind 4 any byte": alike in every manner
unfoldable pub narrow : ℕ → List ℕ → ℕ → Read
narrow kind s i =
    cond (leb kind 1) (byte_up_to 8 mapped s i)
    (cond (leb kind 3) (byte_up_to 1 (λ b. b) s i) (byte_up_to 255 (λ b. b) s i))

-- .. "kind 5 a signed LEB128; kind 6 eight bytes"
unfoldable pub value : How → ℕ → List ℕ → ℕ → Read
value how kind s i = cond (leb kind 4) (narrow kind s i) (cond (eqb kind 5) (signed s i) (real how s i))

-- the largest value of each kind that is a byte
unfoldable pub most_of : ℕ → ℕ
most_of kind = cond (leb kind 1) 8 (cond (leb kind 3) 1 255)

-- a value that a signal of a kind can take
abbrev pub Suits : ℕ → ℕ → Type 0
Suits kind v = kind ≤ 4 → v ≤ most_of kind
