-- How far a value is read, and with what its reading can be refused.
-- Assumes nothing.
use Rattle.std.specs.Prelude.{ℕ, ◌+◌, ◌≤◌, List, length, get_or, leb, eqb}
use native.Mathlib.Omega.{arith}
use Rattle.slices.specs.Choice.{cond_ind}
use Rattle.leb128.specs.Leb.{Leb}
use Rattle.leb128.specs.Leb as leb
use Rattle.values.specs.declared.How.{How}
use Rattle.values.specs.Read.{Read, Value, Bad}
use Rattle.values.specs.Value.{number, unsigned, signed, byte_up_to, real, narrow, value}

-- up to a place of which `to` holds, or refused with a number that a section's bytes can give
unfoldable pub Reads : (ℕ → Type 0) → Read → Type 0
Reads to (Value v i) = to i
Reads to (Bad n p) = (7 ≤ n) × (n ≤ 15)

module _ (to : ℕ → Type 0) where
  byte_reads : (most : ℕ) (map : ℕ → ℕ) (s : List ℕ) (i : ℕ) → to (i + 1) → Reads to (byte_up_to most map s i)
  unfolding Reads byte_up_to
  byte_reads most map s i h =
      cond_ind (leb (i + 1) (length s)) _ _ (Reads to) (λ a. cond_ind (leb (get_or s i 0) most) _ _ (Reads to) (λ b. h) (λ b. (omega arith, omega arith))) (λ a. (omega arith, omega arith))

  -- "kinds 0 and 1 one byte ..; kinds 2 and 3 one byte ..; kind 4 any byte"
  pub narrow_reads : (kind : ℕ) (s : List ℕ) (i : ℕ) → to (i + 1) → Reads to (narrow kind s i)
  unfolding narrow
  narrow_reads kind s i h =
      cond_ind (leb kind 1) _ _ (Reads to) (λ a. byte_reads 8 _ s i h)
      (λ a. cond_ind (leb kind 3) _ _ (Reads to) (λ b. byte_reads 1 _ s i h) (λ b. byte_reads 255 _ s i h))

abbrev Anywhere : ℕ → Type 0
Anywhere i = Unit {0}

number_reads : (i : ℕ) (l : Leb) → Reads Anywhere (number i l)
unfolding Reads number
number_reads i (leb.Value v next) = tt
number_reads i leb.Short = (omega arith, omega arith)
number_reads i leb.Large = (omega arith, omega arith)

pub unsigned_reads : (s : List ℕ) (i : ℕ) → Reads Anywhere (unsigned s i)
unfolding unsigned
unsigned_reads s i = number_reads i _

pub signed_reads : (s : List ℕ) (i : ℕ) → Reads Anywhere (signed s i)
unfolding signed
signed_reads s i = number_reads i _

real_reads : (how : How) (s : List ℕ) (i : ℕ) → Reads Anywhere (real how s i)
unfolding Reads real
real_reads how s i = cond_ind (leb (i + 8) (length s)) _ _ (Reads Anywhere) (λ a. tt) (λ a. (omega arith, omega arith))

pub value_reads : (how : How) (kind : ℕ) (s : List ℕ) (i : ℕ) → Reads Anywhere (value how kind s i)
unfolding value
value_reads how kind s i =
    cond_ind (leb kind 4) _ _ (Reads Anywhere) (λ a. narrow_reads Anywhere kind s i tt)
    (λ a. cond_ind (eqb kind 5) _ _ (Reads Anywhere) (λ b. signed_reads s i) (λ b. real_reads how s i))
