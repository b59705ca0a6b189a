-- What the first nine bytes of a LEB128 number tell, or fewer where it ends before: the promise of `leb128::nine`.
-- Assumes nothing.
use Rattle.std.specs.Prelude.{◌≡◌, ℕ, ◌+◌, ◌-◌, ◌^◌, ◌≤◌, ◌<◌, cond, List, ltb, length, get_or, take, drop}
use Rattle.leb128.specs.Leb128.{value, goes_on}
use Rattle.std.specs.Prelude.{Err}
use Rattle.leb128.specs.declared.LebError.TheVariants as error
use Rattle.leb128.specs.Leb.{Leb, Value, Started, Ended, Open}

-- the number ends within nine bytes
pub record Ends (l : List ℕ) (at sum power last next : ℕ) : Type 0 where
  pub soon : goes_on l < 9
  pub inside : goes_on l < length l
  pub total : sum ≡ value (take (goes_on l + 1) l)
  pub weight : power ≡ 128 ^ (goes_on l + 1)
  pub ending : last ≡ get_or l (goes_on l) 0
  pub final : last < 128
  pub after : next ≡ at + (goes_on l + 1)
  pub below : sum < power
  pub most : power ≤ 2 ^ 63

-- nine bytes say that another follows
pub record Stays (l : List ℕ) (at sum tenth : ℕ) : Type 0 where
  pub long : 9 ≤ goes_on l
  pub total : sum ≡ value (take 9 l)
  pub after : tenth ≡ at + 9
  pub below : sum < 2 ^ 63

-- the input ends before
pub record Cut (l : List ℕ) : Type 0 where
  pub soon : goes_on l < 9
  pub past : length l ≤ goes_on l

abbrev pub Nine : List ℕ → ℕ → Started → Type 0
Nine s at (Ended sum power last next) = Ends (drop at s) at sum power last next
Nine s at (Open sum tenth) = Stays (drop at s) at sum tenth
Nine s at (Err error.Short) = Cut (drop at s)
Nine s at (Err error.Large) = ⊥

-- a signed number that ends, by the sum and the weight of its bytes and the last of them: below 0 where bit 6 of that is set
abbrev pub signed_end : ℕ → ℕ → ℕ → ℕ → Leb
signed_end sum power last next = cond (ltb last 64) (Value sum next) (Value (sum + (0xffff_ffff_ffff_ffff - power) + 1) next)
