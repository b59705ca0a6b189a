-- What was read is told by its value and the place after it.
-- Assumes nothing.
use Rattle.std.specs.Prelude.{◌≡◌, ℕ}
use Rattle.std.proofs.Common.{ap}
use Rattle.values.specs.Read.{Read, Value, Bad}

value_in : Read → ℕ
value_in (Value v j) = v
value_in (Bad n p) = 0

next_in : Read → ℕ
next_in (Value v j) = j
next_in (Bad n p) = 0

module _ {v j v' j' : ℕ} (e : Value v j ≡ Value v' j') where
  pub same_value : v ≡ v'
  unfolding value_in
  same_value = ap value_in e

  pub same_next : j ≡ j'
  unfolding next_in
  same_next = ap next_in e
