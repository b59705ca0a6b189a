-- The reading of an output, tried: a record of each kind, spelled out; none; and numbers that fill their fields.
-- Assumes nothing.
use Rattle.std.specs.Prelude.{◌≡◌, refl, [], ◌∷◌, ◌++◌, replicate}
use Rattle.slices.specs.Splice.{part}
use Rattle.numbers.specs.Fixed.{big}
use Rattle.fragment_records.specs.Output.{fragment, closed, held, out_of, body_length, records_from, records_in}

pub examples :
    (records_in (1 ∷ 0 ∷ 0 ∷ 0 ∷ 0 ∷ 0 ∷ 0 ∷ 1 ∷ 5 ∷ 0 ∷ 0 ∷ 2 ∷ 7
    ∷ 2 ∷ 0 ∷ 0 ∷ 0 ∷ 0 ∷ 0 ∷ 0 ∷ 1 ∷ 6 ∷ 0 ∷ 0 ∷ 2 ∷ 7 ∷ 0 ∷ 0 ∷ 0 ∷ 0 ∷ 0 ∷ 0 ∷ 0 ∷ 9
    ∷ 3 ∷ 0 ∷ 0 ∷ 0 ∷ 8 ∷ 0 ∷ 0 ∷ 0 ∷ 0 ∷ 0 ∷ 0 ∷ 3 ∷ 1 ∷ [])
    ≡ fragment 261 519 ∷ closed 262 519 9 ∷ held 8 769 ∷ [])
    × (records_in [] ≡ [])
    × (records_in (2 ∷ replicate 20 255 ++ 3 ∷ replicate 12 255) ≡ closed 18446744073709551615 4294967295 18446744073709551615 ∷ held 4294967295 18446744073709551615 ∷ [])
unfolding records_in records_from body_length out_of part big
examples = (refl, refl, refl)
