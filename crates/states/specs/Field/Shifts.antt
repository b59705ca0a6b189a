-- A field of any width at any place of a number of any width, set by shifts and masks.
use Rattle.std.specs.Prelude.{◌≡◌, ℕ, ◌+◌, ◌-◌, ◌*◌, ◌<◌, ◌≤◌, ◌/◌, ◌%◌, ◌^◌}
use Rattle.std.proofs.Common.{sym, ap, ◌∙◌, mod-lt, mod-eq_of_lt, add_assoc, zero-mul, zero-add, arith, pow_pos, shl_lt, shl_exact, shr_lt, pow_mono}
use Rattle.std.proofs.Math.Pow.{split, ones_lt, ones_split, mod-mod-pow}
use Rattle.states.specs.Field.{field_set}
use Rattle.std.specs.Int.Bits.{bit_and, bit_or, or_shifted_r, or_zero_r}
use Rattle.std.proofs.lemmas.Nat.{and_block, and_mask, or_block}

module _ (j bits shift byte value : ℕ) (hb : byte < 2 ^ (j + (bits + shift))) (hv : value < 2 ^ bits) where
  mask_low : (2 ^ (j + (bits + shift)) - 1) - (2 ^ bits - 1) * 2 ^ shift ≡ (2 ^ j - 1) * 2 ^ (bits + shift) + (2 ^ shift - 1)
  mask_low = omega (arith, ones_split j (bits + shift), ones_split bits shift)

  keeps : bit_and byte ((2 ^ j - 1) * 2 ^ (bits + shift) + (2 ^ shift - 1)) ≡ byte / 2 ^ (bits + shift) * 2 ^ (bits + shift) + byte % 2 ^ shift
  keeps =
      let small : 2 ^ shift - 1 < 2 ^ (bits + shift) = omega (arith, pow_mono {i = shift} {j = bits + shift} (omega arith), ones_lt shift) in
      ap (λ (b : ℕ). bit_and b ((2 ^ j - 1) * 2 ^ (bits + shift) + (2 ^ shift - 1))) (sym (split byte (bits + shift)))
      ∙ and_block (bits + shift) (byte / 2 ^ (bits + shift)) (2 ^ j - 1) (byte % 2 ^ (bits + shift)) (2 ^ shift - 1) (mod-lt byte (pow_pos (bits + shift))) small
      ∙ rw (and_mask, mod-eq_of_lt (shr_lt j (bits + shift) hb), and_mask, mod-mod-pow)

  pub set_law : bit_or (bit_and byte ((2 ^ (j + (bits + shift)) - 1) - (2 ^ bits - 1) * 2 ^ shift % 2 ^ (j + (bits + shift)))) (value * 2 ^ shift % 2 ^ (j + (bits + shift))) ≡ byte / 2 ^ (bits + shift) * 2 ^ (bits + shift) + value * 2 ^ shift + byte % 2 ^ shift
  set_law =
      let lo : byte % 2 ^ shift < 2 ^ shift = mod-lt byte (pow_pos shift) in
      let lo' : byte % 2 ^ shift < 2 ^ (bits + shift) = omega (arith, pow_mono {i = shift} {j = bits + shift} (omega arith)) in
      rw (shl_exact bits shift (j + (bits + shift)) (ones_lt bits) (omega arith), shl_exact bits shift (j + (bits + shift)) hv (omega arith), mask_low, keeps)
      (let e = or_block (bits + shift) (byte / 2 ^ (bits + shift)) 0 (byte % 2 ^ shift) (value * 2 ^ shift) lo' (shl_lt bits shift hv) in
      rw (zero-mul, zero-add, or_zero_r, or_shifted_r value shift (byte % 2 ^ shift) lo) at e ∙ sym (add_assoc _ _ _))

-- at a byte
pub set8 : (bits shift byte value : ℕ) → bits + shift ≤ 8 → byte < 256 → value < 2 ^ bits
    → bit_or (bit_and byte (255 - (2 ^ bits - 1) * 2 ^ shift % 256)) (value * 2 ^ shift % 256) ≡ field_set bits shift byte value
unfolding field_set
set8 bits shift byte value h hb hv =
    let e : (8 - (bits + shift)) + (bits + shift) ≡ 8 = omega arith in
    rw e at (set_law (8 - (bits + shift)) bits shift byte value (rw e hb) hv)
