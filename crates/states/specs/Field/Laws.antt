-- Fields read after a field was set.
use Rattle.std.specs.Prelude.{◌≡◌, ℕ, ◌+◌, ◌-◌, ◌*◌, ◌<◌, ◌≤◌, ◌/◌, ◌%◌, ◌^◌}
use Rattle.std.proofs.Math.Path.{sym, ap}
use Rattle.std.proofs.Common.{◌∙◌, mod-lt, pow_pos, pow-add, shr_lt}
use Rattle.std.proofs.Math.Nat.{add_assoc}
use native.Mathlib.Omega.{arith}
use Rattle.std.proofs.Math.Pow.{shr-shr, high, low, field, mod-mod-pow}
use Rattle.std.proofs.Math.Arith.{digits_lt}
use Rattle.states.specs.Field.{field_set, field_get}

module _ (bits shift byte value : ℕ) (hv : value < 2 ^ bits) where
  lower : value * 2 ^ shift + byte % 2 ^ shift < 2 ^ (bits + shift)
  lower = rw pow-add (digits_lt hv (mod-lt byte (pow_pos shift)))

  -- what is above the field stays
  above : field_set bits shift byte value / 2 ^ (bits + shift) ≡ byte / 2 ^ (bits + shift)
  unfolding field_set
  above = rw add_assoc (high (byte / 2 ^ (bits + shift)) (bits + shift) lower)

  -- what is below it, with it
  within : field_set bits shift byte value % 2 ^ (bits + shift) ≡ value * 2 ^ shift + byte % 2 ^ shift
  unfolding field_set
  within = rw add_assoc (low (byte / 2 ^ (bits + shift)) (bits + shift) lower)

  -- what is below it stays
  beneath : field_set bits shift byte value % 2 ^ shift ≡ byte % 2 ^ shift
  beneath = rw (← mod-mod-pow (field_set bits shift byte value) bits shift, within) (low value shift (mod-lt byte (pow_pos shift)))

  pub get_set : field_get bits shift (field_set bits shift byte value) ≡ value
  unfolding field_get
  get_set = rw (← field (field_set bits shift byte value) bits shift, within) (high value shift (mod-lt byte (pow_pos shift)))

  pub get_above : (b s : ℕ) → bits + shift ≤ s → field_get b s (field_set bits shift byte value) ≡ field_get b s byte
  unfolding field_get
  get_above b s h =
      let e : bits + shift + (s - (bits + shift)) ≡ s = omega arith in
      rw (← e, ← shr-shr (field_set bits shift byte value) (bits + shift) (s - (bits + shift)), above, shr-shr)

  pub get_below : (b s : ℕ) → b + s ≤ shift → field_get b s (field_set bits shift byte value) ≡ field_get b s byte
  unfolding field_get
  get_below b s h =
      let e : (shift - (b + s)) + (b + s) ≡ shift = omega arith in
      let f : (n : ℕ) → n / 2 ^ s % 2 ^ b ≡ n % 2 ^ shift % 2 ^ (b + s) / 2 ^ s = λ n. sym (field n b s) ∙ ap (λ (m : ℕ). m / 2 ^ s) (sym (rw e at (mod-mod-pow n (shift - (b + s)) (b + s)))) in
      f (field_set bits shift byte value) ∙ rw beneath (sym (f byte))

-- a field set in a byte leaves a byte
pub set_byte : (bits shift byte value : ℕ) → bits + shift ≤ 8 → byte < 256 → value < 2 ^ bits → field_set bits shift byte value < 256
unfolding field_set
set_byte bits shift byte value h hb hv =
    let e : (8 - (bits + shift)) + (bits + shift) ≡ 8 = omega arith in
    let up : byte / 2 ^ (bits + shift) < 2 ^ (8 - (bits + shift)) = shr_lt (8 - (bits + shift)) (bits + shift) (rw e hb) in
    rw (add_assoc) (rw (← pow-add 2 (8 - (bits + shift)) (bits + shift), e) at (digits_lt up (lower bits shift byte value hv)))
