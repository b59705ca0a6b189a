-- A reason's number says which it is, and a refusal its number and its place.
-- Assumes nothing.
use Rattle.std.specs.Prelude.{◌≡◌, refl, ℕ, Result, Ok, Err}
use Rattle.std.proofs.Common.{ap}
use Rattle.refusals.specs.declared.Reason.{Reason}
use Rattle.refusals.specs.declared.Reason.TheVariants as reason
use Rattle.refusals.specs.Numbers.{Numbered, number_of, reason_of}

pub same_reason : (r : Reason) → reason_of (number_of r) ≡ r
same_reason reason.BufferOverLimit = refl
same_reason reason.Lists = refl
same_reason reason.Vector = refl
same_reason reason.Signal = refl
same_reason reason.Range = refl
same_reason reason.RoomShort = refl
same_reason reason.InputEnds = refl
same_reason reason.Mark = refl
same_reason reason.Zeros = refl
same_reason reason.EndMark = refl
same_reason reason.Negative = refl
same_reason reason.Leb128 = refl
same_reason reason.Id = refl
same_reason reason.Value = refl
same_reason reason.Time = refl
same_reason reason.Full = refl
same_reason reason.Kind = refl
same_reason reason.Order = refl
same_reason reason.Unsuited = refl
same_reason reason.PastValues = refl
same_reason reason.Sessions = refl
same_reason reason.IdsFall = refl
same_reason reason.TimeFalls = refl
same_reason reason.Bench = refl

-- ---- a refusal as a result tells its number and its place

number_in : {A : Type 0} → Result A Numbered → ℕ
number_in (Ok x) = 0
number_in (Err e) = e.0

place_in : {A : Type 0} → Result A Numbered → ℕ
place_in (Ok x) = 0
place_in (Err e) = e.1

module _ {A : Type 0} {m k m' k' : ℕ} (e : ◌≡◌ {A = Result A Numbered} (Err (m, k)) (Err (m', k'))) where
  pub same_number : m ≡ m'
  unfolding number_in
  same_number = ap number_in e

  pub same_place : k ≡ k'
  unfolding place_in
  same_place = ap place_in e
