-- The numbers of refusals.
-- Assumes nothing.
use Rattle.std.specs.Prelude.{ℕ, cond, eqb}
use Rattle.refusals.specs.declared.Reason.{Reason}
use Rattle.refusals.specs.declared.Reason.TheVariants as reason

-- "A refusal gives a number and a place"
abbrev pub Numbered : Type 0
Numbered = ℕ × ℕ

-- document 01's numbers, and of the requests 21, 22, 23 and 34
abbrev pub number_of : Reason → ℕ
number_of reason.BufferOverLimit = 1
number_of reason.Lists = 2
number_of reason.Vector = 3
number_of reason.Signal = 4
number_of reason.Range = 5
number_of reason.RoomShort = 6
number_of reason.InputEnds = 7
number_of reason.Mark = 8
number_of reason.Zeros = 9
number_of reason.EndMark = 10
number_of reason.Negative = 11
number_of reason.Leb128 = 12
number_of reason.Id = 13
number_of reason.Value = 14
number_of reason.Time = 15
number_of reason.Full = 16
number_of reason.Kind = 17
number_of reason.Order = 18
number_of reason.Unsuited = 19
number_of reason.PastValues = 20
number_of reason.Sessions = 21
number_of reason.IdsFall = 22
number_of reason.TimeFalls = 23
number_of reason.Bench = 34

-- the reason that a number stands for
abbrev pub reason_of : ℕ → Reason
reason_of n =
    cond (eqb n 1) reason.BufferOverLimit (
    cond (eqb n 2) reason.Lists (
    cond (eqb n 3) reason.Vector (
    cond (eqb n 4) reason.Signal (
    cond (eqb n 5) reason.Range (
    cond (eqb n 6) reason.RoomShort (
    cond (eqb n 7) reason.InputEnds (
    cond (eqb n 8) reason.Mark (
    cond (eqb n 9) reason.Zeros (
    cond (eqb n 10) reason.EndMark (
    cond (eqb n 11) reason.Negative (
    cond (eqb n 12) reason.Leb128 (
    cond (eqb n 13) reason.Id (
    cond (eqb n 14) reason.Value (
    cond (eqb n 15) reason.Time (
    cond (eqb n 16) reason.Full (
    cond (eqb n 17) reason.Kind (
    cond (eqb n 18) reason.Order (
    cond (eqb n 19) reason.Unsuited (
    cond (eqb n 20) reason.PastValues (
    cond (eqb n 21) reason.Sessions (
    cond (eqb n 22) reason.IdsFall (
    cond (eqb n 23) reason.TimeFalls reason.Bench))))))))))))))))))))))
