-- Laws of event records: how long they are.
-- Assumes nothing.
use Rattle.std.specs.Prelude.{◌≡◌, ℕ, suc, ◌++◌, length}
use Rattle.std.proofs.Common.{ap, ◌∙◌, length-append}
use Rattle.numbers.specs.Fixed.{big_bytes}
use Rattle.numbers.specs.Fixed.Laws.{length_big_bytes}
use Rattle.states.specs.declared.States.{States}
use Rattle.records.specs.declared.Record.TheVariants.{Time, Value, Real}
use Rattle.records.specs.Event.{record_bytes}

pub length_time : (u : ℕ) → length (record_bytes (Time u)) ≡ 9
unfolding record_bytes
length_time u = ap suc (length_big_bytes 8 u)

pub length_value : (s : States) (reference start n : ℕ) → length (record_bytes (Value s reference start n)) ≡ 13
unfolding record_bytes
length_value s reference start n = ap suc (length-append (big_bytes 4 reference ++ big_bytes 4 start) (big_bytes 4 n) ∙ rw (length-append (big_bytes 4 reference) (big_bytes 4 start)) (simp length_big_bytes))

pub length_real : (reference bits : ℕ) → length (record_bytes (Real reference bits)) ≡ 13
unfolding record_bytes
length_real reference bits = ap suc (length-append (big_bytes 4 reference) (big_bytes 8 bits) ∙ simp length_big_bytes)
