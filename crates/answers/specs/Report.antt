-- The six numbers of an accepted reading.
-- Assumes nothing.
use Rattle.std.specs.Prelude.{◌≡◌, ℕ}
use Rattle.event_rooms.specs.declared.Counts.{Counts}
use Rattle.answers.specs.declared.Answer.{Answer}

abbrev pub report : ℕ → Counts → Answer
report read c = record { number = 0; place = 0; read = read; events = c.events; values = c.values; steps = c.steps }

pub reported : (read : ℕ) (c : Counts) {i m n : ℕ} → i ≡ read → m ≡ c.events → n ≡ c.values
    → ◌≡◌ {A = Answer} (record { number = 0; place = 0; read = i; events = m; values = n; steps = c.steps }) (report read c)
reported read c p q r = rw (p, q, r)

pub ruleset report_laws = (reported)
