-- What the time rule's entry leaves, and what its proof searches.
-- Assumes nothing.
use Rattle.std.specs.Prelude.{◌≡◌, ℕ, Bool, true, false, ◌&&◌, List, length, take, Ok}
use Rattle.std.proofs.Common.{sym, ap, ◌∙◌, arith, length-take}
use Rattle.number_writer.specs.Written.{Written, Done, Refused}
use Rattle.tables.specs.Checks.{within_limit}
use Rattle.encoder.specs.Rule.{time_rule}
use Rattle.encoder.specs.Rule.Promise.{Says, Applies}
use Rattle.answers.specs.Outcome.{refused, LeftKept, leaves_kept}
use Rattle.answers.specs.Filled.{filled_at, Reported, Within}
use Rattle.entries.specs.Entries.{ruled, apply_time_rule}

module _ {s : List ℕ} {values room : ℕ} {kept : List ℕ} where
  pub applied_within : {a : Written} → Applies s values room kept a → Within kept a
  applied_within {a} h = record { reported = go a h.says }
    where
      go : (a : Written) → Says s values room kept a → Reported kept a
      go (Ok w) (k, e, b, c, d) = let f : length (take w.count kept) ≡ w.count = ap length b ∙ sym c in omega (arith, length-take w.count kept)
      go (Refused number place) e = tt

  applied_is : {a : Written} → Applies s values room kept a → filled_at kept a ≡ ruled (time_rule s values room)
  unfolding filled_at ruled
  applied_is {a} h = go a h.says
    where
      go : (a : Written) → Says s values room kept a → filled_at kept a ≡ ruled (time_rule s values room)
      go (Ok w) (k, e, b, c, d) = rw (e, b, d)
      go (Refused number place) e = rw e

  pub rule_applied : {a : Written} → Applies s values room kept a → {m : Bool} → m ≡ (within_limit (length s) && within_limit values && within_limit room) → m ≡ true
      → length kept ≡ room → {x : LeftKept} → x ≡ leaves_kept (length kept) (filled_at kept a) → x ≡ apply_time_rule s values room
  unfolding apply_time_rule leaves_kept
  rule_applied h q t o e = rw (← q, t) (e ∙ rw (o, applied_is h))

pub rule_over : (s : List ℕ) (values room : ℕ) {m : Bool} → m ≡ (within_limit (length s) && within_limit values && within_limit room) → m ≡ false
    → {x : LeftKept} → x ≡ leaves_kept room (refused 1 0) → x ≡ apply_time_rule s values room
unfolding apply_time_rule leaves_kept
rule_over s values room q t e = rw (← q, t) e

pub ruleset rule_laws = (applied_within, rule_applied, rule_over)
