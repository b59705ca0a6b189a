-- Each public call's promise is one equation for the answer and all lent memory, so two outcomes that meet it are equal.
-- Assumes nothing.
use Rattle.std.specs.Prelude.{ℕ, ◌≡◌, List}
use Rattle.std.proofs.Common.{sym, ◌∙◌}
use Rattle.tables.specs.Lists.{Lists}
use Rattle.values.specs.declared.How.{How}
use Rattle.answers.specs.Outcome.{Left, Lent, LeftKept}
use Rattle.entries.specs.Entries.{read_sections, read_changes, apply_time_rule}

-- "Prove that two outcomes satisfying it are equal"
pub sections_unique : (t : Lists) (how : How) (s : List ℕ) (l : Lent) (a b : Left) → a ≡ read_sections t how s l → b ≡ read_sections t how s l → a ≡ b
sections_unique t how s l a b p q = p ∙ sym q

pub changes_unique : (t : Lists) (s : List ℕ) (l : Lent) (a b : Left) → a ≡ read_changes t s l → b ≡ read_changes t s l → a ≡ b
changes_unique t s l a b p q = p ∙ sym q

pub rule_unique : (s : List ℕ) (values room : ℕ) (a b : LeftKept) → a ≡ apply_time_rule s values room → b ≡ apply_time_rule s values room → a ≡ b
rule_unique s values room a b p q = p ∙ sym q
