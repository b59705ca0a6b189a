-- Each promise is one equation for the answer and the whole output, so two outcomes that meet it are equal.
-- Assumes nothing.
use Rattle.std.specs.Prelude.{ℕ, ◌≡◌, Bool, List}
use Rattle.std.proofs.Common.{sym, ◌∙◌}
use Rattle.tables.specs.Lists.{Lists}
use Rattle.answers.specs.Outcome.{LeftKept}
use Rattle.entries.specs.Written.{write_sections, read_back}

-- "Prove that two outcomes satisfying it are equal"
pub written_unique : (t : Lists) (flag : Bool) (s : List ℕ) (room : ℕ) (a b : LeftKept) → a ≡ write_sections t flag s room → b ≡ write_sections t flag s room → a ≡ b
written_unique t flag s room a b p q = p ∙ sym q

pub back_unique : (t : Lists) (flag : Bool) (s : List ℕ) (room : ℕ) (a b : LeftKept) → a ≡ read_back t flag s room → b ≡ read_back t flag s room → a ≡ b
back_unique t flag s room a b p q = p ∙ sym q
