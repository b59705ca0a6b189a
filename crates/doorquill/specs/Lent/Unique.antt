-- The entry's promise is one equation for the answer and all lent memory, so two outcomes that meet it are equal.
-- Assumes nothing.
use Rattle.std.specs.Prelude.{ℕ, ◌≡◌, Bool, List}
use Rattle.std.proofs.Common.{sym, ◌∙◌}
use Rattle.doorquill.specs.declared.Vector.{Vector}
use Rattle.answers.specs.Outcome.{Lent}
use Rattle.doorquill.specs.Lent.{LeftLent, read_sections_lent}

-- "Prove that two outcomes satisfying it are equal"
pub lent_unique : (vs : List Vector) (kinds refs vecs : List ℕ) (flag : Bool) (s : List ℕ) (l : Lent) (flat : ℕ) (a b : LeftLent)
    → a ≡ read_sections_lent vs kinds refs vecs flag s l flat → b ≡ read_sections_lent vs kinds refs vecs flag s l flat → a ≡ b
lent_unique vs kinds refs vecs flag s l flat a b p q = p ∙ sym q
