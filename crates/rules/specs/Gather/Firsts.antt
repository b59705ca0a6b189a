-- Each number of a list once, where it stands first: the order in which vectors are listed.
-- Assumes nothing.
use Rattle.std.specs.Prelude.{◌≡◌, true, cond, not, List, [], ◌∷◌, ◌++◌, ℕ}
use Rattle.rules.specs.Gather.{elem, list}

-- those of the second list that are not in the first
unfoldable pub except : List ℕ → List ℕ → List ℕ
except us [] = []
except us (v ∷ vs) = cond (elem v us) (except us vs) (v ∷ except us vs)

-- each number once, where it stands first
unfoldable pub firsts : List ℕ → List ℕ
firsts [] = []
firsts (v ∷ vs) = v ∷ except (v ∷ []) (firsts vs)

-- u stands before v
abbrev pub Before : ℕ → ℕ → List ℕ → Type 0
Before u v l = (x : List ℕ) × (y : List ℕ) × (l ≡ x ++ u ∷ y) × (elem v y ≡ true)

-- listing one after the other
unfoldable pub listing : List ℕ → List ℕ → List ℕ
listing us [] = us
listing us (v ∷ vs) = listing (list v us) vs
