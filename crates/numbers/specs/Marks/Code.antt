-- What the proofs of `marks` search.
-- Assumes nothing.
use Rattle.std.specs.Prelude.{◌≡◌, ℕ, ◌+◌, ◌≤◌, Bool, true, false, ◌&&◌, length, eqb}
use Rattle.std.proofs.Math.Path.{ap, sym}
use Rattle.std.proofs.Common.{◌∙◌, arith, eq-eqb, ne_eqb}
use Rattle.std.proofs.Math.Bool.{and-true}
use mathlib.Core.List.{List, [], ◌∷◌}
use Rattle.std.proofs.Math.ListN.{get_or}
use Rattle.slices.specs.Splice.{part}
use Rattle.slices.specs.Splice.Laws.{part_all}
use Rattle.numbers.specs.Fixed.Laws.{part_four}
use Rattle.numbers.specs.Marks.{same, section_of, snp, cyc, dir, tai}
use Rattle.numbers.specs.declared.marks.Section.TheVariants.{Snapshot, Cycle, Directory, Tailer, Unknown}

module _ (s : List ℕ) (at : ℕ) (m : List ℕ) (h : at + 4 ≤ length s) (l : length m ≡ 4) where
  abbrev each : ℕ → Bool
  each k = eqb (get_or s (at + k) 0) (get_or m k 0)

  -- four bytes are compared one by one
  four : same (part s at 4) m ≡ (eqb (get_or s at 0) (get_or m 0 0) && (each 1 && (each 2 && each 3)))
  unfolding same
  four =
      let p : m ≡ get_or m 0 0 ∷ get_or m 1 0 ∷ get_or m 2 0 ∷ get_or m 3 0 ∷ [] = sym (part_all m) ∙ (ap (part m 0) l ∙ part_four m 0 (omega arith)) in
      ap (same (part s at 4)) p ∙ rw (part_four s at h) (rw and-true)

  pub differs_first : (get_or s at 0 ≡ get_or m 0 0 → ⊥) → false ≡ same (part s at 4) m
  differs_first n = simp (ne_eqb _ _ n) at (sym four)

  module _ (e : get_or s at 0 ≡ get_or m 0 0) where
    pub differs_second : (get_or s (at + 1) 0 ≡ get_or m 1 0 → ⊥) → false ≡ same (part s at 4) m
    differs_second n = simp (eq-eqb _ _ e, ne_eqb _ _ n) at (sym four)

    module _ (f : get_or s (at + 1) 0 ≡ get_or m 1 0) where
      pub differs_third : (get_or s (at + 2) 0 ≡ get_or m 2 0 → ⊥) → false ≡ same (part s at 4) m
      differs_third n = simp (eq-eqb _ _ e, eq-eqb _ _ f, ne_eqb _ _ n) at (sym four)

      pub same_fourth : get_or s (at + 2) 0 ≡ get_or m 2 0 → eqb (get_or s (at + 3) 0) (get_or m 3 0) ≡ same (part s at 4) m
      same_fourth g = simp (eq-eqb _ _ e, eq-eqb _ _ f, eq-eqb _ _ g) at (sym four)

pub ruleset mark_laws = (differs_first, differs_second, differs_third, same_fourth)

-- ---- which section, from what each test found

module _ (m : List ℕ) {a : Bool} (p : a ≡ same m snp) where
  pub is_snapshot : a ≡ true → Snapshot ≡ section_of m
  unfolding section_of
  is_snapshot t = simp (← p, t)

  module _ {b : Bool} (t : a ≡ false) (q : b ≡ same m cyc) where
    pub is_cycle : b ≡ true → Cycle ≡ section_of m
    unfolding section_of
    is_cycle u = simp (← p, t, ← q, u)

    module _ {c : Bool} (u : b ≡ false) (r : c ≡ same m dir) where
      pub is_directory : c ≡ true → Directory ≡ section_of m
      unfolding section_of
      is_directory v = simp (← p, t, ← q, u, ← r, v)

      module _ {d : Bool} (v : c ≡ false) (o : d ≡ same m tai) where
        pub is_tailer : d ≡ true → Tailer ≡ section_of m
        unfolding section_of
        is_tailer w = simp (← p, t, ← q, u, ← r, v, ← o, w)

        pub is_unknown : d ≡ false → Unknown ≡ section_of m
        unfolding section_of
        is_unknown w = simp (← p, t, ← q, u, ← r, v, ← o, w)

pub ruleset section_laws = (is_snapshot, is_cycle, is_directory, is_tailer, is_unknown)
