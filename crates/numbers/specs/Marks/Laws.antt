-- `same` is true exactly of equal lists, and a section is opened by its mark alone.
-- Assumes nothing.
use Rattle.std.specs.Prelude.{◌≡◌, refl, ℕ, Bool, true, false, List, [], ◌∷◌, eqb}
use Rattle.std.proofs.Common.{sym, ◌∙◌, true≢false, eq-eqb, eqb-true}
use Rattle.std.proofs.Math.Bool.{and-eq-true_iff}
use Rattle.slices.specs.Choice.{cond_ind}
use Rattle.numbers.specs.Marks.{same, section_of, snp, cyc, dir, tai, esn, ecy, eod}
use Rattle.numbers.specs.declared.marks.Section.{Section}
use Rattle.numbers.specs.declared.marks.Section.TheVariants.{Snapshot, Cycle, Directory, Tailer, Unknown}

not_true : (t : Bool) → (t ≡ true → ⊥) → t ≡ false
not_true true n = absurd (n refl)
not_true false n = refl

pub same_refl : (l : List ℕ) → same l l ≡ true
unfolding same
same_refl [] = refl
same_refl (a ∷ l) = rw (eq-eqb a a refl) (same_refl l)

pub same_is : {a b : List ℕ} → a ≡ b → same a b ≡ true
same_is {a} e = rw (← e) (same_refl a)

pub same_true : (a b : List ℕ) → same a b ≡ true → a ≡ b
unfolding same
same_true [] [] e = refl
same_true [] (b ∷ bs) e = absurd (true≢false (sym e))
same_true (a ∷ l) [] e = absurd (true≢false (sym e))
same_true (a ∷ l) (b ∷ bs) e =
    let both = (and-eq-true_iff (eqb a b) (same l bs)).0 e in
    rw (eqb-true a b both.0, same_true l bs both.1)

pub same_false : (a b : List ℕ) → same a b ≡ false → a ≡ b → ⊥
same_false a b e p = true≢false (sym (same_is p) ∙ e)

-- .. and false of others
pub not_same : (a b : List ℕ) → (a ≡ b → ⊥) → same a b ≡ false
not_same a b n = not_true (same a b) (λ e. n (same_true a b e))

-- ---- sections

-- what is known of the bytes that open a section, or none
abbrev pub Opened : List ℕ → Section → Type 0
Opened m Snapshot = m ≡ snp
Opened m Cycle = m ≡ cyc
Opened m Directory = m ≡ dir
Opened m Tailer = m ≡ tai
Opened m Unknown = (m ≡ snp → ⊥) × (m ≡ cyc → ⊥) × (m ≡ dir → ⊥) × (m ≡ tai → ⊥)

pub opened : (m : List ℕ) → Opened m (section_of m)
unfolding section_of
opened m =
    cond_ind (same m snp) _ _ (Opened m) (same_true m snp)
    (λ a. cond_ind (same m cyc) _ _ (Opened m) (same_true m cyc)
    (λ b. cond_ind (same m dir) _ _ (Opened m) (same_true m dir)
    (λ c. cond_ind (same m tai) _ _ (Opened m) (same_true m tai)
    (λ d. (same_false m snp a, same_false m cyc b, same_false m dir c, same_false m tai d)))))

-- each section is opened by its mark, and an end mark opens none
pub marks_open :
    (section_of snp ≡ Snapshot)
    × (section_of cyc ≡ Cycle)
    × (section_of dir ≡ Directory)
    × (section_of tai ≡ Tailer)
    × (section_of esn ≡ Unknown)
    × (section_of ecy ≡ Unknown)
    × (section_of eod ≡ Unknown)
unfolding section_of same
marks_open = (refl, refl, refl, refl, refl, refl, refl)
