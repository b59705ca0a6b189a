-- What stands before and after a byte in the library's words, and one step of the parts.
-- Assumes nothing.
use Rattle.std.specs.Prelude.{◌≡◌, refl, ℕ, zero, suc, ◌+◌, ◌-◌, ◌<◌, Bool, true, false, ◌⊎◌, List, [], ◌∷◌, ◌==◌, eqb, length, take, drop}
use Rattle.std.specs.List.{before_first, after_first}
use Rattle.std.proofs.Common.{sym, ap, ◌∙◌, inl, inr, ⊎_elim, arith}
use Rattle.slices.specs.Choice.{cond_ind}
use Rattle.cases.specs.Cases.{before, after, part, parts}

take_one_more : (n x : ℕ) (l : List ℕ) → take (1 + n) (x ∷ l) ≡ x ∷ take n l
take_one_more n x l =
    let e : 1 + n ≡ suc n = omega arith in
    ap (λ k. take k (x ∷ l)) e

drop_one_more : (n x : ℕ) (l : List ℕ) → drop (1 + n + 1) (x ∷ l) ≡ drop (n + 1) l
drop_one_more n x l =
    let e : 1 + n + 1 ≡ suc (n + 1) = omega arith in
    ap (λ k. drop k (x ∷ l)) e

pub before_is : (b : ℕ) (l : List ℕ) → before b l ≡ before_first (λ x. x == b) l
unfolding before
before_is b [] = refl
before_is b (x ∷ l) =
    cond_ind (eqb x b) [] (x ∷ before b l) (λ r. r ≡ before_first (λ y. y == b) (x ∷ l)) (λ e. rw e refl) (λ e. rw e (ap (λ m. x ∷ m) (before_is b l) ∙ sym (take_one_more _ x l)))

pub after_is : (b : ℕ) (l : List ℕ) → after b l ≡ after_first (λ x. x == b) l
unfolding after
after_is b [] = refl
after_is b (x ∷ l) =
    cond_ind (eqb x b) l (after b l) (λ r. r ≡ after_first (λ y. y == b) (x ∷ l)) (λ e. rw e refl) (λ e. rw e (after_is b l ∙ sym (drop_one_more _ x l)))

-- ---- parts

pub part_first : (b : ℕ) (l : List ℕ) → before b l ≡ part b 0 l
unfolding part
part_first b l = refl

pub part_next : (b : ℕ) (l : List ℕ) (k : ℕ) → 0 < k → part b k l ≡ part b (k - 1) (after b l)
unfolding part
part_next b l zero h = absurd (omega arith)
part_next b l (suc k) h =
    let e : suc k - 1 ≡ k = omega arith in
    ap (λ (j : ℕ). part b j (after b l)) (sym e)

true_or_false : (b : Bool) → (b ≡ true) ⊎ (b ≡ false)
true_or_false true = inl refl
true_or_false false = inr refl

-- one part less after the next `b`
pub parts_on : (b : ℕ) (l : List ℕ) → 0 < length l → parts b l ≡ suc (parts b (after b l))
unfolding parts after
parts_on b [] h = absurd (omega arith)
parts_on b (x ∷ []) h = cond_ind (eqb x b) [] [] (λ (l : List ℕ). 1 ≡ suc (parts b l)) (λ e. refl) (λ e. refl)
parts_on b (x ∷ y ∷ l) h =
    ⊎_elim (λ (e : eqb x b ≡ true). rw e) (λ (e : eqb x b ≡ false). rw e (parts_on b (y ∷ l) (omega arith))) (true_or_false (eqb x b))

pub parts_end : (b : ℕ) (l : List ℕ) → length l ≡ 0 → parts b l ≡ 0
unfolding parts
parts_end b [] h = refl
parts_end b (x ∷ l) h = absurd (omega arith)
