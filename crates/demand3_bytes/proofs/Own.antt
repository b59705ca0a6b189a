-- One vector's part of what happens, item by item, and where in the whole an item of it stands.
-- Assumes nothing.
use Rattle.std.specs.Prelude.{◌≡◌, ◌≢◌, true, false, ℕ, eqb}
use Rattle.std.proofs.Math.Path.{refl, sym}
use Rattle.std.proofs.Common.{ap, ◌∙◌}
use Rattle.std.proofs.lemmas.Bool.{false≢true}
use mathlib.Core.List.{List, [], ◌∷◌, ◌++◌, cons≢nil}
use Rattle.std.proofs.Math.Dec.{eqb-zero-suc}
use borrow.Author.Tests.{eqb-true, eqb-false}
use Rattle.rules.specs.Vector.{Item, began, over, fresh, fires, act, history, acts_early}
use Rattle.rules.proofs.Vector.Laws.{by_test, any_clear}
use Rattle.rules.specs.Gather.{Tables, width, time, write, step_end, Happening, at, single, of, ends, begin, end_all, toward, does, own}
use Rattle.rules.proofs.Gather.Laws.{own_append, own_same, own_other, sound_begin}
use Rattle.rules.proofs.Gather.Own.{told_nil, told_time, told_write, told_stop, own_act}
use Rattle.demand3_bytes.specs.Own.{Place, is_inner}

-- tables without vectors
abbrev none : Tables
none = record { vector = λ i. 0; min = λ v. 0; max = λ v. 0 }

at_alone : (v u : ℕ) → own v (at u ∷ []) ≡ began u ∷ []
unfolding does history act
at_alone v u =
    (own_act acts_early none v (begin none) (time u) (sound_begin none)).0 ∙ rw (told_time none v u [], told_nil none v)

single_alone : (v i x p : ℕ) → own v (single i x p ∷ []) ≡ []
unfolding does toward history
single_alone v i x p =
    (own_act acts_early none v (begin none) (write i x p) (sound_begin none)).0 ∙ rw
    (told_write none v i x p [], eqb-zero-suc v, told_nil none v)

ends_alone : (v : ℕ) → own v (ends ∷ []) ≡ over ∷ []
unfolding does end_all begin fresh fires history act
ends_alone v =
    (own_act acts_early none v (begin none) step_end (sound_begin none)).0 ∙ rw
    (told_stop none v [], told_nil none v, any_clear (width none v))

module _ (v : ℕ) (h : List Happening) where
  pub own_at : (u : ℕ) → own v (at u ∷ h) ≡ began u ∷ own v h
  own_at u = own_append v (at u ∷ []) h ∙ rw (at_alone v u)

  pub own_single : (i x p : ℕ) → own v (single i x p ∷ h) ≡ own v h
  own_single i x p = own_append v (single i x p ∷ []) h ∙ rw (single_alone v i x p)

  pub own_ends : own v (ends ∷ h) ≡ over ∷ own v h
  own_ends = own_append v (ends ∷ []) h ∙ rw (ends_alone v)

  pub own_of : (i : Item) → own v (of v i ∷ h) ≡ i ∷ own v h
  own_of i = own_append v (of v i ∷ []) h ∙ rw (own_same v (i ∷ []))

  pub own_not : (u : ℕ) (i : Item) → v ≢ u → own v (of u i ∷ h) ≡ own v h
  own_not u i n = own_append v (of u i ∷ []) h ∙ rw (own_other v u (i ∷ []) n)

module _ (v : ℕ) where
  own_nil : own v [] ≡ []
  own_nil = own_same v []

  here : (h : List Happening) (i : Item) → Place v (of v i ∷ h) [] i (own v h)
  here h i = record { before = []; behind = h; split = refl; front = own_nil; back = refl }

  behind_one : (x : Happening) (h : List Happening) (j m : List Item) (i : Item) (rest : List Item) → own v (x ∷ []) ≡ j
      → Place v h m i rest → Place v (x ∷ h) (j ++ m) i rest
  behind_one x h j m i rest e q = record {
    before = x ∷ q.before;
    behind = q.behind;
    split = ap (λ l. x ∷ l) q.split;
    front = own_append v (x ∷ []) q.before ∙ rw (e, q.front);
    back = q.back;
  }

  outer : (x : Happening) (h : List Happening) (j : Item) → is_inner j ≡ false → own v (x ∷ []) ≡ j ∷ []
      → (m : List Item) (i : Item) (rest : List Item) → is_inner i ≡ true
      → own v (x ∷ h) ≡ m ++ i ∷ rest → ((n : List Item) → own v h ≡ n ++ i ∷ rest → Place v h n i rest)
      → Place v (x ∷ h) m i rest
  outer x h j out e [] i rest inn p rec =
      let f : j ∷ own v h ≡ i ∷ rest = rw e at (sym (own_append v (x ∷ []) h)) ∙ p in
      let g : j ≡ i = cc in
      absurd (false≢true (sym out ∙ rw g inn))
  outer x h j out e (k ∷ m) i rest inn p rec =
      let f : j ∷ own v h ≡ k ∷ (m ++ i ∷ rest) = rw e at (sym (own_append v (x ∷ []) h)) ∙ p in
      let g : j ≡ k = cc in
      let q = rec m (cc) in
      rw (← g) (behind_one x h (j ∷ []) m i rest e q)

  other : (x : Happening) (h : List Happening) → own v (x ∷ []) ≡ [] → (m : List Item) (i : Item) (rest : List Item)
      → own v (x ∷ h) ≡ m ++ i ∷ rest → (own v h ≡ m ++ i ∷ rest → Place v h m i rest) → Place v (x ∷ h) m i rest
  other x h e m i rest p rec = behind_one x h [] m i rest e (rec (rw e at (sym (own_append v (x ∷ []) h)) ∙ p))

  mine : (h : List Happening) (j : Item) (m : List Item) (i : Item) (rest : List Item)
      → own v (of v j ∷ h) ≡ m ++ i ∷ rest → ((n : List Item) → own v h ≡ n ++ i ∷ rest → Place v h n i rest)
      → Place v (of v j ∷ h) m i rest
  mine h j [] i rest p rec =
      let f : j ∷ own v h ≡ i ∷ rest = sym (own_of v h j) ∙ p in
      let g : j ≡ i = cc in
      let r : own v h ≡ rest = cc in
      rw (← g, ← r) (here h j)
  mine h j (k ∷ m) i rest p rec =
      let f : j ∷ own v h ≡ k ∷ (m ++ i ∷ rest) = sym (own_of v h j) ∙ p in
      let g : j ≡ k = cc in
      let q = rec m (cc) in
      rw (← g) (behind_one (of v j) h (j ∷ []) m i rest (own_same v (j ∷ [])) q)

  pub own_place : (h : List Happening) (m : List Item) (i : Item) (rest : List Item) → is_inner i ≡ true
      → own v h ≡ m ++ i ∷ rest → Place v h m i rest
  unfolding is_inner
  own_place [] [] i rest n p = let f : i ∷ rest ≡ [] = sym p ∙ own_nil in absurd (cons≢nil f)
  own_place [] (k ∷ m) i rest n p = let f : k ∷ (m ++ i ∷ rest) ≡ [] = sym p ∙ own_nil in absurd (cons≢nil f)
  own_place (at u ∷ h) m i rest n p =
      outer (at u) h (began u) refl (at_alone v u) m i rest n p (λ k. own_place h k i rest n)
  own_place (single j x q ∷ h) m i rest n p =
      other (single j x q) h (single_alone v j x q) m i rest p (own_place h m i rest n)
  own_place (of u j ∷ h) m i rest n p =
      let rec : (k : List Item) → own v h ≡ k ++ i ∷ rest → Place v h k i rest = λ k. own_place h k i rest n in
      by_test (eqb v u) (λ e. rw (← eqb-true v u e) (mine h j m i rest (rw (← eqb-true v u e) at p) rec))
      (λ e. other (of u j) h (own_other v u (j ∷ []) (eqb-false v u e)) m i rest p (rec m))
  own_place (ends ∷ h) m i rest n p = outer ends h over refl (ends_alone v) m i rest n p (λ k. own_place h k i rest n)
