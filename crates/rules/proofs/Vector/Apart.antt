-- The two early rules never act in one write: (a) leaves one mark, and where that is every bit, (c) had acted before.
-- Assumes nothing.
use Rattle.std.specs.Prelude.{◌≡◌, refl, true, ◌&&◌, ℕ, zero, suc, ◌<◌, length, get_or, set, eqb}
use Rattle.std.proofs.Common.{sym, ◌∙◌, arith, length-set, eqb-true}
use Rattle.std.proofs.Math.Bool.{Bool, false, and-false, and-true}
use mathlib.Core.List.{List, [], ◌∷◌}
use Rattle.std.proofs.Math.ListN.{replicate}
use Rattle.std.proofs.lemmas.List.{length-replicate}
use Rattle.rules.specs.Vector.{Write, Op, start, put, stop, rewritten, complete, ended, Vec, all, fresh, cleared, fires, clashes, stored, act}
use Rattle.rules.specs.Vector.Laws.{Wide, vec_after}
use Rattle.rules.proofs.Vector.Laws.{by_test, never_both, get_d_clear, get_d_set, all_mark, marks_all, wide_fires, wide_stored, end_clears, clashed, wide_fresh, wide_act, wide_after}
use Rattle.rules.specs.Vector.Apart.{Incomplete}

all_clear : (n : ℕ) → 0 < n → all (replicate n false) ≡ false
unfolding all
all_clear zero h = absurd (omega arith)
all_clear (suc n) h = refl

incomplete_cleared : (early : Bool) (w : ℕ) (v : Vec) → 0 < w → Wide w v → Incomplete early (cleared v)
unfolding cleared Wide
incomplete_cleared early w v n h = rw (all_clear (length v.marks) (omega (arith, h.1))) (and-false early)

incomplete_c : (early : Bool) (w : ℕ) (v : Vec) → 0 < w → Wide w v → Incomplete early (fires (early && all v.marks) complete v).1
unfolding fires
incomplete_c early w v n h = by_test (early && all v.marks) (λ q. rw q (incomplete_cleared early w v n h)) (λ q. rw q q)

module _ (early : Bool) (w : ℕ) (n : 0 < w) where
  pub incomplete_act : (v : Vec) (op : Op) → Wide w v → Incomplete early v → Incomplete early (act early v op).1
  unfolding act
  incomplete_act v (start t) h i = i
  incomplete_act v (put x) h i = incomplete_c early w _ n (wide_stored w _ x (wide_fires w _ rewritten v h))
  incomplete_act v stop h i = rw (end_clears ended v) (incomplete_cleared early w v n h)

  incomplete_after : (v : Vec) (ops : List Op) → Wide w v → Incomplete early v → Incomplete early (vec_after early v ops)
  unfolding vec_after
  incomplete_after v [] h i = i
  incomplete_after v (op ∷ ops) h i = incomplete_after (act early v op).1 ops (wide_act w early v op h) (incomplete_act v op h i)

  pub incomplete_fresh : Incomplete early (fresh w)
  unfolding fresh
  incomplete_fresh = rw (all_clear w n) (and-false early)

  -- one mark only, and it is every bit: then the vector was complete before
  only_mark : (v : Vec) (x : Write) → Wide w v → x.bit < w → clashes v x ≡ true → all (stored (cleared v) x).marks ≡ true → all v.marks ≡ true
  unfolding stored cleared Wide
  only_mark v x h l c a = marks_all v.marks (λ b k. rw (is_it b (omega (arith, h.1))) (clashed v x c).0)
    where
      blank : List Bool
      blank = replicate (length v.marks) false

      size : length blank ≡ w
      size = length-replicate (length v.marks) false ∙ h.1

      is_it : (b : ℕ) → b < w → b ≡ x.bit
      is_it b k =
          let m : get_or (set blank x.bit true) b false ≡ true = all_mark _ b a (rw length-set (omega (arith, size))) in
          let e = sym (get_d_set blank x.bit b true false (omega (arith, size))) ∙ m in
          by_test (eqb b x.bit) (eqb-true b x.bit) (λ q. absurd (never_both (rw q at e) (get_d_clear (length v.marks) b)))

  pub one_early_rule : (v : Vec) (x : Write) → Wide w v → Incomplete early v → x.bit < w → clashes v x ≡ true → (early && all (stored (cleared v) x).marks) ≡ false
  one_early_rule v x h i l c = by_test (all (stored (cleared v) x).marks) (λ a. rw (a, and-true early) (rw (only_mark v x h l c a, and-true early) at i)) (λ a. rw a (and-false early))

  -- so of any operations on a vector that started at zero
  pub never_both_rules : (ops : List Op) (x : Write) → x.bit < w → clashes (vec_after early (fresh w) ops) x ≡ true → (early && all (stored (cleared (vec_after early (fresh w) ops)) x).marks) ≡ false
  never_both_rules ops x = one_early_rule (vec_after early (fresh w) ops) x (wide_after w early (fresh w) ops (wide_fresh w)) (incomplete_after (fresh w) ops (wide_fresh w) incomplete_fresh)
