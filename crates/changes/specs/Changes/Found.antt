-- A change record that was read lies within the input, and its write is one that the gatherer takes.
-- Assumes nothing.
use Rattle.std.specs.Prelude.{◌≡◌, ℕ, ◌+◌, ◌≤◌, ◌<◌, Bool, true, false, ◌&&◌, List, length, get_or, eqb}
use Rattle.std.proofs.Math.Path.{refl}
use Rattle.std.proofs.Common.{sym, subst, ◌∙◌}
use native.Mathlib.Omega.{arith}
use borrow.Author.Tests.{leb-true, leb-false, eqb-true, eqb-false}
use Rattle.std.proofs.Math.Dec.{leb}
use Rattle.slices.specs.Choice.{cond_ind}
use Rattle.tables.specs.Lists.{Lists, nth, signals}
use Rattle.values.specs.Read.{Read}
use Rattle.values.specs.Read as read
use Rattle.values.specs.Value.{Suits, on_read, narrow}
use Rattle.values.specs.Value.Laws.{narrow_next, narrow_suits}
use Rattle.changes.specs.Change.{ChangeFound, Time, Write, StepEnd, End, Bad}
use Rattle.changes.specs.Changes.{record_length, written, write_record, in_order, change_record, next_change}
use Rattle.changes.specs.Changes.Whole.{Whole, Writes, whole_time, whole_write}

abbrev pub Found : Lists → List ℕ → ℕ → ChangeFound → Type 0
Found t s i (Time u j) = (i < j) × (j ≤ length s)
Found t s i (Write id v j) = (i < j) × (j ≤ length s) × (1 ≤ id) × (id ≤ signals t) × Suits (nth t.kinds id) v
Found t s i (StepEnd j) = (i < j) × (j ≤ length s)
Found t s i (End j) = Unit {0}
Found t s i (Bad n p) = Unit {0}

both : (a b : Bool) → a && b ≡ true → (a ≡ true) × (b ≡ true)
both true b e = (refl, e)
both false b e = let z : ◌≡◌ {A = ℕ} 0 1 = cc in absurd (omega arith)

module _ (t : Lists) (s : List ℕ) (i : ℕ) where
  module _ (id : ℕ) (l : 1 ≤ id) (h : id ≤ signals t) where
    byte_found : (r : Read) → r ≡ narrow (nth t.kinds id) s (i + 5) → Found t s i (on_read r Bad (λ v j. Write id v j))
    unfolding on_read
    byte_found (read.Value v j) e =
        let n = narrow_next (nth t.kinds id) s (i + 5) e refl in
        (omega arith, n.1, l, h, narrow_suits (nth t.kinds id) s (i + 5) e refl)
    byte_found (read.Bad n p) e = tt

    written_found : (k : ℕ) → Writes s k i → Found t s i (written t s k id i)
    unfolding written
    written_found k w =
        cond_ind (eqb k 2) _ _ (Found t s i)
        (λ e. cond_ind (leb (nth t.kinds id) 4) _ _ (Found t s i) (λ f. byte_found (narrow (nth t.kinds id) s (i + 5)) refl) (λ f. tt))
        (λ e. cond_ind (leb 5 (nth t.kinds id)) _ _ (Found t s i)
        (λ f.
        let b = w.wide (eqb-false k 2 e) in
        let g : 5 ≤ nth t.kinds id = leb-true _ _ f in
        (omega arith, b, l, h, λ o. absurd (omega arith)))
        (λ f. tt))

  write_found : (k id : ℕ) → Writes s k i → Found t s i (write_record t s k id i)
  unfolding write_record
  write_found k id w =
      cond_ind (leb 1 id && leb id (signals t)) _ _ (Found t s i)
      (λ e. let r = both (leb 1 id) (leb id (signals t)) e in written_found id (leb-true _ _ r.0) (leb-true _ _ r.1) k w)
      (λ e. tt)

  order_found : (inside : Bool) (k : ℕ) → Whole s k i → Found t s i (in_order t s inside k i)
  unfolding in_order
  order_found inside k w =
      cond_ind (eqb k 1) _ _ (Found t s i)
      (λ e. cond_ind inside _ _ (Found t s i) (λ b. tt) (λ b. let h = whole_time w (eqb-true k 1 e) in (omega arith, omega arith)))
      (λ e. cond_ind inside _ _ (Found t s i)
      (λ b. cond_ind (eqb k 4) _ _ (Found t s i)
      (λ f. let h = w.begins in (omega arith, omega arith))
      (λ f. write_found k _ (whole_write w (eqb-false k 1 e) (eqb-false k 4 f))))
      (λ b. tt))

  record_found : (inside : Bool) → i < length s → Found t s i (change_record t s inside i)
  unfolding change_record
  record_found inside h =
      cond_ind (eqb (record_length (get_or s i 0)) 0) _ _ (Found t s i) (λ e. tt)
      (λ e. cond_ind (leb (i + record_length (get_or s i 0)) (length s)) _ _ (Found t s i)
      (λ f. order_found inside (get_or s i 0) (record { known = eqb-false _ _ e; begins = h; ends = leb-true _ _ f }))
      (λ f. tt))

  next_found : (inside : Bool) → Found t s i (next_change t s inside i)
  unfolding next_change
  next_found inside =
      cond_ind (leb (length s) i) _ _ (Found t s i)
      (λ e. cond_ind inside _ _ (Found t s i) (λ b. tt) (λ b. tt))
      (λ e. record_found inside (leb-false _ _ e))

  pub change_found : (inside : Bool) {r : ChangeFound} → r ≡ next_change t s inside i → {x : ChangeFound} → r ≡ x → Found t s i x
  change_found inside e d = subst (Found t s i) (sym e ∙ d) (next_found inside)
