-- The beginning: a room of zeros, once the starts are in, stands for "Stored values start at zero" and no vector written.
-- Assumes nothing.
use Rattle.std.specs.Prelude.{◌≡◌, false, List, length, get_or, replicate}
use Rattle.std.proofs.Math.Path.{refl}
use Rattle.std.proofs.Common.{sym, ◌∙◌, eq-or-lt_of_le, le_of_suc-le-suc, mod-eq_of_lt, get_or-set_same}
use Prim.Native.Nat.{ℕ, zero, suc, ◌/◌, ◌<◌, ◌≤◌}
use Rattle.std.proofs.Math.Logic.{⊎_elim}
use Rattle.std.proofs.Math.Nat.{zero-div, zero-mod}
use native.Mathlib.Omega.{arith}
use Rattle.std.proofs.Math.ListN.{length-set}
use Rattle.std.proofs.lemmas.List.{length-replicate}
use Rattle.std.proofs.Math.Seq.{get_or-set_other}
use Rattle.states.specs.Field.{field_get}
use Rattle.states.specs.Packed.{field_at}
use Rattle.rules.specs.Vector.{fresh}
use Rattle.rules.specs.Gather.{Tables, width, begin, elem}
use Rattle.tables.specs.Lists.{vectors}
use Rattle.tables.specs.Layout.{Layout, layout_of, start, total_bytes}
use Rattle.vecmarks.specs.Info.{value_of, mark_of}
use Rattle.vecstarts.specs.Numbers.{layout_from, Shapes, start_in, Started, filled}
use Rattle.tables.specs.Layout.Laws.{start_le}
use Rattle.vecstarts.specs.Numbers.Laws.{width_is, width_flags}
use Rattle.vecbuffer.specs.Stands.{Laid, Stands}
use Rattle.vecbuffer.proofs.Stands.Order.{listed_none}
use Rattle.vecbuffer.proofs.Stands.Vectors.{any_clear, get_d_clear}

module _ (t : Layout) (nums : List ℕ) where
  length_filled : (n : ℕ) → length (filled t nums n) ≡ length nums
  unfolding filled
  length_filled zero = refl
  length_filled (suc n) = length-set (filled t nums n) n _ ∙ length_filled n

  filled_at_lem : (n i : ℕ) → n ≤ length nums → i < n → get_or (filled t nums n) i 0 ≡ start t (suc i)
  unfolding filled
  filled_at_lem zero i h o = omega arith
  filled_at_lem (suc n) i h o =
      ⊎_elim (λ (e : i ≡ n). rw e (get_or-set_same (filled t nums n) n (start t (suc n)) 0 (rw length_filled h)))
      (λ (u : i < n). get_or-set_other (filled t nums n) n i (start t (suc n)) 0 (λ e. omega arith) ∙ filled_at_lem n i (omega arith) u)
      (eq-or-lt_of_le (le_of_suc-le-suc o))

  -- once `fill_starts` is done
  pub started_filled : Laid t → t.count ≤ length nums → Started t (filled t nums t.count)
  unfolding start_in start
  started_filled l k = record { long = rw length_filled k; starts = starts }
    where
      starts : (v : ℕ) → v ≤ t.count → start_in (filled t nums t.count) v ≡ start t v
      starts zero o = refl
      starts (suc v) o = rw (filled_at_lem t.count v k o) (mod-eq_of_lt (omega (arith, start_le t (suc v) t.count o, l.small)))

-- every field of a room of zeros
zero_field : (b p n : ℕ) → field_at b p (replicate n 0) ≡ 0
unfolding field_at field_get
zero_field b p n = rw (get_d_clear {A = ℕ} 0 n (p / 8), zero-div, zero-mod)

-- a room of zeros, and numbers that have the starts, stand for the beginning
pub stands_zeros : {t : Layout} → Laid t → {nums : List ℕ} → Started t nums → (n : ℕ) → total_bytes t ≤ n → (r : Tables) → ((v : ℕ) → v < t.count → width r v ≡ t.width v)
    → Stands t (replicate n 0) nums 0 0 (begin r)
unfolding begin fresh elem value_of mark_of
stands_zeros {t} l k n room r wide =
    record {
      laid = l;
      holds =
          record {
            roomy = rw length-replicate room;
            values = λ v b o u. zero_field _ _ n ∙ sym (get_d_clear {A = ℕ} 0 (width r v) b);
            marks = λ v b o u. zero_field _ _ n ∙ rw (get_d_clear false (width r v) b);
            having = λ v o. zero_field _ _ n ∙ rw (any_clear (width r v));
            seeing = λ v o. zero_field _ _ n;
          };
      listed = listed_none k;
      vals_wide = λ v o. length-replicate (width r v) 0 ∙ wide v o;
      marks_wide = λ v o. length-replicate (width r v) false ∙ wide v o;
    }

-- ---- of tables that passed their checks

module _ {mins maxs states : List ℕ} (s : Shapes mins maxs states) where
  pub laid_from : Laid (layout_from mins maxs states)
  unfolding layout_from layout_of vectors
  laid_from = record { flags = width_flags mins maxs states; few = s.few; small = s.small }

  pub stands_first : (nums : List ℕ) → length mins ≤ length nums → (n : ℕ) → total_bytes (layout_from mins maxs states) ≤ n
      → (r : Tables) → ((v : ℕ) → v < length mins → (r.min v ≡ get_or mins v 0) × (r.max v ≡ get_or maxs v 0))
      → Stands (layout_from mins maxs states) (replicate n 0) (filled (layout_from mins maxs states) nums (length mins)) 0 0 (begin r)
  unfolding layout_from layout_of vectors width
  stands_first nums k n room r e =
      stands_zeros laid_from (started_filled (layout_from mins maxs states) nums laid_from k) n room r
      (λ v h. rw ((e v h).0, (e v h).1) (sym (width_is mins maxs states v h)))
