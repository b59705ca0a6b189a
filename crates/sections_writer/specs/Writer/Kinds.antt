-- Of the tables the writer asks the kinds alone.
-- Assumes nothing.
use Rattle.std.specs.Prelude.{◌≡◌, Bool, leb}
use Rattle.std.proofs.Math.Path.{refl, ap}
use Rattle.std.proofs.Common.{◌∙◌}
use Prim.Native.Nat.{ℕ, zero, suc, ◌+◌}
use Rattle.std.proofs.Math.Bool.{cond}
use mathlib.Core.List.{List, [], ◌++◌}
use Rattle.std.proofs.Math.ListN.{length}
use Rattle.number_writer.specs.Ended.{Ended, wrote, refused}
use Rattle.tables.specs.Lists.{Lists}
use Rattle.changes.specs.Change.{ChangeFound}
use Rattle.changes.specs.Change as change
use Rattle.changes.specs.Changes.{next_change}
use Rattle.changes.specs.Changes.Record.{of_kinds, kinds_only}
use Rattle.sections_writer.specs.declared.Pen.{Pen}
use Rattle.sections_writer.specs.Writer.{Given, goes, ends, stops, given, begin, one, writing, write_sections}

module _ (t : Lists) (flag : Bool) (s : List ℕ) (room : ℕ) where
  given_kinds : (p : Pen) (i : ℕ) (c : ChangeFound) → given (of_kinds t.kinds) flag s p i c ≡ given t flag s p i c
  unfolding given
  given_kinds p i (change.Time u j) = refl
  given_kinds p i (change.Write id v j) = refl
  given_kinds p i (change.StepEnd j) = refl
  given_kinds p i (change.End j) = refl
  given_kinds p i (change.Bad n q) = refl

  next_kinds : (p : Pen) (i : ℕ) → given (of_kinds t.kinds) flag s p i (next_change (of_kinds t.kinds) s p.inside i) ≡ given t flag s p i (next_change t s p.inside i)
  next_kinds p i = given_kinds p i _ ∙ ap (given t flag s p i) (kinds_only t s p.inside i)

  one_kinds : (p : Pen) (out : List ℕ) (g : Given) (more more' : Pen → List ℕ → ℕ → Ended) → ((q : Pen) (o : List ℕ) (j : ℕ) → more q o j ≡ more' q o j)
      → one (of_kinds t.kinds) flag s room p out g more ≡ one t flag s room p out g more'
  unfolding one
  one_kinds p out (goes bs q j) more more' f = ap (λ x. cond (leb (length out + length bs) room) x (refused 16 j)) (f q (out ++ bs) j)
  one_kinds p out (ends bs j) more more' f = refl
  one_kinds p out (stops n q) more more' f = refl

  writing_kinds : (fuel : ℕ) (p : Pen) (out : List ℕ) (i : ℕ) → writing (of_kinds t.kinds) flag s room fuel p out i ≡ writing t flag s room fuel p out i
  unfolding writing
  writing_kinds zero p out i =
      one_kinds p out _ (λ q o j. wrote j o q.steps) (λ q o j. wrote j o q.steps) (λ q o j. refl)
      ∙ ap (λ g. one t flag s room p out g (λ q o j. wrote j o q.steps)) (next_kinds p i)
  writing_kinds (suc fuel) p out i =
      one_kinds p out _ (λ q o j. writing (of_kinds t.kinds) flag s room fuel q o j) (λ q o j. writing t flag s room fuel q o j) (λ q o j. writing_kinds fuel q o j)
      ∙ ap (λ g. one t flag s room p out g (λ q o j. writing t flag s room fuel q o j)) (next_kinds p i)

  pub sections_kinds : write_sections (of_kinds t.kinds) flag s room ≡ write_sections t flag s room
  unfolding write_sections
  sections_kinds = writing_kinds (length s) begin [] 0
