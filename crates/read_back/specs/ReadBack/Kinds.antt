-- Of the tables, reading back asks the kinds alone.
-- Assumes nothing.
use Rattle.std.specs.Prelude.{◌≡◌, Bool, cond, List, [], ◌++◌, length, leb}
use Rattle.std.proofs.Common.{sym, ◌∙◌, arith}
use Rattle.std.proofs.Math.Path.{ap}
use Prim.Native.Nat.{ℕ, zero, suc, ◌+◌, ◌-◌, ◌*◌, ◌<◌}
use Rattle.number_writer.specs.Ended.{refused}
use Rattle.tables.specs.Lists.{Lists}
use Rattle.rules.specs.Gather.{time, write, step_end}
use Rattle.rules.specs.Scan.{Scan}
use Rattle.values.specs.Value.{ordinary}
use Rattle.section_scan.specs.Sections.{with_kinds}
use Rattle.section_heads.specs.Heads.{standing}
use Rattle.values.specs.declared.How.{How}
use Rattle.section_heads.specs.declared.Phase.TheVariants.{Mark}
use Rattle.section_heads.specs.declared.Stand.{Stand}
use Rattle.section_heads.specs.declared.Said.{Said}
use Rattle.section_heads.specs.declared.Said.TheVariants.{Nothing, Time, Write, StepEnd, Over, Bad}
use Rattle.sections.specs.Item.{next_item}
use Rattle.sections.specs.Item.Scans.{say_of, rank, to_read, Left, GoesOn, FollowsBy, item_follows, left_all}
use Rattle.read_back.specs.ReadBack.{record_of, times, giving, read_back}

module _ (t : Lists) (how : How) (s : List ℕ) (room : ℕ) where
  abbrev t' : Lists
  t' = with_kinds t.kinds

  -- what is said, and then the same
  module _ (j : ℕ) (x y : Scan) (f : (held : List ℕ) (n : ℕ) → giving t' room x held n ≡ giving t room y held n) (held : List ℕ) (n : ℕ) where
    record_same : (b : List ℕ) (k : ℕ)
        → cond (leb (length held + length b) room) (giving t' room x (held ++ b) (n + k)) (refused 16 j) ≡ cond (leb (length held + length b) room) (giving t room y (held ++ b) (n + k)) (refused 16 j)
    record_same b k = ap (λ z. cond (leb (length held + length b) room) z (refused 16 j)) (f (held ++ b) (n + k))

    say_same : (a : Said) (p p' : ℕ) → giving t' room (say_of a p' j x) held n ≡ giving t room (say_of a p j y) held n
    unfolding giving say_of record_of times
    say_same Nothing p p' = f held n
    say_same (Time u) p p' = record_same (record_of t (time u)) 1
    say_same (Write v id) p p' = record_same (record_of t (write id v p)) 0
    say_same StepEnd p p' = record_same (record_of t step_end) 0
    say_same Over p p' = f held n
    say_same (Bad k) p p' = f held n

  -- of what is left where a reading stands the same is given
  abbrev Same : ℕ → Stand → ℕ → Type 0
  Same k x i = (sc sc' : Scan) → to_read s x i < k → Left t how s x i sc → Left t' how s x i sc' → (held : List ℕ) (n : ℕ) → giving t' room sc' held n ≡ giving t room sc held n

  module _ (k r i : ℕ) (sc sc' : Scan) (h : 2 * (length s - i) + r < suc k) (rec : (x : Stand) (j : ℕ) → Same k x j) (held : List ℕ) (n : ℕ) where
    goes_same : (j : ℕ) (y : Stand) (a : Said) → GoesOn t how s r i sc j a y → GoesOn t' how s r i sc' j a y → giving t' room sc' held n ≡ giving t room sc held n
    goes_same j y a f g =
        ap (λ sc. giving t' room sc held n) g.scans
        ∙ (say_same j g.rest f.rest (rec y j f.rest g.rest (omega (arith, f.less)) f.left g.left) held n a f.place g.place ∙ ap (λ sc. giving t room sc held n) (sym f.scans))

    by : (j : ℕ) (y : Stand) (a : Said) → FollowsBy t how s r i sc j y a → FollowsBy t' how s r i sc' j y a → giving t' room sc' held n ≡ giving t room sc held n
    unfolding giving
    by j y Nothing f g = goes_same j y Nothing f g
    by j y (Time u) f g = goes_same j y (Time u) f g
    by j y (Write v id) f g = goes_same j y (Write v id) f g
    by j y StepEnd f g = goes_same j y StepEnd f g
    by j y Over f g = ap (λ sc. giving t' room sc held n) g ∙ ap (λ sc. giving t room sc held n) (sym f)
    by j y (Bad a) f g = ap (λ sc. giving t' room sc held n) g ∙ ap (λ sc. giving t room sc held n) (sym f)

  same : (k : ℕ) (x : Stand) (i : ℕ) → Same k x i
  unfolding to_read
  same zero x i sc sc' h l l' held n = absurd (omega arith)
  same (suc k) x i sc sc' h l l' held n =
      let y = next_item t.kinds how s x i in
      by k (rank x.phase) i sc sc' h (λ x j. same k x j) held n y.at y.then y.said (item_follows t how s x i l) (item_follows t' how s x i l')

pub back_kinds : (t : Lists) (flag : Bool) (s : List ℕ) (room : ℕ) → read_back (with_kinds t.kinds) flag s room ≡ read_back t flag s room
unfolding read_back to_read
back_kinds t flag s room =
    let how : How = ordinary flag in
    same t how s room (suc (to_read s (standing Mark 0 0) 0)) (standing Mark 0 0) 0 _ _ (omega arith) (left_all t how s) (left_all (with_kinds t.kinds) how s) [] 0
