-- How a call ends whose code filled one output, and what the proofs of its end search.
-- Assumes nothing.
use Rattle.std.specs.Prelude.{◌≡◌, ℕ, ◌≤◌, List, [], length, take, Ok}
use Rattle.std.proofs.Common.{sym, ap, subst, ◌∙◌, zero-add, arith}
use Rattle.slices.specs.Splice.{splice}
use Rattle.slices.specs.Splice.Laws.{length_splice, take_splice}
use Rattle.number_writer.specs.Ended.{Ended, Says, Fills}
use Rattle.number_writer.specs.Ended as ended
use Rattle.number_writer.specs.Written.{Written, Done, Refused}
use Rattle.answers.specs.Outcome.{Outcome, accepted, refused, LeftKept, leaves_kept}

-- "A request's other output counts as event bytes, with 0 value bytes; steps are then time records read."
unfoldable pub filled : Ended → Outcome
filled (ended.wrote i bs n) = accepted i bs [] n
filled (ended.refused n p) = refused n p

-- how the code ended: the first bytes of the output are reported
unfoldable pub filled_at : List ℕ → Written → Outcome
filled_at out (Ok w) = accepted w.read (take w.count out) [] w.steps
filled_at out (Refused n p) = refused n p

abbrev pub Reported : List ℕ → Written → Type 0
Reported out (Ok w) = w.count ≤ length out
Reported out (Refused n p) = Unit {0}

-- the output has as many bytes as are reported
pub record Within (out : List ℕ) (w : Written) : Type 0 where
  pub reported : Reported out w

-- ---- the end itself

module _ (out : List ℕ) {w : Written} where
  module _ {read n steps : ℕ} (e : w ≡ Done read n steps) where
    pub within_done : Within out w → n ≤ length out
    within_done h = subst (Reported out) e h.reported

    pub end_done : {x : LeftKept} → x ≡ leaves_kept (length out) (accepted read (take n out) [] steps) → x ≡ leaves_kept (length out) (filled_at out w)
    unfolding filled_at
    end_done h = rw e h

  pub end_refused : {number place : ℕ} → w ≡ Refused number place → {p : ℕ} → p ≡ place → {x : LeftKept} → x ≡ leaves_kept (length out) (refused number p) → x ≡ leaves_kept (length out) (filled_at out w)
  unfolding filled_at
  end_refused e q h = rw e (rw q at h)

pub ruleset end_laws = (within_done, end_done, end_refused)

-- ---- of code that fills

front : (room bs : List ℕ) (n : ℕ) {out : List ℕ} → out ≡ splice room 0 bs → n ≡ length bs → take n out ≡ bs
front room bs n e m = rw (e, m) (ap (λ k. take k (splice room 0 bs)) (sym (zero-add (length bs))) ∙ take_splice room 0 bs (omega arith))

module _ {e : Ended} {room out : List ℕ} {w : Written} (f : Fills e room out w) where
  pub fills_within : Within out w
  fills_within = record { reported = go w f.says }
    where
      go : (w : Written) → Says e room out w → Reported out w
      go (Ok w) (bs, a, b, c, d) = rw b (rw (length_splice room 0 bs (omega (arith, c, d))) d)
      go (Refused n p) a = tt

  filled_at_lem : filled_at out w ≡ filled e
  unfolding filled_at filled
  filled_at_lem = go w f.says
    where
      go : (w : Written) → Says e room out w → filled_at out w ≡ filled e
      go (Ok w) (bs, a, b, c, d) = rw (a, front room bs w.count b c)
      go (Refused n p) a = rw a

  pub fills_end : length out ≡ length room → {x : LeftKept} → x ≡ leaves_kept (length out) (filled_at out w) → x ≡ leaves_kept (length room) (filled e)
  fills_end l h = h ∙ rw (l, filled_at_lem)

pub ruleset filled_laws = (fills_within, fills_end)
