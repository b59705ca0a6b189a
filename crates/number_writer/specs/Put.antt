-- Bytes to a buffer, where they fit.
-- Assumes nothing.
use Rattle.std.specs.Prelude.{◌≡◌, ℕ, ◌+◌, ◌≤◌, ◌<◌, cond, List, ◌++◌, leb, None, Option, Some}
use Rattle.std.proofs.Common.{sym, ap, subst, ◌∙◌, arith, le-leb, length-append}
use Rattle.std.proofs.Math.ListN.{length}
use Rattle.slices.specs.Splice.{splice}
use Rattle.slices.specs.Splice.Laws.{length_splice, splice_splice}
use Rattle.slices.specs.Field.{field_of, field_inside, Inside}

-- a buffer after some bytes were to be written at a place: nothing is, where they do not fit
unfoldable pub after_put : List ℕ → ℕ → List ℕ → List ℕ
after_put out at bs = cond (leb (at + length bs) (length out)) (splice out at bs) out

-- ---- for callers that put one thing after the other

abbrev pub Lies : List ℕ → ℕ → List ℕ → List ℕ → Option ℕ → Type 0
Lies out at bs out' (Some j) = (out' ≡ splice out at bs) × (j ≡ at + length bs) × (j ≤ length out)
Lies out at bs out' None = length out < at + length bs

-- the bytes stand at the place, up to the next place; or they do not fit, and then what lies there is not said
pub record Puts (out : List ℕ) (at : ℕ) (bs : List ℕ) (out' : List ℕ) (f : Option ℕ) : Type 0 where
  pub lies : Lies out at bs out' f

module _ (out : List ℕ) (at : ℕ) (bs : List ℕ) where
  lies_field : {out' : List ℕ} → out' ≡ after_put out at bs → (f : Option ℕ) → Inside (length bs) out at f → Lies out at bs out' f
  unfolding after_put
  lies_field e (Some j) i = (e ∙ rw (le-leb (at + length bs) (length out) i.1), i.0, rw i.0 i.1)
  lies_field e None i = i

  -- what a single put gives
  pub puts_one : {out' : List ℕ} {f : Option ℕ} → f ≡ field_of (length bs) out at → out' ≡ after_put out at bs → Puts out at bs out' f
  puts_one {f} d e = record { lies = lies_field e f (subst (Inside (length bs) out at) (sym d) (field_inside (length bs) out at)) }

-- two, one after the other
module _ {out : List ℕ} {at : ℕ} {a out₁ : List ℕ} {f : Option ℕ} (p : Puts out at a out₁ f) where
  pub puts_short : (b : List ℕ) → f ≡ None → Puts out at (a ++ b) out₁ None
  puts_short b e = let h : length out < at + length a = subst (Lies out at a out₁) e p.lies in record { lies = simp length-append (omega arith) }

  module _ {j : ℕ} (e : f ≡ Some j) where
    first : Lies out at a out₁ (Some j)
    first = subst (Lies out at a out₁) e p.lies

    same_room : length out₁ ≡ length out
    same_room = ap length first.0 ∙ length_splice out at a (omega (arith, first.1, first.2))

    second : (b out₂ : List ℕ) (g : Option ℕ) → Lies out₁ j b out₂ g → Lies out at (a ++ b) out₂ g
    second b out₂ (Some k) q =
        let n : length (a ++ b) ≡ length a + length b = length-append a b in
        (q.0 ∙ rw (first.0, first.1) (splice_splice out at a b (omega (arith, first.1, first.2))), omega (arith, first.1, q.1), omega (arith, same_room, q.2))
    second b out₂ None q = let n : length (a ++ b) ≡ length a + length b = length-append a b in omega (arith, first.1, same_room)

    pub puts_more : (b : List ℕ) {out₂ : List ℕ} {g : Option ℕ} → Puts out₁ j b out₂ g → Puts out at (a ++ b) out₂ g
    puts_more b {out₂} {g} q = record { lies = second b out₂ g q.lies }

pub ruleset puts_laws = (puts_one, puts_short, puts_more)
