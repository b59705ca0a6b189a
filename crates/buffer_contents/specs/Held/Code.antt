-- What the proofs search: by what a look at each number says, a buffer holds what it should.
-- Assumes nothing.
use Rattle.std.specs.Prelude.{◌≡◌, refl, ℕ, ◌-◌, ◌≤◌, ◌<◌, Bool, true, false, ◌&&◌, ◌==◌, List, [], ◌∷◌, ◌++◌, length, take, drop, replicate}
use Rattle.std.specs.List.{list_all}
use Rattle.std.specs.Str.{bytes_eq}
use Rattle.std.proofs.Common.{sym, ap, ◌∙◌, arith, length-append, eq-eqb, true≢false}
use Rattle.std.proofs.lemmas.List.{take-append-drop, take_all}
use Rattle.std.proofs.lemmas.Slice.Eq.{bytes_eq-Decides}
use Rattle.std.proofs.Math.Seq.{take-append_seam}
use Rattle.numbers.specs.Marks.{same}
use Rattle.numbers.specs.Marks.Laws.{not_same}
use Rattle.buffer_contents.specs.Held.{is_held, is_zero}

zeros_same : (l : List ℕ) → list_all (λ x. x == 0) l ≡ same l (replicate (length l) 0)
unfolding same
zeros_same [] = refl
zeros_same (x ∷ l) = ap (λ t. (x == 0) && t) (zeros_same l)

same_front : (w a b : List ℕ) → same (w ++ a) (w ++ b) ≡ same a b
unfolding same
same_front [] a b = refl
same_front (x ∷ w) a b = rw (eq-eqb x x refl) (same_front w a b)

pub zero_all : (l : List ℕ) {b : Bool} → b ≡ list_all (λ x. x == 0) l → b ≡ is_zero l
unfolding is_zero
zero_all l e = e ∙ zeros_same l

-- the same where the look is at the first n numbers, and those are all
pub zero_first : (l : List ℕ) (n : ℕ) {b : Bool} → length l ≤ n → b ≡ list_all (λ x. x == 0) (take n l) → b ≡ is_zero l
zero_first l n h e = zero_all l (rw (take_all n l h) at e)

pub ruleset zero_laws = (zero_all, zero_first)

module _ (out want : List ℕ) where
  -- an output with less room than the bytes need holds them not
  pub held_short : {b : Bool} → length out < length want → b ≡ false → b ≡ is_held out want
  unfolding is_held
  held_short h e =
      let zeros : List ℕ = replicate (length out - length want) 0 in
      e ∙ sym (not_same _ _ (λ w. omega (arith, h, ap length w, length-append want zeros)))

  pub held_not : bytes_eq (take (length want) out) want ≡ false → false ≡ is_held out want
  unfolding is_held
  held_not e =
      sym (not_same _ _ (λ h. true≢false (sym ((bytes_eq-Decides _ _).1 (ap (take (length want)) h ∙ take-append_seam want _)) ∙ e)))

  pub held_all : (rest : List ℕ) {b : Bool} → bytes_eq (take (length want) out) want ≡ true → rest ≡ drop (length want) out → b ≡ list_all (λ x. x == 0) rest → b ≡ is_held out want
  unfolding is_held
  held_all rest e d a =
      let front : take (length want) out ≡ want = (bytes_eq-Decides _ _).0 e in
      let whole : out ≡ want ++ rest = sym (take-append-drop (length want) out) ∙ rw (front, d) refl in
      let long : length out - length want ≡ length rest = omega (arith, ap length whole, length-append want rest) in
      a ∙ (zeros_same rest ∙ (sym (same_front want rest (replicate (length rest) 0)) ∙ rw (long, whole) refl))

pub ruleset held_laws = (held_short, held_not, held_all)
