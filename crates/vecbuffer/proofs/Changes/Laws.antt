-- What the code of the operations asks, and says.
-- Assumes nothing.
use Rattle.std.specs.Prelude.{◌≡◌, refl, ℕ, ◌+◌, ◌^◌, ◌<◌, ◌≤◌, Bool, true, false, List, length, replicate}
use Rattle.std.proofs.Common.{sym, ap, ◌∙◌, arith, lit<, pow_pos, Fits}
use Rattle.std.proofs.Math.Dec.{eqb}
use Rattle.std.specs.Int.{w64}
use Rattle.slices.specs.Splice.{splice}
use Rattle.states.specs.declared.States.{States}
use Rattle.states.specs.declared.States.TheVariants.{Two, Nine}
use Rattle.states.specs.Kind.{bits, bytes_required}
use Rattle.states.specs.Packed.Laws.{bit_fits}
use Rattle.vecmarks.specs.declared.VecBufferInfo.{VecBufferInfo}
use Rattle.vecmarks.specs.Info.{Inside, with_value, is_marked, with_mark, without_marks, values_of, Apart, first, HasValue, HasMark}
use Rattle.vecmarks.proofs.Info.Laws.{ask_value}
use Rattle.vecmarks.proofs.Info.Keeps.{length_value, length_mark, length_cleared, inside_as, mark_value_apart, mark_mark_apart}
use Rattle.vecstarts.specs.Numbers.{listing}
use Rattle.vecbuffer.specs.Changes.{Lent, mk, marked, Marks, updated, Updates, taken, Takes}

-- a flag is 0 or 1
pub none_small : (s : States) → 0 < 2 ^ bits s
none_small s = pow_pos (bits s)

pub one_small : (s : States) → 1 < 2 ^ bits s
one_small Two = lit< tt
one_small Nine = lit< tt

pub has_value : {room : List ℕ} {i : VecBufferInfo} → Inside room i → {b : ℕ} → b < i.width → HasValue i b
has_value h o = record { within = ask_value h o }

pub has_mark : {i : VecBufferInfo} {b : ℕ} → b < i.width → HasMark i b
has_mark {i} {b} o = record { within = bit_fits Two i.width b o }

-- ---- after a value or a mark was set

module _ {room room' : List ℕ} {j : VecBufferInfo} (h : Inside room j) (i : VecBufferInfo) (b x : ℕ) where
  pub after_value : room' ≡ with_value i b x room → Inside room' j
  after_value e = inside_as (ap length e ∙ length_value i b x room) h

  pub after_mark : room' ≡ with_mark i b x room → Inside room' j
  after_mark e = inside_as (ap length e ∙ length_mark i b x room) h

-- ---- a vector that has marks

module _ {room nums : List ℕ} {f : VecBufferInfo} {v k : ℕ} (w : Marks room nums f v k) where
  pub ask_list : is_marked f v room ≡ false → k < length nums
  ask_list z = w.list z

  pub fits_next : Fits w64 (k + 1)
  fits_next = omega (arith, w.short)

  module _ {m : Bool} (e : m ≡ is_marked f v room) where
    pub says_seen : {r₁ : List ℕ} → r₁ ≡ with_value f v 1 room → m ≡ true → mk r₁ nums k ≡ marked f v k room nums
    unfolding marked
    says_seen p z = rw (← e, z, p)

    pub says_not : m ≡ false → is_marked f v room ≡ false
    says_not z = sym e ∙ z

    pub says_new : m ≡ false → {r₁ nums' : List ℕ} {k' : ℕ} → mk r₁ nums' k' ≡ mk (with_mark f v 1 room) (listing nums k v) (k + 1) → {r₂ : List ℕ} → r₂ ≡ with_value f v 1 r₁ → mk r₂ nums' k' ≡ marked f v k room nums
    unfolding marked
    says_new z q p = rw (← e, z, p) (cc)

  pub after_listed : {r₁ nums' nums'' : List ℕ} {k' k'' : ℕ} → mk r₁ nums' k' ≡ mk (with_mark f v 1 room) nums'' k'' → Inside r₁ f
  after_listed e = after_mark w.flags f v 1 (cc)

-- ---- rule (b)

module _ {room nums : List ℕ} {i f : VecBufferInfo} {v k b x : ℕ} (w : Updates room nums i f v k b x) where
  module _ {r₁ r₂ : List ℕ} (p : r₁ ≡ with_value i b x room) (q : r₂ ≡ with_mark i b 1 r₁) where
    same_flag : is_marked f v r₂ ≡ is_marked f v room
    unfolding is_marked
    same_flag =
        let a : Apart i f = first w.before in
        let m : HasMark f v = has_mark w.marks.known in
        rw (q, p)
        (ap (λ (y : ℕ). eqb y 1)
        (mark_mark_apart (after_value w.vector i b x refl) (has_mark w.inside) (lit< tt) a m ∙ mark_value_apart w.vector (has_value w.vector w.inside) w.small a m))

    pub ask_marks : Marks r₂ nums f v k
    ask_marks =
        record {
          flags = after_mark (after_value w.marks.flags i b x p) i b 1 q;
          known = w.marks.known;
          few = w.marks.few;
          short = w.marks.short;
          list = rw same_flag w.marks.list;
        }

    pub says_updated : {l : Lent} → l ≡ marked f v k r₂ nums → l ≡ updated i f v k b x room nums
    unfolding updated
    says_updated e = e ∙ rw (q, p)

-- ---- an event of a vector

module _ {room values : List ℕ} {i f : VecBufferInfo} {v at : ℕ} (w : Takes room i f v values at) where
  module _ {n : ℕ} (bytes : n ≡ bytes_required Two i.width) where
    pub ask_clear : i.start + i.bytes + n ≤ length room
    ask_clear = rw bytes w.vector.fits

    module _ {r₁ : List ℕ} (p : r₁ ≡ splice room (i.start + i.bytes) (replicate n 0)) where
      cleared_is : r₁ ≡ without_marks i room
      unfolding without_marks
      cleared_is = p ∙ rw bytes

      pub after_clear : Inside r₁ f
      after_clear = inside_as (ap length cleared_is ∙ length_cleared w.vector) w.flags

      pub says_taken : {r₂ : List ℕ} → r₂ ≡ with_value f v 0 r₁ → {values' : List ℕ} → values' ≡ splice values at (values_of i room) → (r₂, values') ≡ taken i f v at room values
      unfolding taken
      says_taken q s = rw (q, cleared_is, s)

-- ---- what the proofs of the functions search

pub ruleset mark_laws = (one_small, after_mark, after_listed, ask_list, fits_next, says_seen, says_not, says_new)

pub ruleset update_laws = (after_value, ask_marks, says_updated)

pub ruleset take_laws = (none_small, ask_clear, after_clear, says_taken)
