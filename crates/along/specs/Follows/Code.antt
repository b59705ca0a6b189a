-- What the proofs of the functions search.
-- Assumes nothing.
use Rattle.std.specs.Prelude.{ℕ, ◌+◌, ◌-◌, ◌<◌, ◌≤◌, ◌≡◌, Bool, not, ◌&&◌, List, get_or}
use Rattle.std.proofs.Math.Path.{refl}
use Rattle.std.proofs.Common.{sym, ap, ◌∙◌, true≢false}
use Rattle.std.proofs.Math.Bool.{true, false}
use native.Mathlib.Omega.{arith}
use borrow.Author.Tests.{lt-ltb, le-ltb, ltb-true, not-false}
use Rattle.std.proofs.Math.Dec.{ltb}
use Rattle.std.proofs.Math.ListN.{length}
use Rattle.states.specs.declared.States.{States}
use Rattle.vecmarks.specs.declared.VecBufferInfo.{VecBufferInfo}
use Rattle.vecmarks.specs.Info.{Inside, is_quiet}
use Rattle.vecmarks.proofs.Info.Keeps.{length_value, length_mark, inside_as}
use Rattle.gather.specs.declared.VecInfo.{VecInfo}
use Rattle.quiet_changes.specs.Along.{Taken, Took}
use Rattle.quiet_changes.specs.Along.Code.{Takes}
use Rattle.along.specs.declared.Reached.{Reached}
use Rattle.along.specs.Follows.{Along, none, more, FollowAsks, Followed, is_near, AlongAsks, Ran, stays, follows}

-- ---- many

-- how far the loop has come
pub record Following (k : States) (i : VecBufferInfo) (s : List ℕ) (bit at : ℕ) (room₀ room : List ℕ) (left j : ℕ) : Type 0 where
  pub inside : Inside room i
  pub long : length room ≡ length room₀
  pub kind : k ≡ i.states
  pub wide : left ≤ i.width
  pub ahead : at ≤ j
  pub within : j ≤ length s
  pub ran : Along i s room₀ bit at room left j

pub follow_start : {k : States} {i : VecBufferInfo} {s : List ℕ} {bit at : ℕ} {room : List ℕ} → FollowAsks k i s bit at room → Following k i s bit at room room bit at
follow_start q = record { inside = q.inside; long = refl; kind = q.kind; wide = q.wide; ahead = omega arith; within = q.within; ran = none }

module _ {k : States} {i : VecBufferInfo} {s : List ℕ} {bit at : ℕ} {room₀ room : List ℕ} {left j : ℕ} (f : Following k i s bit at room₀ room left j) where
  pub follow_within : j ≤ length s
  follow_within = f.within

  pub follow_long : length room ≡ length room₀
  follow_long = f.long

  pub followed : Followed i s room₀ bit at room (record { left = left; at = j })
  followed = record { ran = f.ran; ahead = f.ahead }

  module _ (here : 2 ≤ length s - j) where
    pub ask_take : Takes k i s left j room
    ask_take = record { inside = f.inside; kind = f.kind; wide = f.wide; here = omega (arith, f.within) }

    module _ {room' : List ℕ} {d : ℕ} (w : Took i s left j room room' d) where
      pub followed_none : d ≡ 0 → Followed i s room₀ bit at room' (record { left = left; at = j })
      followed_none z = rw (w.none z) followed

      module _ (z : d ≡ 0 → ⊥) where
        taken : Taken i s left j room room' d
        taken = w.some z

        pub follow_less_bits : d ≤ left
        follow_less_bits = omega (arith, taken.above)

        pub follow_more : Following k i s bit at room₀ room' (left - d) (j + 2)
        follow_more =
            let l : length room' ≡ length room = ap length taken.stored ∙ (length_mark _ _ _ _ ∙ length_value _ _ _ _) in
            record {
              inside = inside_as l f.inside;
              long = l ∙ f.long;
              kind = f.kind;
              wide = omega (arith, f.wide);
              ahead = omega (arith, f.ahead);
              within = omega (arith, f.within);
              ran = more f.ran (omega (arith, f.within)) taken refl refl;
            }

        pub follow_less : length s - (j + 2) < length s - j
        follow_less = omega (arith, f.within)

pub ruleset follow_laws = (follow_start, follow_within, follow_long, followed, ask_take, followed_none, follow_less_bits, follow_more, follow_less)

-- ---- where the next change lies near

module _ (s : List ℕ) (left at : ℕ) where
  pub near_none : length s ≤ at → false ≡ is_near s left at
  unfolding is_near
  near_none h = rw (le-ltb at (length s) h)

  module _ (h : at < length s) where
    pub near_zero : get_or s at 0 ≡ 0 → false ≡ is_near s left at
    unfolding is_near
    near_zero z = rw (lt-ltb at (length s) h, z)

    pub near_some : (get_or s at 0 ≡ 0 → ⊥) → (d : ℕ) → d ≡ get_or s at 0 → ltb d left ≡ is_near s left at
    unfolding is_near
    near_some z d e = rw (lt-ltb at (length s) h, lt-ltb 0 (get_or s at 0) (omega (arith, z)), e)

  near_within : is_near s left at ≡ true → at ≤ length s
  unfolding is_near
  near_within e = go (ltb at (length s)) refl e
    where
      go : (b : Bool) → ltb at (length s) ≡ b → (b && (ltb 0 (get_or s at 0) && ltb (get_or s at 0) left)) ≡ true → at ≤ length s
      go true p q = let h = ltb-true at (length s) p in omega arith
      go false p q = absurd (true≢false (sym q))

pub ruleset near_laws = (near_none, near_zero, near_some)

-- ---- after a write

module _ {room : List ℕ} {x : VecInfo} {bit : ℕ} (q : AlongAsks room x bit) where
  pub ask_quiet : Inside room x.info × (0 < x.info.width) × Inside room x.flags × (x.v < x.flags.width)
  ask_quiet = (q.vector, omega (arith, q.inside), q.flags, q.known)

  module _ {s : List ℕ} {at : ℕ} where
    pub ran_none : Ran x s bit at room room (record { left = bit; at = at })
    ran_none = stays

    module _ {m : Bool} (e : m ≡ is_near s bit at) (z : not m ≡ false) where
      pub ask_follow : FollowAsks x.info.states x.info s bit at room
      ask_follow = record { inside = q.vector; kind = refl; wide = omega (arith, q.inside); within = near_within s bit at (sym e ∙ not-false m z) }

    pub ran_on : {n : Bool} → n ≡ is_quiet x.info x.flags x.v room → not n ≡ false → {room' : List ℕ} {r : Reached} → Followed x.info s room bit at room' r → Ran x s bit at room room' r
    ran_on {n} d y f = follows (sym d ∙ not-false n y) f

pub ruleset along_laws = (ask_quiet, ran_none, ask_follow, ran_on)
