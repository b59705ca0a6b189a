-- Histories that demand 3 refuses, one for each way to go wrong. The vector has two bits, but where the width matters.
-- Assumes nothing.
use Rattle.std.specs.Prelude.{◌≡◌, refl, true, ℕ, replicate}
use mathlib.Core.List.Memᴰ
use mathlib.Core.List.{List, [], ◌∷◌, ◌++◌, map, cons≢nil}
use Rattle.std.proofs.Common.{arith}
use Rattle.rules.specs.Vector.{Write, put, stop, complete, ended, wrote, shown, over, acts_early}
use Rattle.rules.specs.History.{heard}
use Rattle.rules.specs.Owned.{latest, value_or, Allowed, by_completion, Owned}
use Rattle.rules.specs.Owned.Mistakes.{Meets, nines, on}

-- losing a write: it never gets to the vector
pub unheard : Meets true 2 (put (on 0 1) ∷ stop ∷ []) (over ∷ []) → ⊥
unfolding Meets heard on
unheard (o, e) = let z : ◌≡◌ {A = ℕ} 0 1 = cc in omega arith

-- .. or it gets there and no event shows it
pub lost : Meets true 2 (put (on 0 1) ∷ stop ∷ []) (wrote (on 0 1) ∷ over ∷ []) → ⊥
unfolding Meets Owned
lost (o, e) = cons≢nil o.0

-- .. or one of the next step does
pub late : Meets true 2 (put (on 0 1) ∷ stop ∷ stop ∷ []) (wrote (on 0 1) ∷ over ∷ shown ended (1 ∷ 0 ∷ []) ∷ over ∷ []) → ⊥
unfolding Meets Owned
late (o, e) = cons≢nil o.0

-- an event without a write
pub idle : Meets true 2 (stop ∷ []) (shown ended (0 ∷ 0 ∷ []) ∷ over ∷ []) → ⊥
unfolding Meets Owned
idle (o, e) = o.0.owns refl

-- clearing marks without an event: the bit is rewritten, and the first value is never shown
pub silent : Meets true 2 (put (on 0 1) ∷ put (on 0 0) ∷ stop ∷ []) (wrote (on 0 1) ∷ wrote (on 0 0) ∷ shown ended (0 ∷ 0 ∷ []) ∷ over ∷ []) → ⊥
unfolding Meets Owned on
silent (o, e) = let z : ◌≡◌ {A = ℕ} 0 1 = o.0.agree (on 0 0) (on 0 1) (Memᴰ.head refl) (Memᴰ.tail (Memᴰ.head refl)) refl in omega arith

-- an event that shows an old value
pub stale : Meets true 2 (put (on 0 1) ∷ stop ∷ []) (wrote (on 0 1) ∷ shown ended (0 ∷ 0 ∷ []) ∷ over ∷ []) → ⊥
unfolding Meets Owned on latest value_or
stale (o, e) = let z : ◌≡◌ {A = ℕ} 0 1 = o.0.shows 0 (omega arith) in omega arith

-- an event for each write
pub each_write : Meets true 2 (put (on 0 1) ∷ put (on 1 1) ∷ stop ∷ []) (wrote (on 0 1) ∷ shown complete (1 ∷ 0 ∷ []) ∷ wrote (on 1 1) ∷ shown complete (1 ∷ 1 ∷ []) ∷ over ∷ []) → ⊥
unfolding Meets Owned on latest
each_write (o, e) = go o.0.rule
  where
    go : Allowed true 2 (on 0 1 ∷ []) complete (wrote (on 1 1) ∷ shown complete (1 ∷ 1 ∷ []) ∷ over ∷ []) → ⊥
    go (by_completion t f) = f 1 (omega arith) refl

pub mended : Meets (acts_early 9) 9 (map put nines ++ stop ∷ []) (map wrote nines ++ shown complete (replicate 9 1) ∷ over ∷ []) → ⊥
unfolding Meets Owned nines acts_early
mended (o, e) = go o.0.rule
  where
    go : {ws : List Write} → Allowed (acts_early 9) 9 ws complete (over ∷ []) → ⊥
    go (by_completion t f) = t
