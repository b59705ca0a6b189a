-- Demand 3, of one vector's history. `waiting` holds the writes since the last event, latest first.
-- Assumes nothing.
use Rattle.std.specs.Prelude.{ℕ, ◌<◌, ◌≡◌, ◌≢◌, Bool, cond, length, get_or, eqb, T}
use Rattle.std.proofs.Math.Option.{Option, none, some}
use mathlib.Core.List.{List, [], ◌∷◌, Memᴰ}
use Rattle.rules.specs.Vector.{Write, Op, start, put, stop, Cause, rewritten, complete, ended, Item, began, wrote, shown, over}
pub mod Latest
pub mod Tracks
pub mod Laws
pub mod Mistakes

-- the latest write of a bit
unfoldable pub latest : ℕ → List Write → Option Write
latest b [] = none
latest b (x ∷ ws) = cond (eqb b x.bit) (some x) (latest b ws)

unfoldable pub value_or : ℕ → Option Write → ℕ
value_or d none = d
value_or d (some x) = x.value

-- an event before the step's end is made only by the two early rules
pub data Allowed (early : Bool) (w : ℕ) (waiting : List Write) : Cause → List Item → Type 0 where
  by_rewrite : {x y : Write} {next : List Item} → latest x.bit waiting ≡ some y → y.value ≢ x.value → Allowed early w waiting rewritten (wrote x ∷ next)
  by_completion : {next : List Item} → T early → ((b : ℕ) → b < w → latest b waiting ≢ none) → Allowed early w waiting complete next
  by_end : {next : List Item} → Allowed early w waiting ended (over ∷ next)

-- an event that shows `v`, where the previous one showed `before`, owns the writes `waiting` and stands before `next`
pub record Owner (early : Bool) (w : ℕ) (before : List ℕ) (waiting : List Write) (c : Cause) (v : List ℕ) (next : List Item) : Type 0 where
  pub owns : waiting ≢ []
  pub agree : (x y : Write) → Memᴰ x waiting → Memᴰ y waiting → x.bit ≡ y.bit → x.value ≡ y.value
  pub wide : length v ≡ w
  pub shows : (b : ℕ) → b < w → get_or v b 0 ≡ value_or (get_or before b 0) (latest b waiting)
  pub rule : Allowed early w waiting c next

-- every write waits for the first event after it, which owns it; at the end of a step, and of the history, none waits
unfoldable pub Owned : Bool → ℕ → List ℕ → List Write → List Item → Type 0
Owned early w before waiting [] = waiting ≡ []
Owned early w before waiting (began t ∷ h) = Owned early w before waiting h
Owned early w before waiting (wrote x ∷ h) = Owned early w before (x ∷ waiting) h
Owned early w before waiting (shown c v ∷ h) = Owner early w before waiting c v h × Owned early w v [] h
Owned early w before waiting (over ∷ h) = (waiting ≡ []) × Owned early w before [] h

-- every write names a bit of the vector
unfoldable pub Inside : ℕ → List Op → Type 0
Inside w [] = Unit {0}
Inside w (start t ∷ ops) = Inside w ops
Inside w (put x ∷ ops) = (x.bit < w) × Inside w ops
Inside w (stop ∷ ops) = Inside w ops
