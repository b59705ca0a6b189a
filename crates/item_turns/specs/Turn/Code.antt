-- What the proofs of the functions search.
-- Assumes nothing.
use Rattle.event_rooms.specs.Put.{Put}
use Rattle.std.specs.Prelude.{ℕ, ◌+◌, ◌-◌, ◌^◌, ◌<◌, ◌≤◌, ◌≡◌, Bool, true, false, not, List, [], ◌∷◌, get_or, None, Some}
use Rattle.std.proofs.Common.{◌∙◌, arith}
use Rattle.std.proofs.lemmas.Bool.{not-true, not-false}
use Rattle.tables.specs.Lists.{Lists, nth}
use Rattle.event_rooms.specs.declared.Counts.{Counts}
use Rattle.event_rooms.specs.Out.Laws.{Appends}
use Rattle.gather.specs.declared.VecInfo.{VecInfo}
use Rattle.gather.specs.Run.{alone}
use Rattle.gather.specs.Writes.{vec_info_from, Looks}
use Rattle.section_heads.specs.declared.Phase.TheVariants.{Listed}
use Rattle.section_heads.specs.declared.Said.{Said}
use Rattle.section_heads.specs.declared.Said.TheVariants.{Write}
use Rattle.section_heads.specs.declared.Item.{Item}
use Rattle.gather.specs.declared.Gathered.{Gathered}
use Rattle.turns.specs.Turns as turn
use Rattle.turns.specs.Turns.{show_vector}
use Rattle.plain_writes.specs.Plain.{AloneAt}
use Rattle.vector_turns.specs.OneVector.{BitIn, vector_of, Concerned}
use Rattle.along.specs.declared.Reached.{Reached}
use Rattle.along.specs.Follows as along
use Rattle.along.specs.Follows.{AlongAsks, Ran}
use Rattle.item_turns.specs.declared.Ended.TheVariants.{Stay, Full}
use Rattle.item_turns.specs.declared.Went.{Went}
use Rattle.item_turns.specs.Turn as item
use Rattle.item_turns.specs.Turn.Laws.{along_down}
use Rattle.item_turns.specs.Turn.{goes_on, stays, Looking, info_of, show_due, FollowAsks, Followed, GoAsks, Gone, PlainAsks, PlainTurns}

-- ---- a vector looked up

module _ {t : Lists} {list : List ℕ} {c : Gathered} {a : Said} (q : Looking t list c a) where
  pub ask_concerned : Concerned t.vecs list c a
  ask_concerned = q.concerned

  module _ {v : ℕ} (e : v ≡ vector_of t.vecs list c a) where
    pub ask_looks : Looks t.mins t.maxs t.states t.vec_refs list v
    ask_looks = rw e q.looks

    pub says_looked : {x : VecInfo} → x ≡ vec_info_from t.mins t.maxs t.states t.vec_refs v → x ≡ info_of t list c a
    says_looked d = d ∙ rw e

pub ruleset info_laws = (ask_concerned, ask_looks, says_looked)

-- ---- the event that is due

module _ (due : Bool) (x : VecInfo) (n : Counts) (room events values : List ℕ) where
  pub says_shown : due ≡ true → {l : turn.Made} → l ≡ show_vector x n room events values → l ≡ show_due due x n room events values
  unfolding show_due
  says_shown z e = e ∙ rw z

  pub says_none : due ≡ false → turn.mk room events values (Some n) ≡ show_due due x n room events values
  unfolding show_due
  says_none z = rw z

pub ruleset due_laws = (says_shown, says_none)

-- ---- what follows a write

ran_down : {x : VecInfo} {s : List ℕ} {bit at : ℕ} {room room' : List ℕ} {r : Reached} → Ran x s bit at room room' r → r.left ≤ bit
ran_down along.stays = omega arith
ran_down (along.follows z f) = along_down f.ran

module _ {room : List ℕ} {x : VecInfo} {bit : ℕ} {y : Item} (q : FollowAsks room x bit y) where
  pub ask_along : AlongAsks room x bit
  ask_along = q.along

  module _ {s : List ℕ} {room' : List ℕ} {r : Reached} (w : Ran x s bit y.at room room' r) where
    pub ask_down : r.left ≤ bit
    ask_down = ran_down w

    pub ask_sum : y.then.id + (bit - r.left) < 2 ^ 64
    ask_sum = omega (arith, q.few)

    pub says_along : y.then.phase ≡ Listed → (g : Gathered) {u : Went} → u ≡ goes_on r.at (y.then.id + (bit - r.left)) g → Followed x s bit y g room room' u
    says_along e g d = rw d (item.past e w)

  pub says_alone : (s : List ℕ) (g : Gathered) {u : Went} → u ≡ goes_on y.at y.then.id g → Followed x s bit y g room room u
  says_alone s g d = rw d item.straight

pub ruleset follow_laws = (ask_along, ask_down, ask_sum, says_along, says_alone)

module _ {room maxs : List ℕ} {x : VecInfo} {y : Item} {over : Bool} (q : GoAsks room maxs x y over) where
  pub says_waits : not over ≡ true → (s : List ℕ) (g : Gathered) {u : Went} → u ≡ stays Stay g → Gone x s maxs y g over room room u
  says_waits z s g d = rw d (item.unfinished (not-true over z))

  module _ (z : not over ≡ false) where
    pub ask_bit : BitIn maxs x.v y.then.id
    ask_bit = q.bit (not-false over z)

    module _ {bit : ℕ} (e : bit ≡ get_or maxs x.v 0 - y.then.id) where
      pub ask_follow : FollowAsks room x bit y
      ask_follow = rw e (q.follows (not-false over z))

      pub says_over : {s : List ℕ} {g : Gathered} {room' : List ℕ} {u : Went} → Followed x s bit y g room room' u → Gone x s maxs y g over room room' u
      says_over w = item.finished (not-false over z) (rw e at w)

pub ruleset go_laws = (says_waits, ask_bit, ask_follow, says_over)

-- ---- a signal outside vectors

module _ {t : Lists} {events values : List ℕ} {c : Gathered} {y : Item} (q : PlainAsks t events values c y) {v id : ℕ} (e : y.said ≡ Write v id) where
  pub ask_alone : AloneAt t.kinds t.refs events values c.counts id v
  ask_alone = q.asks v id e

  module _ {events' values' : List ℕ} {p : Put} (f : Appends (alone (nth t.kinds id) (nth t.refs id) v ∷ []) events values c.counts events' values' p) where
    pub says_made : {n : Counts} → p ≡ Some n → {u : Went} → u ≡ goes_on y.at y.then.id (record { ended = c.ended; listed = c.listed; counts = n }) → PlainTurns t c y events values events' values' u
    says_made d z = rw z (item.made v id e (rw d at f))

    pub says_full : p ≡ None → {u : Went} → u ≡ stays Full c → PlainTurns t c y events values events' values' u
    says_full d z = rw z (item.full v id e (rw d at f))

pub ruleset plain_laws = (ask_alone, says_made, says_full)
