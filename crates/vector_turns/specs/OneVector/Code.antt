-- What the proofs of the functions search.
-- Assumes nothing.
use Rattle.std.specs.Prelude.{ℕ, ◌-◌, ◌%◌, ◌<◌, ◌≤◌, ◌≡◌, not, List, eqb, length, get_or}
use Rattle.std.proofs.Common.{sym, subst, ◌∙◌, arith}
use Rattle.tables.specs.Lists.{nth}
use Rattle.tables.specs.Checks.Laws.{nth_less}
use Rattle.gather.specs.declared.VecInfo.{VecInfo}
use Rattle.section_heads.specs.declared.Said.{Said}
use Rattle.section_heads.specs.declared.Said.TheVariants.{Write}
use Rattle.gather.specs.declared.Gathered.{Gathered}
use Rattle.turns.specs.declared.Turned.{Turned}
use Rattle.turns.specs.Turns.{mk, turn_write, Writing}
use Rattle.vector_turns.specs.OneVector.{IdIn, BitIn, NamedBy, Named, for_vector, vector_of, ConcernedBy, Concerned, turned, TurningBy, Turning}

-- ---- the number of a vector

module _ {vecs : List ℕ} {id : ℕ} (q : IdIn vecs id) where
  pub ask_low : 1 ≤ id
  ask_low = q.low

  pub ask_place : id - 1 < length vecs
  ask_place = omega (arith, q.low, q.high)

  pub says_number : {n : ℕ} → n ≡ get_or vecs (id - 1) 0 → n ≡ nth vecs id
  says_number e = e ∙ sym (nth_less vecs id q.low)

pub ruleset number_laws = (ask_low, ask_place, says_number)

-- ---- a bit

module _ {maxs : List ℕ} {v id : ℕ} (q : BitIn maxs v id) where
  pub ask_vector : v < length maxs
  ask_vector = q.known

  pub ask_below : {n : ℕ} → n ≡ get_or maxs v 0 → id ≤ n
  ask_below e = rw e q.below

  pub says_bit : {n : ℕ} → n ≡ get_or maxs v 0 → n - id ≡ get_or maxs v 0 - id
  says_bit e = rw e

pub ruleset bit_laws = (ask_vector, ask_below, says_bit)

-- ---- which vector

module _ (vecs : List ℕ) {a : Said} {v id : ℕ} (e : a ≡ Write v id) where
  pub ask_named : Named vecs a → IdIn vecs id
  ask_named q = subst (NamedBy vecs) e q.named

  pub says_for : {n : ℕ} → n ≡ nth vecs id → not (eqb n 0) ≡ for_vector vecs a
  unfolding for_vector
  says_for d = rw (d, e)

pub ruleset for_laws = (ask_named, says_for)

module _ (vecs list : List ℕ) (c : Gathered) {a : Said} {v id : ℕ} (e : a ≡ Write v id) where
  pub ask_concerned : Concerned vecs list c a → IdIn vecs id
  ask_concerned q = (subst (ConcernedBy vecs list c) e q.concerned).0

  pub ask_some : Concerned vecs list c a → {n : ℕ} → n ≡ nth vecs id → 1 ≤ n
  ask_some q d = rw d (subst (ConcernedBy vecs list c) e q.concerned).1

  pub says_vector : {n : ℕ} → n ≡ nth vecs id → n - 1 ≡ vector_of vecs list c a
  unfolding vector_of
  says_vector d = rw (d, e)

pub ruleset vector_laws = (ask_concerned, ask_some, says_vector)

-- ---- its turn

module _ (room list maxs : List ℕ) (x : VecInfo) (c : Gathered) {a : Said} {v id : ℕ} (e : a ≡ Write v id) where
  module _ (q : Turning room list maxs x c a) where
    pub ask_bit : BitIn maxs x.v id
    ask_bit = (subst (TurningBy room list maxs x c) e q.turning).0

    pub ask_write : {bit : ℕ} → bit ≡ get_or maxs x.v 0 - id → Writing room list x c bit (v % 256)
    ask_write d = rw d (subst (TurningBy room list maxs x c) e q.turning).1

  pub says_write : {bit : ℕ} → bit ≡ get_or maxs x.v 0 - id → {room' list' : List ℕ} {w : Turned} → mk room' list' w ≡ turn_write x c bit (v % 256) room list → mk room' list' w ≡ turned maxs x c a room list
  unfolding turned
  says_write d f = rw e (rw d at f)

pub ruleset turn_laws = (ask_bit, ask_write, says_write)
