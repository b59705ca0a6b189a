-- An item over the vector that it is for: what its turn asks, what is left to be run after it, and that its turns come to an end.
-- Assumes nothing.
use Rattle.event_rooms.specs.Put.{Put}
use Rattle.std.specs.Prelude.{ℕ, ◌+◌, ◌-◌, ◌*◌, ◌%◌, ◌<◌, ◌≤◌, ◌≡◌, Bool, List, eqb, length, get_or, Some}
use Rattle.std.proofs.Math.Path.{refl, ap, subst}
use Rattle.std.proofs.Common.{sym, ◌∙◌, true≢false, arith, eqb-true}
use Rattle.std.proofs.Math.Bool.{true, false}
use Rattle.std.proofs.lemmas.Bool.{false≢true, eqb-false, not-true, not-false}
use Rattle.slices.specs.Choice.{cond_ind}
use Rattle.tables.specs.Lists.{Lists, nth, signals}
use Rattle.tables.specs.Layout.{layout_of}
use Rattle.tables.specs.Layout.Laws.{count_is}
use Rattle.tables.specs.Checks.Laws.{nth_less}
use Rattle.values.specs.Value.{Suits}
use Rattle.rules.specs.Gather.{State, step_end}
use Rattle.event_rooms.specs.declared.Counts.{Counts}
use Rattle.event_rooms.specs.Out.{Rooms, Out}
use Rattle.vecmarks.specs.Info.{is_second}
use Rattle.vecstarts.specs.Numbers.{listed_in}
use Rattle.vecbuffer.specs.Changes as change
use Rattle.vecbuffer.specs.Changes.{updated}
use Rattle.vecbuffer.proofs.Stands.Laws.{asks_listed, listed_known}
use Rattle.gather.specs.declared.VecInfo.{VecInfo}
use Rattle.gather.specs.Memory.{Holds, mem_of, Tabled}
use Rattle.gather.specs.Makes.{Seen, vec_info}
use Rattle.gather.specs.Writes.{vec_info_from, Looks, looks_at, seen_from, OfVector, of_vector}
use Rattle.section_heads.specs.declared.Said.{Said}
use Rattle.section_heads.specs.declared.Said.TheVariants.{Nothing, Time, Write, StepEnd, Over, Bad}
use Rattle.gather.specs.declared.Gathered.{Gathered}
use Rattle.turns.specs.declared.Turned.{Turned}
use Rattle.turns.specs.Turns.{Left, mk, stored_turn, turn_write, turn_end, show_vector}
use Rattle.turns.specs.Turns as turn
use Rattle.turns.specs.Goes.{After}
use Rattle.turns.specs.Goes.Laws.{write_after, end_after, asks_write, asks_end, write_waits, shown_settles}
use Rattle.vector_turns.specs.OneVector.{BitIn, is_write, act_of, NamedBy, Named, for_vector, vector_of, ConcernedBy, Concerned, end_turn, turned, TurningBy, Turning}

-- ---- an item that is an act

-- a write to a signal, its value within its kind's range, before the step's end has begun; or a step's end that has not come to all
abbrev pub ReadyBy : Lists → Gathered → Said → Type 0
ReadyBy t c Nothing = ⊥
ReadyBy t c (Time u) = ⊥
ReadyBy t c (Write v id) = (c.ended ≡ 0) × (1 ≤ id) × (id ≤ length t.kinds) × Suits (nth t.kinds id) v
ReadyBy t c StepEnd = c.ended < c.listed
ReadyBy t c Over = ⊥
ReadyBy t c (Bad n) = ⊥

pub record Ready (t : Lists) (c : Gathered) (a : Said) : Type 0 where
  pub ready : ReadyBy t c a

named_by : {t : Lists} → Tabled t → (c : Gathered) (a : Said) → ReadyBy t c a → NamedBy t.vecs a
named_by k c Nothing q = tt
named_by k c (Time u) q = tt
named_by k c (Write v id) q = record { low = q.1; high = rw k.sized.vecs_long q.2 }
named_by k c StepEnd q = tt
named_by k c Over q = tt
named_by k c (Bad n) q = tt

pub ready_named : {t : Lists} → Tabled t → {c : Gathered} {a : Said} → Ready t c a → Named t.vecs a
ready_named k {c} {a} q = record { named = named_by k c a q.ready }

-- ---- what the tables say of a write to a vector

module _ {t : Lists} (k : Tabled t) (c : Gathered) (v id : ℕ) (q : ReadyBy t c (Write v id)) (z : for_vector t.vecs (Write v id) ≡ true) where
  pub its_vector : OfVector t id (nth t.vecs id - 1) v
  unfolding for_vector signals
  its_vector = of_vector k q.1 q.2 q.3 (nth_less t.vecs id q.1) (eqb-false (nth t.vecs id) 0 (not-true (eqb (nth t.vecs id) 0) z))

  its_some : 1 ≤ nth t.vecs id
  its_some = omega (arith, its_vector.number)

-- ---- what its turn asks

module _ {t : Lists} (k : Tabled t) {r : Rooms} {room list events values : List ℕ} {c : Gathered} {g : State} {o : Out} (h : Holds t r (mem_of room list events values) c g o) where
  known_at : (a : Said) → ReadyBy t c a → for_vector t.vecs a ≡ true → vector_of t.vecs list c a < length t.mins
  unfolding vector_of
  known_at Nothing q z = absurd q
  known_at (Time u) q z = absurd q
  known_at (Write v id) q z = (its_vector k c v id q z).known
  known_at StepEnd q z = rw (← count_is t) (listed_known h.stands q)
  known_at Over q z = absurd q
  known_at (Bad n) q z = absurd q

  concerned_at : (a : Said) → ReadyBy t c a → for_vector t.vecs a ≡ true → ConcernedBy t.vecs list c a
  concerned_at Nothing q z = absurd q
  concerned_at (Time u) q z = absurd q
  concerned_at (Write v id) q z = (named_by k c (Write v id) q, its_some k c v id q z)
  concerned_at StepEnd q z = asks_listed h.stands q
  concerned_at Over q z = absurd q
  concerned_at (Bad n) q z = absurd q

  module _ {a : Said} (q : Ready t c a) (z : for_vector t.vecs a ≡ true) where
    pub ready_known : vector_of t.vecs list c a < length t.mins
    ready_known = known_at a q.ready z

    pub ready_concerned : Concerned t.vecs list c a
    ready_concerned = record { concerned = concerned_at a q.ready z }

    pub ready_looks : Looks t.mins t.maxs t.states t.vec_refs list (vector_of t.vecs list c a)
    ready_looks = looks_at k h ready_known

    pub ready_seen : {x : VecInfo} → x ≡ vec_info_from t.mins t.maxs t.states t.vec_refs (vector_of t.vecs list c a) → Seen t (vector_of t.vecs list c a) x
    ready_seen e = rw e (seen_from t ready_known)

  -- the index that was looked up
  index_is : {v : ℕ} {x : VecInfo} → Seen t v x → x.v ≡ v
  index_is s = ap (λ (y : VecInfo). y.v) s.is

  module _ {x : VecInfo} (v id : ℕ) (q : ReadyBy t c (Write v id)) (z : for_vector t.vecs (Write v id) ≡ true) (s : Seen t (nth t.vecs id - 1) x) where
    abbrev u : ℕ
    u = nth t.vecs id - 1

    abbrev its : OfVector t id (nth t.vecs id - 1) v
    its = its_vector k c v id q z

    pub write_bit : BitIn t.maxs x.v id
    write_bit = rw (index_is s) (record { known = rw k.sized.maxs_long its.known; below = its.below })

    write_turning : TurningBy room list t.maxs x c (Write v id)
    write_turning = (write_bit, rw (s.is, its.byte) (rw s.is at (asks_write s h q.0 its.inside its.small)))

    write_is : {room' list' : List ℕ} {w : Turned} → mk room' list' w ≡ turned t.maxs x c (Write v id) room list → mk room' list' w ≡ turn_write x c (get_or t.maxs (nth t.vecs id - 1) 0 - id) v room list
    unfolding turned
    write_is e =
        e
        ∙ (ap (λ (n : ℕ). turn_write x c (get_or t.maxs n 0 - id) (v % 256) room list) (index_is s)
        ∙ ap (λ (n : ℕ). turn_write x c (get_or t.maxs (nth t.vecs id - 1) 0 - id) n room list) its.byte)

    write_turned : {room' list' : List ℕ} {w : Turned} → mk room' list' w ≡ turned t.maxs x c (Write v id) room list → (p : ℕ) → After t r (nth t.vecs id - 1) (act_of (Write v id) p) (mem_of room' list' events values) c w g o
    write_turned e p =
        write_after s h q.0 id (get_or t.maxs (nth t.vecs id - 1) 0 - id) v p its.number refl its.wide its.inside its.small (write_is e)

  module _ {x : VecInfo} (q : c.ended < c.listed) (s : Seen t (listed_in list c.ended) x) where
    abbrev EndIn : Left → Type 0
    EndIn (turn.mk room' list' w) = After t r (listed_in list c.ended) step_end (mem_of room' list' events values) c w g o

    end_turned : {room' list' : List ℕ} {w : Turned} → mk room' list' w ≡ turned t.maxs x c StepEnd room list → After t r (listed_in list c.ended) step_end (mem_of room' list' events values) c w g o
    unfolding turned end_turn
    end_turned e = subst EndIn (sym e) (end_after s h refl q refl)

  module _ {x : VecInfo} where
    turning_at : (a : Said) → ReadyBy t c a → for_vector t.vecs a ≡ true → Seen t (vector_of t.vecs list c a) x → TurningBy room list t.maxs x c a
    unfolding vector_of
    turning_at Nothing q z s = absurd q
    turning_at (Time u) q z s = absurd q
    turning_at (Write v id) q z s = write_turning v id q z s
    turning_at StepEnd q z s = asks_end s h q
    turning_at Over q z s = absurd q
    turning_at (Bad n) q z s = absurd q

    after_at : (a : Said) → ReadyBy t c a → for_vector t.vecs a ≡ true → Seen t (vector_of t.vecs list c a) x → {room' list' : List ℕ} {w : Turned} → mk room' list' w ≡ turned t.maxs x c a room list
        → (p : ℕ) → After t r (vector_of t.vecs list c a) (act_of a p) (mem_of room' list' events values) c w g o
    unfolding vector_of
    after_at Nothing q z s e p = absurd q
    after_at (Time u) q z s e p = absurd q
    after_at (Write v id) q z s e p = write_turned v id q z s e p
    after_at StepEnd q z s e p = end_turned q s e
    after_at Over q z s e p = absurd q
    after_at (Bad n) q z s e p = absurd q

    module _ {a : Said} (q : Ready t c a) (z : for_vector t.vecs a ≡ true) (s : Seen t (vector_of t.vecs list c a) x) where
      pub ready_turning : Turning room list t.maxs x c a
      ready_turning = record { turning = turning_at a q.ready z s }

      -- after a turn, from the memory as it is then
      pub ready_after : {room' list' : List ℕ} {w : Turned} → mk room' list' w ≡ turned t.maxs x c a room list
          → (p : ℕ) → After t r (vector_of t.vecs list c a) (act_of a p) (mem_of room' list' events values) c w g o
      ready_after e p = after_at a q.ready z s e p

-- the bit that a write is to
pub record ToBit (t : Lists) (v : ℕ) (a : Said) : Type 0 where
  pub value : ℕ
  pub id : ℕ
  pub is : a ≡ Write value id
  pub known : v < length t.mins
  pub below : id ≤ get_or t.maxs v 0
  pub inside : get_or t.maxs v 0 - id < (layout_of t).width v

module _ {t : Lists} (k : Tabled t) (c : Gathered) (list : List ℕ) where
  bit_at : (a : Said) → ReadyBy t c a → for_vector t.vecs a ≡ true → is_write a ≡ true → ToBit t (vector_of t.vecs list c a) a
  unfolding vector_of
  bit_at Nothing q z d = absurd q
  bit_at (Time u) q z d = absurd q
  bit_at (Write v id) q z d = let i = its_vector k c v id q z in record { value = v; id = id; is = refl; known = i.known; below = i.below; inside = i.inside }
  bit_at StepEnd q z d = absurd (false≢true d)
  bit_at Over q z d = absurd q
  bit_at (Bad n) q z d = absurd q

  pub ready_bit : {a : Said} → Ready t c a → for_vector t.vecs a ≡ true → is_write a ≡ true → ToBit t (vector_of t.vecs list c a) a
  ready_bit {a} q z d = bit_at a q.ready z d

  -- a write to a signal outside vectors
  plain_at : (a : Said) → ReadyBy t c a → for_vector t.vecs a ≡ false → is_write a ≡ true
  unfolding for_vector
  plain_at Nothing q z = absurd q
  plain_at (Time u) q z = absurd q
  plain_at (Write v id) q z = refl
  plain_at StepEnd q z = absurd (true≢false z)
  plain_at Over q z = absurd q
  plain_at (Bad n) q z = absurd q

  pub ready_plain : {a : Said} → Ready t c a → for_vector t.vecs a ≡ false → is_write a ≡ true
  ready_plain {a} q z = plain_at a q.ready z

-- a write to one has no vector number
pub plain_number : (vecs : List ℕ) (v id : ℕ) → for_vector vecs (Write v id) ≡ false → nth vecs id ≡ 0
unfolding for_vector
plain_number vecs v id z = eqb-true (nth vecs id) 0 (not-false (eqb (nth vecs id) 0) z)

-- ---- that its turns come to an end

-- a write that an event comes before
unfoldable pub waits : Lists → List ℕ → Said → Bool
waits t room Nothing = false
waits t room (Time u) = false
waits t room (Write v id) = is_second (vec_info t (nth t.vecs id - 1)).info (get_or t.maxs (nth t.vecs id - 1) 0 - id) (v % 256) room
waits t room StepEnd = false
waits t room Over = false
waits t room (Bad n) = false

-- what a turn leaves that is not over
module _ (x : VecInfo) (c : Gathered) (bit y : ℕ) (room list : List ℕ) where
  abbrev Still : Left → Type 0
  Still (turn.mk room' list' w) = w.over ≡ false → (w.due ≡ true) × (w.ended ≡ c.ended) × (w.listed ≡ c.listed)

  still_made : (l : change.Lent) → Still (stored_turn x c l)
  unfolding stored_turn
  still_made (change.mk room' list' n) = λ z. absurd (true≢false z)

  pub write_still : {room' list' : List ℕ} {w : Turned} → mk room' list' w ≡ turn_write x c bit y room list → w.over ≡ false → (w.due ≡ true) × (w.ended ≡ c.ended) × (w.listed ≡ c.listed)
  unfolding turn_write
  write_still e =
      subst Still (sym e)
      (cond_ind (is_second x.info bit y room) (turn.mk room list (record { due = true; over = false; ended = c.ended; listed = c.listed }))
      (stored_turn x c (updated x.info x.flags x.v c.listed bit y room list)) Still (λ z _. (refl, refl, refl)) (λ _. still_made _))

  abbrev Made : Left → Type 0
  Made (turn.mk room' list' w) = w.ended ≡ c.ended

  made_stored : (l : change.Lent) → Made (stored_turn x c l)
  unfolding stored_turn
  made_stored (change.mk room' list' n) = refl

  pub write_begun : {room' list' : List ℕ} {w : Turned} → mk room' list' w ≡ turn_write x c bit y room list → w.ended ≡ c.ended
  unfolding turn_write
  write_begun e =
      subst Made (sym e)
      (cond_ind (is_second x.info bit y room) (turn.mk room list (record { due = true; over = false; ended = c.ended; listed = c.listed }))
      (stored_turn x c (updated x.info x.flags x.v c.listed bit y room list)) Made (λ z. refl) (λ _. made_stored _))

-- one vector listed counts twice, so that a write that waits counts less
unfoldable pub to_turn : Gathered → Bool → ℕ
to_turn c true = 2 * (c.listed - c.ended) + 1
to_turn c false = 2 * (c.listed - c.ended)

-- the answer of a turn
abbrev answer : Left → Turned
answer (turn.mk room list w) = w

end_facts : (x : VecInfo) (c : Gathered) (room list : List ℕ) {room' list' : List ℕ} {w : Turned} → mk room' list' w ≡ end_turn x c room list → (w.ended ≡ c.ended + 1) × (w.listed ≡ c.listed) × (w.over ≡ false)
unfolding end_turn turn_end
end_facts x c room list e = (ap (λ (l : Left). (answer l).ended) e, ap (λ (l : Left). (answer l).listed) e, ap (λ (l : Left). (answer l).over) e)

-- the vectors listed as a turn leaves them
abbrev pub listed_as : Turned → Counts → Gathered
listed_as w n = record { ended = w.ended; listed = w.listed; counts = n }

module _ {t : Lists} (k : Tabled t) {r : Rooms} {room list events values : List ℕ} {c : Gathered} {g : State} {o : Out} (h : Holds t r (mem_of room list events values) c g o) (x : VecInfo) {room' list' : List ℕ} {w : Turned} where
  over_at : (a : Said) → ReadyBy t c a → mk room' list' w ≡ turned t.maxs x c a room list → w.over ≡ true → is_write a ≡ true
  unfolding turned
  over_at Nothing q e d = absurd q
  over_at (Time u) q e d = absurd q
  over_at (Write v id) q e d = refl
  over_at StepEnd q e d = absurd (false≢true (sym (end_facts x c room list e).2 ∙ d))
  over_at Over q e d = absurd q
  over_at (Bad n) q e d = absurd q

  begun_at : (a : Said) → ReadyBy t c a → mk room' list' w ≡ turned t.maxs x c a room list → is_write a ≡ true → w.ended ≡ 0
  unfolding turned
  begun_at Nothing q e d = absurd q
  begun_at (Time u) q e d = absurd q
  begun_at (Write v id) q e d = write_begun x c _ _ room list e ∙ q.0
  begun_at StepEnd q e d = absurd (false≢true d)
  begun_at Over q e d = absurd q
  begun_at (Bad n) q e d = absurd q

  end_less : (n : Counts) → c.ended < c.listed → mk room' list' w ≡ end_turn x c room list → to_turn (listed_as w n) false < to_turn c false
  unfolding to_turn
  end_less n q e = let f = end_facts x c room list e in omega (arith, f.0, f.1)

  -- a turn that is not over and makes no event
  quiet_at : (n : Counts) (a : Said) → ReadyBy t c a → for_vector t.vecs a ≡ true → Seen t (vector_of t.vecs list c a) x → mk room' list' w ≡ turned t.maxs x c a room list → w.over ≡ false → w.due ≡ false
      → to_turn (listed_as w n) (waits t room' a) < to_turn c (waits t room a)
  unfolding vector_of turned waits
  quiet_at n Nothing q z s e d y = absurd q
  quiet_at n (Time u) q z s e d y = absurd q
  quiet_at n (Write v id) q z s e d y = absurd (false≢true (sym y ∙ (write_still x c _ _ room list e d).0))
  quiet_at n StepEnd q z s e d y = end_less n q e
  quiet_at n Over q z s e d y = absurd q
  quiet_at n (Bad b) q z s e d y = absurd q

  module _ {room'' events' values' : List ℕ} {p : Put} (f : turn.mk room'' events' values' p ≡ show_vector x c.counts room' events values) {n : Counts} (d : p ≡ Some n) where
    -- .. a write whose event was made
    settled : (v id : ℕ) (q : ReadyBy t c (Write v id)) (z : for_vector t.vecs (Write v id) ≡ true) (s : Seen t (nth t.vecs id - 1) x) → mk room' list' w ≡ turned t.maxs x c (Write v id) room list
        → w.over ≡ false → to_turn (listed_as w n) (waits t room'' (Write v id)) < to_turn c (waits t room (Write v id))
    unfolding waits to_turn
    settled v id q z s e y =
        let i = its_vector k c v id q z in
        let b = write_is k h v id q z s e in
        let kept = write_still x c (get_or t.maxs (nth t.vecs id - 1) 0 - id) v room list b y in
        let was : is_second (vec_info t (nth t.vecs id - 1)).info (get_or t.maxs (nth t.vecs id - 1) 0 - id) (v % 256) room ≡ true =
        rw i.byte (rw s.is at (write_waits x c (get_or t.maxs (nth t.vecs id - 1) 0 - id) v room list b y)) in
        let now : is_second (vec_info t (nth t.vecs id - 1)).info (get_or t.maxs (nth t.vecs id - 1) 0 - id) (v % 256) room'' ≡ false =
        rw s.is at (shown_settles s (write_turned k h v id q z s e 0).holds f d (get_or t.maxs (nth t.vecs id - 1) 0 - id) (v % 256) i.inside) in
        rw (was, now) (omega (arith, kept.1, kept.2))

    shown_end : c.ended < c.listed → mk room' list' w ≡ turned t.maxs x c StepEnd room list → to_turn (listed_as w n) (waits t room'' StepEnd) < to_turn c (waits t room StepEnd)
    unfolding turned waits
    shown_end q e = end_less n q e

    shown_at : (a : Said) → ReadyBy t c a → for_vector t.vecs a ≡ true → Seen t (vector_of t.vecs list c a) x → mk room' list' w ≡ turned t.maxs x c a room list → w.over ≡ false
        → to_turn (listed_as w n) (waits t room'' a) < to_turn c (waits t room a)
    unfolding vector_of
    shown_at Nothing q z s e y = absurd q
    shown_at (Time u) q z s e y = absurd q
    shown_at (Write v id) q z s e y = settled v id q z s e y
    shown_at StepEnd q z s e y = shown_end q e
    shown_at Over q z s e y = absurd q
    shown_at (Bad b) q z s e y = absurd q

  module _ {a : Said} (q : Ready t c a) (z : for_vector t.vecs a ≡ true) (s : Seen t (vector_of t.vecs list c a) x) (e : mk room' list' w ≡ turned t.maxs x c a room list) where
    -- an act that is over was a write
    pub ready_over : w.over ≡ true → is_write a ≡ true
    ready_over d = over_at a q.ready e d

    -- until a write is over, the step's end has not begun
    pub ready_begun : is_write a ≡ true → w.ended ≡ 0
    ready_begun d = begun_at a q.ready e d

    -- one that is not has come further
    pub ready_quiet : w.over ≡ false → w.due ≡ false → (n : Counts) → to_turn (listed_as w n) (waits t room' a) < to_turn c (waits t room a)
    ready_quiet d y n = quiet_at n a q.ready z s e d y

    pub ready_shown : w.over ≡ false → {room'' events' values' : List ℕ} {p : Put} → turn.mk room'' events' values' p ≡ show_vector x c.counts room' events values → {n : Counts} → p ≡ Some n
        → to_turn (listed_as w n) (waits t room'' a) < to_turn c (waits t room a)
    ready_shown d f y = shown_at f y a q.ready z s e d
