-- Outputs that demand 3 rules out, whatever the order of acts and records: a write without its event, an event that
-- shows another value than the one that was written, and the labels of two vectors the wrong way round.
-- Assumes nothing.
use Rattle.std.specs.Prelude.{ℕ, suc, ◌+◌, ◌≡◌, refl, ◌⊎◌, Bool, false}
use Rattle.std.proofs.Math.Path.{sym, ap}
use Rattle.std.proofs.Common.{◌∙◌, inl, inr, ⊎_elim, arith}
use mathlib.Core.List.{List, [], ◌∷◌, ◌++◌, append_assoc, cons≢nil}
use Rattle.states.specs.declared.States.TheVariants.{Two}
use Rattle.states.specs.Field.{field_get}
use Rattle.states.specs.Packed.{field_at, value_place}
use Rattle.numbers.specs.Fixed.{big, big_bytes}
use Rattle.slices.specs.Splice.{part}
use Rattle.rules.specs.Gather.{Tables, Act, time, write, step_end}
use Rattle.records.specs.declared.Record.TheVariants.{Time, Value}
use Rattle.records.specs.Event.{record_bytes}
use Rattle.event_streams.specs.Stream.{record_at}
use Rattle.demand3_bytes.specs.Statements.{Labelled, bit_in, shows, Moment, said, made, said_in, made_in, bit_of, writes_bit, Without, Demand3}

-- ---- places in an order

pub said_append : (a b : List Moment) → said_in (a ++ b) ≡ said_in a ++ said_in b
unfolding said_in
said_append [] b = refl
said_append (said x ∷ a) b = ap (λ l. x ∷ l) (said_append a b)
said_append (made r ∷ a) b = said_append a b

pub made_append : (a b : List Moment) → made_in (a ++ b) ≡ made_in a ++ made_in b
unfolding made_in
made_append [] b = refl
made_append (said x ∷ a) b = made_append a b
made_append (made r ∷ a) b = ap (λ l. r ∷ l) (made_append a b)

-- where an act stands
abbrev Place : List Moment → List Act → Act → List Act → Type 0
Place o l a r = (x : List Moment) × (y : List Moment) × (o ≡ x ++ said a ∷ y) × (said_in x ≡ l) × (said_in y ≡ r)

further : (m : Moment) (o : List Moment) (l : List Act) (a : Act) (r : List Act) → Place o l a r
    → Place (m ∷ o) (said_in (m ∷ []) ++ l) a r
unfolding said_in
further m o l a r (x, y, e, f, g) =
    (m ∷ x, y, ap (λ z. m ∷ z) e, said_append (m ∷ []) x ∙ ap (λ z. said_in (m ∷ []) ++ z) f, g)

place : (o : List Moment) (l : List Act) (a : Act) (r : List Act) → said_in o ≡ l ++ a ∷ r → Place o l a r
unfolding said_in
place [] [] a r e = absurd (cons≢nil (sym e))
place [] (x ∷ l) a r e = absurd (cons≢nil (sym e))
place (said x ∷ o) [] a r e = let f : x ≡ a = cc in ([], o, ap (λ z. said z ∷ o) f, refl, (cc))
place (said x ∷ o) (y ∷ l) a r e = let f : x ≡ y = cc in rw (← f) (further (said x) o l a r (place o l a r (cc)))
place (made x ∷ o) l a r e = further (made x) o l a r (place o l a r e)

-- no act writes the bit
Elsewhere : Tables → (v k : ℕ) → List Act → Type 0
Elsewhere t v k [] = Unit {0}
Elsewhere t v k (a ∷ acts) = (writes_bit t v k (said a) ≡ false) × Elsewhere t v k acts

unwritten : (t : Tables) (v k : ℕ) (m : List Moment) (rest acts : List Act) → said_in m ++ rest ≡ acts
    → Elsewhere t v k acts → Without (writes_bit t v k) m
unfolding said_in Without writes_bit Elsewhere
unwritten t v k [] rest acts e n = tt
unwritten t v k (said a ∷ m) rest [] e n = absurd (cons≢nil e)
unwritten t v k (said a ∷ m) rest (b ∷ acts) e n =
    let f : a ≡ b = cc in
    (rw f n.0, unwritten t v k m rest acts (cc) n.1)
unwritten t v k (made r ∷ m) rest acts e n = (refl, unwritten t v k m rest acts e n)

-- ---- the record that shows a write

-- a record among some that is labelled with vector v and shows x for bit k
abbrev Shown : (v k x : ℕ) → List ℕ → List Labelled → Type 0
Shown v k x values rs =
    (l : List Labelled) × (r : Labelled) × (m : List Labelled) × (l ++ r ∷ m ≡ rs) × (r.label ≡ suc v) ×
    (shows values r k ≡ x)

-- a write of a bit that is not written again
module _ (early : ℕ → Bool) (t : Tables) (l : List Act) (id x p v : ℕ) (r : List Act) (there : t.vector id ≡ suc v)
    (last : Elsewhere t v (bit_of t v id) r) (values : List ℕ) (rs : List Labelled)
    (d : Demand3 early t (l ++ write id x p ∷ r) values rs) where
  is_shown : Shown v (bit_of t v id) x values rs
  unfolding made_in said_in
  is_shown =
      let (a, y, e, f, g) = place d.order l (write id x p) r d.input in
      let (m, q, rest, first, within) = d.sentences.first_event v a id x p y e there in
      let all : d.order ≡ a ++ said (write id x p) ∷ (m ++ made q ∷ rest)
      = e ∙ ap (λ z. a ++ said (write id x p) ∷ z) first.split in
      let quiet : said_in m ++ said_in rest ≡ r
      = sym (said_append m (made q ∷ rest)) ∙ (ap said_in (sym first.split) ∙ g) in (
        made_in (a ++ said (write id x p) ∷ m),
        q,
        made_in rest,
        sym (made_append (a ++ said (write id x p) ∷ m) (made q ∷ rest))
            ∙ (ap made_in (append_assoc a (said (write id x p) ∷ m) (made q ∷ rest) ∙ sym all) ∙ d.output),
        first.label,
        d.sentences.shows_last v a id x p m q rest all there first.label first.none
            (unwritten t v (bit_of t v id) m (said_in rest) r quiet last),
      )

shown_none : (v k x : ℕ) (values : List ℕ) → Shown v k x values [] → ⊥
shown_none v k x values ([], r, m, e, f, g) = cons≢nil e
shown_none v k x values (q ∷ l, r, m, e, f, g) = cons≢nil e

-- it is the first record, or one behind it
shown_further : (v k x : ℕ) (values : List ℕ) (c : Labelled) (rs : List Labelled) → Shown v k x values (c ∷ rs)
    → ((c.label ≡ suc v) × (shows values c k ≡ x)) ⊎ Shown v k x values rs
shown_further v k x values c rs ([], r, m, e, f, g) = let h : c ≡ r = cc in inl (rw h f, rw h g)
shown_further v k x values c rs (q ∷ l, r, m, e, f, g) = inr (l, r, m, (cc), f, g)

-- ---- outputs

abbrev clock : Labelled
clock = record { label = 0; bytes = record_bytes (Time 0) }

-- a two-state record of one value byte
abbrev event : (label start : ℕ) → Labelled
event label start = record { label = label; bytes = record_bytes (Value Two 5 start 1) }

abbrev one : Tables
one = record { vector = λ i. 1; min = λ v. 2; max = λ v. 3 }

-- the bit that id 3 is
abbrev bit : ℕ
bit = bit_of one 0 3

-- one bit of a vector of two is written once: a write whose event is missing
pub lost : (early : ℕ → Bool) (values : List ℕ)
    → Demand3 early one (time 0 ∷ write 3 1 0 ∷ step_end ∷ []) values (clock ∷ []) → ⊥
unfolding Elsewhere writes_bit
lost early values d =
    ⊎_elim (λ c. let z : ◌≡◌ {A = ℕ} 0 1 = c.0 in omega arith) (shown_none 0 bit 1 values)
    (shown_further 0 bit 1 values clock []
    (is_shown early one (time 0 ∷ []) 3 1 0 0 (step_end ∷ []) refl (refl, tt) values (clock ∷ []) d))

-- .. and an event that shows 0 where 1 was written
stale_shows : shows (0 ∷ []) (event 1 0) bit ≡ 0
unfolding shows bit_in record_at record_bytes big_bytes big part field_at field_get value_place
stale_shows = refl

pub stale : (early : ℕ → Bool)
    → Demand3 early one (time 0 ∷ write 3 1 0 ∷ step_end ∷ []) (0 ∷ []) (clock ∷ event 1 0 ∷ []) → ⊥
unfolding Elsewhere writes_bit
stale early d =
    ⊎_elim (λ c. let z : ◌≡◌ {A = ℕ} 0 1 = c.0 in omega arith)
    (λ o. ⊎_elim (λ c. let z : ◌≡◌ {A = ℕ} 0 1 = sym stale_shows ∙ c.1 in omega arith) (shown_none 0 bit 1 (0 ∷ []))
    (shown_further 0 bit 1 (0 ∷ []) (event 1 0) [] o))
    (shown_further 0 bit 1 (0 ∷ []) clock (event 1 0 ∷ [])
    (is_shown early one (time 0 ∷ []) 3 1 0 0 (step_end ∷ []) refl (refl, tt) (0 ∷ []) (clock ∷ event 1 0 ∷ []) d))

-- two vectors of one bit that share a reference, 1 written to the first and 0 to the second: labels the wrong way round
abbrev two : Tables
two = record { vector = λ i. i; min = λ v. v + 1; max = λ v. v + 1 }

swapped_shows : shows (1 ∷ 0 ∷ []) (event 1 1) 0 ≡ 0
unfolding shows bit_in record_at record_bytes big_bytes big part field_at field_get value_place
swapped_shows = refl

abbrev mixed : List Labelled
mixed = clock ∷ event 2 0 ∷ event 1 1 ∷ []

pub swapped : (early : ℕ → Bool)
    → Demand3 early two (time 0 ∷ write 1 1 0 ∷ write 2 0 1 ∷ step_end ∷ []) (1 ∷ 0 ∷ []) mixed → ⊥
unfolding Elsewhere writes_bit
swapped early d =
    ⊎_elim (λ c. let z : ◌≡◌ {A = ℕ} 0 1 = c.0 in omega arith)
    (λ o. ⊎_elim (λ c. let z : ◌≡◌ {A = ℕ} 2 1 = c.0 in omega arith)
    (λ o. ⊎_elim (λ c. let z : ◌≡◌ {A = ℕ} 0 1 = sym swapped_shows ∙ c.1 in omega arith)
    (shown_none 0 0 1 (1 ∷ 0 ∷ []))
    (shown_further 0 0 1 (1 ∷ 0 ∷ []) (event 1 1) [] o))
    (shown_further 0 0 1 (1 ∷ 0 ∷ []) (event 2 0) (event 1 1 ∷ []) o))
    (shown_further 0 0 1 (1 ∷ 0 ∷ []) clock (event 2 0 ∷ event 1 1 ∷ [])
    (is_shown early two (time 0 ∷ []) 1 1 0 0 (write 2 0 1 ∷ step_end ∷ []) refl (refl, (refl, tt))
    (1 ∷ 0 ∷ []) mixed d))
