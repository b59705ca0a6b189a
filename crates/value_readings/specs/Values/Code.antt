-- What the proof of the loop searches.
-- Assumes nothing.
use Rattle.std.specs.Prelude.{ℕ, ◌<◌, ◌≤◌, ◌≡◌, refl, List, length}
use Rattle.std.proofs.Common.{sym, subst, ◌∙◌, arith}
use Rattle.tables.specs.Lists.{Lists}
use Rattle.gather.specs.declared.Part.TheVariants as part
use Rattle.gather.specs.Memory.{Mem, Sized, sized_self}
use Rattle.values.specs.declared.How.{How}
use Rattle.section_heads.specs.declared.Phase.{Phase}
use Rattle.section_heads.specs.declared.Stand.{Stand}
use Rattle.section_heads.specs.declared.Item.{Item}
use Rattle.section_heads.specs.Heads.{standing}
use Rattle.sections.specs.Item.{after_values, value_item}
use Rattle.sections.specs.Item.Scans.{Left}
use Rattle.gather.specs.declared.Gathered.{Gathered}
use Rattle.vector_turns.specs.OneVector.{next_step}
use Rattle.item_acts.specs.declared.Tag.{Tag}
use Rattle.item_acts.specs.declared.Tag.TheVariants as tag
use Rattle.item_acts.specs.declared.Acted.{Acted}
use Rattle.item_acts.specs.Moves.{Refuses, moves_self, moves_then, moves_refuses}
use Rattle.item_acts.specs.Acts.{ActAsks, ActsBy, Acts}
use Rattle.value_readings.specs.Values.{PlaceAsks, to_value, Goes, ValuesAsk, behind_of, Values}
use Rattle.value_readings.specs.Values.Laws.{asks_act, done_on, stay_on, closes_on, refusal_out}

-- ---- one turn

module _ {t : Lists} {how : How} {s : List ℕ} {m : Mem} {c : Gathered} {x : Stand} {i : ℕ} (q : PlaceAsks t how s m c x i) where
  pub ask_stood : x.id ≤ length t.kinds
  ask_stood = q.stood

  module _ {item : Item} (e : item ≡ value_item t.kinds how s x i) where
    pub ask_act : ActAsks t m c item
    ask_act = rw e (asks_act q)

    pub acts_value : {m' : Mem} {w : Acted} → Acts t s m c item m' w → Acts t s m c (value_item t.kinds how s x i) m' w
    acts_value {m'} {w} f = subst (λ (v : Item). Acts t s m c v m' w) e f

pub ruleset one_laws = (ask_stood, ask_act, acts_value)

-- ---- one after the other

goes_then : {t : Lists} {how : How} {s : List ℕ} {m : Mem} {c : Gathered} {x : Stand} {i : ℕ} {m₁ : Mem} {c₁ : Gathered} {x₁ : Stand} {i₁ : ℕ} {m₂ : Mem} {c₂ : Gathered} {x₂ : Stand} {i₂ : ℕ}
    → Goes t how s m c x i m₁ c₁ x₁ i₁ → Goes t how s m₁ c₁ x₁ i₁ m₂ c₂ x₂ i₂ → Goes t how s m c x i m₂ c₂ x₂ i₂
goes_then f k = record { ahead = omega (arith, f.ahead, k.ahead); moves = moves_then f.moves k.moves }

-- what is left from here is what was left from the step's beginning at `i₀`
pub record OnValues (t : Lists) (how : How) (s : List ℕ) (p : Phase) (u i₀ : ℕ) (m₀ : Mem) (g₀ : Gathered) (m : Mem) (c : Gathered) (id at : ℕ) : Type 0 where
  pub asks : PlaceAsks t how s m c (standing p id u) at
  pub sized : Sized m₀ m
  pub goes : Goes t how s m₀ g₀ (standing p 0 u) i₀ m c (standing p id u) at

pub on_start : {t : Lists} {how : How} {s : List ℕ} {m : Mem} {c : Gathered} {x : Item} → ValuesAsk t s m c x → OnValues t how s x.then.phase x.then.time x.at m c m c 0 x.at
on_start q =
    record {
      asks =
          record {
            tabled = q.asks.tabled;
            rooms = q.asks.rooms;
            state = q.asks.state;
            output = q.asks.output;
            holds = q.asks.holds;
            values = q.values;
            stood = omega arith;
            inside = q.inside;
            begun = λ z. q.asks.begun;
          };
      sized = sized_self;
      goes = record { ahead = omega arith; moves = moves_self };
    }

module _ {t : Lists} {how : How} {s : List ℕ} {p : Phase} {u i₀ : ℕ} {m₀ : Mem} {g₀ : Gathered} {m : Mem} {c : Gathered} {id at : ℕ} (o : OnValues t how s p u i₀ m₀ g₀ m c id at) where
  pub on_sized : Sized m₀ m
  on_sized = o.sized

  module _ {y : Stand} (e : y ≡ standing p id u) where
    pub on_asks : PlaceAsks t how s m c y at
    on_asks = rw e o.asks

    module _ {m' : Mem} {w : Acted} (f : Acts t s m c (value_item t.kinds how s y at) m' w) where
      acts_is : {g : Tag} → w.tag ≡ g → ActsBy t s m c (value_item t.kinds how s (standing p id u) at) m' w g
      acts_is {g} z = subst (λ (v : Stand). ActsBy t s m c (value_item t.kinds how s v at) m' w g) e (subst (ActsBy t s m c (value_item t.kinds how s y at) m' w) z f.acts)

      pub on_less : w.tag ≡ tag.On → to_value t how s m' w.g (standing p w.id u) w.at < to_value t how s m c (standing p id u) at
      on_less z = (done_on o.asks (acts_is z)).2

      pub still_less : w.tag ≡ tag.Stay → to_value t how s m' w.g (standing p id u) at < to_value t how s m c (standing p id u) at
      still_less z = (stay_on o.asks (acts_is z)).2

      sizes : Sized m m' → Sized m₀ m'
      sizes l = record { room = l.room ∙ o.sized.room; list = l.list ∙ o.sized.list; events = l.events ∙ o.sized.events; values = l.values ∙ o.sized.values }

      pub on_more : w.tag ≡ tag.On → Sized m m' → OnValues t how s p u i₀ m₀ g₀ m' w.g w.id w.at
      on_more z l =
          let k = done_on o.asks (acts_is z) in
          record { asks = k.1; sized = sizes l; goes = goes_then o.goes k.0 }

      pub on_still : w.tag ≡ tag.Stay → Sized m m' → OnValues t how s p u i₀ m₀ g₀ m' w.g id at
      on_still z l =
          let k = stay_on o.asks (acts_is z) in
          record { asks = k.1; sized = sizes l; goes = goes_then o.goes k.0 }

      over_goes : w.tag ≡ tag.Over → Goes t how s m₀ g₀ (standing p 0 u) i₀ m' (next_step w.g) (standing (after_values p) 0 u) w.at
      over_goes z = goes_then o.goes (closes_on o.asks (acts_is z))

      out_refuses : w.tag ≡ tag.Out → Refuses t m₀ g₀ (Left t how s (standing p 0 u) i₀) w.number w.at
      out_refuses z = moves_refuses o.goes.moves (refusal_out o.asks (acts_is z))

-- from the item that said the time
module _ {t : Lists} {how : How} {s : List ℕ} {m₀ : Mem} {c₀ : Gathered} {x : Item} (q : ValuesAsk t s m₀ c₀ x) {m : Mem} {c : Gathered} {id at : ℕ}
    (o : OnValues t how s x.then.phase x.then.time x.at m₀ c₀ m c id at) {y : Stand} (e : y ≡ standing x.then.phase id x.then.time) {m' : Mem} {w : Acted}
    (f : Acts t s m c (value_item t.kinds how s y at) m' w) where
  first : standing x.then.phase 0 x.then.time ≡ x.then
  first = λ j. record { phase = x.then.phase; id = sym q.first j; time = x.then.time }

  pub on_over : w.tag ≡ tag.Over → {k : Gathered} → k ≡ next_step w.g → Values t how s m₀ c₀ x m' (part.Went w.at k)
  on_over z d =
      let v : Goes t how s m₀ c₀ x.then x.at m' (next_step w.g) (behind_of x) w.at =
      subst (λ (a : Stand). Goes t how s m₀ c₀ a x.at m' (next_step w.g) (behind_of x) w.at) first (over_goes o e f z) in
      rw d (record { ends = (refl, v.ahead, v.moves) })

  pub on_out : w.tag ≡ tag.Out → Values t how s m₀ c₀ x m' (part.Out w.number w.at)
  on_out z = record { ends = subst (λ (a : Stand). Refuses t m₀ c₀ (Left t how s a x.at) w.number w.at) first (out_refuses o e f z) }

pub ruleset values_laws = (on_start, on_sized, on_asks, on_less, still_less, on_more, on_still, on_over, on_out)
