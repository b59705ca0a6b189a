-- A step, from the item that said its time: its time event, and then its values.
-- Assumes nothing.
use Rattle.event_rooms.specs.Put.{Put}
use Rattle.std.specs.Prelude.{ℕ, ◌≡◌, List, [], ◌∷◌, None, Some}
use Rattle.std.proofs.Common.{ap, ◌∙◌}
use Rattle.tables.specs.Lists.{Lists}
use Rattle.rules.specs.Gather.{time}
use Rattle.records.specs.Event as event
use Rattle.event_rooms.specs.declared.Counts.{Counts}
use Rattle.event_rooms.specs.Out.Laws.{EventsRoom, Appends}
use Rattle.gather.specs.declared.Gathered.{Gathered}
use Rattle.gather.specs.declared.Part.{Part}
use Rattle.gather.specs.declared.Part.TheVariants as part
use Rattle.rules.specs.Scan.{done}
use Rattle.gather.specs.Memory.{Mem, mem_of}
use Rattle.values.specs.declared.How.{How}
use Rattle.section_heads.specs.declared.Phase.{Phase}
use Rattle.section_heads.specs.declared.Stand.{Stand}
use Rattle.section_heads.specs.declared.Item.{Item}
use Rattle.section_heads.specs.Heads.{standing}
use Rattle.sections.specs.Item.{after_values}
use Rattle.item_acts.specs.Moves.{Says, counting, moves_then, moves_refuses, time_leads, time_moves, time_refuses}
use Rattle.value_readings.specs.Values.{ValuesAsk, behind_of, EndsBy, Values}

pub record Opened (t : Lists) (how : How) (s : List ℕ) (m : Mem) (c : Gathered) (x : Item) (m' : Mem) (r : Part) : Type 0 where
  pub ends : EndsBy t how s (Says (time x.then.time) x.at) m c x m' r

module _ {t : Lists} {s room list events values : List ℕ} {c : Gathered} {x : Item} (q : ValuesAsk t s (mem_of room list events values) c x) where
  pub step_room : EventsRoom events c.counts
  step_room = q.asks.holds.written.in_events

  module _ {events₁ : List ℕ} {w : Put} (f : (v : List ℕ) → Appends (event.time x.then.time ∷ []) events v c.counts events₁ v w) where
    pub step_full : w ≡ None → {how : How} {m' : Mem} → Opened t how s (mem_of room list events values) c x m' (part.Out 16 x.at)
    step_full e = record { ends = time_refuses t room list (f values) x.at e }

    module _ {n : Counts} (e : w ≡ Some n) where
      pub step_ask : ValuesAsk t s (mem_of room list events₁ values) (counting c n) x
      step_ask =
          let h = (time_leads t room list (f values) x.at e (done 0)).leads q.asks.rooms q.asks.state q.asks.output q.asks.holds in
          record {
            asks = record { tabled = q.asks.tabled; rooms = q.asks.rooms; state = h.0; output = h.1; holds = h.2; begun = q.asks.begun };
            values = q.values;
            first = q.first;
            inside = q.inside;
          }

      opened_by_lem : (how : How) (m' : Mem) (r : Part) → EndsBy t how s (λ L. L) (mem_of room list events₁ values) (counting c n) x m' r
          → EndsBy t how s (Says (time x.then.time) x.at) (mem_of room list events values) c x m' r
      opened_by_lem how m' (part.Went i k) y = (y.0, y.1, moves_then (time_moves t room list (f values) x.at e) y.2)
      opened_by_lem how m' (part.Out m p) y = moves_refuses (time_moves t room list (f values) x.at e) y

      pub step_opened : {how : How} {m' : Mem} {r : Part} → Values t how s (mem_of room list events₁ values) (counting c n) x m' r → Opened t how s (mem_of room list events values) c x m' r
      step_opened {how} {m'} {r} y = record { ends = opened_by_lem how m' r y.ends }

pub ruleset step_laws = (step_room, step_full, step_ask, step_opened)

-- ---- after it

pub says_behind : (x : Stand) {p : Phase} → p ≡ after_values x.phase → {r : Stand} → r ≡ standing p 0 x.time → r ≡ standing (after_values x.phase) 0 x.time
says_behind x e d = d ∙ ap (λ (p : Phase). standing p 0 x.time) e

pub ruleset behind_laws = (says_behind)
