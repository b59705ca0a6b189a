-- What the proofs of the functions search: answers, and the loop over all records.
-- Assumes nothing.
use Rattle.event_rooms.specs.Put.{Put}
use Rattle.std.specs.Prelude.{ℕ, ◌<◌, ◌≡◌, Bool, true, false, List, None, Some}
use Rattle.std.proofs.Math.Path.{ap}
use Rattle.std.proofs.Common.{subst, ◌∙◌, arith}
use Rattle.tables.specs.Lists.{Lists}
use Rattle.event_rooms.specs.declared.Counts.{Counts}
use Rattle.gather.specs.declared.Part.TheVariants as part
use Rattle.rules.specs.Scan.{Scan}
use Rattle.gather.specs.Run.{run}
use Rattle.gather.specs.Memory.{Mem, Sized, sized_self}
use Rattle.gather.specs.Follows.{Asks, Runs}
use Rattle.gather.specs.declared.Gathered.{Gathered}
use Rattle.vector_turns.specs.OneVector.{next_step}
use Rattle.item_acts.specs.declared.Tag.TheVariants as tag
use Rattle.item_acts.specs.declared.Acted.{Acted}
use Rattle.item_acts.specs.Moves.{Moves, moves_self, moves_then, moves_refuses, counting}
use Rattle.changes.specs.Changes.{scan_changes}
use Rattle.changes.specs.Changes.Items.{Left, left_all}
use Rattle.change_readings.specs.declared.Place.{Place}
use Rattle.change_readings.specs.declared.End.{End}
use Rattle.change_readings.specs.declared.End.TheVariants as end
use Rattle.change_readings.specs.declared.Step.{Step}
use Rattle.change_readings.specs.Records.{more, refused, opened_by, acted_by, RecordAsks, to_record, RecordsBy, Records}

-- ---- answers

module _ (at : ℕ) (g : Gathered) {q : Put} where
  pub opened_done : {n : Counts} → q ≡ Some n → more true at (counting g n) ≡ opened_by at g q
  opened_done e = rw e

  pub opened_full : q ≡ None → refused 16 at g ≡ opened_by at g q
  opened_full e = rw e

pub ruleset opened_laws = (opened_done, opened_full)

module _ (p : Place) (w : Acted) where
  pub acted_on : w.tag ≡ tag.On → more true w.at w.g ≡ acted_by p w w.tag
  acted_on e = rw e

  pub acted_stay : w.tag ≡ tag.Stay → more p.inside p.at w.g ≡ acted_by p w w.tag
  acted_stay e = rw e

  pub acted_over : w.tag ≡ tag.Over → {h : Gathered} → h ≡ next_step w.g → more false w.at h ≡ acted_by p w w.tag
  acted_over e z = rw (e, z)

  pub acted_out : w.tag ≡ tag.Out → refused w.number w.at w.g ≡ acted_by p w w.tag
  acted_out e = rw e

pub ruleset acted_laws = (acted_on, acted_stay, acted_over, acted_out)

-- ---- all records

-- what is left from here is what was left from the first record on
pub record OnRecords (t : Lists) (s : List ℕ) (m₀ : Mem) (g₀ : Gathered) (m : Mem) (c : Gathered) (inside : Bool) (i : ℕ) : Type 0 where
  pub asks : RecordAsks t s m c inside i
  pub sized : Sized m₀ m
  pub moves : Moves t m₀ g₀ (Left t s false 0) m c (Left t s inside i)

pub on_start : {t : Lists} (s : List ℕ) {m : Mem} {c : Gathered} → Asks t m c → OnRecords t s m c m c false 0
on_start s q =
    record {
      asks =
          record {
            tabled = q.tabled;
            rooms = q.rooms;
            state = q.state;
            output = q.output;
            holds = q.holds;
            within = omega arith;
            begun = λ z. q.begun;
          };
      sized = sized_self;
      moves = moves_self;
    }

module _ {t : Lists} {s : List ℕ} {m₀ : Mem} {g₀ : Gathered} {m : Mem} {c : Gathered} {inside : Bool} {i : ℕ} (o : OnRecords t s m₀ g₀ m c inside i) where
  pub on_sized : Sized m₀ m
  on_sized = o.sized

  pub on_asks : RecordAsks t s m c inside i
  on_asks = o.asks

  module _ {m' : Mem} {w : Step} (f : Records t s m c inside i m' w) where
    records_is : {e : End} → w.end ≡ e → RecordsBy t s m c inside i m' w e
    records_is z = subst (RecordsBy t s m c inside i m' w) z f.records

    pub on_less : w.end ≡ end.More → to_record t s m' w.g w.inside w.at < to_record t s m c inside i
    on_less z = (records_is z).less

    pub on_more : w.end ≡ end.More → Sized m m' → OnRecords t s m₀ g₀ m' w.g w.inside w.at
    on_more z l =
        record {
          asks = (records_is z).asks;
          sized = record { room = l.room ∙ o.sized.room; list = l.list ∙ o.sized.list; events = l.events ∙ o.sized.events; values = l.values ∙ o.sized.values };
          moves = moves_then o.moves (records_is z).moves;
        }

    pub on_over : w.end ≡ end.Over → Runs t m₀ m' g₀ (part.Went w.at w.g) (scan_changes t s)
    unfolding run
    on_over z =
        let y = (moves_then o.moves (records_is z)).moves (scan_changes t s) (left_all t s) in
        record {
          runs = λ r g p h.
              let v = y.2.leads r g p h in
              (v.0, v.1, v.3 ∙ ap (λ (sc : Scan). run t r sc v.0 v.1) y.1, v.2);
        }

    pub on_out : w.end ≡ end.Out → Runs t m₀ m' g₀ (part.Out w.number w.at) (scan_changes t s)
    on_out z =
        let y = (moves_refuses o.moves (records_is z)).refuses (scan_changes t s) (left_all t s) in
        record { runs = λ r g p h. y.quits r g p h }

pub ruleset records_laws = (on_start, on_sized, on_asks, on_less, on_more, on_over, on_out)
