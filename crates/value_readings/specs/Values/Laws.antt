-- One turn: it leaves what was left, and there is less to do.
-- Assumes nothing.
use Rattle.std.specs.Prelude.{ℕ, ◌<◌, ◌≡◌, true, false, List, length}
use Rattle.std.proofs.Common.{sym, subst, arith}
use Rattle.std.proofs.Math.Path.{ap}
use Rattle.std.proofs.lemmas.Bool.{false≢true}
use Rattle.tables.specs.Lists.{Lists}
use Rattle.rules.specs.Scan.{Scan, done}
use Rattle.gather.specs.Memory.{Mem}
use Rattle.values.specs.declared.How.{How}
use Rattle.section_heads.specs.declared.Stand.{Stand}
use Rattle.section_heads.specs.declared.Said.{Said}
use Rattle.section_heads.specs.declared.Said.TheVariants.{Nothing, Time, Write, StepEnd, Over, Bad}
use Rattle.section_heads.specs.declared.Item.{Item}
use Rattle.section_heads.specs.Heads.{standing}
use Rattle.sections.specs.Item.{after_values, value_item}
use Rattle.sections.specs.Item.Scans.{rank, to_read, scan_from, Left, left_some}
use Rattle.gather.specs.declared.Gathered.{Gathered}
use Rattle.vector_turns.specs.OneVector.{is_act, is_write, next_step}
use Rattle.item_turns.specs.Turn.{goes_on, Done}
use Rattle.item_acts.specs.Moves.{Moves, Refuses}
use Rattle.item_acts.specs.Acts.{ActAsks, Stays, Closes, Refusal}
use Rattle.item_acts.specs.Acts.Laws.{write_act, stays_moves, closes_moves, done_moves, refused_refuses, on_less, stay_less}
use Rattle.value_readings.specs.Scanner.{ValueBy, value_says, value_said, value_act, value_ahead, left_behind}
use Rattle.value_readings.specs.Values.{said_at, PlaceAsks, to_value, Goes}

write_then : (x : Stand) (a : Said) (y : Stand) → ValueBy x a y → is_write a ≡ true → (y.phase ≡ x.phase) × (y.time ≡ x.time)
write_then x Nothing y v e = absurd v
write_then x (Time u) y v e = absurd v
write_then x (Write n id) y v e = (ap (λ (z : Stand). z.phase) v, ap (λ (z : Stand). z.time) v)
write_then x StepEnd y v e = absurd (false≢true e)
write_then x Over y v e = absurd v
write_then x (Bad n) y v e = absurd (false≢true e)

module _ {t : Lists} {how : How} {s : List ℕ} {m : Mem} {c : Gathered} {x : Stand} {i : ℕ} (q : PlaceAsks t how s m c x i) where
  abbrev y : Item
  y = value_item t.kinds how s x i

  abbrev all : Scan
  all = scan_from t how s (length s) (length s) (length s) x.phase x.id x.time i

  here : Left t how s x i all
  here = left_some t how s x i q.inside (λ _. q.stood)

  pub asks_act : ActAsks t m c (value_item t.kinds how s x i)
  asks_act =
      record {
        tabled = q.tabled;
        rooms = q.rooms;
        state = q.state;
        output = q.output;
        holds = q.holds;
        act = value_act here q.values c q.begun;
      }

  module _ {m' : Mem} where
    -- the item is done
    module _ {at id : ℕ} {g : Gathered} (f : Done t s m c (value_item t.kinds how s x i) m' (goes_on at id g)) where
      abbrev x' : Stand
      x' = standing x.phase id x.time

      stands : (y.then.phase ≡ x.phase) × (y.then.time ≡ x.time)
      stands = write_then x y.said y.then (value_says t.kinds how s x i) f.wrote

      there : standing y.then.phase id y.then.time ≡ standing x.phase id x.time
      there = λ j. record { phase = stands.0 j; id = id; time = stands.1 j }

      nearer : to_read s (standing x.phase id x.time) at < to_read s x i
      unfolding to_read
      nearer =
          let e : rank y.then.phase ≡ rank x.phase = ap rank stands.0 in
          omega (arith, value_ahead here q.values (write_act y.said f.wrote), e, f.ahead)

      done_goes : Goes t how s m c x i m' g (standing x.phase id x.time) at
      done_goes =
          record {
            ahead = omega (arith, nearer);
            moves =
                subst (λ (z : Stand). Moves t m c (Left t how s x i) m' g (Left t how s z at)) there
                (done_moves (λ sc l. value_said l q.values) f (λ sc l. left_behind q.tabled how l f.behind));
          }

      done_asks : PlaceAsks t how s m' g (standing x.phase id x.time) at
      done_asks =
          let h = (f.leads 0 (done 0)).leads q.rooms q.state q.output q.holds in
          let l = (done_goes.moves.moves all here).1 in
          record {
            tabled = q.tabled;
            rooms = q.rooms;
            state = h.0;
            output = h.1;
            holds = h.2;
            values = q.values;
            stood = l.stood q.values;
            inside = l.inside;
            begun = λ z. f.begun;
          }

      pub done_on : Goes t how s m c x i m' g (standing x.phase id x.time) at × PlaceAsks t how s m' g (standing x.phase id x.time) at × (to_value t how s m' g (standing x.phase id x.time) at < to_value t how s m c x i)
      done_on = (done_goes, done_asks, on_less done_asks.holds nearer (said_at t how s x' at) m.room c (said_at t how s x i))

    -- it is still to be done
    module _ {g : Gathered} (f : Stays t m c (value_item t.kinds how s x i) m' g) where
      stay_asks : PlaceAsks t how s m' g x i
      stay_asks =
          let h = (f.waits.leads 0 0 (done 0)).leads q.rooms q.state q.output q.holds in
          record {
            tabled = q.tabled;
            rooms = q.rooms;
            state = h.0;
            output = h.1;
            holds = h.2;
            values = q.values;
            stood = q.stood;
            inside = q.inside;
            begun = f.waits.begun;
          }

      pub stay_on : Goes t how s m c x i m' g x i × PlaceAsks t how s m' g x i × (to_value t how s m' g x i < to_value t how s m c x i)
      stay_on = (record { ahead = omega arith; moves = stays_moves (λ sc l. value_said l q.values) f }, stay_asks, stay_less f (to_read s x i))

    -- the step is over
    pub closes_on : {g : Gathered} {p : ℕ} → Closes t m c (value_item t.kinds how s x i) m' g p → Goes t how s m c x i m' (next_step g) (standing (after_values x.phase) 0 x.time) p
    closes_on {g} {p} f =
        let z : y.then ≡ standing (after_values x.phase) 0 x.time = subst (λ (a : Said). ValueBy x a y.then) f.ends (value_says t.kinds how s x i) in
        record {
          ahead = omega (arith, value_ahead here q.values (ap is_act f.ends), ap (λ (v : Stand). to_read s v y.at) z, ap (λ (j : ℕ). to_read s (standing (after_values x.phase) 0 x.time) j) f.place);
          moves =
              subst (λ (j : ℕ). Moves t m c (Left t how s x i) m' (next_step g) (Left t how s (standing (after_values x.phase) 0 x.time) j)) (sym f.place)
              (subst (λ (v : Stand). Moves t m c (Left t how s x i) m' (next_step g) (Left t how s v y.at)) z (closes_moves (λ sc l. value_said l q.values) f));
        }

  pub refusal_out : {n p : ℕ} → Refusal t m c (value_item t.kinds how s x i) n p → Refuses t m c (Left t how s x i) n p
  refusal_out f = refused_refuses (λ sc l. value_said l q.values) f
