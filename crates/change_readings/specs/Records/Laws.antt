-- A record's turn leaves what was left, and there is less to do.
-- Assumes nothing.
use Rattle.event_rooms.specs.Put.{Put}
use Rattle.std.specs.Prelude.{ℕ, ◌-◌, ◌<◌, ◌≤◌, ◌≡◌, Bool, false, List, [], ◌∷◌, length, None, Some}
use Rattle.std.proofs.Math.Path.{refl, ap}
use Rattle.std.proofs.Common.{sym, subst, ◌∙◌, true≢false, arith}
use Rattle.std.proofs.Math.Bool.{true}
use Rattle.std.proofs.lemmas.Bool.{false≢true}
use Rattle.tables.specs.Lists.{Lists, signals}
use Rattle.rules.specs.Gather.{time}
use Rattle.records.specs.Event as event
use Rattle.event_rooms.specs.Out.Laws.{EventsRoom, Appends}
use Rattle.rules.specs.Scan.{Scan, done}
use Rattle.gather.specs.Memory.{Mem, mem_of}
use Rattle.section_heads.specs.declared.Phase.{Phase}
use Rattle.section_heads.specs.declared.Phase.TheVariants.{Mark, Entries, Each, Closing, Listed, Between}
use Rattle.section_heads.specs.declared.Said.{Said}
use Rattle.section_heads.specs.declared.Said.TheVariants as said
use Rattle.section_heads.specs.declared.Item.{Item}
use Rattle.gather.specs.declared.Gathered.{Gathered}
use Rattle.vector_turns.specs.OneVector.{is_act, is_write, next_step}
use Rattle.item_turns.specs.Leads.{leads_self}
use Rattle.item_turns.specs.Turn as turn
use Rattle.item_turns.specs.Turn.{goes_on, Behind, said_behind, Done}
use Rattle.item_acts.specs.declared.Tag.{Tag}
use Rattle.item_acts.specs.declared.Tag.TheVariants as tag
use Rattle.item_acts.specs.declared.Acted.{Acted}
use Rattle.item_acts.specs.Moves.{Says, Moves, moves_from, refuses_from, counting, time_leads, time_moves, time_refuses}
use Rattle.item_acts.specs.Acts.{ActBy, ActAsks, Stays, Closes, ActsBy, Acts, SaidAt, to_go}
use Rattle.item_acts.specs.Acts.Laws.{write_act, LeftBehind, stays_moves, closes_moves, done_moves, refused_refuses, on_less, stay_less}
use Rattle.changes.specs.Change.{ChangeFound, Time, Write, StepEnd, End, Bad}
use Rattle.changes.specs.Changes.{next_change, changes}
use Rattle.changes.specs.Changes.Items.{item_of, record_item, item_is, Left, left_some, FollowsBy, record_follows}
use Rattle.change_readings.specs.declared.Place.{Place}
use Rattle.change_readings.specs.declared.Step.{Step}
use Rattle.change_readings.specs.Records.{more, over_at, opened_by, acted_by, said_at, is_end, RecordAsks, Goes, Records}

-- ---- what a record says

-- a write, a step's end or a refusal
abbrev pub is_mid : Said → Bool
is_mid said.Nothing = false
is_mid (said.Time u) = false
is_mid (said.Write v id) = true
is_mid said.StepEnd = true
is_mid said.Over = false
is_mid (said.Bad n) = true

abbrev is_time : Said → Bool
is_time said.Nothing = false
is_time (said.Time u) = true
is_time (said.Write v id) = false
is_time said.StepEnd = false
is_time said.Over = false
is_time (said.Bad n) = false

abbrev time_in : Said → ℕ
time_in said.Nothing = 0
time_in (said.Time u) = u
time_in (said.Write v id) = 0
time_in said.StepEnd = 0
time_in said.Over = 0
time_in (said.Bad n) = 0

-- whether a step is open behind it
abbrev opens : Said → Bool
opens said.Nothing = true
opens (said.Time u) = true
opens (said.Write v id) = true
opens said.StepEnd = false
opens said.Over = true
opens (said.Bad n) = true

write_opens : (a : Said) → is_write a ≡ true → opens a ≡ true
write_opens said.Nothing e = refl
write_opens (said.Time u) e = refl
write_opens (said.Write v id) e = refl
write_opens said.StepEnd e = absurd (false≢true e)
write_opens said.Over e = refl
write_opens (said.Bad n) e = refl

write_goes_on : (a : Said) → is_write a ≡ true → is_end a ≡ false
write_goes_on said.Nothing e = refl
write_goes_on (said.Time u) e = refl
write_goes_on (said.Write v id) e = refl
write_goes_on said.StepEnd e = absurd (false≢true e)
write_goes_on said.Over e = refl
write_goes_on (said.Bad n) e = refl

act_write : (a : Said) → is_act a ≡ true → is_end a ≡ false → is_write a ≡ true
act_write said.Nothing e d = e
act_write (said.Time u) e d = e
act_write (said.Write v id) e d = refl
act_write said.StepEnd e d = absurd (true≢false d)
act_write said.Over e d = e
act_write (said.Bad n) e d = e

abbrev is_listed : Phase → Bool
is_listed Mark = false
is_listed Entries = false
is_listed Each = false
is_listed Closing = false
is_listed Listed = true
is_listed Between = false

-- no list follows a change record
mark_phase : (k : ChangeFound) → (item_of k).then.phase ≡ Mark
unfolding item_of
mark_phase (Time u j) = refl
mark_phase (Write id v j) = refl
mark_phase (StepEnd j) = refl
mark_phase (End j) = refl
mark_phase (Bad n p) = refl

module _ (t : Lists) (s : List ℕ) (i : ℕ) (sc : Scan) where
  says_by : (k : ChangeFound) → FollowsBy t s i sc k → is_mid (item_of k).said ≡ true → SaidAt (Left t s (opens (item_of k).said) (item_of k).at) (item_of k) sc
  unfolding item_of
  says_by (Time u j) f e = absurd (false≢true e)
  says_by (Write id v j) f e = record { says = (i, record { rest = f.0.rest; scans = f.0.scans; left = f.0.left }) }
  says_by (StepEnd j) f e = record { says = (i, record { rest = f.rest; scans = f.scans; left = f.left }) }
  says_by (End j) f e = absurd (false≢true e)
  says_by (Bad n p) f e = record { says = f }

  -- .. a time
  time_by : (k : ChangeFound) → FollowsBy t s i sc k → {u : ℕ} → (item_of k).said ≡ said.Time u → Says (time u) (item_of k).at (Left t s true (item_of k).at) sc × (i < (item_of k).at)
  unfolding item_of
  time_by (Time v j) f {u} e =
      let z : v ≡ u = ap time_in e in
      (subst (λ (n : ℕ). Says (time n) j (Left t s true j) sc) z (record { rest = f.rest; scans = f.scans; left = f.left }), f.ahead)
  time_by (Write id v j) f e = absurd (false≢true (ap is_time e))
  time_by (StepEnd j) f e = absurd (false≢true (ap is_time e))
  time_by (End j) f e = absurd (false≢true (ap is_time e))
  time_by (Bad n p) f e = absurd (false≢true (ap is_time e))

  -- .. nothing more
  over_by : (k : ChangeFound) → FollowsBy t s i sc k → (item_of k).said ≡ said.Over → sc ≡ done (item_of k).at
  unfolding item_of
  over_by (Time u j) f e = absurd (true≢false (ap is_time e))
  over_by (Write id v j) f e = absurd (true≢false (ap is_mid e))
  over_by (StepEnd j) f e = absurd (true≢false (ap is_mid e))
  over_by (End j) f e = f
  over_by (Bad n p) f e = absurd (true≢false (ap is_mid e))

  -- a write is to a signal
  act_by : (k : ChangeFound) → FollowsBy t s i sc k → (c : Gathered) → is_mid (item_of k).said ≡ true → (is_write (item_of k).said ≡ true → c.ended ≡ 0) → ActBy t c (item_of k).then (item_of k).said
  unfolding item_of signals
  act_by (Time u j) f c e b = absurd (false≢true e)
  act_by (Write id v j) f c e b = ((b refl, f.1, f.2, f.3), refl)
  act_by (StepEnd j) f c e b = tt
  act_by (End j) f c e b = absurd (false≢true e)
  act_by (Bad n p) f c e b = tt

  -- a record that goes on takes bytes
  ahead_by : (k : ChangeFound) → FollowsBy t s i sc k → is_act (item_of k).said ≡ true → (i < (item_of k).at) × ((item_of k).at ≤ length s)
  unfolding item_of
  ahead_by (Time u j) f e = absurd (false≢true e)
  ahead_by (Write id v j) f e = (f.0.ahead, f.0.left.within)
  ahead_by (StepEnd j) f e = (f.ahead, f.left.within)
  ahead_by (End j) f e = absurd (false≢true e)
  ahead_by (Bad n p) f e = absurd (false≢true e)

-- ---- one turn

module _ {t : Lists} {s : List ℕ} {m : Mem} {c : Gathered} {inside : Bool} {i : ℕ} (q : RecordAsks t s m c inside i) where
  abbrev k : ChangeFound
  k = next_change t s inside i

  abbrev y : Item
  y = item_of k

  said_is : said_at t s inside i ≡ y.said
  said_is = ap (λ (z : Item). z.said) (item_is t s inside i)

  abbrev all : Scan
  all = changes t s (length s) inside i

  abbrev some : Left t s inside i all
  some = left_some t s inside q.within

  follows : {sc : Scan} → Left t s inside i sc → FollowsBy t s i sc k
  follows l = record_follows t s i l

  begins : is_end y.said ≡ false → c.ended ≡ 0
  begins e = q.begun (ap is_end said_is ∙ e)

  -- ---- a time

  module _ {u : ℕ} (e : y.said ≡ said.Time u) where
    not_end : is_end y.said ≡ false
    not_end = ap is_end e

    time_says : (sc : Scan) → Left t s inside i sc → Says (time u) y.at (Left t s true y.at) sc
    time_says sc l = (time_by t s i sc k (follows l) e).0

    time_further : i < y.at
    time_further = (time_by t s i all k (follows some) e).1

  -- ---- a write, a step's end or a refusal

  module _ (mid : is_mid y.said ≡ true) where
    says : (sc : Scan) → Left t s inside i sc → SaidAt (Left t s (opens y.said) y.at) y sc
    says sc l = says_by t s i sc k (follows l) mid

    asks_act : ActAsks t m c y
    asks_act =
        record {
          tabled = q.tabled;
          rooms = q.rooms;
          state = q.state;
          output = q.output;
          holds = q.holds;
          act = act_by t s i all k (follows some) c mid (λ e. begins (write_goes_on y.said e));
        }

    behind_mark : {id at : ℕ} (b : Behind t s y id at) (sc : Scan) → Left t s true y.at sc → LeftBehind (Left t s true at) (said_behind b) sc
    unfolding said_behind
    behind_mark (turn.here e d) sc l = record { rest = sc; left = rw d l; scans = refl }
    behind_mark (turn.behind_all ph known inside is a d) sc l = absurd (false≢true (ap is_listed (sym (mark_phase k) ∙ ph)))

    module _ {m' : Mem} where
      goes_on_lem : {at id : ℕ} {g : Gathered} → Done t s m c y m' (goes_on at id g) → Goes t s m c inside i m' g true at
      goes_on_lem {at} {id} {g} f =
          let o : opens y.said ≡ true = write_opens y.said f.wrote in
          let h = (f.leads 0 (done 0)).leads q.rooms q.state q.output q.holds in
          let v : Moves t m c (Left t s inside i) m' g (Left t s true at) =
          done_moves says f (λ sc l. behind_mark f.behind sc (subst (λ (b : Bool). Left t s b y.at sc) o l)) in
          let l = (v.moves all some).1 in
          let d = ahead_by t s i all k (follows some) (write_act y.said f.wrote) in
          record {
            asks =
                record {
                  tabled = q.tabled;
                  rooms = q.rooms;
                  state = h.0;
                  output = h.1;
                  holds = h.2;
                  within = l.within;
                  begun = λ z. f.begun;
                };
            less = on_less h.2 (omega (arith, d.0, f.ahead, l.within)) (said_at t s true at) m.room c (said_at t s inside i);
            moves = v;
          }

      stays_on : {g : Gathered} → Stays t m c y m' g → Goes t s m c inside i m' g inside i
      stays_on {g} f =
          let h = (f.waits.leads 0 0 (done 0)).leads q.rooms q.state q.output q.holds in
          record {
            asks =
                record {
                  tabled = q.tabled;
                  rooms = q.rooms;
                  state = h.0;
                  output = h.1;
                  holds = h.2;
                  within = q.within;
                  begun = λ z. f.waits.begun (act_write y.said f.act (sym (ap is_end said_is) ∙ z));
                };
            less = subst (λ (a : Said). to_go t (length s - i) m'.room g a < to_go t (length s - i) m.room c a) (sym said_is) (stay_less f (length s - i));
            moves = stays_moves says f;
          }

      steps_over : {g : Gathered} {p : ℕ} → Closes t m c y m' g p → Goes t s m c inside i m' (next_step g) false p
      steps_over {g} {p} f =
          let o : opens y.said ≡ false = ap opens f.ends in
          let h = (f.leads 0 (done 0)).leads q.rooms q.state q.output q.holds in
          let v : Moves t m c (Left t s inside i) m' (next_step g) (Left t s false p) =
          subst (λ (b : Bool). Moves t m c (Left t s inside i) m' (next_step g) (Left t s b p)) o
          (subst (λ (j : ℕ). Moves t m c (Left t s inside i) m' (next_step g) (Left t s (opens y.said) j)) (sym f.place) (closes_moves says f)) in
          let l = (v.moves all some).1 in
          let d = ahead_by t s i all k (follows some) (ap is_act f.ends) in
          record {
            asks =
                record {
                  tabled = q.tabled;
                  rooms = q.rooms;
                  state = h.0;
                  output = h.1;
                  holds = h.2;
                  within = l.within;
                  begun = λ z. refl;
                };
            less = on_less h.2 (omega (arith, d.0, f.place, l.within)) (said_at t s false p) m.room c (said_at t s inside i);
            moves = v;
          }

      acted_by_lem : (w : Acted) (g : Tag) → ActsBy t s m c y m' w g → Records t s m c inside i m' (acted_by (record { inside = inside; at = i }) w g)
      acted_by_lem w tag.On f = record { records = goes_on_lem f }
      acted_by_lem w tag.Stay f = record { records = stays_on f }
      acted_by_lem w tag.Over f = record { records = steps_over f }
      acted_by_lem w tag.Out f = record { records = refused_refuses says f }

  -- ---- as the code has it

  module _ {item : Item} (is : item ≡ record_item t.kinds s inside i) where
    at_item : item ≡ y
    at_item = is ∙ item_is t s inside i

    said_at_lem : item.said ≡ y.said
    said_at_lem = ap (λ (z : Item). z.said) at_item

    pub ask_act : is_mid item.said ≡ true → ActAsks t m c item
    ask_act e = rw at_item (asks_act (sym (ap is_mid said_at_lem) ∙ e))

    pub records_acted : is_mid item.said ≡ true → {m' : Mem} {w : Acted} → Acts t s m c item m' w → {p : Place} → p.inside ≡ inside → p.at ≡ i → {u : Step} → u ≡ acted_by p w w.tag
        → Records t s m c inside i m' u
    records_acted e {m'} {w} f {p} a b z =
        let f' : Acts t s m c y m' w = rw at_item at f in
        let place : p ≡ record { inside = inside; at = i } = λ j. record { inside = a j; at = b j } in
        rw (z, place) (acted_by_lem (sym (ap is_mid said_at_lem) ∙ e) w w.tag f'.acts)

    pub records_over : item.said ≡ said.Over → Records t s m c inside i m (over_at item.at c)
    records_over e =
        let d : y.said ≡ said.Over = sym said_at_lem ∙ e in
        rw at_item
        (record { records = record { moves = λ sc l. (sc, over_by t s i sc k (follows l) d, leads_self) } })

-- ---- the event of a time

pub record_room : {t : Lists} {s room list events values : List ℕ} {c : Gathered} {inside : Bool} {i : ℕ} → RecordAsks t s (mem_of room list events values) c inside i → EventsRoom events c.counts
record_room q = q.holds.written.in_events

module _ {t : Lists} {s room list events values : List ℕ} {c : Gathered} {inside : Bool} {i : ℕ} (q : RecordAsks t s (mem_of room list events values) c inside i) {item : Item}
    (is : item ≡ record_item t.kinds s inside i) {u : ℕ} (e : item.said ≡ said.Time u) {events' : List ℕ} {w : Put} (f : (v : List ℕ) → Appends (event.time u ∷ []) events v c.counts events' v w) where
  time_is : (item_of (next_change t s inside i)).said ≡ said.Time u
  time_is = sym (said_at_lem q is) ∙ e

  abbrev m : Mem
  m = mem_of room list events values

  abbrev m₁ : Mem
  m₁ = mem_of room list events' values

  abbrev j : ℕ
  j = (item_of (next_change t s inside i)).at

  opened_by_lem : (w' : Put) → w ≡ w' → Records t s m c inside i m₁ (opened_by j c w')
  opened_by_lem (Some n) d =
      let h = (time_leads t room list (f values) j d (done 0)).leads q.rooms q.state q.output q.holds in
      let v : Moves t m c (Left t s inside i) m₁ (counting c n) (Left t s true j) = moves_from (time_says q time_is) (time_moves t room list (f values) j d) in
      let l = (v.moves (changes t s (length s) inside i) (left_some t s inside q.within)).1 in
      record {
        records =
            record {
              asks =
                  record {
                    tabled = q.tabled;
                    rooms = q.rooms;
                    state = h.0;
                    output = h.1;
                    holds = h.2;
                    within = l.within;
                    begun = λ z. begins q (not_end q time_is);
                  };
              less = on_less h.2 (omega (arith, time_further q time_is, l.within)) (said_at t s true j) room c (said_at t s inside i);
              moves = v;
            };
      }
  opened_by_lem None d = record { records = refuses_from (time_says q time_is) (time_refuses t room list (f values) j d) }

  pub records_opened : {r : Step} → r ≡ opened_by item.at c w → Records t s (mem_of room list events values) c inside i (mem_of room list events' values) r
  records_opened d = rw (d, at_item q is) (opened_by_lem w refl)

pub ruleset record_laws = (ask_act, records_acted, records_over, record_room, records_opened)
