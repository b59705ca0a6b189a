-- What is left to be run after a turn, and that its turns come to an end.
-- Assumes nothing.
use Rattle.event_rooms.specs.Put.{Put}
use Rattle.std.specs.Prelude.{ℕ, ◌+◌, ◌-◌, ◌<◌, ◌≤◌, ◌≡◌, Bool, not, List, length, get_or, None, Some}
use Rattle.std.proofs.Math.Path.{refl}
use Rattle.std.proofs.Common.{sym, ap, subst, ◌∙◌, arith}
use Rattle.std.proofs.Math.Bool.{true, false}
use Rattle.tables.specs.Lists.{Lists, nth, signals}
use Rattle.tables.specs.Layout.{layout_of}
use Rattle.rules.specs.Gather.{State}
use Rattle.event_rooms.specs.declared.Counts.{Counts}
use Rattle.event_rooms.specs.Out.{Rooms, Out}
use Rattle.vecmarks.specs.declared.VecBufferInfo.{VecBufferInfo}
use Rattle.vecmarks.specs.Info.{info_at, is_quiet}
use Rattle.vecbuffer.specs.Stands.{flags_at}
use Rattle.gather.specs.declared.VecInfo.{VecInfo}
use Rattle.gather.specs.Memory.{HoldsAt, Holds, Mem, mem_of, Tabled}
use Rattle.rules.specs.Scan.{Scan, say}
use Rattle.gather.specs.Makes.{Seen, vec_info}
use Rattle.section_heads.specs.declared.Said.{Said}
use Rattle.section_heads.specs.declared.Phase.TheVariants.{Listed}
use Rattle.section_heads.specs.declared.Said.TheVariants.{Write}
use Rattle.section_heads.specs.declared.Item.{Item}
use Rattle.gather.specs.declared.Gathered.{Gathered}
use Rattle.turns.specs.declared.Turned.{Turned}
use Rattle.turns.specs.Turns as turn
use Rattle.turns.specs.Turns.{Made, mk, show_vector, Showing}
use Rattle.turns.specs.Goes.{left_of, After, Goes, Stops}
use Rattle.turns.specs.Goes.Laws.{after_quiet, after_shown, after_full, asks_show, asks_plain, plain_goes, plain_stops}
use Rattle.vector_turns.specs.OneVector.{BitIn, is_write, act_of, for_vector, vector_of, Named, Turning, turned}
use Rattle.vector_turns.specs.OneVector.Laws.{ReadyBy, ready_named, ready_concerned, ready_looks, ready_seen, ready_turning, ready_after, waits, to_turn, listed_as, ready_over, ready_begun, ready_quiet, ready_shown, ToBit, ready_bit, ready_plain, plain_number}
use Rattle.along.specs.declared.Reached.{Reached}
use Rattle.along.specs.Follows as along
use Rattle.along.specs.Follows.{Along, Followed, Ran, said}
use Rattle.along.specs.Follows.Laws.{came, asks_along}
use Rattle.item_turns.specs.declared.Ended.TheVariants.{Stay, Full}
use Rattle.item_turns.specs.declared.Went.{Went}
use Rattle.item_turns.specs.Leads.{Leads, leads_then, goes_leads, stops_quits}
use Rattle.item_turns.specs.Turn as item
use Rattle.item_turns.specs.Turn.{goes_on, stays, Looking, info_of, show_due, FollowAsks, GoAsks, Gone, TurnAsks, VectorAsks, said_behind, Done, Waits, Turns, PlainAsks, PlainTurns}

-- ---- along a vector

module _ {i : VecBufferInfo} {s room : List ℕ} {left at : ℕ} where
  pub along_down : {room' : List ℕ} {left' at' : ℕ} → Along i s room left at room' left' at' → left' ≤ left
  along_down along.none = omega arith
  along_down (along.more a h w p q) = omega (arith, along_down a, p)

module _ {t : Lists} (k : Tabled t) {v : ℕ} (known : v < length t.mins) {s room list events values : List ℕ} {c : Gathered} (begun : c.ended ≡ 0) (quiet : is_quiet (info_at (layout_of t) v) (flags_at (layout_of t)) v room ≡ true)
    {left at : ℕ} (inside : left < (layout_of t).width v) {room' : List ℕ} {left' at' : ℕ} (a : Along (info_at (layout_of t) v) s room left at room' left' at') where
  pub along_leads : (rest : Scan) → Leads t (mem_of room list events values) c (said (get_or t.maxs v 0) a rest) (mem_of room' list events values) c rest
  along_leads rest =
      record {
        leads = λ r g o h.
            let y = came k known (subst (λ (n : ℕ). HoldsAt t r (mem_of room list events values) n c g o) begun h) quiet inside a in
            (y.state, y.output, subst (λ (n : ℕ). HoldsAt t r (mem_of room' list events values) n c y.state y.output) (sym begun) y.holds, y.left rest);
      }

-- ---- a turn of a vector

module _ {t : Lists} {room list events values : List ℕ} {c : Gathered} {x : Item} (q : VectorAsks t (mem_of room list events values) c x) where
  abbrev k : Tabled t
  k = q.asks.tabled

  abbrev a : Said
  a = x.said

  abbrev v : ℕ
  v = vector_of t.vecs list c a

  pub looking : Looking t list c x.said
  looking = record { concerned = ready_concerned k q.asks.holds q.asks.ready q.vector; looks = ready_looks k q.asks.holds q.asks.ready q.vector }

  module _ {i : VecInfo} (is : i ≡ info_of t list c x.said) where
    seen : Seen t v i
    seen = ready_seen k q.asks.holds q.asks.ready q.vector is

    pub turning : Turning room list t.maxs i c x.said
    turning = ready_turning k q.asks.holds q.asks.ready q.vector seen

    module _ {room₁ list₁ : List ℕ} {w : Turned} (e : mk room₁ list₁ w ≡ turned t.maxs i c x.said room list) where
      after : (r : Rooms) (g : State) (o : Out) → Holds t r (mem_of room list events values) c g o → (pos : ℕ) → After t r v (act_of a pos) (mem_of room₁ list₁ events values) c w g o
      after r g o h pos = ready_after k h q.asks.ready q.vector seen e pos

      pub showing : Showing room₁ events values c.counts i
      showing = asks_show seen (after q.asks.rooms q.asks.state q.asks.output q.asks.holds 0).holds

      -- the event that is due, where one is
      module _ (pos : ℕ) {r : Rooms} {g : State} {o : Out} (h : Holds t r (mem_of room list events values) c g o) where
        abbrev MadeBy : Made → Type 0
        MadeBy (turn.mk room₂ events₂ values₂ (Some n)) = Goes t r (act_of a pos) (mem_of room₂ list₁ events₂ values₂) (listed_as w n) w.over g o
        MadeBy (turn.mk room₂ events₂ values₂ None) = Stops t r (act_of a pos) g o

        shown_by : w.due ≡ true → (l : Made) → l ≡ show_vector i c.counts room₁ events values → MadeBy l
        shown_by y (turn.mk room₂ events₂ values₂ (Some n)) f = after_shown (after r g o h pos) y seen f refl
        shown_by y (turn.mk room₂ events₂ values₂ None) f = after_full (after r g o h pos) y seen f refl

        made_by : (b : Bool) → w.due ≡ b → MadeBy (show_due b i c.counts room₁ events values)
        unfolding show_due
        made_by true y = shown_by y (show_vector i c.counts room₁ events values) refl
        made_by false y = after_quiet (after r g o h pos) y

      abbrev LessBy : Made → Type 0
      LessBy (turn.mk room₂ events₂ values₂ (Some n)) = w.over ≡ false → to_turn (listed_as w n) (waits t room₂ a) < to_turn c (waits t room a)
      LessBy (turn.mk room₂ events₂ values₂ None) = Unit {0}

      shown_less : (l : Made) → l ≡ show_vector i c.counts room₁ events values → LessBy l
      shown_less (turn.mk room₂ events₂ values₂ (Some n)) f = λ y. ready_shown k q.asks.holds i q.asks.ready q.vector seen e y f refl
      shown_less (turn.mk room₂ events₂ values₂ None) f = tt

      less_by : (b : Bool) → w.due ≡ b → LessBy (show_due b i c.counts room₁ events values)
      unfolding show_due
      less_by true y = shown_less (show_vector i c.counts room₁ events values) refl
      less_by false y = λ d. ready_quiet k q.asks.holds i q.asks.ready q.vector seen e d y c.counts

      module _ {room₂ events₂ values₂ : List ℕ} {p : Put} (f : turn.mk room₂ events₂ values₂ p ≡ show_due w.due i c.counts room₁ events values) where
        -- it does not fit
        pub turns_full : p ≡ None → {s : List ℕ} {m' : Mem} {u : Went} → u ≡ stays Full c → Turns t s (mem_of room list events values) c x m' u
        turns_full d z =
            rw z
            (record {
              turns = record { quits = λ pos. stops_quits (λ r g o h. subst (MadeBy pos h) (sym f ∙ ap (turn.mk room₂ events₂ values₂) d) (made_by pos h w.due refl)) };
            })

        module _ {n : Counts} (d : p ≡ Some n) where
          made_is : show_due w.due i c.counts room₁ events values ≡ turn.mk room₂ events₂ values₂ (Some n)
          made_is = sym f ∙ ap (turn.mk room₂ events₂ values₂) d

          goes : (pos : ℕ) (r : Rooms) (g : State) (o : Out) → Holds t r (mem_of room list events values) c g o → Goes t r (act_of a pos) (mem_of room₂ list₁ events₂ values₂) (listed_as w n) w.over g o
          goes pos r g o h = subst (MadeBy pos h) made_is (made_by pos h w.due refl)

          leads : (pos p : ℕ) (rest : Scan) → Leads t (mem_of room list events values) c (say (act_of a pos) p rest) (mem_of room₂ list₁ events₂ values₂) (listed_as w n) (left_of w.over (act_of a pos) p rest)
          leads pos p rest = goes_leads (goes pos) p rest

          -- what the memory holds then
          held : Goes t q.asks.rooms (act_of a 0) (mem_of room₂ list₁ events₂ values₂) (listed_as w n) w.over q.asks.state q.asks.output
          held = goes 0 q.asks.rooms q.asks.state q.asks.output q.asks.holds

          -- the act is not over: there is less to do
          stay : w.over ≡ false → Waits t (mem_of room list events values) c x (mem_of room₂ list₁ events₂ values₂) (stays Stay (listed_as w n))
          stay y =
              record {
                begun = λ z. ready_begun k q.asks.holds i q.asks.ready q.vector seen e z;
                less = subst LessBy made_is (less_by w.due refl) y;
                leads = λ pos p rest. rw y at (leads pos p rest);
              }

          -- it is: what follows, and where the reading then stands
          module _ (y : w.over ≡ true) where
            to : ToBit t v x.said
            to = ready_bit k c list q.asks.ready q.vector (ready_over k q.asks.holds i q.asks.ready q.vector seen e y)

            wrote : is_write x.said ≡ true
            wrote = ready_over k q.asks.holds i q.asks.ready q.vector seen e y

            begins : w.ended ≡ 0
            begins = ready_begun k q.asks.holds i q.asks.ready q.vector seen e wrote

            id_is : x.then.id ≡ to.id
            id_is = q.asks.named to.value to.id to.is

            index_is : i.v ≡ v
            index_is = ap (λ (j : VecInfo). j.v) seen.is

            abbrev bit : ℕ
            bit = get_or t.maxs i.v 0 - x.then.id

            bit_is : bit ≡ get_or t.maxs v 0 - to.id
            bit_is = ap (λ (n : ℕ). get_or t.maxs n 0 - x.then.id) index_is ∙ ap (λ (n : ℕ). get_or t.maxs v 0 - n) id_is

            bit_inside : bit < (layout_of t).width v
            bit_inside = subst (λ (n : ℕ). n < (layout_of t).width v) (sym bit_is) to.inside

            pub go_bit : BitIn t.maxs i.v x.then.id
            go_bit = rw (index_is, id_is) (record { known = rw k.sized.maxs_long to.known; below = to.below })

            pub go_follows : FollowAsks room₂ i bit x
            go_follows =
                record {
                  along = asks_along seen held.holds bit_inside;
                  few = omega (arith, bit_is, id_is, to.below, (k.ranged.vector v to.known).most, k.sized.few_signals);
                }

            here_leads : (pos : ℕ) (rest : Scan) → Leads t (mem_of room list events values) c (say (act_of a pos) x.at rest) (mem_of room₂ list₁ events₂ values₂) (listed_as w n) rest
            here_leads pos rest = rw y at (leads pos x.at rest)

            goes_here : {id at : ℕ} → id ≡ x.then.id → at ≡ x.at → (s : List ℕ) → Done t s (mem_of room list events values) c x (mem_of room₂ list₁ events₂ values₂) (goes_on at id (listed_as w n))
            unfolding said_behind
            goes_here u z s = record { wrote = wrote; behind = item.here u z; ahead = omega (arith, z); begun = begins; leads = here_leads }

            -- the ids of the bits
            from_max : x.then.id ≡ get_or t.maxs v 0 - bit
            from_max = omega (arith, bit_is, id_is, to.below)

            module _ {s : List ℕ} (ph : x.then.phase ≡ Listed) where
              goes_along : {room₃ : List ℕ} {r : Reached} → is_quiet (info_at (layout_of t) v) (flags_at (layout_of t)) v room₂ ≡ true → Followed (info_at (layout_of t) v) s room₂ bit x.at room₃ r
                  → Done t s (mem_of room list events values) c x (mem_of room₃ list₁ events₂ values₂) (goes_on r.at (x.then.id + (bit - r.left)) (listed_as w n))
              unfolding said_behind
              goes_along quiet l =
                  record {
                    wrote = wrote;
                    behind = item.behind_all ph to.known bit_inside from_max l.ran (omega (arith, along_down l.ran, bit_is, id_is, to.below));
                    ahead = l.ahead;
                    begun = begins;
                    leads = λ pos rest. leads_then (here_leads pos (said (get_or t.maxs v 0) l.ran rest)) (along_leads k to.known begins quiet bit_inside l.ran rest);
                  }

              ran_is : {room₃ : List ℕ} {r : Reached} → Ran (vec_info t v) s bit x.at room₂ room₃ r → Done t s (mem_of room list events values) c x (mem_of room₃ list₁ events₂ values₂) (goes_on r.at (x.then.id + (bit - r.left)) (listed_as w n))
              ran_is along.stays = goes_here (omega arith) refl s
              ran_is (along.follows quiet l) = goes_along quiet l

              ran : {room₃ : List ℕ} {r : Reached} → Ran i s bit x.at room₂ room₃ r → Done t s (mem_of room list events values) c x (mem_of room₃ list₁ events₂ values₂) (goes_on r.at (x.then.id + (bit - r.left)) (listed_as w n))
              ran {room₃} {r} l = ran_is (subst (λ (j : VecInfo). Ran j s bit x.at room₂ room₃ r) seen.is l)

            followed : {s : List ℕ} {room₃ : List ℕ} {u : Went} → item.Followed i s bit x (listed_as w n) room₂ room₃ u → Turns t s (mem_of room list events values) c x (mem_of room₃ list₁ events₂ values₂) u
            followed {s} item.straight = record { turns = goes_here refl refl s }
            followed (item.past ph l) = record { turns = ran ph l }

          pub go_asks : GoAsks room₂ t.maxs i x w.over
          go_asks = record { bit = λ y. go_bit y; follows = λ y. go_follows y }

          pub turns_gone : {s : List ℕ} {room₃ : List ℕ} {u : Went} → Gone i s t.maxs x (listed_as w n) w.over room₂ room₃ u → Turns t s (mem_of room list events values) c x (mem_of room₃ list₁ events₂ values₂) u
          turns_gone (item.unfinished y) = record { turns = stay y }
          turns_gone (item.finished y l) = followed y l

pub ruleset vector_laws = (looking, turning, showing, turns_full, go_asks, turns_gone)

-- ---- a signal outside vectors

module _ {t : Lists} {room list events values : List ℕ} {c : Gathered} {x : Item} (q : TurnAsks t (mem_of room list events values) c x) where
  pub ask_named : Named t.vecs x.said
  ask_named = ready_named q.tabled q.ready

  module _ {b : Bool} (e : b ≡ for_vector t.vecs x.said) where
    pub ask_vector : b ≡ true → VectorAsks t (mem_of room list events values) c x
    ask_vector z = record { asks = q; vector = sym e ∙ z }

    module _ (z : b ≡ false) where
      outside : for_vector t.vecs x.said ≡ false
      outside = sym e ∙ z

      ready_is : {v id : ℕ} → x.said ≡ Write v id → ReadyBy t c (Write v id)
      ready_is d = subst (ReadyBy t c) d q.ready.ready

      number_is : (v id : ℕ) → x.said ≡ Write v id → nth t.vecs id ≡ 0
      number_is v id d = plain_number t.vecs v id (subst (λ (y : Said). for_vector t.vecs y ≡ false) d outside)

      pub ask_plain : PlainAsks t events values c x
      unfolding signals
      ask_plain =
          record {
            plain = ready_plain q.tabled c list q.ready outside;
            asks = λ v id d. let u = ready_is d in asks_plain q.tabled q.holds u.1 u.2 u.3;
          }

      pub turns_plain : {events' values' : List ℕ} {w : Went} → PlainTurns t c x events values events' values' w → (s : List ℕ) → Turns t s (mem_of room list events values) c x (mem_of room list events' values') w
      unfolding said_behind
      turns_plain (item.made v id d {n} f) s =
          record {
            turns =
                record {
                  wrote = ready_plain q.tabled c list q.ready outside;
                  behind = item.here refl refl;
                  ahead = omega arith;
                  begun = (ready_is d).0;
                  leads = λ pos rest. rw d (goes_leads (λ r g o h. plain_goes h id v pos (number_is v id d) f refl) x.at rest);
                };
          }
      turns_plain (item.full v id d f) s =
          record { turns = record { quits = λ pos p rest. rw d (stops_quits (λ r g o h. plain_stops h id v pos (number_is v id d) f refl) p rest) } }

pub ruleset item_laws = (ask_named, ask_vector, ask_plain, turns_plain)
