-- Demand 3's sentences hold of the trace of what the gatherer does with whole steps over good tables.
-- Assumes nothing.
use Rattle.std.specs.Prelude.{ℕ, suc, ◌+◌, ◌-◌, ◌^◌, ◌<◌, ◌≡◌, ◌⊎◌, Bool}
use Rattle.std.proofs.Math.Path.{refl, sym, ap}
use Rattle.std.proofs.Common.{◌∙◌, inl, inr}
use Rattle.std.proofs.Math.Option.{none}
use mathlib.Core.List.{List, [], ◌∷◌, ◌++◌, append_assoc}
use Rattle.std.proofs.Math.ListN.{get_or}
use Rattle.states.specs.Kind.{bits}
use Rattle.tables.specs.Lists.{Lists}
use Rattle.rules.specs.Vector.{Write, Cause, rewritten, complete, ended, Item, wrote, shown}
use Rattle.rules.specs.Gather.{Tables, width, Good, Act, time, write, Happening, at, of, begin, bit_write, happens, own}
use Rattle.rules.proofs.Gather.Laws.{own_append}
use Rattle.rules.proofs.Gather.Own.{bit_inside}
use Rattle.rules.proofs.Gather.Echo.{nothing_lost}
use Rattle.rules.specs.Demand3 as whole
use Rattle.records.specs.declared.Record.TheVariants.{Time}
use Rattle.records.specs.Event.{record_bytes, record_of}
use Rattle.records.specs.Event as events
use Rattle.gather.specs.Run.{gathers, events_of}
use Rattle.gather.specs.Run.Rendered.{values_of}
use Rattle.demand3_bytes.specs.Statements.{Labelled, shows, state_in, Shows, Moment, said, made, is_event_of, bit_of, writes_bit, Without, Waits, ByRewrite, ByCompletion, ByEnd, Sentences}
use Rattle.demand3_bytes.proofs.Own.{own_of}
use Rattle.demand3_bytes.specs.Trace.{labelled}
use Rattle.demand3_bytes.proofs.Trace.{event_of, item_moments, moments, size, trace, trace_append}
use Rattle.demand3_bytes.specs.Trace.Named.{Named}
use Rattle.demand3_bytes.proofs.Trace.Named.{named, named_append}
use Rattle.demand3_bytes.proofs.Trace.Cuts.{AtWrite, AtEvent, at_write, at_event, at_time, before_time}
use Rattle.demand3_bytes.proofs.Trace.Stretches.{quiet_own, unwritten, waits_trace, waits_own}
use Rattle.demand3_bytes.proofs.Bits.{shows_event}
use Rattle.demand3_bytes.specs.Stored.{SmallItems}
use Rattle.demand3_bytes.proofs.Stored.{small_at}
use Rattle.demand3_bytes.specs.Causes.{Prompt}
use Rattle.demand3_bytes.proofs.Causes.{prompt, at_end, at_complete, at_rewrite}
use Rattle.demand3_bytes.specs.Trace.Nexts.{Comes}
use Rattle.demand3_bytes.proofs.Trace.Nexts.{one_event, by_end, comes, comes_left, waits_left, waits_bit, still}

module _ (early : ℕ → Bool) (t : Lists) (good : Good (gathers t)) (acts : List Act)
    (d : whole.Demand3 early (gathers t) acts) where
  abbrev pub happened : List Happening
  happened = happens early (gathers t) (begin (gathers t)) acts

  abbrev pub tables : Tables
  tables = gathers t

  pub all_named : Named tables happened
  all_named = named tables good happened acts (nothing_lost early tables (begin tables) acts)

  all_prompt : Prompt none happened
  all_prompt = prompt early tables (begin tables) acts none

  own_split : (v : ℕ) (a : List Happening) (i : Item) (b : List Happening) → happened ≡ a ++ of v i ∷ b
      → own v happened ≡ own v a ++ i ∷ own v b
  own_split v a i b e = ap (own v) e ∙ (own_append v a (of v i ∷ b) ∙ ap (λ l. own v a ++ l) (own_of v b i))

  own_two : (v : ℕ) (a : List Happening) (i : Item) (m : List Happening) (j : Item) (b : List Happening)
      → happened ≡ (a ++ of v i ∷ m) ++ of v j ∷ b
      → own v happened ≡ own v a ++ i ∷ (own v m ++ j ∷ own v b)
  own_two v a i m j b e =
      own_split v a i (m ++ of v j ∷ b) (e ∙ append_assoc a (of v i ∷ m) (of v j ∷ b))
      ∙ ap (λ l. own v a ++ i ∷ l) (own_append v m (of v j ∷ b) ∙ ap (λ l. own v m ++ l) (own_of v b j))

  named_before : (a b : List Happening) → happened ≡ a ++ b → Named tables a
  named_before a b e = (named_append tables a b (rw e at all_named)).0

  pub named_behind : (a b : List Happening) → happened ≡ a ++ b → Named tables b
  named_behind a b e = (named_append tables a b (rw e at all_named)).1

  -- ---- who owns what

  first_event : (v : ℕ) (a : List Moment) (id x p : ℕ) (b : List Moment)
      → trace t 0 happened ≡ a ++ said (write id x p) ∷ b → tables.vector id ≡ suc v → Comes v b
  unfolding Named
  first_event v a id x p b e f =
      let k = at_write t happened all_named v a id x p b e f in
      comes_left k.right
      (comes t v k.from k.behind (named_behind k.before (of v (wrote k.write) ∷ k.behind) k.split).1
      (d.first_event v (own v k.before) k.write (own v k.behind)
      (own_split v k.before (wrote k.write) k.behind k.split)))

  module _ (v : ℕ) (a : List Moment) (r : Labelled) (b : List Moment) (e : trace t 0 happened ≡ a ++ made r ∷ b)
      (f : r.label ≡ suc v) where
    event : AtEvent t happened all_named v a r b
    event = at_event t happened all_named v a r b e f

    own_event : own v happened ≡ own v event.before ++ shown event.cause event.values ∷ own v event.behind
    own_event = own_split v event.before (shown event.cause event.values) event.behind event.split

    known : Named tables event.before
    known = named_before event.before (of v (shown event.cause event.values) ∷ event.behind) event.split

    owns_some : (k x : ℕ) × Waits tables v a k x
    owns_some =
        let (x, w) = d.owns_some v (own v event.before) event.cause event.values
        (own v event.behind) own_event in
        (x.bit, x.value, waits_left event.left (waits_trace t v event.before known x w))

    one_value : (k x y : ℕ) → Waits tables v a k x → Waits tables v a k y → x ≡ y
    one_value k x y p q =
        let (m, o, i, g) = waits_own t v event.before known k x (waits_left (sym event.left) p) in
        let (n, u, j, h) = waits_own t v event.before known k y (waits_left (sym event.left) q) in
        sym g ∙ (d.one_value v (own v event.before) event.cause event.values
        (own v event.behind) own_event m n o u (i ∙ sym j) ∙ h)

  -- ---- why an event was made

  module _ (v : ℕ) (l : List ℕ) (before behind : List Happening) where
    by_a : happened ≡ before ++ of v (shown rewritten l) ∷ behind → (s : ℕ)
        → ByRewrite tables v (trace t 0 before) (trace t s behind)
    unfolding trace moments item_moments Named
    by_a e s =
        let (x, rest, y, q, w, same, differ) = d.made_by_a v (own v before) l (own v behind)
        (own_split v before (shown rewritten l) behind e) in
        let (z, more, n) = at_rewrite none before v l behind (rw e at all_prompt) in
        let i : z ≡ x = head_of v z more x rest (ap (own v) (sym n) ∙ q) in
        let g = rw n at (named_behind before (of v (shown rewritten l) ∷ behind) e) in
        record {
          id = tables.max v - z.bit;
          x = z.value;
          pos = z.pos;
          rest = trace t (s + size t (of v (wrote z) ∷ [])) more;
          next = ap (trace t s) n;
          vector = g.0.0;
          y = y.value;
          waits =
              waits_bit (g.0.1 ∙ (ap (λ o. o.bit) i ∙ sym same))
              (waits_trace t v before (named_before before (of v (shown rewritten l) ∷ behind) e) y w);
          differs = λ p. differ (p ∙ ap (λ o. o.value) i);
        }
      where
        head_of : (v : ℕ) (z : Write) (more : List Happening) (x : Write) (rest : List Item)
            → own v (of v (wrote z) ∷ more) ≡ wrote x ∷ rest → z ≡ x
        head_of v z more x rest p =
            let f : wrote z ∷ own v more ≡ wrote x ∷ rest = sym (own_of v more (wrote z)) ∙ p in cc

    by_c : happened ≡ before ++ of v (shown complete l) ∷ behind → ByCompletion early tables v (trace t 0 before)
    unfolding trace moments item_moments Named
    by_c e =
        let (acted, every) = d.made_by_c v (own v before) l (own v behind)
        (own_split v before (shown complete l) behind e) in
        let (front, z, n) = at_complete before v l behind (rw e at all_prompt) in
        let g = named_before before (of v (shown complete l) ∷ behind) e in
        let k = (named_append tables front (of v (wrote z) ∷ []) (rw n at g)).1 in
        record {
          id = tables.max v - z.bit;
          x = z.value;
          pos = z.pos;
          before = trace t 0 front;
          last = ap (trace t 0) n ∙ trace_append t 0 front (of v (wrote z) ∷ []);
          vector = k.0.0;
          acts = acted;
          every = λ j o. let (x, w, i) = every j o in (x.value, waits_bit (sym i) (waits_trace t v before g x w));
        }

    by_stop : happened ≡ before ++ of v (shown ended l) ∷ behind → (s : ℕ) → ByEnd (trace t s behind)
    by_stop e s = by_end t s behind (at_end none before v l behind (rw e at all_prompt))

  abbrev By : ℕ → List Moment → List Moment → Type 0
  By v a b = ByRewrite tables v a b ⊎ (ByCompletion early tables v a ⊎ ByEnd b)

  caused : (v : ℕ) (c : Cause) (l : List ℕ) (before behind : List Happening)
      → happened ≡ before ++ of v (shown c l) ∷ behind → (s : ℕ) → By v (trace t 0 before) (trace t s behind)
  caused v rewritten l before behind e s = inl (by_a v l before behind e s)
  caused v complete l before behind e s = inr (inl (by_c v l before behind e))
  caused v ended l before behind e s = inr (inr (by_stop v l before behind e s))

  caused_left : (v : ℕ) {a b x y : List Moment} → a ≡ x → b ≡ y → By v x y → By v a b
  caused_left v e f w = rw (e, f) w

  made_by : (v : ℕ) (a : List Moment) (r : Labelled) (b : List Moment) → trace t 0 happened ≡ a ++ made r ∷ b
      → r.label ≡ suc v → ByRewrite tables v a b ⊎ (ByCompletion early tables v a ⊎ ByEnd b)
  made_by v a r b e f =
      let k = event v a r b e f in
      caused_left v k.left k.right (caused v k.cause k.values k.before k.behind k.split k.from)

  -- ---- what an event shows

  module _ (small : (v : ℕ) → SmallItems (2 ^ bits (state_in t v)) (own v happened)) (values zeros : List ℕ)
      (held : values ≡ values_of (events_of t happened) ++ zeros) (few : size t happened < 2 ^ 32) where
    pub shows_at : (v : ℕ) (c : Cause) (l : List ℕ) (before behind : List Happening)
        → happened ≡ before ++ of v (shown c l) ∷ behind → (r : Labelled)
        → r ≡ labelled (size t before) (event_of t v l) → Shows t v (width tables v) values r l
    shows_at v c l before behind e r q =
        let p = own_split v before (shown c l) behind e in
        rw (q, ← d.shows_all v (own v before) c l (own v behind) p)
        (shows_event t happened values zeros held few v c l before behind e
        (small_at (2 ^ bits (state_in t v)) (own v before) c l (own v behind) (rw p at (small v))))

    last_shown : (v : ℕ) (a : List Happening) (w : Write) (m : List Happening) (c : Cause) (l : List ℕ)
        (b : List Happening) → happened ≡ (a ++ of v (wrote w) ∷ m) ++ of v (shown c l) ∷ b
        → (s : ℕ) → Without (is_event_of v) (trace t s m) → Without (writes_bit tables v w.bit) (trace t s m)
        → get_or l w.bit 0 ≡ w.value
    unfolding Named
    last_shown v a w m c l b e s q u =
        let n = (named_append tables a (of v (wrote w) ∷ m)
        (named_before (a ++ of v (wrote w) ∷ m) (of v (shown c l) ∷ b) e)).1.1 in
        d.shows_last v (own v a) w (own v m) c l (own v b) (own_two v a (wrote w) m (shown c l) b e)
        (quiet_own t v s m q) (unwritten t v w.bit s m n u)

    previous_shown : (v : ℕ) (a : List Happening) (o : Cause) (y : List ℕ) (m : List Happening) (c : Cause) (l : List ℕ)
        (b : List Happening)
        → happened ≡ (a ++ of v (shown o y) ∷ m) ++ of v (shown c l) ∷ b
        → (s : ℕ) → Without (is_event_of v) (trace t s m) → (i : ℕ) → i < width tables v
        → Without (writes_bit tables v i) (trace t s m) → get_or l i 0 ≡ get_or y i 0
    unfolding Named
    previous_shown v a o y m c l b e s q i f u =
        let n = (named_append tables a (of v (shown o y) ∷ m)
        (named_before (a ++ of v (shown o y) ∷ m) (of v (shown c l) ∷ b) e)).1 in
        d.shows_previous v (own v a) o y (own v m) c l (own v b) (own_two v a (shown o y) m (shown c l) b e)
        (quiet_own t v s m q) i f (unwritten t v i s m n u)

    zero_shown : (v : ℕ) (m : List Happening) (c : Cause) (l : List ℕ) (b : List Happening)
        → happened ≡ m ++ of v (shown c l) ∷ b
        → Without (is_event_of v) (trace t 0 m) → (i : ℕ) → i < width tables v
        → Without (writes_bit tables v i) (trace t 0 m) → get_or l i 0 ≡ 0
    zero_shown v m c l b e q i f u =
        let n = named_before m (of v (shown c l) ∷ b) e in
        d.shows_zero v (own v m) c l (own v b) (own_split v m (shown c l) b e) (quiet_own t v 0 m q) i f
        (unwritten t v i 0 m n u)

    -- the event at k, and a write or an event at j before it
    module _ (v : ℕ) (a : List Moment) (r : Labelled) (b : List Moment) (k : AtEvent t happened all_named v a r b) where
      at_k : Shows t v (width tables v) values r k.values
      at_k = shows_at v k.cause k.values k.before k.behind k.split r k.is

      last_of : (n : Named tables k.before) (c : List Moment) (id x p : ℕ) (m : List Moment)
          → AtWrite t k.before n v c id x m → tables.vector id ≡ suc v
          → Without (is_event_of v) m → Without (writes_bit tables v (bit_of tables v id)) m
          → shows values r (bit_of tables v id) ≡ x
      unfolding bit_write
      last_of n c id x p m j f q u =
          at_k.bit (bit_of tables v id) (bit_inside tables good v id x p f)
          ∙ (ap (λ y. get_or k.values y 0) (sym j.bit)
          ∙ (last_shown v j.before j.write j.behind k.cause k.values k.behind
          (k.split ∙ ap (λ l. l ++ of v (shown k.cause k.values) ∷ k.behind) j.split) j.from
          (still (is_event_of v) _ refl j.right q)
          (still (writes_bit tables v (bit_of tables v id)) _ (ap (writes_bit tables v) (sym j.bit)) j.right u)
          ∙ j.value))

      previous_of : (n : Named tables k.before) (c : List Moment) (o : Labelled) (m : List Moment)
          → AtEvent t k.before n v c o m
          → Without (is_event_of v) m → (i : ℕ) → i < width tables v → Without (writes_bit tables v i) m
          → shows values r i ≡ shows values o i
      previous_of n c o m j q i f u =
          let s : happened ≡ (j.before ++ of v (shown j.cause j.values) ∷ j.behind) ++ of v
          (shown k.cause k.values) ∷ k.behind
          = k.split ∙ ap (λ l. l ++ of v (shown k.cause k.values) ∷ k.behind) j.split in
          let behind : List Happening = j.behind ++ of v (shown k.cause k.values) ∷ k.behind in
          at_k.bit i f
          ∙ (previous_shown v j.before j.cause j.values j.behind k.cause k.values k.behind s
          j.from (still (is_event_of v) _ refl j.right q) i f (still (writes_bit tables v i) _ refl j.right u)
          ∙ sym ((shows_at v j.cause j.values j.before behind (s ∙ append_assoc j.before _ _) o
          j.is).bit i f))

      zero_of : Without (is_event_of v) a → (i : ℕ) → i < width tables v → Without (writes_bit tables v i) a
          → shows values r i ≡ 0
      zero_of q i f u =
          at_k.bit i f
          ∙ zero_shown v k.before k.cause k.values k.behind k.split
          (still (is_event_of v) _ refl k.left q) i f (still (writes_bit tables v i) _ refl k.left u)

    shows_last : (v : ℕ) (a : List Moment) (id x p : ℕ) (m : List Moment) (r : Labelled) (b : List Moment)
        → trace t 0 happened ≡ a ++ said (write id x p) ∷ (m ++ made r ∷ b) → tables.vector id ≡ suc v
        → r.label ≡ suc v
        → Without (is_event_of v) m → Without (writes_bit tables v (bit_of tables v id)) m
        → shows values r (bit_of tables v id) ≡ x
    shows_last v a id x p m r b e f g q u =
        let c : List Moment = a ++ said (write id x p) ∷ m in
        let z : trace t 0 happened ≡ c ++ made r ∷ b = e ∙ sym
        (append_assoc a (said (write id x p) ∷ m) (made r ∷ b)) in
        let k = event v c r b z g in
        let n = known v c r b z g in
        last_of v c r b k n a id x p m (at_write t k.before n v a id x p m (sym k.left) f) f q u

    shows_previous : (v : ℕ) (a : List Moment) (o : Labelled) (m : List Moment) (r : Labelled) (b : List Moment)
        → trace t 0 happened ≡ a ++ made o ∷ (m ++ made r ∷ b) → o.label ≡ suc v → r.label ≡ suc v
        → Without (is_event_of v) m → (i : ℕ) → i < width tables v → Without (writes_bit tables v i) m
        → shows values r i ≡ shows values o i
    shows_previous v a o m r b e f g q i l u =
        let c : List Moment = a ++ made o ∷ m in
        let z : trace t 0 happened ≡ c ++ made r ∷ b = e ∙ sym (append_assoc a (made o ∷ m) (made r ∷ b)) in
        let k = event v c r b z g in
        let n = known v c r b z g in
        previous_of v c r b k n a o m (at_event t k.before n v a o m (sym k.left) f) q i l u

    shows_zero : (v : ℕ) (m : List Moment) (r : Labelled) (b : List Moment) → trace t 0 happened ≡ m ++ made r ∷ b
        → r.label ≡ suc v
        → Without (is_event_of v) m → (i : ℕ) → i < width tables v → Without (writes_bit tables v i) m
        → shows values r i ≡ 0
    shows_zero v m r b e g = zero_of v m r b (event v m r b e g)

    time_made : (a : List Moment) (u : ℕ) (b : List Moment) → trace t 0 happened ≡ a ++ said (time u) ∷ b
        → (r : Labelled) × (rest : List Moment) × (b ≡ made r ∷ rest) × (r.bytes ≡ record_bytes (Time u))
    unfolding labelled record_of
    time_made a u b e =
        let (s, rest, f) = at_time t happened all_named a u b e in (labelled s (events.time u), rest, f, refl)

    pub sentences : Sentences early tables values (trace t 0 happened)
    sentences = record {
      first_event = first_event;
      one_event = one_event;
      owns_some = owns_some;
      one_value = one_value;
      shows_last = shows_last;
      shows_previous = shows_previous;
      shows_zero = shows_zero;
      made_by = made_by;
      time_made = time_made;
      times_only = before_time t happened all_named;
    }
