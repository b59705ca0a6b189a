-- Where a moment of a trace stands in what happens.
-- Assumes nothing.
use Prim.Native.Nat.{ℕ, suc, ◌+◌, ◌-◌}
use Rattle.std.specs.Prelude.{◌≡◌, refl, ◌⊎◌, true, false, leb, eqb}
use Rattle.std.proofs.Math.Path.{sym, ap}
use Rattle.std.proofs.Common.{◌∙◌, inl, inr, true≢false, zero-add}
use Rattle.std.proofs.Math.Logic.{⊎_elim}
use mathlib.Core.List.{List, [], ◌∷◌, ◌++◌, append_assoc, append-nil, cons≢nil}
use Rattle.std.proofs.Math.Nat.{add-zero}
use native.Mathlib.Omega.{arith}
use Rattle.slices.specs.Choice.{cond_ind}
use Rattle.tables.specs.Lists.{Lists, nth}
use Rattle.rules.specs.Vector.{Write, Cause, began, wrote, shown, over}
use Rattle.rules.specs.Gather.{Tables, Act, time, write, step_end, Happening, at, single, of, ends}
use Rattle.states.specs.declared.States.{States}
use Rattle.states.specs.declared.States.TheVariants.{Two, Nine}
use Rattle.records.specs.declared.Record.TheVariants.{Value, Real}
use Rattle.records.specs.Event.{Event, record_of, record_bytes}
use Rattle.event_streams.specs.Stream.{record_at, is_time}
use Rattle.records.specs.Event as events
use Rattle.gather.specs.Run.{gathers, alone}
use Rattle.demand3_bytes.specs.Statements.{Labelled, label_of, state_in, Moment, said, made, bit_of}
use Rattle.demand3_bytes.specs.Trace.Named.{Named}
use Rattle.demand3_bytes.proofs.Trace.Named.{named_append}
use Rattle.demand3_bytes.specs.Trace.{labelled}
use Rattle.demand3_bytes.proofs.Trace.{event_of, item_moments, moments, size, size_nil, size_append, trace}

-- ---- lists cut at a place

module _ {A : Type 0} (ys : List A) (m : A) (b : List A) where
  abbrev Within : List A → List A → Type 0
  Within xs a = (c : List A) × (xs ≡ a ++ m ∷ c) × (b ≡ c ++ ys)

  abbrev Beyond : List A → List A → Type 0
  Beyond xs a = (c : List A) × (a ≡ xs ++ c) × (ys ≡ c ++ m ∷ b)

  cut_append : (xs a : List A) → xs ++ ys ≡ a ++ m ∷ b → Within xs a ⊎ Beyond xs a
  cut_append [] a e = inr (a, refl, e)
  cut_append (x ∷ xs) [] e = let f : x ≡ m = cc in inl (xs, ap (λ z. z ∷ xs) f, (cc))
  cut_append (x ∷ xs) (y ∷ a) e =
      let f : x ≡ y = cc in
      ⊎_elim (λ (w : Within xs a). inl (w.0, rw (f, w.1), w.2)) (λ (w : Beyond xs a). inr (w.0, rw (f, w.1), w.2))
      (cut_append xs a (cc))

module _ {A : Type 0} where
  cut_one : (x : A) (a : List A) (m : A) (b : List A) → x ∷ [] ≡ a ++ m ∷ b → (x ≡ m) × (a ≡ []) × (b ≡ [])
  cut_one x [] m b e = ((cc), refl, (cc))
  cut_one x (y ∷ []) m b e = let f : m ∷ b ≡ [] = cc in absurd (cons≢nil f)
  cut_one x (y ∷ z ∷ a) m b e = let f : z ∷ (a ++ m ∷ b) ≡ [] = cc in absurd (cons≢nil f)

  cut_two : (x y : A) (a : List A) (m : A) (b : List A) → x ∷ y ∷ [] ≡ a ++ m ∷ b
      → ((x ≡ m) × (a ≡ []) × (b ≡ y ∷ [])) ⊎ ((y ≡ m) × (a ≡ x ∷ []) × (b ≡ []))
  cut_two x y [] m b e = inl ((cc), refl, (cc))
  cut_two x y (z ∷ a) m b e =
      let f : x ≡ z = cc in
      let g = cut_one y a m b (cc) in
      inr (g.0, rw (f, g.1), g.2)

-- ---- a trace cut at a moment

module _ (t : Lists) where
  -- the happening of which the moment is one
  record Cut (s : ℕ) (h : List Happening) (a : List Moment) (m : Moment) (b : List Moment) : Type 0 where
    before : List Happening
    happening : Happening
    behind : List Happening
    split : h ≡ before ++ happening ∷ behind
    front : List Moment
    back : List Moment
    inside : moments t (s + size t before) happening ≡ front ++ m ∷ back
    left : a ≡ trace t s before ++ front
    from : ℕ
    right : b ≡ back ++ trace t from behind

  cut : (s : ℕ) (h : List Happening) (a : List Moment) (m : Moment) (b : List Moment) → trace t s h ≡ a ++ m ∷ b
      → Cut s h a m b
  unfolding trace
  cut s [] [] m b e = absurd (cons≢nil (sym e))
  cut s [] (x ∷ a) m b e = absurd (cons≢nil (sym e))
  cut s (x ∷ h) a m b e =
      ⊎_elim here (λ (w : Beyond (trace t (s + size t (x ∷ [])) h) m b (moments t s x) a). there w
      (cut (s + size t (x ∷ [])) h w.0 m b w.2))
      (cut_append (trace t (s + size t (x ∷ [])) h) m b (moments t s x) a e)
    where
      here : Within (trace t (s + size t (x ∷ [])) h) m b (moments t s x) a → Cut s (x ∷ h) a m b
      here (c, p, q) = record {
        before = [];
        happening = x;
        behind = h;
        split = refl;
        front = a;
        back = c;
        inside = rw (size_nil t, add-zero s) p;
        left = refl;
        from = s + size t (x ∷ []);
        right = q;
      }

      there : (w : Beyond (trace t (s + size t (x ∷ [])) h) m b (moments t s x) a)
          → Cut (s + size t (x ∷ [])) h w.0 m b → Cut s (x ∷ h) a m b
      there (c, p, q) k =
          let n : s + size t (x ∷ []) + size t k.before ≡ s + size t (x ∷ k.before) = omega
          (arith, size_append t (x ∷ []) k.before) in
          record {
            before = x ∷ k.before;
            happening = k.happening;
            behind = k.behind;
            split = ap (λ l. x ∷ l) k.split;
            front = k.front;
            back = k.back;
            inside = rw (← n) k.inside;
            left = p ∙ rw k.left (sym (append_assoc (moments t s x) _ _));
            from = k.from;
            right = k.right;
          }

-- ---- at a write of a vector bit, and at an event of a vector

apart : {a : Act} {r : Labelled} → said a ≡ made r → ⊥
apart e = let z : ◌≡◌ {A = ℕ} 0 1 = cc in omega arith

not_time : {u id x p : ℕ} → said (time u) ≡ said (write id x p) → ⊥
not_time e = let z : ◌≡◌ {A = ℕ} 0 1 = cc in omega arith

not_end : {id x p : ℕ} → said step_end ≡ said (write id x p) → ⊥
not_end e = let z : ◌≡◌ {A = ℕ} 0 1 = cc in omega arith

same_id : {i x o id y p : ℕ} → said (write i x o) ≡ said (write id y p) → i ≡ id
same_id e = cc

made_same : {r q : Labelled} → made r ≡ made q → r ≡ q
made_same e = cc

said_time : {w u : ℕ} → said (time w) ≡ said (time u) → w ≡ u
said_time e = cc

time_not_end : {u : ℕ} → said (time u) ≡ said step_end → ⊥
time_not_end e = let z : ◌≡◌ {A = ℕ} 0 1 = cc in omega arith

-- value and real records are no times
pub value_no_time : (st : States) (reference start n : ℕ)
    → is_time (record_at (record_bytes (Value st reference start n)) 0) ≡ false
unfolding record_bytes record_at is_time
value_no_time Two reference start n = refl
value_no_time Nine reference start n = refl

real_no_time : (reference b : ℕ) → is_time (record_at (record_bytes (Real reference b)) 0) ≡ false
unfolding record_bytes record_at is_time
real_no_time reference b = refl

pub alone_no_time : (s kind reference x : ℕ)
    → is_time (record_at (record_bytes (record_of s (alone kind reference x))) 0) ≡ false
unfolding alone record_of
alone_no_time s kind reference x =
    let P : Event → Type 0 = λ e. is_time (record_at (record_bytes (record_of s e)) 0) ≡ false in
    cond_ind (leb kind 1) _ _ P (λ h. value_no_time Nine reference s 1)
    (λ h. cond_ind (leb kind 4) _ _ P (λ h. value_no_time Two reference s 1)
    (λ h. cond_ind (eqb kind 5) _ _ P (λ h. value_no_time Two reference s _) (λ h. real_no_time reference x)))

pub alone_label : (kind reference x : ℕ) → label_of (alone kind reference x) ≡ 0
unfolding alone label_of
alone_label kind reference x =
    cond_ind (leb kind 1) _ _ (λ e. label_of e ≡ 0) (λ h. refl)
    (λ h. cond_ind (leb kind 4) _ _ (λ e. label_of e ≡ 0) (λ h. refl)
    (λ h. cond_ind (eqb kind 5) _ _ (λ e. label_of e ≡ 0) (λ h. refl) (λ h. refl)))

module _ (t : Lists) (s v : ℕ) where
  abbrev IsWrite : Happening → (id y : ℕ) → Type 0
  IsWrite x id y = (w : Write) × (x ≡ of v (wrote w)) × (w.bit ≡ bit_of (gathers t) v id) × (w.value ≡ y)

  abbrev Alone : List Moment → List Moment → Type 0
  Alone front back = (front ≡ []) × (back ≡ [])

  abbrev T : Tables
  T = gathers t

  same_vector : (u : ℕ) (w : Write) (id y p : ℕ)
      → said (write (T.max u - w.bit) w.value w.pos) ≡ said (write id y p) → T.vector id ≡ suc v
      → (T.vector (T.max u - w.bit) ≡ suc u) × (T.max u - (T.max u - w.bit) ≡ w.bit)
      → IsWrite (of u (wrote w)) id y
  same_vector u w id y p e f q =
      let i : T.max u - w.bit ≡ id = cc in
      let k : w.value ≡ y = cc in
      let j : suc u ≡ suc v = sym q.0 ∙ rw i f in
      let d : u ≡ v = omega arith in
      (w, rw d, rw (← d, ← i) (sym q.1), k)

  write_in : (x : Happening) (id y p : ℕ) (front back : List Moment)
      → moments t s x ≡ front ++ said (write id y p) ∷ back → T.vector id ≡ suc v → Named T (x ∷ [])
      → IsWrite x id y × Alone front back
  unfolding moments item_moments Named
  write_in (at u) id y p front back e f q =
      ⊎_elim (λ c. absurd (not_time c.0)) (λ c. absurd (apart (sym c.0))) (cut_two _ _ front _ back e)
  write_in (single i x o) id y p front back e f q =
      ⊎_elim (λ c. let d : 0 ≡ suc v = sym q.0 ∙ (rw (same_id c.0) f) in absurd (omega arith))
      (λ c. absurd (apart (sym c.0))) (cut_two _ _ front _ back e)
  write_in (of u (began w)) id y p front back e f q = absurd q
  write_in (of u (wrote w)) id y p front back e f q =
      let c = cut_one _ front _ back e in (same_vector u w id y p c.0 f q.0, (c.1, c.2))
  write_in (of u (shown d l)) id y p front back e f q = absurd (apart (sym (cut_one _ front _ back e).0))
  write_in (of u over) id y p front back e f q = absurd q
  write_in ends id y p front back e f q = absurd (not_end (cut_one _ front _ back e).0)

  abbrev IsEvent : Happening → Labelled → Type 0
  IsEvent x r = (c : Cause) × (l : List ℕ) × (x ≡ of v (shown c l)) × (r ≡ labelled s (event_of t v l))

  event_in : (x : Happening) (r : Labelled) (front back : List Moment) → moments t s x ≡ front ++ made r ∷ back
      → r.label ≡ suc v → Named T (x ∷ []) → IsEvent x r × Alone front back
  unfolding moments item_moments Named labelled label_of
  event_in (at u) r front back e f q =
      ⊎_elim (λ c. absurd (apart c.0)) (λ c. let z : 0 ≡ suc v = ap (λ k. k.label) (made_same c.0) ∙ f in absurd
      (omega arith)) (cut_two _ _ front _ back e)
  event_in (single i x o) r front back e f q =
      ⊎_elim (λ c. absurd (apart c.0))
      (λ c. let z : 0 ≡ suc v = sym (alone_label (nth t.kinds i) (nth t.refs i) x) ∙ ap (λ k. k.label)
      (made_same c.0) ∙ f in absurd (omega arith)) (cut_two _ _ front _ back e)
  event_in (of u (began w)) r front back e f q = absurd q
  event_in (of u (wrote w)) r front back e f q = absurd (apart (cut_one _ front _ back e).0)
  event_in (of u (shown c l)) r front back e f q =
      let k = cut_one _ front _ back e in
      let z : suc u ≡ suc v = ap (λ k. k.label) (made_same k.0) ∙ f in
      let d : u ≡ v = omega arith in
      ((c, l, rw d, rw (← d) (sym (made_same k.0))), (k.1, k.2))
  event_in (of u over) r front back e f q = absurd q
  event_in ends r front back e f q = absurd (apart (cut_one _ front _ back e).0)

module _ (t : Lists) where
  time_in : (u s : ℕ) (x : Happening) (front back : List Moment) → moments t s x ≡ front ++ said (time u) ∷ back
      → Named (gathers t) (x ∷ [])
      → (s : ℕ) × (back ≡ made (labelled s (events.time u)) ∷ [])
  unfolding moments item_moments Named
  time_in u s (at w) front back e q =
      ⊎_elim (λ c. let d : w ≡ u = said_time c.0 in (s, rw (← d) c.2)) (λ c. absurd (apart (sym c.0)))
      (cut_two _ _ front _ back e)
  time_in u s (single i x o) front back e q =
      ⊎_elim (λ c. absurd (not_time (sym c.0))) (λ c. absurd (apart (sym c.0))) (cut_two _ _ front _ back e)
  time_in u s (of v (began w)) front back e q = absurd q
  time_in u s (of v (wrote w)) front back e q = absurd (not_time (sym (cut_one _ front _ back e).0))
  time_in u s (of v (shown d l)) front back e q = absurd (apart (sym (cut_one _ front _ back e).0))
  time_in u s (of v over) front back e q = absurd q
  time_in u s ends front back e q = absurd (time_not_end (sym (cut_one _ front _ back e).0))

  -- a record that is a time was made at one
  made_in : (r : Labelled) → is_time (record_at r.bytes 0) ≡ true → (s : ℕ) (x : Happening) (front back : List Moment)
      → moments t s x ≡ front ++ made r ∷ back
      → (u : ℕ) × (front ≡ said (time u) ∷ [])
  unfolding moments item_moments labelled record_of
  made_in r f s (at u) front back e = ⊎_elim (λ c. absurd (apart c.0)) (λ c. (u, c.1)) (cut_two _ _ front _ back e)
  made_in r f s (single i x o) front back e =
      ⊎_elim (λ c. absurd (apart c.0))
      (λ c. absurd (true≢false (sym f ∙ ap (λ k. is_time (record_at k.bytes 0)) (sym (made_same c.0))
      ∙ alone_no_time s (nth t.kinds i) (nth t.refs i) x))) (cut_two _ _ front _ back e)
  made_in r f s (of v (began w)) front back e = absurd (apart (cut_one _ front _ back e).0)
  made_in r f s (of v (wrote w)) front back e = absurd (apart (cut_one _ front _ back e).0)
  made_in r f s (of v (shown d l)) front back e =
      absurd (true≢false (sym f ∙ ap (λ k. is_time (record_at k.bytes 0))
      (sym (made_same (cut_one _ front _ back e).0)) ∙ value_no_time (state_in t v) _ s _))
  made_in r f s (of v over) front back e = absurd (apart (cut_one _ front _ back e).0)
  made_in r f s ends front back e = absurd (apart (cut_one _ front _ back e).0)

module _ (t : Lists) (h : List Happening) (n : Named (gathers t) h) where
  pub record AtWrite (v : ℕ) (a : List Moment) (id x : ℕ) (b : List Moment) : Type 0 where
    pub before : List Happening
    pub write : Write
    pub behind : List Happening
    pub split : h ≡ before ++ of v (wrote write) ∷ behind
    pub bit : write.bit ≡ bit_of (gathers t) v id
    pub value : write.value ≡ x
    pub left : a ≡ trace t 0 before
    pub from : ℕ
    pub right : b ≡ trace t from behind

  pub record AtEvent (v : ℕ) (a : List Moment) (r : Labelled) (b : List Moment) : Type 0 where
    pub before : List Happening
    pub cause : Cause
    pub values : List ℕ
    pub behind : List Happening
    pub split : h ≡ before ++ of v (shown cause values) ∷ behind
    pub is : r ≡ labelled (size t before) (event_of t v values)
    pub left : a ≡ trace t 0 before
    pub from : ℕ
    pub right : b ≡ trace t from behind

  one_named : (a : List Happening) (x : Happening) (b : List Happening) → h ≡ a ++ x ∷ b → Named (gathers t) (x ∷ [])
  one_named a x b e = (named_append (gathers t) (x ∷ []) b (named_append (gathers t) a (x ∷ b) (rw e at n)).1).0

  pub at_write : (v : ℕ) (a : List Moment) (id x p : ℕ) (b : List Moment) → trace t 0 h ≡ a ++ said (write id x p) ∷ b
      → (gathers t).vector id ≡ suc v → AtWrite v a id x b
  at_write v a id x p b e f =
      let k = cut t 0 h a (said (write id x p)) b e in
      let (q, o) = write_in t (0 + size t k.before) v k.happening id x p k.front k.back k.inside f
      (one_named k.before k.happening k.behind k.split) in
      record {
        before = k.before;
        write = q.0;
        behind = k.behind;
        split = k.split ∙ ap (λ z. k.before ++ z ∷ k.behind) q.1;
        bit = q.2;
        value = q.3;
        left = k.left ∙ (ap (λ z. trace t 0 k.before ++ z) o.0 ∙ append-nil (trace t 0 k.before));
        from = k.from;
        right = k.right ∙ ap (λ z. z ++ trace t k.from k.behind) o.1;
      }

  pub at_event : (v : ℕ) (a : List Moment) (r : Labelled) (b : List Moment) → trace t 0 h ≡ a ++ made r ∷ b
      → r.label ≡ suc v → AtEvent v a r b
  at_event v a r b e f =
      let k = cut t 0 h a (made r) b e in
      let (q, o) = event_in t (0 + size t k.before) v k.happening r k.front k.back k.inside f
      (one_named k.before k.happening k.behind k.split) in
      record {
        before = k.before;
        cause = q.0;
        values = q.1;
        behind = k.behind;
        split = k.split ∙ ap (λ z. k.before ++ z ∷ k.behind) q.2;
        is = q.3 ∙ ap (λ z. labelled z (event_of t v q.1)) (zero-add (size t k.before));
        left = k.left ∙ (ap (λ z. trace t 0 k.before ++ z) o.0 ∙ append-nil (trace t 0 k.before));
        from = k.from;
        right = k.right ∙ ap (λ z. z ++ trace t k.from k.behind) o.1;
      }

  -- ---- at a time

  pub at_time : (a : List Moment) (u : ℕ) (b : List Moment) → trace t 0 h ≡ a ++ said (time u) ∷ b
      → (s : ℕ) × (rest : List Moment) × (b ≡ made (labelled s (events.time u)) ∷ rest)
  at_time a u b e =
      let k = cut t 0 h a (said (time u)) b e in
      let (s, f) = time_in t u (0 + size t k.before) k.happening k.front k.back k.inside
      (one_named k.before k.happening k.behind k.split) in
      (s, trace t k.from k.behind, k.right ∙ ap (λ z. z ++ trace t k.from k.behind) f)

  pub before_time : (a : List Moment) (r : Labelled) (b : List Moment) → trace t 0 h ≡ a ++ made r ∷ b
      → is_time (record_at r.bytes 0) ≡ true
      → (before : List Moment) × (u : ℕ) × (a ≡ before ++ said (time u) ∷ [])
  before_time a r b e f =
      let k = cut t 0 h a (made r) b e in
      let (u, g) = made_in t r f (0 + size t k.before) k.happening k.front k.back k.inside in
      (trace t 0 k.before, u, k.left ∙ ap (λ z. trace t 0 k.before ++ z) g)
