-- What the proofs of `step_ends` search.
-- Assumes nothing.
use Rattle.std.specs.Prelude.{◌≡◌, refl, ℕ, zero, suc, ◌+◌, ◌-◌, ◌*◌, ◌^◌, ◌≤◌, ◌<◌, Bool, true, false, ◌&&◌, List, [], ◌∷◌, length, get_or, leb, take, drop}
use Rattle.std.proofs.Common.{sym, subst, ap, ◌∙◌, add-one, arith, take_all, take-suc, length-take, length-drop}
use Rattle.std.proofs.Math.Nat.{pow-suc}
use borrow.Author.Tests.{eq-eqb, ne_eqb, le-leb, leb-true}
use Rattle.slices.specs.Splice.{part}
use Rattle.numbers.specs.Fixed.{big}
use Rattle.numbers.specs.Fixed.Laws.{big_append}
use Rattle.states.specs.declared.States.{States}
use Rattle.states.specs.declared.States.TheVariants.{Two, Nine}
use Rattle.records.specs.declared.Record.{Record}
use Rattle.records.specs.declared.Record.TheVariants.{Time, Value, Real}
use Rattle.event_streams.specs.Next.{Next}
use Rattle.event_streams.specs.Next as next
use Rattle.event_streams.specs.Stream.{in_values, next_event}
use Rattle.event_streams.proofs.Stream.Laws.{found_event}
use Rattle.step_ends.specs.declared.Names.{Names}
use Rattle.step_ends.specs.declared.Line.{Line}
use Rattle.step_ends.specs.declared.Line.TheVariants.{Session, Strobe, Close, Other}
use Rattle.step_ends.specs.declared.Watch.{Watch}
use Rattle.step_ends.specs.Seen.{SeenFound, More, Step, End, Bad}
use Rattle.step_ends.specs.Steps.{line_of, two_of, suits, opened, shows, see_time, see_value, see_real, see_event, see_next, see}

-- ---- which of the three

module _ (n : Names) {r : ℕ} where
  pub line_session : r ≡ n.session → Session ≡ line_of n r
  unfolding line_of
  line_session e = rw (eq-eqb r n.session e)

  module _ (a : r ≡ n.session → ⊥) where
    pub line_strobe : r ≡ n.strobe → Strobe ≡ line_of n r
    unfolding line_of
    line_strobe e = rw (ne_eqb r n.session a, eq-eqb r n.strobe e)

    module _ (b : r ≡ n.strobe → ⊥) where
      pub line_close : r ≡ n.close → Close ≡ line_of n r
      unfolding line_of
      line_close e = rw (ne_eqb r n.session a, ne_eqb r n.strobe b, eq-eqb r n.close e)

      pub line_other : (r ≡ n.close → ⊥) → Other ≡ line_of n r
      unfolding line_of
      line_other c = rw (ne_eqb r n.session a, ne_eqb r n.strobe b, ne_eqb r n.close c)

pub ruleset line_laws = (line_session, line_strobe, line_close, line_other)

-- ---- whether it suits

module _ {states : States} (n most : ℕ) where
  pub two_none : states ≡ Two → n ≡ 0 → false ≡ two_of states n most
  unfolding two_of
  two_none e z = rw (e, z)

  pub two_some : states ≡ Two → (n ≡ 0 → ⊥) → leb n most ≡ two_of states n most
  unfolding two_of
  two_some e z = rw (e, le-leb 1 n (omega (arith, z)))

  pub two_nine : states ≡ Nine → false ≡ two_of states n most
  unfolding two_of
  two_nine e = rw e

pub ruleset two_laws = (two_none, two_some, two_nine)

module _ {line : Line} (states : States) (n : ℕ) {b : Bool} where
  pub suits_session : line ≡ Session → b ≡ two_of states n 4 → b ≡ suits line states n
  unfolding suits
  suits_session e p = rw e p

  pub suits_strobe : line ≡ Strobe → b ≡ two_of states n 1 → b ≡ suits line states n
  unfolding suits
  suits_strobe e p = rw e p

  pub suits_close : line ≡ Close → b ≡ two_of states n 1 → b ≡ suits line states n
  unfolding suits
  suits_close e p = rw e p

pub suits_other : {line : Line} (states : States) (n : ℕ) → line ≡ Other → true ≡ suits line states n
unfolding suits
suits_other states n e = rw e

pub ruleset suits_laws = (suits_session, suits_strobe, suits_close, suits_other)

-- ---- the number of some value bytes

-- up to four of the value bytes
pub record Few (values : List ℕ) (start count : ℕ) : Type 0 where
  pub inside : start + count ≤ length values
  pub few : count ≤ 4

-- the number of the first `i` of some bytes
pub record Spelled (bs : List ℕ) (value i : ℕ) : Type 0 where
  pub is : value ≡ big (take i bs)
  pub small : value < 256 ^ i

pub spell_none : (bs : List ℕ) → Spelled bs 0 0
unfolding big
spell_none bs = record { is = refl; small = omega arith }

power_most : (i : ℕ) → i < 4 → 256 ^ i ≤ 256 ^ 3
power_most zero h = omega arith
power_most (suc zero) h = omega arith
power_most (suc (suc zero)) h = omega arith
power_most (suc (suc (suc zero))) h = omega arith
power_most (suc (suc (suc (suc i)))) h = absurd (omega arith)

module _ (values : List ℕ) (start count : ℕ) (f : Few values start count) where
  abbrev these : List ℕ
  these = take (start + count - start) (drop start values)

  count_these : length these ≡ count
  count_these = simp (length-take, length-drop) (omega (arith, f.inside))

  module _ {value i : ℕ} (c : Spelled these value i) where
    pub spell_high : i < length these → value * 256 < 2 ^ 32
    spell_high l = omega (arith, c.small, power_most i (omega (arith, count_these, f.few)))

    pub spell_sum : i < length these → {b : ℕ} → b ≤ 255 → value * 256 + b < 2 ^ 32
    spell_sum l q = omega (arith, c.small, power_most i (omega (arith, count_these, f.few)))

    pub spell_all : length these ≤ i → value ≡ big (part values start count)
    unfolding part
    spell_all h = let e : start + count - start ≡ count = omega arith in c.is ∙ ap big (take_all i these h ∙ rw e)

pub spell_more : {bs : List ℕ} {value i : ℕ} → Spelled bs value i → i < length bs → {b : ℕ} → b ≡ get_or bs i 0 → b ≤ 255 → Spelled bs (value * 256 + b) (i + 1)
unfolding big
spell_more {bs} {value} {i} c h {b} e q =
    record {
      is = rw (add-one i, take-suc bs i 0 h, big_append (take i bs) (get_or bs i 0 ∷ []), c.is, e) (omega arith);
      small = rw (add-one i, pow-suc 256 i) (omega (arith, c.small));
    }

pub ruleset spell_laws = (spell_none, spell_high, spell_sum, spell_more, spell_all)

-- ---- what is shown

abbrev Short : Line → ℕ → Type 0
Short Session n = n ≤ 4
Short Strobe n = n ≤ 4
Short Close n = n ≤ 4
Short Other n = Unit {0}

-- a value lies in the value buffer, and is as long as its line allows
pub record Within (values : List ℕ) (line : Line) (start n : ℕ) : Type 0 where
  pub inside : start + n ≤ length values
  pub short : Short line n

two_most : (states : States) (n most : ℕ) → most ≤ 4 → two_of states n most ≡ true → n ≤ 4
unfolding two_of
two_most Two n most h e = by (leb 1 n) (leb n most) refl e
  where
    by : (a b : Bool) → leb n most ≡ b → a && b ≡ true → n ≤ 4
    by true true f g = omega (arith, leb-true n most f)
    by true false f g = absurd (let z : ◌≡◌ {A = ℕ} 0 1 = cc in omega arith)
    by false b f g = absurd (let z : ◌≡◌ {A = ℕ} 0 1 = cc in omega arith)
two_most Nine n most h e = absurd (let z : ◌≡◌ {A = ℕ} 0 1 = cc in omega arith)

suits_short : (line : Line) (states : States) (n : ℕ) → suits line states n ≡ true → Short line n
unfolding suits
suits_short Session states n e = two_most states n 4 (omega arith) e
suits_short Strobe states n e = two_most states n 1 (omega arith) e
suits_short Close states n e = two_most states n 1 (omega arith) e
suits_short Other states n e = tt

module _ (values : List ℕ) (w : Watch) {line : Line} {start n : ℕ} where
  module _ (h : Within values line start n) {a : ℕ} (x : a ≡ start) {k : ℕ} (y : k ≡ n) where
    pub within_session : line ≡ Session → Few values a k
    within_session e = rw (x, y) (record { inside = h.inside; few = subst (λ (l : Line). Short l n) e h.short })

    pub within_strobe : line ≡ Strobe → Few values a k
    within_strobe e = rw (x, y) (record { inside = h.inside; few = subst (λ (l : Line). Short l n) e h.short })

    pub within_close : line ≡ Close → Few values a k
    within_close e = rw (x, y) (record { inside = h.inside; few = subst (λ (l : Line). Short l n) e h.short })

  module _ {a : ℕ} (x : a ≡ start) {k : ℕ} (y : k ≡ n) {v : ℕ} (p : v ≡ big (part values a k)) where
    pub shows_session : line ≡ Session → ◌≡◌ {A = Watch} (record { begun = w.begun; time = w.time; session = v; strobe = w.strobe; close = w.close }) (shows values w line start n)
    unfolding shows
    shows_session e = rw (e, p, x, y)

    pub shows_strobe : line ≡ Strobe → ◌≡◌ {A = Watch} (record { begun = w.begun; time = w.time; session = w.session; strobe = v; close = w.close }) (shows values w line start n)
    unfolding shows
    shows_strobe e = rw (e, p, x, y)

    pub shows_close : line ≡ Close → ◌≡◌ {A = Watch} (record { begun = w.begun; time = w.time; session = w.session; strobe = w.strobe; close = v }) (shows values w line start n)
    unfolding shows
    shows_close e = rw (e, p, x, y)

pub shows_other : (values : List ℕ) (w : Watch) {line : Line} (start n : ℕ) → line ≡ Other → w ≡ shows values w line start n
unfolding shows
shows_other values w start n e = rw e

pub ruleset show_laws = (within_session, within_strobe, within_close, shows_session, shows_strobe, shows_close, shows_other)

-- ---- one record

module _ (w : Watch) (u j : ℕ) {v : Watch} (e : v ≡ opened w u) where
  pub time_ends : w.begun ≡ true → Step v j ≡ see_time w u j
  unfolding see_time
  time_ends o = rw (e, o)

  pub time_opens : w.begun ≡ false → More v j ≡ see_time w u j
  unfolding see_time
  time_opens o = rw (e, o)

pub ruleset time_laws = (time_ends, time_opens)

module _ (values : List ℕ) (w : Watch) (line : Line) (states : States) (start n i j : ℕ) {b : Bool} (e : b ≡ suits line states n) where
  pub value_within : start + n ≤ length values → b ≡ true → Within values line start n
  value_within h t = record { inside = h; short = suits_short line states n (sym e ∙ t) }

  pub value_suits : b ≡ true → {v : Watch} → v ≡ shows values w line start n → More v j ≡ see_value values w line states start n i j
  unfolding see_value
  value_suits t p = rw (sym e ∙ t, p)

  pub value_bad : b ≡ false → Bad 34 i ≡ see_value values w line states start n i j
  unfolding see_value
  value_bad t = rw (sym e ∙ t)

pub ruleset value_laws = (value_within, value_suits, value_bad)

module _ (w : Watch) {line : Line} (i j : ℕ) where
  pub real_other : line ≡ Other → More w j ≡ see_real w line i j
  unfolding see_real
  real_other e = rw e

  pub real_session : line ≡ Session → Bad 34 i ≡ see_real w line i j
  unfolding see_real
  real_session e = rw e

  pub real_strobe : line ≡ Strobe → Bad 34 i ≡ see_real w line i j
  unfolding see_real
  real_strobe e = rw e

  pub real_close : line ≡ Close → Bad 34 i ≡ see_real w line i j
  unfolding see_real
  real_close e = rw e

pub ruleset real_laws = (real_other, real_session, real_strobe, real_close)

module _ (names : Names) (values : List ℕ) (w : Watch) {r : Record} (i j : ℕ) {x : SeenFound} where
  pub event_time : {u : ℕ} → r ≡ Time u → x ≡ see_time w u j → x ≡ see_event names values w r i j
  unfolding see_event
  event_time e p = rw e p

  module _ {line : Line} where
    pub event_value : {states : States} {reference start n : ℕ} → r ≡ Value states reference start n → line ≡ line_of names reference → x ≡ see_value values w line states start n i j
        → x ≡ see_event names values w r i j
    unfolding see_event
    event_value e l p = rw e (rw l at p)

    pub event_real : {reference bits : ℕ} → r ≡ Real reference bits → line ≡ line_of names reference → x ≡ see_real w line i j → x ≡ see_event names values w r i j
    unfolding see_event
    event_real e l p = rw e (rw l at p)

pub event_inside : (k : ℕ) {r : Record} → in_values k r ≡ true → {states : States} {reference start n : ℕ} → r ≡ Value states reference start n → start + n ≤ k
unfolding in_values
event_inside k h {start = start} {n = n} e = leb-true (start + n) k (rw e at h)

pub ruleset event_laws = (event_time, event_value, event_real, event_inside)

module _ (names : Names) (s values : List ℕ) (w : Watch) (i : ℕ) {x : Next} (e : x ≡ next_event s (length values) w.begun i) where
  pub see_event_lem : {r : Record} {j : ℕ} → x ≡ next.Event r j → {y : SeenFound} → y ≡ see_event names values w r i j → y ≡ see names s values w i
  unfolding see see_next
  see_event_lem d p = rw (sym e ∙ d) p

  pub see_end : x ≡ next.End → End ≡ see names s values w i
  unfolding see see_next
  see_end d = rw (sym e ∙ d)

  pub see_bad : {n p : ℕ} → x ≡ next.Bad n p → Bad n p ≡ see names s values w i
  unfolding see see_next
  see_bad d = rw (sym e ∙ d)

  pub see_inside : {r : Record} {j : ℕ} → x ≡ next.Event r j → in_values (length values) r ≡ true
  see_inside d = (found_event s (length values) w.begun i (sym e ∙ d)).inside

pub ruleset see_laws = (see_event_lem, see_end, see_bad, see_inside)
