-- What the proofs of the functions search.
-- Assumes nothing.
use Rattle.std.specs.Prelude.{ℕ, ◌≡◌, Bool, true, false, cond, List, eqb}
use Rattle.std.proofs.Math.Path.{refl}
use Rattle.std.proofs.Common.{sym, ap, subst, ◌∙◌, arith}
use Rattle.std.proofs.lemmas.Bool.{false≢true}
use borrow.Author.Tests.{eqb-true, eqb-false}
use Rattle.tables.specs.Lists.{Lists}
use Rattle.gather.specs.Memory.{Mem}
use Rattle.section_heads.specs.declared.Said.{Said}
use Rattle.section_heads.specs.declared.Said.TheVariants.{Nothing, Time, Write, StepEnd, Over, Bad}
use Rattle.section_heads.specs.declared.Item.{Item}
use Rattle.gather.specs.declared.Gathered.{Gathered}
use Rattle.turns.specs.Goes.Laws.{ends_over}
use Rattle.vector_turns.specs.OneVector.{is_act}
use Rattle.vector_turns.specs.OneVector.Laws.{ReadyBy}
use Rattle.item_turns.specs.declared.Ended.{Ended}
use Rattle.item_turns.specs.declared.Ended.TheVariants.{On, Stay, Full}
use Rattle.item_turns.specs.declared.Went.{Went}
use Rattle.item_turns.specs.Leads.{goes_leads}
use Rattle.item_turns.specs.Turn.{TurnAsks, TurnsBy, Turns}
use Rattle.refusals.specs.Numbers.{Numbered}
use Rattle.item_acts.specs.declared.Stage.{Stage}
use Rattle.item_acts.specs.declared.Stage.TheVariants as stage
use Rattle.item_acts.specs.declared.Acted.{Acted}
use Rattle.item_acts.specs.Acts as acts
use Rattle.item_acts.specs.Acts.{stage_of, on, still, over_at, refused, moved_by, ActBy, ActAsks, Acts}

-- ---- stages

module _ {a : Said} (g : Gathered) where
  pub says_bad : {n : Numbered} → a ≡ Bad n → stage.Bad n ≡ stage_of a g
  unfolding stage_of
  says_bad e = rw e

  module _ (e : a ≡ StepEnd) {m : Bool} (d : m ≡ eqb g.ended g.listed) where
    pub says_over : m ≡ true → stage.Over ≡ stage_of a g
    unfolding stage_of
    says_over z = rw (e, ← d, z)

    pub says_more : m ≡ false → stage.More ≡ stage_of a g
    unfolding stage_of
    says_more z = rw (e, ← d, z)

pub ruleset stage_laws = (says_bad, says_over, says_more)

module _ (at : ℕ) (w : Went) where
  pub moved_on : w.ended ≡ On → on w.at w.id w.g ≡ moved_by at w w.ended
  moved_on e = rw e

  pub moved_stay : w.ended ≡ Stay → still w.g ≡ moved_by at w w.ended
  moved_stay e = rw e

  pub moved_full : w.ended ≡ Full → refused 16 at w.g ≡ moved_by at w w.ended
  moved_full e = rw e

pub ruleset moved_laws = (moved_on, moved_stay, moved_full)

-- ---- what a stage means

abbrev is_more : Stage → Bool
is_more stage.More = true
is_more stage.Over = false
is_more (stage.Bad n) = false

abbrev is_over : Stage → Bool
is_over stage.More = false
is_over stage.Over = true
is_over (stage.Bad n) = false

abbrev is_bad : Stage → Bool
is_bad stage.More = false
is_bad stage.Over = false
is_bad (stage.Bad n) = true

abbrev refusal_in : Stage → Numbered
refusal_in stage.More = (0, 0)
refusal_in stage.Over = (0, 0)
refusal_in (stage.Bad n) = n

more_ended : (b : Bool) → is_more (cond b stage.Over stage.More) ≡ true → b ≡ false
more_ended true e = absurd (false≢true e)
more_ended false e = refl

over_ended : (b : Bool) → is_over (cond b stage.Over stage.More) ≡ true → b ≡ true
over_ended true e = refl
over_ended false e = absurd (false≢true e)

none_bad : (b : Bool) → is_bad (cond b stage.Over stage.More) ≡ true → ⊥
none_bad true e = false≢true e
none_bad false e = false≢true e

over_is : (c : Gathered) (a : Said) → is_over (stage_of a c) ≡ true → (a ≡ StepEnd) × (c.ended ≡ c.listed)
unfolding stage_of
over_is c Nothing e = absurd (false≢true e)
over_is c (Time u) e = absurd (false≢true e)
over_is c (Write v id) e = absurd (false≢true e)
over_is c StepEnd e = (refl, eqb-true c.ended c.listed (over_ended (eqb c.ended c.listed) e))
over_is c Over e = absurd (false≢true e)
over_is c (Bad n) e = absurd (false≢true e)

bad_is : (c : Gathered) (a : Said) → is_bad (stage_of a c) ≡ true → a ≡ Bad (refusal_in (stage_of a c))
unfolding stage_of
bad_is c Nothing e = absurd (false≢true e)
bad_is c (Time u) e = absurd (false≢true e)
bad_is c (Write v id) e = absurd (false≢true e)
bad_is c StepEnd e = absurd (none_bad (eqb c.ended c.listed) e)
bad_is c Over e = absurd (false≢true e)
bad_is c (Bad n) e = refl

-- ---- as the code has it

module _ {t : Lists} {m : Mem} {c : Gathered} {x : Item} (q : ActAsks t m c x) {r : Stage} (e : r ≡ stage_of x.said c) where
  module _ (d : r ≡ stage.More) where
    more : is_more (stage_of x.said c) ≡ true
    more = ap is_more (sym e ∙ d)

    ready_by : (a : Said) → ActBy t c x.then a → is_more (stage_of a c) ≡ true → ReadyBy t c a
    unfolding stage_of
    ready_by Nothing k z = absurd k
    ready_by (Time u) k z = absurd k
    ready_by (Write v id) k z = k.0
    ready_by StepEnd k z =
        let n : c.ended ≡ c.listed → ⊥ = eqb-false c.ended c.listed (more_ended (eqb c.ended c.listed) z) in
        omega (arith, n, q.holds.stands.listed.many)
    ready_by Over k z = absurd k
    ready_by (Bad n) k z = absurd (false≢true z)

    act_by : (a : Said) → ActBy t c x.then a → is_more (stage_of a c) ≡ true → is_act a ≡ true
    unfolding stage_of
    act_by Nothing k z = absurd k
    act_by (Time u) k z = absurd k
    act_by (Write v id) k z = refl
    act_by StepEnd k z = refl
    act_by Over k z = absurd k
    act_by (Bad n) k z = absurd (false≢true z)

    pub ask_turn : TurnAsks t m c x
    ask_turn =
        record {
          tabled = q.tabled;
          rooms = q.rooms;
          state = q.state;
          output = q.output;
          holds = q.holds;
          ready = record { ready = ready_by x.said q.act more };
          named = λ v id z. (subst (ActBy t c x.then) z q.act).1;
        }

    turned_by : {s : List ℕ} {m' : Mem} (w : Went) (k : Ended) → TurnsBy t s m c x m' w k → Acts t s m c x m' (moved_by x.at w k)
    turned_by w On f = record { acts = record { wrote = f.wrote; behind = f.behind; ahead = f.ahead; begun = f.begun; leads = f.leads } }
    turned_by w Stay f = record { acts = record { act = act_by x.said q.act more; waits = record { begun = f.begun; less = f.less; leads = f.leads } } }
    turned_by w Full f = record { acts = acts.full (act_by x.said q.act more) f }

    pub acts_turned : {s : List ℕ} {m' : Mem} {w : Went} → Turns t s m c x m' w → {u : Acted} → u ≡ moved_by x.at w w.ended → Acts t s m c x m' u
    acts_turned {w = w} f z = rw z (turned_by w w.ended f.turns)

  pub acts_over : r ≡ stage.Over → (s : List ℕ) → Acts t s m c x m (over_at x.at c)
  acts_over d s =
      let z = over_is c x.said (ap is_over (sym e ∙ d)) in
      record { acts = record { ends = z.0; place = refl; leads = λ p rest. goes_leads (λ r n o h. ends_over h (omega (arith, z.1))) p rest } }

  refused_at : {n : Numbered} → r ≡ stage.Bad n → (s : List ℕ) {m' : Mem} → Acts t s m c x m' (refused n.0 n.1 c)
  refused_at {n} d s =
      let k : stage_of x.said c ≡ stage.Bad n = sym e ∙ d in
      let z = bad_is c x.said (ap is_bad k) in
      record { acts = acts.bad (z ∙ ap (λ (g : Stage). Bad (refusal_in g)) k) }

  pub acts_bad : {n : Numbered} → r ≡ stage.Bad n → {k p : ℕ} → k ≡ n.0 → p ≡ n.1 → (s : List ℕ) {m' : Mem} → Acts t s m c x m' (refused k p c)
  acts_bad d a b s = rw (a, b) (refused_at d s)

pub ruleset act_laws = (ask_turn, acts_turned, acts_over, acts_bad)
