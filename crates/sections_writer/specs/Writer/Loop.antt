-- One record, and all of them: from here it is as from the start.
-- Assumes nothing.
use Rattle.std.specs.Prelude.{◌≡◌, ℕ, ◌-◌, ◌≤◌, ◌<◌, Bool, List, [], ◌∷◌, length, get_or, ltb}
use Rattle.std.proofs.Math.Path.{refl}
use Rattle.std.proofs.Common.{sym, subst, ◌∙◌, arith}
use Rattle.slices.specs.Choice.{cond_ind}
use Rattle.number_writer.specs.Ended.{Ended, Fills}
use Rattle.filling.specs.Filling.{Filling, filling_start, filling_used}
use Rattle.filling.specs.Filling.Steps.{Step}
use Rattle.filling.specs.Filling.Fuel.{Ahead, on_step, Stepwise, Reading, reading_start, reading_turn}
use Rattle.tables.specs.Lists.{Lists, nth, signals}
use Rattle.changes.specs.Changes.{next_change}
use Rattle.changes.specs.Changes.Record.{of_kinds, nth_is}
use Rattle.changes.specs.Changes.Found.{Found, change_found}
use Rattle.changes.specs.Change.{ChangeFound}
use Rattle.changes.specs.Change as change
use Rattle.sections_writer.specs.declared.Pen.{Pen}
use Rattle.sections_writer.specs.declared.Progress.{Progress}
use Rattle.sections_writer.specs.Going.{Turn}
use Rattle.std.proofs.Common.{Continue, Break}
use Rattle.number_writer.specs.Written.{Written, Refused}
use Rattle.sections_writer.specs.Writer.{begin, time_good, stepped, closing, one, writing, write_sections}
use Rattle.sections_writer.specs.Writer.{Given, goes, ends, stops, given_time, given_write, given}
use Rattle.sections_writer.specs.Writer.Turn.{EndsIn, IdOf, step_of, going, Does}

-- ---- one record

pub kind_is : (kinds : List ℕ) (id : ℕ) → 1 ≤ id → get_or kinds (id - 1) 0 ≡ nth kinds id
kind_is kinds id h = nth_is kinds id h

module _ (kinds s : List ℕ) (p : Progress) {c : ChangeFound} (e : c ≡ next_change (of_kinds kinds) s p.pen.inside p.read) where
  found : {x : ChangeFound} → c ≡ x → Found (of_kinds kinds) s p.read x
  found d = change_found (of_kinds kinds) s p.read p.pen.inside e d

  module _ (flag : Bool) {out out' : List ℕ} {r : Turn} where
    says : {x : ChangeFound} → c ≡ x → Does out p (given (of_kinds kinds) flag s p.pen p.read x) out' r
        → Does out p (given (of_kinds kinds) flag s p.pen p.read (next_change (of_kinds kinds) s p.pen.inside p.read)) out' r
    says d w = rw (sym e ∙ d) w

    pub says_time : {u j : ℕ} → c ≡ change.Time u j → Does out p (given_time flag p.pen p.read u j) out' r
        → Does out p (given (of_kinds kinds) flag s p.pen p.read (next_change (of_kinds kinds) s p.pen.inside p.read)) out' r
    unfolding given
    says_time d w = says d w

    pub says_write : {id v j : ℕ} → c ≡ change.Write id v j → {k : ℕ} → k ≡ nth kinds id → Does out p (given_write s p.pen p.read k id v j) out' r
        → Does out p (given (of_kinds kinds) flag s p.pen p.read (next_change (of_kinds kinds) s p.pen.inside p.read)) out' r
    unfolding given
    says_write d f w = says d (rw f at w)

    pub says_step : {j : ℕ} → c ≡ change.StepEnd j → Does out p (goes (0 ∷ []) (stepped p.pen) j) out' r
        → Does out p (given (of_kinds kinds) flag s p.pen p.read (next_change (of_kinds kinds) s p.pen.inside p.read)) out' r
    unfolding given
    says_step d w = says d w

    pub says_end : {j : ℕ} → c ≡ change.End j → Does out p (ends (closing p.pen) j) out' r
        → Does out p (given (of_kinds kinds) flag s p.pen p.read (next_change (of_kinds kinds) s p.pen.inside p.read)) out' r
    unfolding given
    says_end d w = says d w

  pub says_bad : (flag : Bool) {out : List ℕ} {n q : ℕ} → c ≡ change.Bad n q
      → Does out p (given (of_kinds kinds) flag s p.pen p.read (next_change (of_kinds kinds) s p.pen.inside p.read)) out (Break (Refused n q))
  unfolding given
  says_bad flag d = says flag d (record { does = refl })

  pub steps_below : {u j : ℕ} → c ≡ change.Time u j → p.pen.steps ≤ p.read → p.pen.steps < j
  steps_below d h = let f = found d in omega (arith, f.0)

module _ (kinds s : List ℕ) (inside : Bool) (i : ℕ) {c : ChangeFound} (e : c ≡ next_change (of_kinds kinds) s inside i) {id v j : ℕ} (d : c ≡ change.Write id v j) where
  pub write_ends : EndsIn s j
  write_ends = let f = change_found (of_kinds kinds) s i inside e d in record { some = omega (arith, f.0); inside = f.1 }

  pub write_id : IdOf kinds id
  unfolding signals
  write_id = let f = change_found (of_kinds kinds) s i inside e d in record { low = f.2; high = f.3 }

pub ruleset record_laws = (kind_is, says_time, says_write, says_step, says_end, says_bad, steps_below, write_ends, write_id)

-- ---- the definition goes by what the records give

-- a record opens one step at most
abbrev Few : Pen → ℕ → Type 0
Few p i = p.steps ≤ i

module _ (t : Lists) (flag : Bool) (s : List ℕ) where
  abbrev step_at : Pen → ℕ → Step Pen
  step_at p i = step_of p (given t flag s p i (next_change t s p.inside i))

  module _ (p : Pen) (i : ℕ) (h : Few p i) where
    abbrev AheadOf : Given → Type 0
    AheadOf g = Ahead Few s i (step_of p g)

    given_ahead : (c : ChangeFound) → Found t s i c → AheadOf (given t flag s p i c)
    unfolding given given_time given_write
    given_ahead (change.Time u j) f =
        cond_ind (time_good p u) _ _ AheadOf (λ e. (f.0, f.1, omega (arith, f.0))) (λ e. tt)
    given_ahead (change.Write id v j) f =
        cond_ind (ltb p.id id) _ _ AheadOf (λ e. (f.0, f.1, omega (arith, f.0))) (λ e. tt)
    given_ahead (change.StepEnd j) f = (f.0, f.1, omega (arith, f.0))
    given_ahead (change.End j) f = tt
    given_ahead (change.Bad n q) f = tt

  module _ (room : ℕ) where
    one_is : (p : Pen) (held : List ℕ) (g : Given) (more : Pen → List ℕ → ℕ → Ended)
        → one t flag s room p held g more ≡ on_step (λ e. e) room held (step_of p g) more
    unfolding one on_step
    one_is p held (goes bs q j) more = refl
    one_is p held (ends bs j) more = refl
    one_is p held (stops n q) more = refl

    stepwise : Stepwise Few (writing t flag s room) s (λ e. e) step_at room
    unfolding writing
    stepwise =
        record {
          ahead = λ p i h. given_ahead p i h _ (change_found t s i p.inside refl refl);
          once = λ fuel p held i l. one_is p held _ _;
          last = λ p held i h l. (_, one_is p held _ _);
        }

-- ---- how far it has come

abbrev Here : Lists → Bool → (s out₀ : List ℕ) → Progress → List ℕ → Type 0
Here t flag s out₀ p =
    Reading Few (writing t flag s (length out₀)) s (write_sections t flag s (length out₀)) p.pen p.read

pub record On (t : Lists) (flag : Bool) (s out₀ : List ℕ) (p : Progress) (out : List ℕ) : Type 0 where
  pub filling : Filling (Here t flag s out₀ p) out₀ p.count out

abbrev Comes : Lists → Bool → (s out₀ : List ℕ) → Progress → List ℕ → Turn → Type 0
Comes t flag s out₀ p out (Continue q) = On t flag s out₀ q out × (length s - q.read < length s - p.read)
Comes t flag s out₀ p out (Break a) = Fills (write_sections t flag s (length out₀)) out₀ out a

pub on_start : (t : Lists) (flag : Bool) (s out : List ℕ)
    → On t flag s out (record { pen = begin; read = 0; count = 0 }) out
unfolding write_sections
on_start t flag s out = record { filling = filling_start out [] refl (reading_start (omega arith)) }

module _ {t : Lists} {flag : Bool} {s out₀ : List ℕ} {p : Progress} {out : List ℕ} (o : On t flag s out₀ p out) where
  pub on_asks : (p.pen.steps ≤ p.read) × (p.count ≤ length out)
  on_asks = (o.filling.left.good, filling_used o.filling)

  module _ {out' : List ℕ} {r : Turn} (d : Does out p (given t flag s p.pen p.read (next_change t s p.pen.inside p.read)) out' r) where
    came : Comes t flag s out₀ p out' r
    came =
        reading_turn (stepwise t flag s (length out₀)) o.filling going Break (Comes t flag s out₀ p out')
        (λ q j c f l. (record { filling = f }, l)) (λ e a w f. rw w f) r d.does

    pub on_more : {q : Progress} → r ≡ Continue q → On t flag s out₀ q out'
    on_more e = (subst (Comes t flag s out₀ p out') e came).0

    pub on_less : {q : Progress} → r ≡ Continue q → length s - q.read < length s - p.read
    on_less e = (subst (Comes t flag s out₀ p out') e came).1

    pub on_over : {a : Written} → r ≡ Break a → Fills (write_sections t flag s (length out₀)) out₀ out' a
    on_over e = subst (Comes t flag s out₀ p out') e came

abbrev pub OnKinds : (kinds : List ℕ) → Bool → (s out₀ : List ℕ) → Progress → List ℕ → Type 0
OnKinds kinds flag s out₀ p out = On (of_kinds kinds) flag s out₀ p out

pub ruleset loop_laws = (on_start, on_asks, on_more, on_less, on_over)
