-- A reading goes as one without the bits of reals: the same place or refusal, the same value bytes, as many event bytes.
-- Assumes nothing.
use Rattle.std.specs.Prelude.{ℕ, ◌+◌, ◌≡◌, Bool, cond, ◌&&◌, length, leb}
use Rattle.std.proofs.Math.Path.{refl, sym, ap, subst}
use Rattle.std.proofs.Common.{◌∙◌}
use Rattle.std.proofs.Math.Bool.{true, false}
use Rattle.std.proofs.Math.Option.{Option, none, some}
use mathlib.Core.List.{List, [], ◌∷◌, ◌++◌, map}
use Rattle.std.proofs.Math.ListN.{length-append}
use Rattle.tables.specs.Lists.{Lists}
use Rattle.rules.specs.Vector.{acts_early}
use Rattle.rules.specs.Gather.{Act, State, does, begin}
use Rattle.records.specs.Event as event
use Rattle.records.specs.Event.{Event, record_bytes, record_of, event_value, event_steps}
use Rattle.records.specs.Event.Laws.{length_real}
use Rattle.event_rooms.specs.Out.{Rooms, Out, empty, fits, appended, append, append_all}
use Rattle.rules.specs.Scan.{Scan, say, done, fault}
use Rattle.gather.specs.Run.{gathers, events_of, Went, went, out, fitted, acted, after, run, run_all}
use Rattle.section_scan.specs.Sections.Manners.{blank_act, blank}
use Rattle.real_modes.specs.Blank.{blank_event, blank_happening, events_blank, unvalued, RealsAlone, does_blank}

-- ---- what has been written

pub record Alike (o o' : Out) : Type 0 where
  pub events : length o.events ≡ length o'.events
  pub values : o.values ≡ o'.values
  pub steps : o.steps ≡ o'.steps

abbrev AlikeFit : Option Out → Option Out → Type 0
AlikeFit none none = Unit {0}
AlikeFit none (some o') = ⊥
AlikeFit (some o) none = ⊥
AlikeFit (some o) (some o') = Alike o o'

record_long : (start : ℕ) (e : Event) → length (record_bytes (record_of start (blank_event e))) ≡ length (record_bytes (record_of start e))
unfolding record_of blank_event
record_long start (event.time u) = refl
record_long start (event.value v s reference bs) = refl
record_long start (event.real reference bits) = length_real reference 0 ∙ sym (length_real reference bits)

value_same : (e : Event) → event_value (blank_event e) ≡ event_value e
unfolding event_value blank_event
value_same (event.time u) = refl
value_same (event.value v s reference bs) = refl
value_same (event.real reference bits) = refl

steps_same : (e : Event) → event_steps (blank_event e) ≡ event_steps e
unfolding event_steps blank_event
steps_same (event.time u) = refl
steps_same (event.value v s reference bs) = refl
steps_same (event.real reference bits) = refl

module _ (r : Rooms) where
  module _ (o o' : Out) (a : Alike o o') (e : Event) where
    fits_same : fits r o e ≡ fits r o' (blank_event e)
    unfolding fits
    fits_same = rw (a.events, a.values, record_long 0 e, value_same e)

    appended_alike : Alike (appended r o e) (appended r o' (blank_event e))
    unfolding appended
    appended_alike =
        record {
          events = rw (length-append, length-append, a.events, a.values, record_long (length o'.values) e);
          values = rw (a.values, value_same e);
          steps = rw (a.steps, steps_same e);
        }

    append_alike : AlikeFit (append r o e) (append r o' (blank_event e))
    unfolding append
    append_alike = rw (← fits_same) (by (fits r o e))
      where
        by : (b : Bool) → AlikeFit (cond b (some (appended r o e)) none) (cond b (some (appended r o' (blank_event e))) none)
        by true = appended_alike
        by false = tt

  all_alike : (es : List Event) (x x' : Option Out) → AlikeFit x x' → AlikeFit (append_all r es x) (append_all r (map blank_event es) x')
  unfolding append_all
  all_alike [] x x' a = a
  all_alike (e ∷ es) none none a = tt
  all_alike (e ∷ es) none (some o') a = absurd a
  all_alike (e ∷ es) (some o) none a = absurd a
  all_alike (e ∷ es) (some o) (some o') a = all_alike es (append r o e) (append r o' (blank_event e)) (append_alike o o' a e)

-- ---- a run

abbrev pub AlikeWent : Went → Went → Type 0
AlikeWent (went i g o) (went i' g' o') = (i ≡ i') × Alike o o'
AlikeWent (went i g o) (out n p) = ⊥
AlikeWent (out n p) (went i g o) = ⊥
AlikeWent (out n p) (out n' p') = (n ≡ n') × (p ≡ p')

module _ (t : Lists) (r : Rooms) (alone : RealsAlone t) where
  acted_alike : (g : State) (o o' : Out) (a : Act) → Alike o o' → AlikeFit (acted t r g o a) (acted t r g o' (blank_act (unvalued t) a))
  unfolding acted
  acted_alike g o o' a h =
      let e : map blank_event (events_of t (does acts_early (gathers t) g a).0) ≡ events_of t (does acts_early (gathers t) g (blank_act (unvalued t) a)).0 =
      sym (events_blank t (does acts_early (gathers t) g a).0) ∙ ap (events_of t) (does_blank t g alone a).0 in
      subst (λ (es : List Event). AlikeFit (append_all r (events_of t (does acts_early (gathers t) g a).0) (some o)) (append_all r es (some o'))) e
      (all_alike r (events_of t (does acts_early (gathers t) g a).0) (some o) (some o') h)

  after_same : (g : State) (a : Act) → after t r g a ≡ after t r g (blank_act (unvalued t) a)
  unfolding after
  after_same g a = (does_blank t g alone a).1

  run_alike : (sc : Scan) (g : State) (o o' : Out) → Alike o o' → AlikeWent (run t r sc g o) (run t r (blank (unvalued t) sc) g o')
  unfolding run blank fitted
  run_alike (say a p rest) g o o' h =
      subst (λ (k : State). AlikeWent (fitted p (acted t r g o a) out (λ q. run t r rest (after t r g a) q)) (fitted p (acted t r g o' (blank_act (unvalued t) a)) out (λ q. run t r (blank (unvalued t) rest) k q)))
      (after_same g a)
      (go (acted t r g o a) (acted t r g o' (blank_act (unvalued t) a)) (acted_alike g o o' a h) (λ q q' f. run_alike rest (after t r g a) q q' f))
    where
      go : (x x' : Option Out) → AlikeFit x x'
          → ((q q' : Out) → Alike q q' → AlikeWent (run t r rest (after t r g a) q) (run t r (blank (unvalued t) rest) (after t r g a) q'))
          → AlikeWent (fitted p x out (λ q. run t r rest (after t r g a) q)) (fitted p x' out (λ q. run t r (blank (unvalued t) rest) (after t r g a) q))
      go none none f rec = (refl, refl)
      go none (some q') f rec = absurd f
      go (some q) none f rec = absurd f
      go (some q) (some q') f rec = rec q q' f
  run_alike (done i) g o o' h = (refl, h)
  run_alike (fault n p) g o o' h = (refl, refl)

  pub run_blank : (sc : Scan) → AlikeWent (run_all t r sc) (run_all t r (blank (unvalued t) sc))
  unfolding run_all
  run_blank sc = run_alike sc (begin (gathers t)) empty empty (record { events = refl; values = refl; steps = refl })
