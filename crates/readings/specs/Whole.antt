-- All sections: the loop over what stands between steps.
-- Assumes nothing.
use Rattle.refusals.specs.Numbers.{Numbered}
use Rattle.std.specs.Prelude.{ℕ, ◌<◌, ◌≡◌, refl, false, List}
use Rattle.std.proofs.Common.{sym, subst, ◌∙◌, arith}
use Rattle.std.proofs.Math.Path.{ap}
use Rattle.slices.specs.Choice.{cond_ind}
use Rattle.tables.specs.Lists.{Lists}
use Rattle.rules.specs.Gather.{time}
use Rattle.gather.specs.declared.Gathered.{Gathered}
use Rattle.gather.specs.declared.Part.{Part}
use Rattle.gather.specs.declared.Part.TheVariants as part
use Rattle.rules.specs.Scan.{Scan, say, done, fault}
use Rattle.gather.specs.Run.{run}
use Rattle.gather.specs.Memory.{Mem, Sized, sized_self}
use Rattle.gather.specs.Follows.{Asks, Runs}
use Rattle.section_scan.specs.Sections.{scan_sections}
use Rattle.values.specs.declared.How.{How}
use Rattle.section_heads.specs.declared.Phase.{Phase}
use Rattle.section_heads.specs.declared.Phase.TheVariants.{Mark, Closing, Between}
use Rattle.section_heads.specs.declared.Stand.{Stand}
use Rattle.section_heads.specs.declared.Said.{Said}
use Rattle.section_heads.specs.declared.Said.TheVariants.{Nothing, Time, Over, Bad}
use Rattle.section_heads.specs.declared.Item.{Item}
use Rattle.section_heads.specs.Heads.{standing}
use Rattle.sections.specs.Item.{is_each, in_values, after_values, head_item}
use Rattle.sections.specs.Item.Scans.{say_of, rank, to_read, Left, GoesOn, FollowsBy, left_all}
use Rattle.item_turns.specs.Leads.{Leads, leads_self, leads_then, leads_quits}
use Rattle.item_acts.specs.Moves.{Says}
use Rattle.value_readings.specs.Values.{ValuesAsk, behind_of, EndsBy}
use Rattle.readings.specs.Heads.{HeadBy, IsHead, head_says, head_follows}
use Rattle.readings.specs.Step.{Opened}

-- what is left from here is what was left from the first section on
pub record OnSections (t : Lists) (how : How) (s : List ℕ) (m₀ : Mem) (c₀ : Gathered) (m : Mem) (c : Gathered) (x : Stand) (i : ℕ) : Type 0 where
  pub asks : Asks t m c
  pub sized : Sized m₀ m
  pub heads : in_values x.phase ≡ false
  pub rest : Scan
  pub here : Left t how s x i rest
  pub leads : Leads t m₀ c₀ (scan_sections t how s) m c rest

pub sections_start : {t : Lists} {m : Mem} {c : Gathered} → Asks t m c → (how : How) (s : List ℕ) {x : Stand} → x ≡ standing Mark 0 0 → OnSections t how s m c m c x 0
sections_start {t} q how s e = rw e (record { asks = q; sized = sized_self; heads = refl; rest = scan_sections t how s; here = left_all t how s; leads = leads_self })

after_head : (p : Phase) → in_values (after_values p) ≡ false
unfolding after_values
after_head p = cond_ind (is_each p) Closing Between (λ (q : Phase). in_values q ≡ false) (λ z. refl) (λ z. refl)

module _ {t : Lists} {how : How} {s : List ℕ} {m₀ : Mem} {c₀ : Gathered} {m : Mem} {c : Gathered} {x : Stand} {i : ℕ} (o : OnSections t how s m₀ c₀ m c x i) where
  pub sections_sized : Sized m₀ m
  sections_sized = o.sized

  abbrev whole : Scan
  whole = scan_sections t how s

  module _ {y : Item} (e : y ≡ head_item how s x i) where
    follows : (a : Said) → y.said ≡ a → FollowsBy t how s (rank x.phase) i o.rest y.at y.then a
    follows a d = subst (FollowsBy t how s (rank x.phase) i o.rest y.at y.then) d (subst (λ (z : Item). FollowsBy t how s (rank x.phase) i o.rest z.at z.then z.said) (sym e) (head_follows o.here o.heads))

    says : (a : Said) → y.said ≡ a → HeadBy a y.then
    says a d = subst (λ (b : Said). HeadBy b y.then) d (subst IsHead (sym e) (head_says how s x i))

    -- "the tailer ends the reading"
    pub sections_over : y.said ≡ Over → Runs t m₀ m c₀ (part.Went y.at c) (scan_sections t how s)
    unfolding run
    sections_over d =
        record {
          runs = λ r g p h.
              let z = o.leads.leads r g p h in
              let w : o.rest ≡ done y.at = follows Over d in (z.0, z.1, z.3 ∙ rw w, z.2);
        }

    sections_refused : {n : Numbered} → y.said ≡ Bad n → Runs t m₀ m c₀ (part.Out n.0 n.1) (scan_sections t how s)
    unfolding run
    sections_refused {n} d =
        record {
          runs = λ r g p h.
              let z = o.leads.leads r g p h in
              let w : o.rest ≡ fault n.0 n.1 = follows (Bad n) d in z.3 ∙ rw w;
        }

    pub sections_bad : {n : Numbered} → y.said ≡ Bad n → {k p : ℕ} → k ≡ n.0 → p ≡ n.1 → Runs t m₀ m c₀ (part.Out k p) (scan_sections t how s)
    sections_bad d a b = rw (a, b) (sections_refused d)

    -- nothing is said
    module _ (d : y.said ≡ Nothing) where
      on : GoesOn t how s (rank x.phase) i o.rest y.at Nothing y.then
      on = follows Nothing d

      pub sections_past : OnSections t how s m₀ c₀ m c y.then y.at
      unfolding say_of
      sections_past = record { asks = o.asks; sized = o.sized; heads = says Nothing d; rest = on.rest; here = on.left; leads = rw (← on.scans) o.leads }

      pub past_less : to_read s y.then y.at < to_read s x i
      unfolding to_read
      past_less = on.less

    -- a step
    module _ {u : ℕ} (d : y.said ≡ Time u) where
      begins : GoesOn t how s (rank x.phase) i o.rest y.at (Time u) y.then
      begins = follows (Time u) d

      time_is : y.then.time ≡ u
      time_is = (says (Time u) d).2

      scans : o.rest ≡ say (time y.then.time) y.at begins.rest
      unfolding say_of
      scans = begins.scans ∙ ap (λ (n : ℕ). say (time n) y.at begins.rest) (sym time_is)

      begun_less : to_read s y.then y.at < to_read s x i
      unfolding to_read
      begun_less = begins.less

      pub sections_ask : ValuesAsk t s m c y
      sections_ask = record { asks = o.asks; values = (says (Time u) d).0; first = (says (Time u) d).1; inside = begins.left.inside }

      module _ {m' : Mem} {r : Part} (f : Opened t how s m c y m' r) where
        said : Says (time y.then.time) y.at (Left t how s y.then y.at) o.rest
        said = record { rest = begins.rest; scans = scans; left = begins.left }

        pub sections_out : {n p : ℕ} → r ≡ part.Out n p → Runs t m₀ m' c₀ (part.Out n p) (scan_sections t how s)
        sections_out {n} {p} z =
            let k = leads_quits o.leads ((rw z at f.ends).refuses o.rest said) in
            record { runs = λ r g p h. k.quits r g p h }

        module _ {j : ℕ} {k : Gathered} (z : r ≡ part.Went j k) where
          ends : EndsBy t how s (Says (time y.then.time) y.at) m c y m' (part.Went j k)
          ends = rw z at f.ends

          pub sections_on : Sized m m' → {x' : Stand} → x' ≡ behind_of y → OnSections t how s m₀ c₀ m' k x' j
          sections_on l w =
              let v = ends.2.moves o.rest said in
              let n = v.2.leads o.asks.rooms o.asks.state o.asks.output o.asks.holds in
              rw w
              (record {
                asks = record { tabled = o.asks.tabled; rooms = o.asks.rooms; state = n.0; output = n.1; holds = n.2; begun = ends.0 };
                sized = record { room = l.room ∙ o.sized.room; list = l.list ∙ o.sized.list; events = l.events ∙ o.sized.events; values = l.values ∙ o.sized.values };
                heads = after_head y.then.phase;
                rest = v.0;
                here = v.1;
                leads = leads_then o.leads v.2;
              })

          pub sections_less : {x' : Stand} → x' ≡ behind_of y → to_read s x' j < to_read s x i
          sections_less w = rw w (omega (arith, ends.1, begun_less))

pub ruleset sections_laws = (sections_start, sections_sized, sections_over, sections_bad, sections_past, past_less, sections_ask, sections_out, sections_on, sections_less)
