-- All records: from here it is as from the start.
-- Assumes nothing.
use Rattle.std.specs.Prelude.{◌≡◌, refl, ℕ, suc, ◌+◌, ◌-◌, ◌≤◌, ◌<◌, Bool, List, [], ◌++◌, length, replicate, None, Option, Some}
use Rattle.std.proofs.Math.Path.{sym, subst}
use Rattle.std.proofs.Common.{ap, ◌∙◌, arith}
use Rattle.std.proofs.Math.Bool.{true, false}
use borrow.Author.Tests.{le-leb, lt-leb}
use Rattle.number_writer.specs.Ended.{Ended, Fills}
use Rattle.number_writer.specs.Put.{Puts}
use Rattle.number_writer.specs.Written.{Written}
use Rattle.filling.specs.Filling.{FillingBy, filling_start, filling_count, filling_used}
use Rattle.filling.specs.Filling.{filling_stay, filling_behind, filling_turn}
use Rattle.step_ends.specs.declared.Names.{Names}
use Rattle.step_ends.specs.declared.Watch.{Watch}
use Rattle.step_ends.specs.Seen.{SeenFound}
use Rattle.step_ends.specs.Seen as seen
use Rattle.step_ends.specs.Steps.{Steps, done, see, last_step, on_seen, unseen, steps_from, step_ends}
use Rattle.step_ends.specs.Steps.Laws.{Ahead, see_ahead, once}
use Rattle.sessions.specs.declared.Bench.{Bench}
use Rattle.fragments.specs.declared.Progress.{Progress}
use Rattle.fragments.specs.Going.{Going}
use Rattle.std.proofs.Common.{Continue, Break}
use Rattle.fragments.specs.declared.Turn.{Turn}
use Rattle.sessions.specs.Places.Laws.{Most, empty_most}
use Rattle.fragment_records.specs.Output.{Out, bytes_of, held_of}
use Rattle.fragment_records.specs.Output.Laws.{bytes_append}
use Rattle.fragments.specs.Counting.{Does, went, stops, step_end, finished, on_does, runs, count_fragments}
use Rattle.fragments.specs.Counting.Laws.{After, step_most}
use Rattle.fragments.specs.Counting.Turn.{ended_at, Finishes, EndsBy, LastsBy, SteppingBy, Goes, TurnsBy, Turns}

-- ---- how far it has come

module _ (names : Names) (s values out₀ : List ℕ) where
  abbrev whole : Ended
  whole = count_fragments names s values (length out₀)

  -- the step ends that are left, behind the records so far
  pub record Rest (b : Bench) (p : Progress) (outs : List Out) : Type 0 where
    pub fuel : ℕ
    pub enough : length s ≤ p.read + fuel
    pub left : runs (length out₀) b outs p.before p.steps (steps_from names s values fuel p.watch p.read)
        ≡ whole

  pub record On (b : Bench) (p : Progress) (out : List ℕ) : Type 0 where
    pub filling : FillingBy bytes_of (Rest b p) out₀ p.count out
    pub goes : Goes s out b p

  abbrev ComesBy : Progress → List ℕ → Bench → Going → Type 0
  ComesBy p out b (Continue q) = On b q out × (p.read < q.read)
  ComesBy p out b (Break a) = Fills whole out₀ out a

  abbrev Comes : Progress → List ℕ → Turn → Type 0
  Comes p out r = ComesBy p out r.bench r.going

  over : (p : Progress) {out : List ℕ} (r : Turn) {a : Written} → r.going ≡ Break a → Fills whole out₀ out a
      → Comes p out r
  over p {out} r e f = subst (ComesBy p out r.bench) (sym e) f

  -- ---- the input's end

  -- what is held stands behind the records so far, or doesn't fit
  module _ (b : Bench) (read k : ℕ) {n : ℕ} {out : List ℕ}
      (o : FillingBy bytes_of (λ outs. finished (length out₀) b outs read k ≡ whole) out₀ n out) (out' : List ℕ) where
    held_by : (f : Option ℕ) → Puts out₀ 0 (bytes_of (o.held ++ held_of b)) out' f
        → Fills whole out₀ out' (ended_at k read f)
    unfolding finished
    held_by (Some j) h =
        let n = h.lies in
        let l = le-leb (length (bytes_of (o.held ++ held_of b))) (length out₀) (omega (arith, n.1, n.2)) in
        record { says = (bytes_of (o.held ++ held_of b), sym (rw l at o.left), n.0, omega (arith, n.1), n.2) }
    held_by None h =
        let l = lt-leb (length (bytes_of (o.held ++ held_of b))) (length out₀) (omega (arith, h.lies)) in
        record { says = sym (rw l at o.left) }

    held_fills : {a : Written} → Finishes out n b read k out' a → Fills whole out₀ out' a
    held_fills g = rw g.is (held_by g.field (rw bytes_append (filling_behind o g.put)))

  module _ (b : Bench) (p : Progress) (out : List ℕ) (o : On b p out) (out' : List ℕ) (r : Turn) where
    abbrev outs : List Out
    outs = o.filling.held

    abbrev Left : Steps → Type 0
    Left ends = runs (length out₀) b outs p.before p.steps ends ≡ whole

    -- a step's end, as the code and as the definition has it
    abbrev Ending : (room n next : ℕ) → Does
    Ending room n next = step_end room n p.before b p.watch p.read next

    same_step : (next : ℕ) → Ending (length out) p.count next ≡ Ending (length out₀) (length (bytes_of outs)) next
    same_step next =
        ap (λ m. Ending m p.count next) o.filling.long
        ∙ ap (λ n. Ending (length out₀) n next) (filling_count o.filling)

    -- .. and then the step ends that are left
    abbrev Then : Does → Steps → Type 0
    Then d rest =
        on_does (length out₀) d (λ c new. runs (length out₀) c (outs ++ new) p.watch (p.steps + 1) rest) ≡ whole

    -- the records so far, and new ones
    behind : {L : List Out → Type 0} (new : List Out) {out₁ : List ℕ} {c : ℕ}
        → Puts out p.count (bytes_of new) out₁ (Some c) → L (outs ++ new) → FillingBy bytes_of L out₀ c out₁
    behind new q l = filling_turn o.filling q refl (outs ++ new) (bytes_append outs new) l

    last_fills : (x : Bool) → Left (last_step x p.watch p.read) → (a : Written) → LastsBy x out b p out' a
        → Fills whole out₀ out' a
    unfolding last_step runs on_does
    last_fills false l a g = held_fills b p.read p.steps (filling_stay o.filling l) out' g
    last_fills true l a g =
        by (Ending (length out₀) (length (bytes_of outs)) p.read) l
        (subst (λ (d : Does). EndsBy d out p out' a) (same_step p.read) g)
      where
        by : (d : Does) → Then d (done p.read) → EndsBy d out p out' a → Fills whole out₀ out' a
        by (went c new) l g = held_fills c p.read (p.steps + 1) (behind new g.2 l) out' g.3
        by (stops m k) l g = rw g (record { says = sym l })

    -- ---- one record

    came_step : (f : ℕ) → length s ≤ p.read + suc f → (v : Watch) (j : ℕ)
        → (p.read < j) × (j ≤ length s) × (p.watch.begun ≡ true)
        → (d : Does) → Then d (steps_from names s values f v j)
        → After (λ c new. Most (p.steps + 1) c) d → SteppingBy d out p v j out' r → Comes p out' r
    unfolding on_does
    came_step f h v j a (went c new) l m g =
        let t = behind {L = Rest c _} new g.1 (record { fuel = f; enough = omega (arith, a.0); left = l }) in
        subst (Comes p out') (sym g.2) (
          record {
            filling = t;
            goes =
                record {
                  used = filling_used t;
                  few = omega (arith, o.goes.few, a.0);
                  begun = λ e. omega (arith, o.goes.begun a.2, a.0);
                  within = a.1;
                  small = m;
                };
          },
          a.0,
        )
    came_step f h v j a (stops n k) l m g = over p r g (record { says = sym l })

    came_by : (x : SeenFound) → Ahead s p.watch p.read x → (f : ℕ) → length s ≤ p.read + suc f
        → Left (on_seen p.watch p.read x (λ v j. steps_from names s values f v j)) → TurnsBy x out b p out' r
        → Comes p out' r
    unfolding on_seen runs
    came_by (seen.More v j) a f h l g =
        subst (Comes p out') (sym g.1) (
          record {
            filling =
                rw g.0 (filling_stay o.filling (record { fuel = f; enough = omega (arith, a.0); left = l }));
            goes =
                record {
                  used = rw g.0 o.goes.used;
                  few = omega (arith, o.goes.few, a.0);
                  begun = λ e. omega (arith, o.goes.few, a.0);
                  within = a.1;
                  small = o.goes.small;
                };
          },
          a.0,
        )
    came_by (seen.Step v j) a f h l g =
        came_step f h v j a (Ending (length out₀) (length (bytes_of outs)) j) l
        (step_most (length out₀) (length (bytes_of outs)) p.before b p.watch p.read j p.steps
        o.goes.small)
        (subst (λ (d : Does). SteppingBy d out p v j out' r) (same_step j) g.steps)
    came_by seen.End a f h l g = over p r g.2 (last_fills p.watch.begun l g.0 g.1.lasts)
    came_by (seen.Bad n k) a f h l g = over p r g (record { says = sym l })

    came : Turns names s values out b p out' r → Comes p out' r
    came t =
        let l = o.filling.left in
        let w = once names s values p.watch p.read l.fuel l.enough in
        came_by (see names s values p.watch p.read) (see_ahead names s values p.watch p.read) w.0 w.1
        (rw w.2 at l.left) t.turns

pub on_start : (names : Names) (s values out : List ℕ)
    → On names s values out (record { sessions = replicate 32 0; counts = replicate 32 0 }) (record { watch = unseen; before = unseen; read = 0; count = 0; steps = 0 }) out
unfolding count_fragments step_ends bytes_of
on_start names s values out =
    record {
      filling = filling_start out [] refl (record { fuel = length s; enough = omega arith; left = refl });
      goes = record { used = omega arith; few = omega arith; begun = λ e. absurd (let z : ◌≡◌ {A = ℕ} 0 1 = cc in omega arith); within = omega arith; small = empty_most };
    }

module _ {names : Names} {s values out₀ : List ℕ} {b : Bench} {p : Progress} {out : List ℕ} (o : On names s values out₀ b p out) where
  pub on_goes : Goes s out b p
  on_goes = o.goes

  module _ {out' : List ℕ} {r : Turn} (t : Turns names s values out b p out' r) where
    came_here : ComesBy names s values out₀ p out' r.bench r.going
    came_here = came names s values out₀ b p out o out' r t

    pub on_more : {q : Progress} → r.going ≡ Continue q → On names s values out₀ r.bench q out'
    on_more e = (subst (ComesBy names s values out₀ p out' r.bench) e came_here).0

    pub on_less : {q : Progress} → r.going ≡ Continue q → length s - q.read < length s - p.read
    on_less e = let c = subst (ComesBy names s values out₀ p out' r.bench) e came_here in omega (arith, c.1, c.0.goes.within)

    pub on_over : {a : Written} → r.going ≡ Break a → Fills (count_fragments names s values (length out₀)) out₀ out' a
    on_over e = subst (ComesBy names s values out₀ p out' r.bench) e came_here

pub ruleset loop_laws = (on_start, on_goes, on_more, on_less, on_over)
