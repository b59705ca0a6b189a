-- One item, and all of them: from here it is as from the start.
-- Assumes nothing.
use Rattle.std.specs.Prelude.{Err}
use Rattle.refusals.specs.Numbers.{Numbered}
use Rattle.std.specs.Prelude.{◌≡◌, refl, ℕ, ◌+◌, ◌≤◌, ◌<◌, Bool, false, List, [], ◌++◌, length, Some}
use Rattle.std.proofs.Math.Path.{sym}
use Rattle.std.proofs.Common.{ap, subst, ◌∙◌, append-nil, arith, le-leb}
use Rattle.std.proofs.Math.Nat.{add-zero}
use Rattle.std.proofs.lemmas.Bool.{lt-leb}
use Rattle.number_writer.specs.Ended.{Ended, refused, Fills}
use Rattle.filling.specs.Filling.{Filling, puts_none, filling_start, filling_used, filling_inside}
use Rattle.filling.specs.Filling.Steps.{Step, Takes, filling_step}
use Rattle.tables.specs.Lists.{Lists}
use Rattle.rules.specs.Scan.{Scan}
use Rattle.values.specs.Value.{ordinary}
use Rattle.section_scan.specs.Sections.{with_kinds, scan_sections}
use Rattle.section_heads.specs.Heads.{standing}
use Rattle.values.specs.declared.How.{How}
use Rattle.section_heads.specs.declared.Phase.TheVariants.{Mark}
use Rattle.section_heads.specs.declared.Stand.{Stand}
use Rattle.section_heads.specs.declared.Said.{Said}
use Rattle.section_heads.specs.declared.Said.TheVariants.{Nothing, Time, Write, StepEnd, Over, Bad}
use Rattle.section_heads.specs.declared.Item.{Item}
use Rattle.sections.specs.Item.{next_item}
use Rattle.sections.specs.Item.Code.{Stands, Stood}
use Rattle.sections.specs.Item.Scans.{say_of, rank, said_times, ends, to_read, scan_from, Left, GoesOn, FollowsBy, Follows, follows_on, item_follows, left_all, left_some}
use Rattle.read_back.specs.declared.Progress.{Progress}
use Rattle.read_back.specs.Going.{Turn}
use Rattle.std.proofs.Common.{Continue, Break}
use Rattle.number_writer.specs.Written.{Written, Done, Refused}
use Rattle.read_back.specs.ReadBack.{record_of, times, giving, read_back}
use Rattle.read_back.specs.ReadBack.Turn.{said_bytes, Sounds, Counts, Does}
use Rattle.read_back.specs.ReadBack.Turn.{going, taking, step_by, step_of, step_taking}

-- ---- one item

-- a reading that stands within its input, and its room within what is lent
pub record Ready (kinds s : List ℕ) (p : Progress) (out : List ℕ) : Type 0 where
  pub stood : Stood kinds p.mode
  pub within : p.read ≤ length s
  pub used : p.count ≤ length out
  pub few : p.steps ≤ p.read

module _ {kinds s : List ℕ} {p : Progress} {out : List ℕ} (w : Ready kinds s p out) where
  pub ready_stands : Stands kinds p.mode
  ready_stands = record { stood = w.stood }

  module _ (how : How) (x : Item) (e : x ≡ next_item kinds how s p.mode p.read) (d : ends x.said ≡ false) where
    goes : GoesOn (with_kinds kinds) how s (rank p.mode.phase) p.read (scan_from (with_kinds kinds) how s (length s) (length s) (length s) p.mode.phase p.mode.id p.mode.time p.read) x.at x.said x.then
    goes =
        follows_on (with_kinds kinds) how s x.said d
        (subst (Follows (with_kinds kinds) how s (rank p.mode.phase) p.read (scan_from (with_kinds kinds) how s (length s) (length s) (length s) p.mode.phase p.mode.id p.mode.time p.read)) (sym e)
        (item_follows (with_kinds kinds) how s p.mode p.read (left_some (with_kinds kinds) how s p.mode p.read w.within w.stood)))

    pub ready_sounds : Sounds kinds x.said
    ready_sounds = record { sound = goes.sound }

    pub ready_counts : Counts p x.said x.at
    ready_counts = record { few = omega (arith, goes.ahead, w.few); more = omega (arith, goes.ahead, w.few) }

abbrev pub step_at : List ℕ → How → List ℕ → Progress → Step (Stand × ℕ)
step_at kinds how s p = step_of kinds p.steps (next_item kinds how s p.mode p.read)

module _ (kinds : List ℕ) (how : How) (s out : List ℕ) (p : Progress) (x : Item)
    (e : x ≡ next_item kinds how s p.mode p.read) where
  pub says_goes : ends x.said ≡ false → {out' : List ℕ} {r : Turn}
      → Does out p (taking kinds p.steps x.at x.said x.then) out' r
      → Does out p (step_at kinds how s p) out' r
  says_goes d w = rw (← e, step_taking kinds p.steps x.at x.then x.said d) w

  pub says_over : x.said ≡ Over → p.count ≤ length out
      → Does out p (step_at kinds how s p) out (Break (Done x.at p.count p.steps))
  says_over d h = rw (← e, d) (record { does = (Some p.count, puts_none out p.count h, refl) })

  pub says_bad : {n : Numbered} → x.said ≡ Bad n → Does out p (step_at kinds how s p) out (Break (Err n))
  says_bad d = rw (← e, d) (record { does = refl })

-- ---- what is said is given, where it fits

module _ (t : Lists) (room : ℕ) (p j : ℕ) (rest : Scan) (held : List ℕ) (n : ℕ) where
  gives_on : (a : Said) → length held + length (said_bytes t.kinds a) ≤ room
      → giving t room (say_of a p j rest) held n ≡ giving t room rest (held ++ said_bytes t.kinds a) (n + said_times a)
  unfolding giving say_of said_bytes said_times record_of times
  gives_on Nothing h = rw (append-nil held, add-zero n)
  gives_on (Time u) h = rw (le-leb _ room h)
  gives_on (Write v id) h = rw (le-leb _ room h)
  gives_on StepEnd h = rw (le-leb _ room h)
  gives_on Over h = rw (append-nil held, add-zero n)
  gives_on (Bad k) h = rw (append-nil held, add-zero n)

  gives_full : (a : Said) → length held ≤ room → room < length held + length (said_bytes t.kinds a) → giving t room (say_of a p j rest) held n ≡ refused 16 j
  unfolding giving say_of said_bytes record_of
  gives_full Nothing l h = absurd (omega arith)
  gives_full (Time u) l h = rw (lt-leb _ room h)
  gives_full (Write v id) l h = rw (lt-leb _ room h)
  gives_full StepEnd l h = rw (lt-leb _ room h)
  gives_full Over l h = absurd (omega arith)
  gives_full (Bad k) l h = absurd (omega arith)

-- ---- how far it has come

abbrev pub left_over : List ℕ → Progress → ℕ
left_over s p = to_read s p.mode p.read

module _ (kinds : List ℕ) (how : How) (s out₀ : List ℕ) where
  abbrev t : Lists
  t = with_kinds kinds

  abbrev whole : Ended
  whole = giving t (length out₀) (scan_sections t how s) [] 0

  -- what is left to say, from a place and after so many steps
  pub record Rest (x : Stand × ℕ) (i : ℕ) (held : List ℕ) : Type 0 where
    pub rest : Scan
    pub here : Left t how s x.0 i rest
    pub left : giving t (length out₀) rest held x.1 ≡ whole
    pub few : x.1 ≤ i

  pub record On (p : Progress) (out : List ℕ) : Type 0 where
    pub filling : Filling (Rest (p.mode, p.steps) p.read) out₀ p.count out

  abbrev Comes : Progress → List ℕ → Turn → Type 0
  Comes p out (Continue q) = On q out × (left_over s q < left_over s p)
  Comes p out (Break a) = Fills whole out₀ out a

  -- by an item, where what is held fits
  module _ (x : Stand) (k i : ℕ) (held : List ℕ) (w : Rest (x, k) i held) (h : length held ≤ length out₀) where
    scanned : {sc : Scan} → w.rest ≡ sc → whole ≡ giving t (length out₀) sc held k
    scanned e = sym w.left ∙ ap (λ sc. giving t (length out₀) sc held k) e

    abbrev TakesIt : Step (Stand × ℕ) → Type 0
    TakesIt g = Takes (λ e. e) whole Rest (λ y j. to_read s y.0 j) (length out₀) held (to_read s x i) g

    takes_on : (a : Said) (m : Stand) (j : ℕ) → GoesOn t how s (rank x.phase) i w.rest j a m
        → TakesIt (taking kinds k j a m)
    unfolding to_read
    takes_on a m j g = (
      λ l. (
        record {
          rest = g.rest;
          here = g.left;
          left = sym (scanned g.scans ∙ gives_on t (length out₀) g.place j g.rest held k a l);
          few = omega (arith, g.ahead, w.few);
        },
        g.less,
      ),
      λ l. scanned g.scans ∙ gives_full t (length out₀) g.place j g.rest held k a h l,
    )

    takes : (j : ℕ) (m : Stand) (a : Said) → FollowsBy t how s (rank x.phase) i w.rest j m a
        → TakesIt (step_by kinds k j m a)
    unfolding giving
    takes j m Nothing g = takes_on Nothing m j g
    takes j m (Time u) g = takes_on (Time u) m j g
    takes j m (Write v id) g = takes_on (Write v id) m j g
    takes j m StepEnd g = takes_on StepEnd m j g
    takes j m Over g = (λ l. scanned g ∙ rw (append-nil held), λ l. absurd (omega arith))
    takes j m (Bad n) g = scanned g

pub on_start : (kinds : List ℕ) (how : How) (s out : List ℕ) (x : Stand) → x ≡ standing Mark 0 0
    → On kinds how s out (record { mode = x; read = 0; count = 0; steps = 0 }) out
on_start kinds how s out x e =
    let r : Rest kinds how s out (x, 0) 0 [] =
    rw e (record { rest = _; here = left_all (with_kinds kinds) how s; left = refl; few = omega arith }) in
    record { filling = filling_start out [] refl r }

module _ {kinds : List ℕ} {how : How} {s out₀ : List ℕ} {p : Progress} {out : List ℕ}
    (o : On kinds how s out₀ p out) where
  pub on_ready : Ready kinds s p out
  on_ready =
      let w = o.filling.left in
      record { stood = w.here.stood; within = w.here.inside; used = filling_used o.filling; few = w.few }

  module _ {out' : List ℕ} {r : Turn} (d : Does out p (step_at kinds how s p) out' r) where
    came : Comes kinds how s out₀ p out' r
    came =
        let f = o.filling in
        let x = next_item kinds how s p.mode p.read in
        let by = item_follows (with_kinds kinds) how s p.mode p.read f.left.here in
        filling_step f going Break (Comes kinds how s out₀ p out') (λ y j c q l. (record { filling = q }, l))
        (λ e a w q. rw w q) (step_at kinds how s p)
        (takes kinds how s out₀ p.mode p.steps p.read f.held f.left (filling_inside f) x.at x.then
        x.said by) r d.does

    pub on_more : {q : Progress} → r ≡ Continue q → On kinds how s out₀ q out'
    on_more e = (subst (Comes kinds how s out₀ p out') e came).0

    pub on_less : {q : Progress} → r ≡ Continue q → left_over s q < left_over s p
    on_less e = (subst (Comes kinds how s out₀ p out') e came).1

    stopped : {a : Written} → r ≡ Break a → Fills (whole kinds how s out₀) out₀ out' a
    stopped e = subst (Comes kinds how s out₀ p out') e came

pub on_over : {kinds : List ℕ} {flag : Bool} {s out₀ : List ℕ} {p : Progress} {out : List ℕ}
    → On kinds (ordinary flag) s out₀ p out → {out' : List ℕ} {r : Turn}
    → Does out p (step_at kinds (ordinary flag) s p) out' r
    → {a : Written} → r ≡ Break a → Fills (read_back (with_kinds kinds) flag s (length out₀)) out₀ out' a
unfolding read_back
on_over o d e = stopped o d e

pub ruleset loop_laws = (on_start, on_ready, on_more, on_less, on_over)
