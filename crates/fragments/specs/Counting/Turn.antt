-- What the proofs of one record, and of the input's end, search.
-- Assumes nothing.
use Rattle.std.specs.Prelude.{◌≡◌, refl, ℕ, ◌+◌, ◌≤◌, ◌<◌, Bool, true, false, List, length, get_or, None, Option, Some}
use Rattle.std.proofs.Common.{sym, subst, ◌∙◌, arith}
use Rattle.number_writer.specs.Put.{Puts}
use Rattle.number_writer.specs.Written.{Written}
use Rattle.number_writer.specs.Written as written
use Rattle.step_ends.specs.declared.Names.{Names}
use Rattle.step_ends.specs.declared.Watch.{Watch}
use Rattle.step_ends.specs.Seen.{SeenFound}
use Rattle.step_ends.specs.Seen as seen
use Rattle.step_ends.specs.Steps.{see}
use Rattle.step_ends.specs.Steps.Laws.{Ahead, see_ahead}
use Rattle.sessions.specs.declared.Bench.{Bench}
use Rattle.refusals.specs.Laws.{same_number, same_place}
use Rattle.fragments.specs.Put.{Next, Refused}
use Rattle.fragments.specs.declared.Stepped.{Stepped}
use Rattle.fragments.specs.declared.Progress.{Progress}
use Rattle.std.proofs.Common.{Continue, Break}
use Rattle.fragments.specs.declared.Turn.{Turn}
use Rattle.sessions.specs.Places.Code.{Few}
use Rattle.fragment_records.specs.Output.{bytes_of, held_of}
use Rattle.fragment_records.specs.Output.Code.{puts_room}
use Rattle.fragments.specs.Counting.{Does, went, stops, step_end}
use Rattle.fragments.specs.Counting.Step.{ToBy, To}

-- ---- what is held

abbrev pub ended_at : (steps read : ℕ) → Option ℕ → Written
ended_at k read (Some c) = written.Done read c k
ended_at k read None = written.Refused 16 read

-- the held records are put, or they don't fit
pub record Finishes (out : List ℕ) (n : ℕ) (b : Bench) (read steps : ℕ) (out' : List ℕ) (a : Written) : Type 0 where
  pub field : Option ℕ
  pub put : Puts out n (bytes_of (held_of b)) out' field
  pub is : a ≡ ended_at steps read field

module _ {out : List ℕ} {n : ℕ} {b : Bench} (read steps : ℕ) {out' : List ℕ} {f : Option ℕ} (q : Puts out n (bytes_of (held_of b)) out' f) where
  pub finish_done : {c : ℕ} → f ≡ Some c → Finishes out n b read steps out' (written.Done read c steps)
  finish_done e = record { field = f; put = q; is = rw e }

  pub finish_short : f ≡ None → Finishes out n b read steps out' (written.Refused 16 read)
  finish_short e = record { field = f; put = q; is = rw e }

pub ruleset finish_laws = (finish_done, finish_short)

-- ---- a step's end

-- what a step's end asks
pub record Asks (out : List ℕ) (b : Bench) (p : Progress) (next : ℕ) : Type 0 where
  pub used : p.count ≤ length out
  pub few : Few b
  pub steps : p.steps < 0xffff_ffff_ffff_ffff

module _ {out : List ℕ} {b : Bench} {p : Progress} {next : ℕ} (a : Asks out b p next) where
  pub asks_end : Few b × (p.count ≤ length out)
  asks_end = (a.few, a.used)

  pub asks_used : p.count ≤ length out
  asks_used = a.used

  pub asks_steps : p.steps < 0xffff_ffff_ffff_ffff
  asks_steps = a.steps

-- .. that the input's end brings
abbrev pub EndsBy : Does → (out : List ℕ) → Progress → (out' : List ℕ) → Written → Type 0
EndsBy (went b outs) out p out' a = (c : ℕ) × (out₁ : List ℕ) × Puts out p.count (bytes_of outs) out₁ (Some c) × Finishes out₁ c b p.read (p.steps + 1) out' a
EndsBy (stops n q) out p out' a = a ≡ written.Refused n q

abbrev pub LastsBy : Bool → (out : List ℕ) → Bench → Progress → (out' : List ℕ) → Written → Type 0
LastsBy true out b p out' a = EndsBy (step_end (length out) p.count p.before b p.watch p.read p.read) out p out' a
LastsBy false out b p out' a = Finishes out p.count b p.read p.steps out' a

pub record Lasts (out : List ℕ) (b : Bench) (p : Progress) (out' : List ℕ) (a : Written) : Type 0 where
  pub lasts : LastsBy p.watch.begun out b p out' a

module _ (out : List ℕ) (b : Bench) (p : Progress) where
  pub lasts_none : p.watch.begun ≡ false → {out' : List ℕ} {a : Written} → Finishes out p.count b p.read p.steps out' a → Lasts out b p out' a
  lasts_none e {out'} {a} q = record { lasts = subst (λ (x : Bool). LastsBy x out b p out' a) (sym e) q }

  module _ (e : p.watch.begun ≡ true) {out₁ : List ℕ} {t : Stepped} (q : To (step_end (length out) p.count p.before b p.watch p.read p.read) out p.count out₁ t) where
    lasts_by : {out' : List ℕ} {a : Written} → LastsBy true out b p out' a → Lasts out b p out' a
    lasts_by {out'} {a} q = record { lasts = subst (λ (x : Bool). LastsBy x out b p out' a) (sym e) q }

    pub lasts_more : {c : ℕ} → t.put ≡ Next c → {out' : List ℕ} {a : Written} → Finishes out₁ c t.bench p.read (p.steps + 1) out' a → Lasts out b p out' a
    lasts_more {c} n {out'} {a} f = lasts_by (by (step_end (length out) p.count p.before b p.watch p.read p.read) q.comes)
      where
        by : (d : Does) → ToBy d out p.count out₁ t → EndsBy d out p out' a
        by (went b₁ outs) x =
            let g : x.0 ≡ c = cc in
            let h : b₁ ≡ t.bench = cc in
            (c, out₁, rw g at x.2, rw h f)
        by (stops m k) x = absurd (let z : ◌≡◌ {A = ℕ} 0 1 = cc in omega arith)

    pub lasts_stops : {m k : ℕ} → t.put ≡ Refused m k → Lasts out b p out₁ (written.Refused m k)
    lasts_stops {m} {k} n = lasts_by (by (step_end (length out) p.count p.before b p.watch p.read p.read) q.comes)
      where
        by : (d : Does) → ToBy d out p.count out₁ t → EndsBy d out p out₁ (written.Refused m k)
        by (went b₁ outs) x = absurd (let z : ◌≡◌ {A = ℕ} 0 1 = cc in omega arith)
        by (stops m' k') x = let g : m ≡ m' = same_number (sym n ∙ x) in let h : k ≡ k' = same_place (sym n ∙ x) in rw (g, h)

    pub lasts_used : {c : ℕ} → t.put ≡ Next c → c ≤ length out₁
    lasts_used {c} n = by (step_end (length out) p.count p.before b p.watch p.read p.read) q.comes
      where
        by : (d : Does) → ToBy d out p.count out₁ t → c ≤ length out₁
        by (went b₁ outs) x = let g : x.0 ≡ c = cc in rw (puts_room x.2) (rw g at x.2.lies.2)
        by (stops m k) x = absurd (let z : ◌≡◌ {A = ℕ} 0 1 = cc in omega arith)

pub ruleset last_laws = (asks_end, asks_used, asks_steps, lasts_none, lasts_more, lasts_stops, lasts_used)

-- .. that a time record brings
abbrev pub SteppingBy : Does → (out : List ℕ) → Progress → Watch → (next : ℕ) → (out' : List ℕ) → Turn → Type 0
SteppingBy (went b outs) out p v next out' r =
    (c : ℕ) × Puts out p.count (bytes_of outs) out' (Some c)
    × (r ≡ record { bench = b; going = Continue (record { watch = v; before = p.watch; read = next; count = c; steps = p.steps + 1 }) })
SteppingBy (stops n q) out p v next out' r = r.going ≡ Break (written.Refused n q)

pub record Stepping (out : List ℕ) (b : Bench) (p : Progress) (v : Watch) (next : ℕ) (out' : List ℕ) (r : Turn) : Type 0 where
  pub steps : SteppingBy (step_end (length out) p.count p.before b p.watch p.read next) out p v next out' r

module _ {out : List ℕ} {b : Bench} {p : Progress} {next : ℕ} {out' : List ℕ} {t : Stepped} (q : To (step_end (length out) p.count p.before b p.watch p.read next) out p.count out' t) (v : Watch) where
  pub stepping_more : {c : ℕ} → t.put ≡ Next c
      → Stepping out b p v next out' (record { bench = t.bench; going = Continue (record { watch = v; before = p.watch; read = next; count = c; steps = p.steps + 1 }) })
  stepping_more {c} n = record { steps = by (step_end (length out) p.count p.before b p.watch p.read next) q.comes }
    where
      by : (d : Does) → ToBy d out p.count out' t
          → SteppingBy d out p v next out' (record { bench = t.bench; going = Continue (record { watch = v; before = p.watch; read = next; count = c; steps = p.steps + 1 }) })
      by (went b₁ outs) x =
          let g : x.0 ≡ c = cc in
          let h : t.bench ≡ b₁ = cc in
          (c, rw g at x.2, rw h)
      by (stops m k) x = absurd (let z : ◌≡◌ {A = ℕ} 0 1 = cc in omega arith)

  pub stepping_stops : {m k : ℕ} → t.put ≡ Refused m k → Stepping out b p v next out' (record { bench = b; going = Break (written.Refused m k) })
  stepping_stops {m} {k} n = record { steps = by (step_end (length out) p.count p.before b p.watch p.read next) q.comes }
    where
      by : (d : Does) → ToBy d out p.count out' t → SteppingBy d out p v next out' (record { bench = b; going = Break (written.Refused m k) })
      by (went b₁ outs) x = absurd (let z : ◌≡◌ {A = ℕ} 0 1 = cc in omega arith)
      by (stops m' k') x = let g : m ≡ m' = same_number (sym n ∙ x) in let h : k ≡ k' = same_place (sym n ∙ x) in rw (g, h)

pub ruleset step_laws = (asks_end, asks_steps, stepping_more, stepping_stops)

-- ---- one record

-- a count is at most the steps so far, and each of those took a record
pub record Goes (s out : List ℕ) (b : Bench) (p : Progress) : Type 0 where
  pub used : p.count ≤ length out
  pub few : p.steps ≤ p.read
  pub begun : p.watch.begun ≡ true → p.steps < p.read
  pub within : p.read ≤ length s
  pub small : (i : ℕ) → get_or b.counts i 0 ≤ p.steps

abbrev pub TurnsBy : SeenFound → (out : List ℕ) → Bench → Progress → (out' : List ℕ) → Turn → Type 0
TurnsBy (seen.More v j) out b p out' r =
    (out' ≡ out) × (r ≡ record { bench = b; going = Continue (record { watch = v; before = p.before; read = j; count = p.count; steps = p.steps }) })
TurnsBy (seen.Step v j) out b p out' r = Stepping out b p v j out' r
TurnsBy seen.End out b p out' r = (a : Written) × Lasts out b p out' a × (r.going ≡ Break a)
TurnsBy (seen.Bad n q) out b p out' r = r.going ≡ Break (written.Refused n q)

pub record Turns (names : Names) (s values out : List ℕ) (b : Bench) (p : Progress) (out' : List ℕ) (r : Turn) : Type 0 where
  pub turns : TurnsBy (see names s values p.watch p.read) out b p out' r

module _ (names : Names) (s values out : List ℕ) (b : Bench) (p : Progress) {x : SeenFound} (e : x ≡ see names s values p.watch p.read) where
  turns_by : {out' : List ℕ} {r : Turn} {y : SeenFound} → x ≡ y → TurnsBy y out b p out' r → Turns names s values out b p out' r
  turns_by {out'} {r} d q = record { turns = subst (λ (z : SeenFound). TurnsBy z out b p out' r) (sym d ∙ e) q }

  pub turns_more : {v : Watch} {j : ℕ} → x ≡ seen.More v j
      → Turns names s values out b p out (record { bench = b; going = Continue (record { watch = v; before = p.before; read = j; count = p.count; steps = p.steps }) })
  turns_more d = turns_by d (refl, refl)

  pub turns_step : {v : Watch} {j : ℕ} → x ≡ seen.Step v j → {out' : List ℕ} {r : Turn} → Stepping out b p v j out' r → Turns names s values out b p out' r
  turns_step d q = turns_by d q

  pub turns_end : x ≡ seen.End → {out' : List ℕ} {a : Written} → Lasts out b p out' a → Turns names s values out b p out' (record { bench = b; going = Break a })
  turns_end d {out'} {a} q = turns_by d (a, q, refl)

  pub turns_bad : {n k : ℕ} → x ≡ seen.Bad n k → Turns names s values out b p out (record { bench = b; going = Break (written.Refused n k) })
  turns_bad d = turns_by d refl

  pub turns_ahead : {v : Watch} {j : ℕ} → x ≡ seen.Step v j → (p.read < j) × (j ≤ length s) × (p.watch.begun ≡ true)
  turns_ahead d = subst (Ahead s p.watch p.read) (sym e ∙ d) (see_ahead names s values p.watch p.read)

pub goes_asks : {s out : List ℕ} {b : Bench} {p : Progress} → Goes s out b p → p.steps < 0xffff_ffff_ffff_ffff → (next : ℕ) → Asks out b p next
goes_asks g h next = record { used = g.used; few = record { few = λ i. omega (arith, g.small i) }; steps = h }

pub ruleset one_laws = (turns_more, turns_step, turns_end, turns_bad)
