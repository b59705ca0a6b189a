-- What the proofs of a step's end search.
-- Assumes nothing.
use Rattle.std.proofs.Math.Path.{◌≡◌, refl, sym}
use Rattle.std.proofs.Common.{subst, ◌∙◌, arith}
use Rattle.std.specs.Prelude.{ℕ, ◌+◌, ◌≤◌, ◌<◌, Bool, false, List, [], ◌∷◌, get_or, ltb, eqb, None, Option, Some}
use Rattle.std.proofs.Math.Bool.{true}
use borrow.Author.Tests.{ne_eqb, lt-ltb, le-ltb, le-leb, lt-leb}
use Rattle.std.proofs.Math.ListN.{length}
use Rattle.slices.specs.Choice.{cond_ind}
use Rattle.slices.specs.Field.{field_of}
use Rattle.number_writer.specs.Put.{after_put, Puts, puts_more}
use Rattle.step_ends.specs.declared.Watch.{Watch}
use Rattle.step_ends.specs.Steps.{rose}
use Rattle.sessions.specs.declared.Bench.{Bench}
use Rattle.fragments.specs.Put.{Next, Refused}
use Rattle.fragments.specs.declared.Stepped.{Stepped}
use Rattle.sessions.specs.Places.{place_of, place_for, counted, dropped}
use Rattle.sessions.specs.Places.Code.{Few, Countable}
use Rattle.fragment_records.specs.Output.{Out, fragment, closed, out_bytes, bytes_of}
use Rattle.fragment_records.specs.Output.Laws.{bytes_append, bytes_one}
use Rattle.fragment_records.specs.Output.Code.{puts_out, puts_none, puts_room}
use Rattle.fragments.specs.Counting.{Does, went, stops, seated, closes, closed_of, behind, and_then, counting, closing, step_end}

-- a session is live at this place
pub record Lives (b : Bench) (w : Watch) (k : ℕ) : Type 0 where
  pub is : k ≡ place_of b w.session
  pub place : k < 32

-- an answer of the code is what was to be done, once `c` bytes have been written
abbrev AnswersBy : Does → ℕ → Stepped → Type 0
AnswersBy (went b outs) c r = r ≡ record { bench = b; put = Next c }
AnswersBy (stops n p) c r = r.put ≡ Refused n p

pub record Answers (d : Does) (c : ℕ) (r : Stepped) : Type 0 where
  pub answers : AnswersBy d c r

-- .. and its records stand in the output from `n` on
abbrev pub ToBy : Does → (out : List ℕ) (n : ℕ) (out' : List ℕ) → Stepped → Type 0
ToBy (went b outs) out n out' r = (c : ℕ) × (r ≡ record { bench = b; put = Next c }) × Puts out n (bytes_of outs) out' (Some c)
ToBy (stops m p) out n out' r = r.put ≡ Refused m p

pub record To (d : Does) (out : List ℕ) (n : ℕ) (out' : List ℕ) (r : Stepped) : Type 0 where
  pub comes : ToBy d out n out' r

-- ---- a place for the fragment

module _ (b : Bench) (w : Watch) (at c : ℕ) {k : ℕ} (e : k ≡ place_for b w.session) where
  pub seat_counts : k < 32 → {b' : Bench} → b' ≡ counted b k w.session → Answers (seated b w at) c (record { bench = b'; put = Next c })
  unfolding seated
  seat_counts l f = rw (← e, lt-ltb k 32 l) (record { answers = rw f })

  pub seat_full : 32 ≤ k → Answers (seated b w at) c (record { bench = b; put = Refused 21 at })
  unfolding seated
  seat_full l = rw (← e, le-ltb k 32 l) (record { answers = refl })

pub seat_countable : {b : Bench} → Few b → {k : ℕ} → k < 32 → Countable b k
seat_countable h {k} l = record { place = l; few = h.few k }

pub ruleset seat_laws = (seat_counts, seat_full, seat_countable)

-- ---- the fragment

module _ {out : List ℕ} {n : ℕ} (o : Out) {out' : List ℕ} where
  one_fits : {c : ℕ} → Puts out n (bytes_of (o ∷ [])) out' (Some c) → n + length (out_bytes o) ≤ length out
  one_fits {c} p = let l = rw (bytes_one o) at p.lies in omega (arith, l.1, l.2)

  one_short : Puts out n (bytes_of (o ∷ [])) out' None → length out < n + length (out_bytes o)
  one_short p = let l = rw (bytes_one o) at p.lies in omega (arith, l)

module _ (b : Bench) (w : Watch) (at next : ℕ) (out : List ℕ) (n : ℕ) {bs : List ℕ} (e : bs ≡ out_bytes (fragment w.time w.session))
    {out' : List ℕ} {f : Option ℕ} (d : f ≡ field_of (length bs) out n) (g : out' ≡ after_put out n bs) where
  abbrev o : Out
  o = fragment w.time w.session

  put : {x : Option ℕ} → f ≡ x → Puts out n (bytes_of (o ∷ [])) out' x
  put h = subst (Puts out n (bytes_of (o ∷ [])) out') h (puts_out out n o e d g)

  seats : {c : ℕ} → Puts out n (bytes_of (o ∷ [])) out' (Some c) → (r : Stepped) → Answers (seated b w at) c r → To (seated b w at) out n out' r
  unfolding seated
  seats {c} p r =
      cond_ind (ltb (place_for b w.session) 32) _ _ (λ (d : Does). Answers d c r → To d out n out' r) (λ l a. record { comes = (c, a.answers, p) }) (λ l a. record { comes = a.answers })

  pub fragment_next : {c : ℕ} → f ≡ Some c → {r : Stepped} → Answers (seated b w at) c r → To (counting (length out) true n b w at next) out n out' r
  unfolding counting
  fragment_next h {r} a = rw (le-leb (n + length (out_bytes o)) (length out) (one_fits o (put h))) (seats (put h) r a)

  pub fragment_short : f ≡ None → To (counting (length out) true n b w at next) out n out' (record { bench = b; put = Refused 16 next })
  unfolding counting
  fragment_short h = rw (lt-leb (n + length (out_bytes o)) (length out) (one_short o (put h))) (record { comes = refl })

pub ruleset fragment_laws = (fragment_next, fragment_short)

module _ (before w : Watch) where
  pub rose_zero : before.strobe ≡ 0 → eqb w.strobe 1 ≡ rose before w
  unfolding rose
  rose_zero e = rw e

  pub rose_not : (before.strobe ≡ 0 → ⊥) → false ≡ rose before w
  unfolding rose
  rose_not n = rw (ne_eqb before.strobe 0 n)

pub ruleset rose_laws = (rose_zero, rose_not)

module _ (before : Watch) (b : Bench) (w : Watch) (at next : ℕ) (out : List ℕ) (n : ℕ) {m : Bool} (e : m ≡ rose before w) where
  pub rise_counts : m ≡ true → {out' : List ℕ} {r : Stepped} → To (counting (length out) true n b w at next) out n out' r → To (counting (length out) (rose before w) n b w at next) out n out' r
  rise_counts t q = rw (sym e ∙ t) q

  pub rise_none : m ≡ false → n ≤ length out → To (counting (length out) (rose before w) n b w at next) out n out (record { bench = b; put = Next n })
  unfolding counting
  rise_none t h = rw (sym e ∙ t) (record { comes = (n, refl, puts_none out n h) })

pub ruleset rise_laws = (rise_counts, rise_none)

-- ---- the session closed

module _ (b : Bench) (w : Watch) (next : ℕ) (out : List ℕ) (n : ℕ) {k : ℕ} (v : Lives b w k) {bs : List ℕ} (e : bs ≡ out_bytes (closed w.time w.session (get_or b.counts k 0)))
    {out' : List ℕ} {f : Option ℕ} (d : f ≡ field_of (length bs) out n) (g : out' ≡ after_put out n bs) where
  gone : {x : Option ℕ} → f ≡ x → Puts out n (bytes_of (closed_of b w ∷ [])) out' x
  gone h = subst (Puts out n (bytes_of (closed_of b w ∷ [])) out') h (puts_out out n (closed_of b w) (rw v.is at e) d g)

  pub drop_next : {c : ℕ} → f ≡ Some c → {b' : Bench} → b' ≡ dropped b k → To (closing (length out) true n b w next) out n out' (record { bench = b'; put = Next c })
  unfolding closing
  drop_next {c} h q =
      rw (le-leb (n + length (out_bytes (closed_of b w))) (length out) (one_fits (closed_of b w) (gone h))) (record { comes = (c, rw (q, v.is), gone h) })

  pub drop_short : f ≡ None → To (closing (length out) true n b w next) out n out' (record { bench = b; put = Refused 16 next })
  unfolding closing
  drop_short h = rw (lt-leb (n + length (out_bytes (closed_of b w))) (length out) (one_short (closed_of b w) (gone h))) (record { comes = refl })

pub drop_place : {b : Bench} {w : Watch} {k : ℕ} → Lives b w k → k < 32
drop_place v = v.place

pub ruleset drop_laws = (drop_next, drop_short, drop_place)

module _ (b : Bench) (w : Watch) (next : ℕ) (out : List ℕ) (n : ℕ) where
  nothing : closes b w ≡ false → n ≤ length out → To (closing (length out) (closes b w) n b w next) out n out (record { bench = b; put = Next n })
  unfolding closing
  nothing e h = rw e (record { comes = (n, refl, puts_none out n h) })

  pub close_not : (w.close ≡ 1 → ⊥) → n ≤ length out → To (closing (length out) (closes b w) n b w next) out n out (record { bench = b; put = Next n })
  unfolding closes
  close_not c h = nothing (rw (ne_eqb w.close 1 c)) h

  module _ (c : w.close ≡ 1) {k : ℕ} (e : k ≡ place_of b w.session) where
    pub close_absent : 32 ≤ k → n ≤ length out → To (closing (length out) (closes b w) n b w next) out n out (record { bench = b; put = Next n })
    unfolding closes
    close_absent l h = nothing (rw (c, ← e, le-ltb k 32 l)) h

    pub close_live : k < 32 → {out' : List ℕ} {r : Stepped} → To (closing (length out) true n b w next) out n out' r → To (closing (length out) (closes b w) n b w next) out n out' r
    unfolding closes
    close_live l q = let t : closes b w ≡ true = rw (c, ← e, lt-ltb k 32 l) in rw t q

pub close_lives : {b : Bench} {w : Watch} {k : ℕ} → k ≡ place_of b w.session → k < 32 → Lives b w k
close_lives e l = record { is = e; place = l }

pub ruleset close_laws = (close_not, close_absent, close_live, close_lives)

-- ---- both

module _ (room n : ℕ) (before : Watch) (b : Bench) (w : Watch) (at next : ℕ) {out out₁ : List ℕ} {t : Stepped} where
  pub end_stops : To (counting room (rose before w) n b w at next) out n out₁ t → {m p : ℕ} → t.put ≡ Refused m p → To (step_end room n before b w at next) out n out₁ (record { bench = b; put = Refused m p })
  unfolding step_end and_then
  end_stops q {m} {p} e = by (counting room (rose before w) n b w at next) q.comes
    where
      by : (d : Does) → ToBy d out n out₁ t → To (and_then d (λ c outs. closing room (closes c w) (n + length (bytes_of outs)) c w next)) out n out₁ (record { bench = b; put = Refused m p })
      by (went b₁ outs) x = absurd (let z : ◌≡◌ {A = ℕ} 0 1 = cc in omega arith)
      by (stops m' p') x = record { comes = sym e ∙ x }

module _ (n : ℕ) (before : Watch) (b : Bench) (w : Watch) (at next : ℕ) (out : List ℕ) {out₁ : List ℕ} {t : Stepped} (q : To (counting (length out) (rose before w) n b w at next) out n out₁ t) {c : ℕ} (e : t.put ≡ Next c) where
  -- what was written first
  record First (d : Does) : Type 0 where
    outs : List Out
    is : d ≡ went t.bench outs
    put : Puts out n (bytes_of outs) out₁ (Some c)

  first : First (counting (length out) (rose before w) n b w at next)
  first = by (counting (length out) (rose before w) n b w at next) q.comes
    where
      by : (d : Does) → ToBy d out n out₁ t → First d
      by (went b₁ outs) x =
          let f : x.0 ≡ c = cc in
          let g : b₁ ≡ t.bench = cc in
          record { outs = outs; is = rw g; put = rw f at x.2 }
      by (stops m p) x = absurd (let z : ◌≡◌ {A = ℕ} 0 1 = cc in omega arith)

  same_room : length out₁ ≡ length out
  same_room = puts_room first.put

  pub end_room : c ≤ length out₁
  end_room = omega (arith, same_room, first.put.lies.2)

  pub end_more : {out₂ : List ℕ} {r : Stepped} → To (closing (length out₁) (closes t.bench w) c t.bench w next) out₁ c out₂ r → To (step_end (length out) n before b w at next) out n out₂ r
  unfolding step_end and_then behind
  end_more {out₂} {r} y =
      rw first.is
      (by (closing (length out) (closes t.bench w) (n + length (bytes_of first.outs)) t.bench w next)
      (subst (λ (k : ℕ). ToBy (closing (length out) (closes t.bench w) k t.bench w next) out₁ c out₂ r) first.put.lies.1 (rw same_room at y.comes)))
    where
      by : (d : Does) → ToBy d out₁ c out₂ r → To (behind first.outs d) out n out₂ r
      by (went b₂ more) x = record { comes = (x.0, x.1, rw bytes_append (puts_more first.put refl (bytes_of more) x.2)) }
      by (stops m p) x = record { comes = x }

pub ruleset end_laws = (end_stops, end_room, end_more)
