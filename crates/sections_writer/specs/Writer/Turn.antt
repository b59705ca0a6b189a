-- What the proofs of the writer's pieces search: bytes put, and one record.
-- Assumes nothing.
use Rattle.std.proofs.Math.Path.{◌≡◌, refl}
use Rattle.std.proofs.Common.{sym, ◌∙◌, arith}
use Rattle.std.specs.Prelude.{ℕ, ◌-◌, ◌^◌, ◌≤◌, ◌<◌, Bool, ◌&&◌, List, [], ◌∷◌, ◌++◌, length, get_or, None, Option, Some}
use Rattle.std.proofs.Math.Bool.{true, false}
use borrow.Author.Tests.{lt-ltb, le-ltb, le-leb, lt-leb, leb-true, eq-eqb, ne_eqb}
use Rattle.std.proofs.Math.ListN.{replicate}
use Rattle.std.proofs.Math.Dec.{leb}
use Rattle.slices.specs.Field.{field_of}
use Rattle.numbers.specs.Marks.{cyc, ecy, tai}
use Rattle.number_writer.specs.Put.{after_put, Puts, puts_one, puts_short, puts_more}
use Rattle.leb128.specs.Shortest.{unsigned_bytes, signed_bytes}
use Rattle.number_writer.specs.Little.{little_bytes, fixed_bytes}
use Rattle.number_writer.specs.Little.Laws.{length_little_bytes, length_fixed_bytes}
use Rattle.filling.specs.Filling.{puts_none}
use Rattle.filling.specs.Filling.Steps as step
use Rattle.filling.specs.Filling.Steps.{Step, landed, DoesBy}
use Rattle.sections_writer.specs.declared.Pen.{Pen}
use Rattle.sections_writer.specs.declared.Progress.{Progress}
use Rattle.sections_writer.specs.Going.{Turn}
use Rattle.std.proofs.Common.{Continue, Break}
use Rattle.number_writer.specs.Written.{Done, Refused}
use Rattle.sections_writer.specs.Writer.{Given, goes, ends, stops, time_bytes, time_good, timed, value_bytes, write_bytes, wrote_to, stepped, cycle_end, closing, given_time, given_write}

-- a record ends before a place of the input
pub record EndsIn (s : List ℕ) (j : ℕ) : Type 0 where
  pub some : 1 ≤ j
  pub inside : j ≤ length s

-- an id of a signal
pub record IdOf (kinds : List ℕ) (id : ℕ) : Type 0 where
  pub low : 1 ≤ id
  pub high : id ≤ length kinds

-- ---- the time

module _ (p : Pen) (u : ℕ) where
  pub good_first : p.steps ≡ 0 → true ≡ time_good p u
  unfolding time_good
  good_first e = rw e

  module _ (n : p.steps ≡ 0 → ⊥) where
    pub good_falls : u < p.time → false ≡ time_good p u
    unfolding time_good
    good_falls h = rw (ne_eqb p.steps 0 n, lt-leb p.time u h)

    pub good_jump : p.time ≤ u → leb (u - p.time) 0x7fff_ffff_ffff_ffff ≡ time_good p u
    unfolding time_good
    good_jump h = rw (ne_eqb p.steps 0 n, le-leb p.time u h)

    good_rises : time_good p u ≡ true → p.time ≤ u
    unfolding time_good
    good_rises g = rises (leb p.time u) refl (rw (ne_eqb p.steps 0 n) at g)
      where
        rises : (b : Bool) → leb p.time u ≡ b → b && leb (u - p.time) (2 ^ 63 - 1) ≡ true → p.time ≤ u
        rises true e q = leb-true p.time u e
        rises false e q = let z : ◌≡◌ {A = ℕ} 0 1 = cc in absurd (omega arith)

  pub good_less : time_good p u ≡ true → (p.steps ≡ 0 → ⊥) → p.time ≤ u
  good_less g n = good_rises n g

pub ruleset good_laws = (good_first, good_falls, good_jump)

-- ---- bytes put

-- eight bytes, by a count that is 8
module _ (out : List ℕ) (at v : ℕ) {out' : List ℕ} {f : Option ℕ} (d : f ≡ field_of 8 out at) where
  pub puts_fixed : (flag : Bool) → out' ≡ after_put out at (fixed_bytes flag 8 v) → Puts out at (fixed_bytes flag 8 v) out' f
  puts_fixed flag e = puts_one out at (fixed_bytes flag 8 v) (rw (length_fixed_bytes flag 8 v) d) e

  -- "kind 6 eight bytes, always little-endian, the flag aside"
  pub puts_real : out' ≡ after_put out at (fixed_bytes false 8 v) → Puts out at (little_bytes 8 v) out' f
  unfolding fixed_bytes
  puts_real e = puts_one out at (little_bytes 8 v) (rw (length_little_bytes 8 v) d) e

-- some bytes, then others
module _ (out : List ℕ) (at : ℕ) {out₁ : List ℕ} {f : Option ℕ} where
  after_short : (a b : List ℕ) → f ≡ field_of (length a) out at → out₁ ≡ after_put out at a → f ≡ None → Puts out at (a ++ b) out₁ None
  after_short a b d e g = puts_short (puts_one out at a d e) b g

  after_more : (a b : List ℕ) → f ≡ field_of (length a) out at → out₁ ≡ after_put out at a → {j : ℕ} → f ≡ Some j → {out₂ : List ℕ} {g : Option ℕ} → Puts out₁ j b out₂ g → Puts out at (a ++ b) out₂ g
  after_more a b d e n q = puts_more (puts_one out at a d e) n b q

  -- the cycle's mark and its time
  module _ (flag : Bool) (u : ℕ) (d : f ≡ field_of 4 out at) (e : out₁ ≡ after_put out at cyc) where
    pub first_short : f ≡ None → Puts out at (cyc ++ fixed_bytes flag 8 u) out₁ None
    first_short g = after_short cyc (fixed_bytes flag 8 u) d e g

    pub first_more : {j : ℕ} → f ≡ Some j → {g : Option ℕ} → g ≡ field_of 8 out₁ j → {out₂ : List ℕ} → out₂ ≡ after_put out₁ j (fixed_bytes flag 8 u) → Puts out at (cyc ++ fixed_bytes flag 8 u) out₂ g
    first_more {j} n x y = after_more cyc (fixed_bytes flag 8 u) d e n (puts_fixed out₁ j u x flag y)

  -- the tailer
  module _ (d : f ≡ field_of 4 out at) (e : out₁ ≡ after_put out at tai) where
    pub tailer_short : f ≡ None → Puts out at (tai ++ replicate 8 0) out₁ None
    tailer_short g = after_short tai (replicate 8 0) d e g

    pub tailer_more : {j : ℕ} → f ≡ Some j → {g : Option ℕ} → g ≡ field_of 8 out₁ j → {out₂ : List ℕ} → out₂ ≡ after_put out₁ j (replicate 8 0) → Puts out at (tai ++ replicate 8 0) out₂ g
    tailer_more {j} n x y = after_more tai (replicate 8 0) d e n (puts_one out₁ j (replicate 8 0) x y)

module _ (flag : Bool) (p : Pen) (u : ℕ) {out : List ℕ} {at : ℕ} {out' : List ℕ} {f : Option ℕ} where
  pub time_first : p.steps ≡ 0 → Puts out at (cyc ++ fixed_bytes flag 8 u) out' f → Puts out at (time_bytes flag p u) out' f
  unfolding time_bytes
  time_first e q = rw e q

  pub time_later : (p.steps ≡ 0 → ⊥) → Puts out at (signed_bytes (u - p.time)) out' f → Puts out at (time_bytes flag p u) out' f
  unfolding time_bytes
  time_later n q = rw (ne_eqb p.steps 0 n) q

pub ruleset first_laws = (first_short, first_more)

pub ruleset tailer_laws = (tailer_short, tailer_more)

pub ruleset time_laws = (puts_one, time_first, time_later, good_less)

module _ (kind v : ℕ) (s : List ℕ) (j : ℕ) {out : List ℕ} {at : ℕ} {out' : List ℕ} {f : Option ℕ} where
  pub value_byte : kind ≤ 4 → f ≡ field_of 1 out at → out' ≡ after_put out at (get_or s (j - 1) 0 ∷ []) → Puts out at (value_bytes kind v s j) out' f
  unfolding value_bytes
  value_byte h d e = rw (le-leb kind 4 h) (puts_one out at (get_or s (j - 1) 0 ∷ []) d e)

  module _ (h : 4 < kind) where
    pub value_integer : kind ≡ 5 → Puts out at (signed_bytes v) out' f → Puts out at (value_bytes kind v s j) out' f
    unfolding value_bytes
    value_integer k q = rw (lt-leb kind 4 h, eq-eqb kind 5 k) q

    pub value_real : (kind ≡ 5 → ⊥) → Puts out at (little_bytes 8 v) out' f → Puts out at (value_bytes kind v s j) out' f
    unfolding value_bytes
    value_real k q = rw (lt-leb kind 4 h, ne_eqb kind 5 k) q

pub ruleset value_laws = (puts_one, puts_real, value_byte, value_integer, value_real)

module _ (p : Pen) (kind id v : ℕ) (s : List ℕ) (j : ℕ) {out : List ℕ} {at : ℕ} {out₁ : List ℕ} {f : Option ℕ} (q : Puts out at (unsigned_bytes (id - p.id)) out₁ f) where
  pub write_short : f ≡ None → Puts out at (write_bytes p kind id v s j) out₁ None
  unfolding write_bytes
  write_short e = puts_short q (value_bytes kind v s j) e

  pub write_more : {k : ℕ} → f ≡ Some k → {out₂ : List ℕ} {g : Option ℕ} → Puts out₁ k (value_bytes kind v s j) out₂ g → Puts out at (write_bytes p kind id v s j) out₂ g
  unfolding write_bytes
  write_more e r = puts_more q e (value_bytes kind v s j) r

pub ruleset write_laws = (puts_one, write_short, write_more)

-- ---- the closing bytes

module _ (p : Pen) {out : List ℕ} {at : ℕ} where
  pub cycle_none : p.steps ≡ 0 → at ≤ length out → Puts out at (cycle_end p) out (Some at)
  unfolding cycle_end
  cycle_none e h = rw e (puts_none out at h)

  module _ (n : p.steps ≡ 0 → ⊥) {out₁ : List ℕ} {f : Option ℕ} (d : f ≡ field_of (length (signed_bytes 0xffff_ffff_ffff_ffff)) out at) (e : out₁ ≡ after_put out at (signed_bytes 0xffff_ffff_ffff_ffff)) where
    pub cycle_short : f ≡ None → Puts out at (cycle_end p) out₁ None
    unfolding cycle_end
    cycle_short g = rw (ne_eqb p.steps 0 n) (after_short out at (signed_bytes 0xffff_ffff_ffff_ffff) ecy d e g)

    pub cycle_more : {j : ℕ} → f ≡ Some j → {g : Option ℕ} → g ≡ field_of 4 out₁ j → {out₂ : List ℕ} → out₂ ≡ after_put out₁ j ecy → Puts out at (cycle_end p) out₂ g
    unfolding cycle_end
    cycle_more {j} m x y = rw (ne_eqb p.steps 0 n) (after_more out at (signed_bytes 0xffff_ffff_ffff_ffff) ecy d e m (puts_one out₁ j ecy x y))

  module _ {out₁ : List ℕ} {f : Option ℕ} (q : Puts out at (cycle_end p) out₁ f) where
    pub closing_short : f ≡ None → Puts out at (closing p) out₁ None
    unfolding closing
    closing_short e = puts_short q (tai ++ replicate 8 0) e

    pub closing_more : {k : ℕ} → f ≡ Some k → {out₂ : List ℕ} {g : Option ℕ} → Puts out₁ k (tai ++ replicate 8 0) out₂ g → Puts out at (closing p) out₂ g
    unfolding closing
    closing_more e r = puts_more q e (tai ++ replicate 8 0) r

pub ruleset cycle_laws = (cycle_none, cycle_short, cycle_more)

pub ruleset closing_laws = (closing_short, closing_more)

-- ---- one record

-- what a record gives, as a step of a definition that fills an output
abbrev pub step_of : Pen → Given → Step Pen
step_of p (goes bs q j) = step.goes bs q j
step_of p (ends bs j) = step.ends bs j p.steps
step_of p (stops n q) = step.stops n q

abbrev pub going : Pen → (read count : ℕ) → Turn
going q j c = Continue (record { pen = q; read = j; count = c })

-- after a record's bytes
abbrev pub gone_to : Pen → ℕ → Option ℕ → Turn
gone_to q j f = landed (going q j) (Break (Refused 16 j)) f

-- what a record gives is put, or it does not fit, or it is refused
pub record Does (out : List ℕ) (p : Progress) (g : Given) (out' : List ℕ) (r : Turn) : Type 0 where
  pub does : DoesBy going Break out p.count (step_of p.pen g) out' r

module _ (q : Pen) (j : ℕ) {f : Option ℕ} where
  pub gone_next : {c : ℕ} → f ≡ Some c → Continue (record { pen = q; read = j; count = c }) ≡ gone_to q j f
  gone_next e = rw e

  pub gone_short : f ≡ None → Break (Refused 16 j) ≡ gone_to q j f
  gone_short e = rw e

pub ruleset gone_laws = (gone_next, gone_short)

module _ (out : List ℕ) (p : Progress) where
  module _ (flag : Bool) (u j : ℕ) {g : Bool} (e : g ≡ time_good p.pen u) where
    pub does_time : g ≡ true → {q : Pen} → q ≡ timed p.pen u → {out' : List ℕ} {f : Option ℕ} → Puts out p.count (time_bytes flag p.pen u) out' f → {r : Turn} → r ≡ gone_to q j f → Does out p (given_time flag p.pen p.read u j) out' r
    unfolding given_time
    does_time t d {f = f} w y = rw (sym e ∙ t) (record { does = (f, w, rw d at y) })

    pub does_bad_time : g ≡ false → Does out p (given_time flag p.pen p.read u j) out (Break (Refused 23 p.read))
    unfolding given_time
    does_bad_time t = rw (sym e ∙ t) (record { does = refl })

  module _ (s : List ℕ) (kind id v j : ℕ) where
    pub does_write : p.pen.id < id → {q : Pen} → q ≡ wrote_to p.pen id → {out' : List ℕ} {f : Option ℕ} → Puts out p.count (write_bytes p.pen kind id v s j) out' f → {r : Turn} → r ≡ gone_to q j f → Does out p (given_write s p.pen p.read kind id v j) out' r
    unfolding given_write
    does_write h d {f = f} w y = rw (lt-ltb p.pen.id id h) (record { does = (f, w, rw d at y) })

    pub does_bad_write : id ≤ p.pen.id → Does out p (given_write s p.pen p.read kind id v j) out (Break (Refused 22 p.read))
    unfolding given_write
    does_bad_write h = rw (le-ltb p.pen.id id h) (record { does = refl })

  pub does_step : (j : ℕ) {q : Pen} → q ≡ stepped p.pen → {f : Option ℕ} → f ≡ field_of 1 out p.count → {out' : List ℕ} → out' ≡ after_put out p.count (0 ∷ []) → {r : Turn} → r ≡ gone_to q j f → Does out p (goes (0 ∷ []) (stepped p.pen) j) out' r
  does_step j d {f} a b y = record { does = (f, puts_one out p.count (0 ∷ []) a b, rw d at y) }

  module _ (j : ℕ) {out' : List ℕ} {f : Option ℕ} (w : Puts out p.count (closing p.pen) out' f) where
    pub does_end : {c : ℕ} → f ≡ Some c → Does out p (ends (closing p.pen) j) out' (Break (Done j c p.pen.steps))
    does_end e = record { does = (f, w, rw e) }

    pub does_end_short : f ≡ None → Does out p (ends (closing p.pen) j) out' (Break (Refused 16 j))
    does_end_short e = record { does = (f, w, rw e) }

pub good_known : (p : Pen) (u : ℕ) {g : Bool} → g ≡ time_good p u → g ≡ true → time_good p u ≡ true
good_known p u e t = sym e ∙ t

pub ruleset does_laws = (good_known, does_time, does_bad_time, does_write, does_bad_write, does_step, does_end, does_end_short)
