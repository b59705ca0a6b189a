-- Demands 1, 2 and 3 of the entry over vector records: where `flat` suffices they are those of the flat core, and no working buffer is left.
-- Assumes nothing.
use Rattle.std.specs.Prelude.{ℕ, ◌*◌, ◌≤◌, ◌≡◌, refl, Bool, true, false, List, [], replicate}
use Rattle.std.proofs.Common.{arith}
use borrow.Author.Tests.{le-leb}
use Rattle.std.proofs.Math.ListN.{length}
use Rattle.tables.specs.Lists.{Lists}
use Rattle.tables.specs.Checks.{unless, and_then, within_limit, check1, check2, checks}
use Rattle.refusals.specs.Laws.{same_number, same_place}
use Rattle.tables.specs.Check.{Check, Passed, Refused}
use Rattle.values.specs.Value.{ordinary}
use Rattle.rules.specs.Vector.{acts_early}
use Rattle.rules.specs.Demand3.{Demand3}
use Rattle.rules.specs.Scan.{acts}
use Rattle.gather.specs.Run.{gathers}
use Rattle.section_scan.specs.Sections.{scan_sections}
use Rattle.doorquill.specs.declared.Vector.{Vector}
use Rattle.answers.specs.Outcome.{Outcome, refused, answer, event_bytes, value_bytes, padded, Lent, leaves}
use Rattle.entries.specs.Entries.{checked, reads, read_sections}
use Rattle.answers.specs.Outcome.Laws.{padded_length, padded_past, padded_nothing, refusal_rest}
use Rattle.entries.specs.Demands.{Answers, Output, Demand1, Demand2, sections_1, sections_2, sections_3}
use Rattle.doorquill.specs.Lent.{table_of, LeftLent, checks_lent, left_by, read_sections_lent}
use Rattle.doorquill.specs.Lent.Entry.{vectors_table}

-- an earlier check that refuses does so in the core too
same_by : (a b later : Check) (l : Lent) (o : Outcome)
    → left_by (and_then a (and_then Passed (and_then b Passed))) l (leaves l (checked (and_then a (and_then b later)) o)) ≡ leaves l (checked (and_then a (and_then b later)) o)
unfolding left_by and_then checked
same_by Passed Passed later l o = refl
same_by Passed (Refused n p) later l o = refl
same_by (Refused n p) b later l o = refl

-- ---- demand 1, of every input

pub record LentDemand1 (c : Check) (input : ℕ) (l : Lent) (size : ℕ) (x : LeftLent) : Type 0 where
  pub answers : Answers 20 input x.left.answer
  pub events : Output x.left.answer x.left.answer.events l.events x.left.events
  pub values : Output x.left.answer x.left.answer.values l.values x.left.values
  -- "Working buffers are zero at every return."
  pub room : x.left.room ≡ replicate l.room 0
  pub list : x.left.list ≡ replicate l.list 0
  pub flat : x.flat ≡ replicate size 0
  -- "Each public entry does its own checking."
  pub checks : (n p : ℕ) → c ≡ Refused n p → (x.left.answer.number ≡ n) × (x.left.answer.place ≡ p)

-- what a check that refuses says
abbrev Numbered : Check → Type 0
Numbered Passed = Unit {0}
Numbered (Refused n p) = (1 ≤ n) × (n ≤ 20) × (p ≡ 0)

unless_numbered : (good : Bool) (n : ℕ) → 1 ≤ n → n ≤ 20 → Numbered (unless good n)
unfolding unless
unless_numbered true n a b = tt
unless_numbered false n a b = (a, b, refl)

then_numbered : (a b : Check) → Numbered a → Numbered b → Numbered (and_then a b)
unfolding and_then
then_numbered Passed b h k = k
then_numbered (Refused n p) b h k = h

lent_numbered : (t : Lists) (input : ℕ) (l : Lent) (flat : ℕ) → Numbered (checks_lent t input l flat)
unfolding checks_lent check1 check2
lent_numbered t input l flat =
    then_numbered _ _ (unless_numbered _ 1 (omega arith) (omega arith))
    (then_numbered _ _ (unless_numbered _ 1 (omega arith) (omega arith)) (then_numbered _ _ (unless_numbered _ 2 (omega arith) (omega arith)) (unless_numbered _ 6 (omega arith) (omega arith))))

nothing_out : (n p : ℕ) (size : ℕ) → Output (answer (refused n p)) 0 size (padded size [])
nothing_out n p size = record {
  zeroed = λ _. padded_nothing size [] refl;
  long = padded_length size [] (omega arith);
  within = omega arith;
  past = padded_past size [] 0 refl;
}

demand1_by : (c : Check) → Numbered c → (t : Lists) (flag : Bool) (s : List ℕ) (l : Lent) (flat : ℕ)
    → LentDemand1 c (length s) l flat (record { left = left_by c l (read_sections t (ordinary flag) s l); flat = replicate flat 0 })
unfolding left_by leaves answer event_bytes value_bytes
demand1_by Passed h t flag s l flat =
    let d = sections_1 t (ordinary flag) s l in
    record {
      answers = d.answers;
      events = d.events;
      values = d.values;
      room = d.room;
      list = d.list;
      flat = refl;
      checks = λ n p e. let z : ◌≡◌ {A = ℕ} 0 1 = cc in absurd (omega arith);
    }
demand1_by (Refused m q) h t flag s l flat =
    record {
      answers = record { refusal = refusal_rest (refused m q); number = h.1; acceptance = λ e. absurd (omega (arith, h.0)); read = omega arith };
      events = nothing_out m q l.events;
      values = nothing_out m q l.values;
      room = refl;
      list = refl;
      flat = refl;
      checks = λ n p e. (same_number e, same_place e);
    }

-- ---- the entry

module _ (vs : List Vector) (kinds refs vecs : List ℕ) (flag : Bool) (s : List ℕ) (l : Lent) (flat : ℕ) where
  abbrev t : Lists
  t = table_of vs kinds refs vecs

  abbrev x : LeftLent
  x = read_sections_lent vs kinds refs vecs flag s l flat

  pub lent_demand1 : LentDemand1 (checks_lent t (length s) l flat) (length s) l flat x
  unfolding read_sections_lent
  lent_demand1 = demand1_by (checks_lent t (length s) l flat) (lent_numbered t (length s) l flat) t flag s l flat

  -- "Working buffers are zero at every return."
  pub lent_zero : (x.left.room ≡ replicate l.room 0) × (x.left.list ≡ replicate l.list 0) × (x.flat ≡ replicate flat 0)
  lent_zero = (lent_demand1.room, lent_demand1.list, lent_demand1.flat)

  -- "A refusal gives a number and a place with all other fields zero": what the entry's own checks refuse is refused so
  pub lent_refused : (n p : ℕ) → checks_lent t (length s) l flat ≡ Refused n p → x.left ≡ leaves l (refused n p)
  unfolding read_sections_lent left_by
  lent_refused n p c = rw c

  module _ (few : flat ≤ 1073741823) (room : 4 * length vs ≤ flat) where
    -- where `flat` is within its limit and has 4 numbers for each record, all is as the core leaves it for the flat table
    pub lent_reads : x.left ≡ read_sections t (ordinary flag) s l
    unfolding read_sections_lent read_sections checks_lent reads checks within_limit unless
    lent_reads =
        rw (le-leb flat 1073741823 few, vectors_table vs kinds refs vecs, le-leb (4 * length vs) flat room)
        (same_by (check1 (length s) l.events l.values l.room l.list) (check2 t) _ l _)

    pub lent_1 : Demand1 t (length s) l x.left
    lent_1 = rw lent_reads (sections_1 t (ordinary flag) s l)

    pub lent_2 : Demand2 t (length s) l (scan_sections t (ordinary flag) s) x.left
    lent_2 = rw lent_reads (sections_2 t (ordinary flag) s l)

    pub lent_3 : x.left.answer.number ≡ 0 → Demand3 acts_early (gathers t) (acts (scan_sections t (ordinary flag) s))
    lent_3 h = sections_3 t (ordinary flag) s l (rw lent_reads at h)
