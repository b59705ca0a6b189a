-- What the scans of both readings keep to: where they end, with what they are refused, and that their acts are whole steps.
-- Assumes nothing.
use Rattle.std.specs.Prelude.{ℕ, ◌≤◌, ◌≢◌, List, length}
use Rattle.std.proofs.Common.{arith}
use Rattle.tables.specs.Lists.{Lists}
use Rattle.values.specs.declared.How.{How}
use Rattle.rules.specs.Steps.{Stepped}
use Rattle.rules.specs.Scan.{Scan, acts, Ends, Faults}
use Rattle.section_scan.specs.Sections.{scan_sections}
use Rattle.section_scan.specs.Sections.Stepped.{sections_stepped, sections_end, sections_number}
use Rattle.changes.specs.Changes.{scan_changes}
use Rattle.changes.specs.Changes.Steps.{changes_stepped, changes_end, changes_number}

pub record Scanned (input : ℕ) (sc : Scan) : Type 0 where
  pub end : (i : ℕ) → Ends i sc → i ≤ input
  pub number : (n p : ℕ) → Faults n p sc → (7 ≤ n) × (n ≤ 19) × (n ≢ 16)
  pub stepped : (i : ℕ) → Ends i sc → Stepped (acts sc)

pub sections_scanned : (t : Lists) (how : How) (s : List ℕ) → Scanned (length s) (scan_sections t how s)
sections_scanned t how s = record {
  end = sections_end t how s;
  number = λ n p f. let h = sections_number t how s n p f in (h.0, omega arith, λ e. omega arith);
  stepped = sections_stepped t how s;
}

pub changes_scanned : (t : Lists) (s : List ℕ) → Scanned (length s) (scan_changes t s)
changes_scanned t s = record {
  end = λ i e. omega (arith, changes_end t s i e);
  number = changes_number t s;
  stepped = changes_stepped t s;
}
