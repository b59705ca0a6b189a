-- Reading back fills the room with its course, which ends where the scan does.
-- Assumes nothing.
use Rattle.std.specs.Prelude.{ℕ, ◌+◌, ◌≡◌, Bool, leb}
use Rattle.std.proofs.Math.Path.{refl, ap}
use Rattle.std.proofs.Math.Bool.{cond}
use mathlib.Core.List.{List, [], ◌++◌}
use Rattle.std.proofs.Math.ListN.{length}
use Rattle.number_writer.specs.Ended.{refused}
use Rattle.tables.specs.Lists.{Lists}
use Rattle.values.specs.Value.{ordinary}
use Rattle.rules.specs.Scan.{Scan, say}
use Rattle.rules.specs.Scan as scan
use Rattle.section_scan.specs.Sections.{scan_sections}
use Rattle.read_back.specs.ReadBack.{record_of, times, giving, read_back}
use Rattle.courses.specs.Course.{Ends, Faults, Told, fill}
use Rattle.courses.specs.GivenBack.{given_from, given_back}

module _ (t : Lists) (room : ℕ) where
  giving_fills : (sc : Scan) (out : List ℕ) (n : ℕ) → giving t room sc out n ≡ fill room (given_from t n sc) out
  unfolding giving given_from fill
  giving_fills (say a p rest) out n =
      ap (λ e. cond (leb (length out + length (record_of t a)) room) e (refused 16 p))
      (giving_fills rest (out ++ record_of t a) (n + times a))
  giving_fills (scan.done i) out n = refl
  giving_fills (scan.fault m p) out n = refl

  pub back_fills : (flag : Bool) (s : List ℕ) → read_back t flag s room ≡ fill room (given_back t flag s) []
  unfolding read_back given_back
  back_fills flag s = giving_fills (scan_sections t (ordinary flag) s) [] 0

-- where the scan ends, and with what it is refused
pub given_told : (t : Lists) (sc : Scan) (n : ℕ)
    → Told (λ i. scan.Ends i sc) (λ m p. scan.Faults m p sc) (given_from t n sc)
unfolding scan.Ends scan.Faults Ends Faults given_from
given_told t (say a p rest) n = let r =
    given_told t rest (n + times a) in
    record { ends = r.ends; ended = r.ended; faults = r.faults; faulted = r.faulted }
given_told t (scan.done j) n =
    record {
      ends = λ i m e. e.0;
      ended = λ i e. (n, (e, refl));
      faults = λ m p e. absurd e;
      faulted =
          λ m p e. absurd e;
    }
given_told t (scan.fault k q) n =
    record { ends = λ i m e. absurd e; ended = λ i e. absurd e; faults = λ m p e. e; faulted = λ m p e. e }
