-- What section bytes give back: the record of each act.
-- Assumes nothing.
use Rattle.std.specs.Prelude.{ℕ, ◌+◌, Bool, List}
use Rattle.tables.specs.Lists.{Lists}
use Rattle.values.specs.Value.{ordinary}
use Rattle.rules.specs.Scan.{Scan, say}
use Rattle.rules.specs.Scan as scan
use Rattle.section_scan.specs.Sections.{scan_sections}
use Rattle.read_back.specs.ReadBack.{record_of, times}
use Rattle.courses.specs.Course.{Course, adds, done, fault}

unfoldable pub given_from : Lists → (steps : ℕ) → Scan → Course
given_from t n (say a p rest) = adds (record_of t a) p (given_from t (n + times a) rest)
given_from t n (scan.done i) = done i n
given_from t n (scan.fault m p) = fault m p

unfoldable pub given_back : Lists → Bool → List ℕ → Course
given_back t flag s = given_from t 0 (scan_sections t (ordinary flag) s)
