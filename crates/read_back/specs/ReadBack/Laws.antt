-- The records of a scan, where there is room for them.
-- Assumes nothing.
use Rattle.std.specs.Prelude.{◌≡◌, ℕ, ◌+◌, ◌≤◌, List, [], ◌++◌}
use Rattle.std.proofs.Common.{◌∙◌, append_assoc, append-nil, arith, le-leb}
use Rattle.std.proofs.Math.Nat.{add-zero, add_assoc}
use Rattle.std.proofs.Math.ListN.{length, length-append}
use Rattle.number_writer.specs.Ended.{wrote, refused}
use Rattle.tables.specs.Lists.{Lists}
use Rattle.rules.specs.Scan.{Scan, say, done, fault}
use Rattle.read_back.specs.ReadBack.{record_of, times, giving}

-- the records of all acts, how many of them are times, and that nothing is refused
unfoldable pub records_of : Lists → Scan → List ℕ
records_of t (say a p rest) = record_of t a ++ records_of t rest
records_of t (done i) = []
records_of t (fault n p) = []

unfoldable pub times_of : Scan → ℕ
times_of (say a p rest) = times a + times_of rest
times_of (done i) = 0
times_of (fault n p) = 0

abbrev pub Finishes : Scan → Type 0
Finishes (say a p rest) = Finishes rest
Finishes (done i) = Unit {0}
Finishes (fault n p) = ⊥

module _ (t : Lists) (room : ℕ) where
  -- where there is room, the records of all acts are given
  pub gives_all : (sc : Scan) (out : List ℕ) (n : ℕ) → Finishes sc → length out + length (records_of t sc) ≤ room
      → (i : ℕ) × (giving t room sc out n ≡ wrote i (out ++ records_of t sc) (n + times_of sc))
  unfolding giving records_of times_of
  gives_all (say a p rest) out n f h =
      let l : length (record_of t a ++ records_of t rest) ≡ length (record_of t a) + length (records_of t rest) = length-append (record_of t a) (records_of t rest) in
      let m : length (out ++ record_of t a) ≡ length out + length (record_of t a) = length-append out (record_of t a) in
      let r = gives_all rest (out ++ record_of t a) (n + times a) f (omega arith) in
      (r.0, rw (le-leb (length out + length (record_of t a)) room (omega arith)) (r.1 ∙ rw (append_assoc out (record_of t a) (records_of t rest), add_assoc n (times a) (times_of rest))))
  gives_all (done i) out n f h = (i, rw (append-nil out, add-zero n))
  gives_all (fault k p) out n f h = absurd f
