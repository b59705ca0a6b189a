-- Where a writing and a reading back end, and with what they are refused: as the scan of their input, or for a reason of their own.
-- Assumes nothing.
use Rattle.std.specs.Prelude.{◌≡◌, ◌⊎◌, Bool, ltb, leb}
use Rattle.std.proofs.Math.Path.{refl}
use Rattle.std.proofs.Math.Logic.{inl, inr}
use Prim.Native.Nat.{ℕ, zero, suc, ◌+◌, ◌≤◌}
use Rattle.std.proofs.Math.Bool.{true, false}
use mathlib.Core.List.{List, [], ◌∷◌, ◌++◌}
use Rattle.std.proofs.Common.{arith, leb-true}
use Rattle.std.proofs.Math.ListN.{length, length-append}
use Rattle.slices.specs.Choice.{cond_ind}
use Rattle.number_writer.specs.Ended.{Ended, wrote, refused}
use Rattle.tables.specs.Lists.{Lists, nth}
use Rattle.values.specs.Value.{ordinary}
use Rattle.rules.specs.Gather.{Act, time, write, step_end}
use Rattle.rules.specs.Scan.{Scan, say, done, fault, Ends, Faults}
use Rattle.section_scan.specs.Sections.{scan_sections}
use Rattle.changes.specs.Change.{ChangeFound}
use Rattle.changes.specs.Change as change
use Rattle.changes.specs.Changes.{next_change, one_record, changes, scan_changes}
use Rattle.sections_writer.specs.declared.Pen.{Pen}
use Rattle.sections_writer.specs.Writer.{goes, ends, time_bytes, time_good, timed, write_bytes, wrote_to, stepped, closing, given_time, given_write, given, begin, one, writing, write_sections}
use Rattle.read_back.specs.ReadBack.{record_of, times, giving, read_back}

-- an end, beside the scan of the same input: read to where the scan ends, with bytes that fit; or refused as the scan, or with a number of its own
abbrev pub Comes : (own : ℕ → Type 0) → (room : ℕ) → Ended → Scan → Type 0
Comes own room (wrote i bs n) sc = Ends i sc × (length bs ≤ room)
Comes own room (refused n p) sc = Faults n p sc ⊎ own n

module _ (own : ℕ → Type 0) (room : ℕ) where
  comes_say : (a : Act) (p : ℕ) (sc : Scan) (e : Ended) → Comes own room e sc → Comes own room e (say a p sc)
  unfolding Ends Faults
  comes_say a p sc (wrote i bs n) c = c
  comes_say a p sc (refused n q) c = c

-- ---- writing

-- "Refusals: 22 ids not rising, 23 time falls or jumps too far ..; 16 means that the record's bytes, or the closing ones at the input's end, don't fit"
abbrev pub Own : ℕ → Type 0
Own n = (n ≡ 16) ⊎ ((n ≡ 22) ⊎ (n ≡ 23))

module _ (t : Lists) (flag : Bool) (s : List ℕ) (room : ℕ) where
  abbrev To : Ended → Scan → Type 0
  To e sc = Comes Own room e sc

  abbrev Later : (Pen → List ℕ → ℕ → Ended) → (Bool → ℕ → Scan) → Type 0
  Later more more' = (q : Pen) (o : List ℕ) (j : ℕ) → length o ≤ room → To (more q o j) (more' q.inside j)

  module _ (p : Pen) (out : List ℕ) (more : Pen → List ℕ → ℕ → Ended) where
    -- bytes that fit, and what comes after them
    on : (bs : List ℕ) (q : Pen) (j : ℕ) (sc : Scan) → (length (out ++ bs) ≤ room → To (more q (out ++ bs) j) sc) → To (one t flag s room p out (goes bs q j) more) sc
    unfolding one
    on bs q j sc f = cond_ind (leb (length out + length bs) room) _ _ (λ e. To e sc) (λ h. f (rw length-append (leb-true _ _ h))) (λ h. inr (inl refl))

    over : (bs : List ℕ) (j : ℕ) (sc : Scan) → Ends j sc → To (one t flag s room p out (ends bs j) more) sc
    unfolding one
    over bs j sc f = cond_ind (leb (length out + length bs) room) _ _ (λ e. To e sc) (λ h. (f, rw length-append (leb-true _ _ h))) (λ h. inr (inl refl))

    turn : (i : ℕ) (more' : Bool → ℕ → Scan) → Later more more' → (c : ChangeFound) → To (one t flag s room p out (given t flag s p i c) more) (one_record t s c i more')
    unfolding given given_time given_write one_record one Ends Faults
    turn i more' rec (change.Time u j) =
        cond_ind (time_good p u) _ _ (λ g. To (one t flag s room p out g more) (say (time u) j (more' true j)))
        (λ h. on (time_bytes flag p u) (timed p u) j (say (time u) j (more' true j)) (λ l. comes_say Own room (time u) j (more' true j) (more (timed p u) (out ++ time_bytes flag p u) j) (rec (timed p u) (out ++ time_bytes flag p u) j l)))
        (λ h. inr (inr (inr refl)))
    turn i more' rec (change.Write id v j) =
        let bs = write_bytes p (nth t.kinds id) id v s j in
        cond_ind (ltb p.id id) _ _ (λ g. To (one t flag s room p out g more) (say (write id v i) j (more' true j)))
        (λ h. on bs (wrote_to p id) j (say (write id v i) j (more' true j)) (λ l. comes_say Own room (write id v i) j (more' true j) (more (wrote_to p id) (out ++ bs) j) (rec (wrote_to p id) (out ++ bs) j l)))
        (λ h. inr (inr (inl refl)))
    turn i more' rec (change.StepEnd j) =
        on (0 ∷ []) (stepped p) j (say step_end j (more' false j)) (λ l. comes_say Own room step_end j (more' false j) (more (stepped p) (out ++ (0 ∷ [])) j) (rec (stepped p) (out ++ (0 ∷ [])) j l))
    turn i more' rec (change.End j) = over (closing p) j (done j) refl
    turn i more' rec (change.Bad n q) = inl (refl, refl)

  all : (fuel : ℕ) (p : Pen) (out : List ℕ) (i : ℕ) → To (writing t flag s room fuel p out i) (changes t s fuel p.inside i)
  unfolding writing changes Ends
  all zero p out i = turn p out (λ q o j. wrote j o q.steps) i (λ b j. done j) (λ q o j l. (refl, l)) (next_change t s p.inside i)
  all (suc fuel) p out i =
      turn p out (λ q o j. writing t flag s room fuel q o j) i (λ b j. changes t s fuel b j) (λ q o j l. all fuel q o j) (next_change t s p.inside i)

  pub writes_as : Comes Own room (write_sections t flag s room) (scan_changes t s)
  unfolding write_sections scan_changes
  writes_as = all (length s) begin [] 0

-- ---- reading back

abbrev pub Full : ℕ → Type 0
Full n = n ≡ 16

module _ (t : Lists) (room : ℕ) where
  gives : (sc : Scan) (out : List ℕ) (n : ℕ) → length out ≤ room → Comes Full room (giving t room sc out n) sc
  unfolding giving Ends Faults
  gives (say a p rest) out n h =
      cond_ind (leb (length out + length (record_of t a)) room) _ _ (λ e. Comes Full room e (say a p rest))
      (λ l. comes_say Full room a p rest (giving t room rest (out ++ record_of t a) (n + times a)) (gives rest (out ++ record_of t a) (n + times a) (rw length-append (leb-true _ _ l)))) (λ l. inr refl)
  gives (done i) out n h = (refl, h)
  gives (fault k p) out n h = inl (refl, refl)

  pub gives_as : (flag : Bool) (s : List ℕ) → Comes Full room (read_back t flag s room) (scan_sections t (ordinary flag) s)
  unfolding read_back
  gives_as flag s = gives (scan_sections t (ordinary flag) s) [] 0 (omega arith)
