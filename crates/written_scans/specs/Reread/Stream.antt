-- What was written is read back as the change records that it was written from.
-- Assumes nothing.
use Rattle.std.specs.Prelude.{◌≡◌, Bool, drop, ltb}
use Rattle.std.proofs.Math.Path.{refl, sym, ap}
use Rattle.std.proofs.Common.{subst, ◌∙◌, zero-add, add-zero, arith}
use Prim.Native.Nat.{ℕ, zero, suc, ◌+◌, ◌≤◌, ◌<◌}
use Rattle.std.proofs.Math.Bool.{true, false}
use mathlib.Core.List.{List, [], ◌∷◌, ◌++◌}
use Rattle.std.proofs.Math.Nat.{add_assoc}
use Rattle.std.proofs.Math.ListN.{length}
use Rattle.slices.specs.Choice.{cond_ind}
use Rattle.numbers.specs.Fixed.Laws.{Bytes}
use Rattle.tables.specs.Lists.{Lists, nth}
use Rattle.values.specs.Value.{ordinary}
use Rattle.rules.specs.Gather.{Act, time, write, step_end}
use Rattle.rules.specs.Scan.{Scan, say, done, fault}
use Rattle.changes.specs.Change.{ChangeFound}
use Rattle.changes.specs.Change as change
use Rattle.changes.specs.Changes.{next_change, one_record, changes, scan_changes}
use Rattle.changes.specs.Changes.Found.{Found, change_found}
use Rattle.section_scan.specs.Sections.{scan_sections}
use Rattle.number_writer.specs.Ended.{Ended, wrote}
use Rattle.sections_writer.specs.declared.Pen.{Pen}
use Rattle.sections_writer.specs.Writer.{goes, stops, time_bytes, time_good, timed, write_bytes, wrote_to, stepped, closing, given_time, given_write, given, begin, one, writing, write_sections}
use Rattle.read_back.specs.ReadBack.{record_of, times, read_back}
use Rattle.read_back.specs.ReadBack.Laws.{records_of, times_of, Finishes, gives_all}
use Rattle.written_scans.specs.Reread.{bare_act, bare}
use Rattle.written_scans.specs.Reread.Spelled.{Spelled, next_spelled}
use Rattle.written_scans.specs.Reread.Back.{put, steps_end, reread}

-- ---- the records of acts do not depend on places

module _ (t : Lists) where
  act_bare : (a : Act) → record_of t a ≡ record_of t (bare_act a)
  unfolding record_of bare_act
  act_bare (time u) = refl
  act_bare (write id v p) = refl
  act_bare step_end = refl

  records_bare : (sc : Scan) → records_of t sc ≡ records_of t (bare sc)
  unfolding records_of bare
  records_bare (say a p rest) = ap (λ x. x ++ records_of t rest) (act_bare a) ∙ ap (λ x. record_of t (bare_act a) ++ x) (records_bare rest)
  records_bare (done i) = refl
  records_bare (fault n p) = refl

times_act : (a : Act) → times a ≡ times (bare_act a)
unfolding times bare_act
times_act (time u) = refl
times_act (write id v p) = refl
times_act step_end = refl

times_bare : (sc : Scan) → times_of sc ≡ times_of (bare sc)
unfolding times_of bare
times_bare (say a p rest) = ap (λ x. x + times_of rest) (times_act a) ∙ ap (λ x. times (bare_act a) + x) (times_bare rest)
times_bare (done i) = refl
times_bare (fault n p) = refl

finishes_bare : (sc : Scan) → Finishes sc → Finishes (bare sc)
unfolding bare
finishes_bare (say a p rest) f = finishes_bare rest f
finishes_bare (done i) f = tt
finishes_bare (fault n p) f = f

bare_finishes : (sc : Scan) → Finishes (bare sc) → Finishes sc
unfolding bare
bare_finishes (say a p rest) f = bare_finishes rest f
bare_finishes (done i) f = tt
bare_finishes (fault n p) f = f

-- ---- the records of an accepted stream are the stream

module _ (t : Lists) (flag : Bool) (s : List ℕ) (room read : ℕ) (bs : List ℕ) (n : ℕ) where
  pub record Streams (i steps : ℕ) (sc : Scan) : Type 0 where
    pub finishes : Finishes sc
    pub spelled : records_of t sc ≡ drop i s
    pub counted : n ≡ steps + times_of sc

  abbrev Later : ℕ → (Pen → List ℕ → ℕ → Ended) → (Bool → ℕ → Scan) → Type 0
  Later i more more' = (q : Pen) (out : List ℕ) (j : ℕ) → i < j → j ≤ length s → more q out j ≡ wrote read bs n → Streams j q.steps (more' q.inside j)

  module _ (p : Pen) (out : List ℕ) (i : ℕ) (more : Pen → List ℕ → ℕ → Ended) (more' : Bool → ℕ → Scan) (later : Later i more more') where
    turn : (c : ChangeFound) → Found t s i c → Spelled t s i c → one t flag s room p out (given t flag s p i c) more ≡ wrote read bs n → Streams i p.steps (one_record t s c i more')
    unfolding given given_time given_write one_record records_of times_of times
    turn (change.Time u j) f k =
        cond_ind (time_good p u) _ _ (λ g. one t flag s room p out g more ≡ wrote read bs n → Streams i p.steps (say (time u) j (more' true j)))
        (λ g e.
        let l = later (timed p u) (out ++ time_bytes flag p u) j f.0 f.1 (put t flag s room read bs n p out (goes (time_bytes flag p u) (timed p u) j) more e) in
        record { finishes = l.finishes; spelled = ap (λ x. record_of t (time u) ++ x) l.spelled ∙ sym k; counted = l.counted ∙ add_assoc p.steps 1 (times_of (more' true j)) })
        (λ g e. absurd (put t flag s room read bs n p out (stops 23 i) more e))
    turn (change.Write id v j) f k =
        cond_ind (ltb p.id id) _ _ (λ g. one t flag s room p out g more ≡ wrote read bs n → Streams i p.steps (say (write id v i) j (more' true j)))
        (λ g e.
        let b = write_bytes p (nth t.kinds id) id v s j in
        let l = later (wrote_to p id) (out ++ b) j f.0 f.1 (put t flag s room read bs n p out (goes b (wrote_to p id) j) more e) in
        record { finishes = l.finishes; spelled = ap (λ x. record_of t (write id v i) ++ x) l.spelled ∙ sym k; counted = l.counted ∙ ap (λ x. p.steps + x) (sym (zero-add (times_of (more' true j)))) })
        (λ g e. absurd (put t flag s room read bs n p out (stops 22 i) more e))
    turn (change.StepEnd j) f k = λ e.
        let l = later (stepped p) (out ++ (0 ∷ [])) j f.0 f.1 (put t flag s room read bs n p out (goes (0 ∷ []) (stepped p) j) more e) in
        record { finishes = l.finishes; spelled = ap (λ x. record_of t step_end ++ x) l.spelled ∙ sym k; counted = l.counted ∙ ap (λ x. p.steps + x) (sym (zero-add (times_of (more' false j)))) }
    turn (change.End j) f k = λ e. record { finishes = tt; spelled = sym k; counted = steps_end t flag s room read bs n p out (closing p) j more e ∙ sym (add-zero p.steps) }
    turn (change.Bad a b) f k = λ e. absurd (put t flag s room read bs n p out (stops a b) more e)

  module _ (b : Bytes s) where
    all : (fuel : ℕ) (p : Pen) (out : List ℕ) (i : ℕ) → length s ≤ i + fuel → writing t flag s room fuel p out i ≡ wrote read bs n → Streams i p.steps (changes t s fuel p.inside i)
    unfolding writing changes
    all zero p out i h e =
        turn p out i (λ q o j. wrote j o q.steps) (λ b j. done j) (λ q o j x y w. absurd (omega arith)) (next_change t s p.inside i)
        (change_found t s i p.inside refl refl) (next_spelled t s b i p.inside) e
    all (suc fuel) p out i h e =
        turn p out i (λ q o j. writing t flag s room fuel q o j) (λ b j. changes t s fuel b j) (λ q o j x y w. all fuel q o j (omega arith) w) (next_change t s p.inside i)
        (change_found t s i p.inside refl refl) (next_spelled t s b i p.inside) e

    module _ (e : write_sections t flag s room ≡ wrote read bs n) where
      streams : Streams 0 0 (scan_changes t s)
      unfolding write_sections scan_changes
      streams = all (length s) begin [] 0 (omega arith) e

      same : bare (scan_sections t (ordinary flag) bs) ≡ bare (scan_changes t s)
      same = reread t flag s room read bs n b e

      -- what was written, read back where there is room for it, is the stream that it was written from, with as many steps: so writing it again gives the same bytes
      pub read_back_lem : (back : ℕ) → length s ≤ back → (r : ℕ) × (read_back t flag bs back ≡ wrote r s n)
      unfolding read_back
      read_back_lem back h =
          let sc = scan_sections t (ordinary flag) bs in
          let f : Finishes sc = bare_finishes sc (subst Finishes (sym same) (finishes_bare (scan_changes t s) streams.finishes)) in
          let q : records_of t sc ≡ s = records_bare t sc ∙ (ap (records_of t) same ∙ (sym (records_bare t (scan_changes t s)) ∙ streams.spelled)) in
          let k : times_of sc ≡ n = times_bare sc ∙ (ap times_of same ∙ (sym (times_bare (scan_changes t s)) ∙ (sym (zero-add _) ∙ sym streams.counted))) in
          let g = gives_all t back sc [] 0 f (omega (arith, ap length q)) in
          (g.0, g.1 ∙ (ap (λ x. wrote g.0 x (0 + times_of sc)) q ∙ ap (λ x. wrote g.0 s x) (zero-add (times_of sc) ∙ k)))

      -- "reading what we wrote back into change records and writing again gives the same bytes"
      pub written_again : (back : ℕ) → length s ≤ back → {r k : ℕ} {s' : List ℕ} → read_back t flag bs back ≡ wrote r s' k → write_sections t flag s' room ≡ wrote read bs n
      written_again back h {s' = s'} q =
          let g = read_back_lem back h in
          let z : wrote g.0 s n ≡ wrote _ s' _ = sym g.1 ∙ q in
          let y : s' ≡ s = cc in
          ap (λ x. write_sections t flag x room) y ∙ e
