-- Section reading of what was written scans the acts of the change records, places aside.
-- Assumes nothing.
use Rattle.std.specs.Prelude.{◌≡◌, Bool, ◌&&◌, ltb}
use Rattle.std.proofs.Math.Path.{refl, sym, ap}
use Rattle.std.proofs.Common.{subst, ◌∙◌, add_assoc, arith, length-append}
use Prim.Native.Nat.{ℕ, zero, suc, ◌+◌, ◌-◌, ◌^◌, ◌≤◌, ◌<◌}
use Rattle.std.proofs.Math.Bool.{true, false}
use mathlib.Core.List.{List, [], ◌∷◌, ◌++◌, append_assoc, append-nil}
use borrow.Author.Tests.{ne_eqb, leb-true, ltb-true}
use Rattle.std.proofs.Math.ListN.{length, replicate}
use Rattle.std.proofs.Math.Dec.{leb}
use Rattle.slices.specs.Choice.{cond_ind}
use Rattle.numbers.specs.Fixed.Laws.{Bytes}
use Rattle.numbers.specs.Marks.{cyc, ecy, tai}
use Rattle.tables.specs.Lists.{Lists, nth, signals}
use Rattle.values.specs.declared.How.{How}
use Rattle.values.specs.Read.{Value}
use Rattle.values.specs.Value.{ordinary, value}
use Rattle.rules.specs.Gather.{time, write, step_end}
use Rattle.rules.specs.Scan.{Scan, say, done, and_then}
use Rattle.changes.specs.Change.{ChangeFound}
use Rattle.changes.specs.Change as change
use Rattle.changes.specs.Changes.{next_change, one_record, changes, scan_changes}
use Rattle.changes.specs.Changes.Found.{Found, change_found}
use Rattle.section_scan.specs.Sections.{next_time, change_list, one_step, steps, sections, scan_sections}
use Rattle.number_writer.specs.Ended.{Ended, wrote, refused}
use Rattle.leb128.specs.Shortest.{unsigned_bytes, signed_bytes, groups, fits, rest}
use Rattle.leb128.specs.Shortest.Laws.{bytes_some}
use Rattle.number_writer.specs.Little.{fixed_bytes}
use Rattle.number_writer.specs.Little.Laws.{length_fixed_bytes}
use Rattle.sections_writer.specs.declared.Pen.{Pen}
use Rattle.sections_writer.specs.Writer.{Given, goes, ends, stops, time_bytes, time_good, timed, value_bytes, write_bytes, wrote_to, stepped, cycle_end, closing, given_time, given_write, given, begin, one, writing, write_sections}
use Rattle.written_scans.specs.Reread.{bare_act, bare}
use Rattle.written_scans.specs.Reread.Known.{Known, Writes, next_known}
use Rattle.written_scans.specs.Reread.Stands.{Stands, stands_here, stands_first, stands_next, stands_inside, value_is}
use Rattle.written_scans.specs.Reread.Scanned.{cycle_opens, tailer_ends, time_later, cycle_ends, write_on, list_ends}

not_wrote : {n p read k : ℕ} {bs : List ℕ} → refused n p ≡ wrote read bs k → ⊥
not_wrote e = let z : ◌≡◌ {A = ℕ} 0 1 = cc in omega arith

same_bytes : {a b c d : ℕ} {x y : List ℕ} → wrote a x b ≡ wrote c y d → x ≡ y
same_bytes e = cc

opposite : {b : Bool} → b ≡ true → b ≡ false → ⊥
opposite p q = let z : ◌≡◌ {A = ℕ} 0 1 = (let e : true ≡ false = sym p ∙ q in cc) in omega arith

-- ---- a record that was written

module _ (t : Lists) (flag : Bool) (s : List ℕ) (room read : ℕ) (bs : List ℕ) (n : ℕ) where
  abbrev how : How
  how = ordinary flag

  abbrev pub Put : Pen → List ℕ → Given → (Pen → List ℕ → ℕ → Ended) → Type 0
  Put p out (goes b q j) more = more q (out ++ b) j ≡ wrote read bs n
  Put p out (ends b j) more = bs ≡ out ++ b
  Put p out (stops k q) more = ⊥

  pub put : (p : Pen) (out : List ℕ) (g : Given) (more : Pen → List ℕ → ℕ → Ended) → one t flag s room p out g more ≡ wrote read bs n → Put p out g more
  unfolding one
  put p out (goes b q j) more =
      cond_ind (leb (length out + length b) room) _ _ (λ e. e ≡ wrote read bs n → more q (out ++ b) j ≡ wrote read bs n) (λ h e. e) (λ h e. absurd (not_wrote e))
  put p out (ends b j) more =
      cond_ind (leb (length out + length b) room) _ _ (λ e. e ≡ wrote read bs n → bs ≡ out ++ b) (λ h e. sym (same_bytes e)) (λ h e. absurd (not_wrote e))
  put p out (stops k q) more = λ e. not_wrote e

  -- the steps at the input's end
  pub steps_end : (p : Pen) (out b : List ℕ) (j : ℕ) (more : Pen → List ℕ → ℕ → Ended) → one t flag s room p out (ends b j) more ≡ wrote read bs n → n ≡ p.steps
  unfolding one
  steps_end p out b j more =
      cond_ind (leb (length out + length b) room) _ _ (λ e. e ≡ wrote read bs n → n ≡ p.steps) (λ h e. let k : p.steps ≡ n = cc in sym k) (λ h e. absurd (not_wrote e))

  -- ---- what is scanned, by where the writing stands

  -- inside a step, and between two
  abbrev in_scan : (f_l f_s f_t u id at : ℕ) → Scan
  in_scan f_l f_s f_t u id at =
      and_then (and_then (change_list t how bs f_l id at) (λ j. say step_end j (one_step t how bs (next_time bs u j) (λ u' e. steps t how bs f_s u' e)))) (λ k. sections t how bs f_t k)

  abbrev between_scan : (f_s f_t u at : ℕ) → Scan
  between_scan f_s f_t u at = and_then (one_step t how bs (next_time bs u at) (λ u' e. steps t how bs f_s u' e)) (λ k. sections t how bs f_t k)

  record Scans (p : Pen) (at : ℕ) (sc : Scan) : Type 0 where
    first : p.inside ≡ false → p.steps ≡ 0 → at ≡ 0 → bare (sections t how bs (length bs) 0) ≡ bare sc
    between : p.inside ≡ false → 1 ≤ p.steps → (f_s f_t : ℕ) → length bs ≤ at + f_s → length bs ≤ at + f_t → bare (between_scan f_s f_t p.time at) ≡ bare sc
    within : p.inside ≡ true → 1 ≤ p.steps → (f_l f_s f_t : ℕ) → length bs ≤ at + f_l → length bs ≤ at + f_s → length bs ≤ at + f_t → bare (in_scan f_l f_s f_t p.time p.id at) ≡ bare sc

  -- the bytes so far are the first of all, and the rest is scanned as the records say
  abbrev Holds : Pen → List ℕ → Scan → Type 0
  Holds p out sc = (more : List ℕ) × (bs ≡ out ++ more) × Scans p (length out) sc

  abbrev Later : ℕ → (Pen → List ℕ → ℕ → Ended) → (Bool → ℕ → Scan) → Type 0
  Later i more more' = (q : Pen) (out : List ℕ) (j : ℕ) → i < j → j ≤ length s → more q out j ≡ wrote read bs n → Holds q out (more' q.inside j)

  module _ (p : Pen) (out : List ℕ) where
    -- ---- a step is opened

    module _ (u : ℕ) (f : u < 2 ^ 64) (o : p.inside ≡ false) (sc : Scan) (j : ℕ) where
      opens_first : (more : List ℕ) → bs ≡ (out ++ time_bytes flag p u) ++ more → Scans (timed p u) (length (out ++ time_bytes flag p u)) sc
          → p.steps ≡ 0 → length out ≡ 0 → bare (sections t how bs (length bs) 0) ≡ bare (say (time u) j sc)
      unfolding time_bytes bare bare_act steps
      opens_first more e c z l = go (length bs) refl
        where
          wrote_so : time_bytes flag p u ≡ cyc ++ fixed_bytes flag 8 u
          wrote_so = rw z

          here : Stands bs 0 (cyc ++ fixed_bytes flag 8 u) more
          here = subst (λ (k : ℕ). Stands bs k (cyc ++ fixed_bytes flag 8 u) more) l (stands_here out (cyc ++ fixed_bytes flag 8 u) more (rw wrote_so at e))

          long : 12 ≤ length bs
          long = omega (arith, stands_inside (cyc ++ fixed_bytes flag 8 u) here (omega arith), length_fixed_bytes flag 8 u)

          place : length (out ++ time_bytes flag p u) ≡ 12
          place = length-append out (time_bytes flag p u) ∙ omega (arith, ap length wrote_so, length_fixed_bytes flag 8 u)

          c' : Scans (timed p u) 12 sc
          c' = subst (λ (k : ℕ). Scans (timed p u) k sc) place c

          stepped' : (g f : ℕ) → length bs ≡ suc g → length bs ≡ suc f → bare (and_then (steps t how bs (suc g) u 12) (λ k. sections t how bs f k)) ≡ bare sc
          stepped' g f q r = c'.within refl (omega arith) (length bs) g f (omega arith) (omega arith) (omega arith)

          go : (m : ℕ) → length bs ≡ m → bare (sections t how bs m 0) ≡ bare (say (time u) j sc)
          go zero q = absurd (omega (arith, long))
          go (suc g) q = ap bare (cycle_opens t flag bs 0 u g f here) ∙ ap (say (time u) 0) (ap (λ (m : ℕ). bare (and_then (steps t how bs m u 12) (λ k. sections t how bs g k))) q ∙ stepped' g g q q)

      opens_later : (more : List ℕ) → bs ≡ (out ++ time_bytes flag p u) ++ more → Scans (timed p u) (length (out ++ time_bytes flag p u)) sc
          → 1 ≤ p.steps → p.time ≤ u → u - p.time < 2 ^ 63 → (f_s f_t : ℕ) → length bs ≤ length out + f_s → length bs ≤ length out + f_t
          → bare (between_scan f_s f_t p.time (length out)) ≡ bare (say (time u) j sc)
      unfolding time_bytes bare bare_act one_step steps and_then
      opens_later more e c z r d f_s f_t hS hT = ap (λ x. bare (and_then (one_step t how bs x (λ u' e. steps t how bs f_s u' e)) (λ k. sections t how bs f_t k))) (time_later t flag bs (length out) p.time u r d f here) ∙ ap (say (time u) 0) (go f_s hS)
        where
          wrote_so : time_bytes flag p u ≡ signed_bytes (u - p.time)
          wrote_so = rw (ne_eqb p.steps 0 (λ w. omega arith))

          here : Stands bs (length out) (signed_bytes (u - p.time)) more
          here = stands_here out (signed_bytes (u - p.time)) more (rw wrote_so at e)

          some : 1 ≤ length (signed_bytes (u - p.time))
          some = bytes_some true (u - p.time)

          long : length out + length (signed_bytes (u - p.time)) ≤ length bs
          long = stands_inside (signed_bytes (u - p.time)) here some

          place : length (out ++ time_bytes flag p u) ≡ length out + length (signed_bytes (u - p.time))
          place = length-append out (time_bytes flag p u) ∙ omega (arith, ap length wrote_so)

          c' : Scans (timed p u) (length out + length (signed_bytes (u - p.time))) sc
          c' = subst (λ (k : ℕ). Scans (timed p u) k sc) place c

          go : (g : ℕ) → length bs ≤ length out + g → bare (and_then (steps t how bs g u (length out + length (signed_bytes (u - p.time)))) (λ k. sections t how bs f_t k)) ≡ bare sc
          go zero h = absurd (omega (arith, long, some))
          go (suc g) h = c'.within refl (omega arith) (length bs) g f_t (omega arith) (omega (arith, some)) (omega arith)

    -- ---- a write

    module _ (id v : ℕ) (h : p.id < id) (g : id < 2 ^ 64) (k : id ≤ signals t) (i j : ℕ) (w : Writes (nth t.kinds id) s v j) (sc : Scan) where
      abbrev delta : List ℕ
      delta = unsigned_bytes (id - p.id)

      abbrev val : List ℕ
      val = value_bytes (nth t.kinds id) v s j

      writes_on : (more : List ℕ) → bs ≡ (out ++ write_bytes p (nth t.kinds id) id v s j) ++ more → Scans (wrote_to p id) (length (out ++ write_bytes p (nth t.kinds id) id v s j)) sc
          → 1 ≤ p.steps → (f_l f_s f_t : ℕ) → length bs ≤ length out + f_l → length bs ≤ length out + f_s → length bs ≤ length out + f_t
          → bare (in_scan f_l f_s f_t p.time p.id (length out)) ≡ bare (say (write id v i) j sc)
      unfolding write_bytes bare bare_act and_then
      writes_on more e c z f_l f_s f_t hL hS hT = go f_l hL
        where
          here : Stands bs (length out) (delta ++ val) more
          here = stands_here out (delta ++ val) more e

          some : 1 ≤ length delta
          some = bytes_some false (id - p.id)

          both : length (delta ++ val) ≡ length delta + length val
          both = length-append delta val

          long : length out + length (delta ++ val) ≤ length bs
          long = stands_inside (delta ++ val) here (omega (arith, some, both))

          reads : value how (nth t.kinds id) bs (length out + length delta) ≡ Value v (length out + length delta + length val)
          reads = value_is flag (nth t.kinds id) v s j w (stands_next delta val here)

          place : length (out ++ (delta ++ val)) ≡ length out + length delta + length val
          place = length-append out (delta ++ val) ∙ omega (arith, both)

          c' : Scans (wrote_to p id) (length out + length delta + length val) sc
          c' = subst (λ (k : ℕ). Scans (wrote_to p id) k sc) place c

          go : (f : ℕ) → length bs ≤ length out + f → bare (in_scan f f_s f_t p.time p.id (length out)) ≡ bare (say (write id v i) j sc)
          go zero l = absurd (omega (arith, long, some, both))
          go (suc f) l =
              ap (λ x. bare (and_then (and_then x (λ j. say step_end j (one_step t how bs (next_time bs p.time j) (λ u' e. steps t how bs f_s u' e)))) (λ k. sections t how bs f_t k)))
              (write_on t flag bs f p.id id v (length out) val h k g here reads)
              ∙ ap (say (write id v 0) 0) (c'.within refl z f f_s f_t (omega (arith, some)) (omega arith) (omega arith))

    -- ---- a step's end

    module _ (j : ℕ) (sc : Scan) where
      ends_step : (more : List ℕ) → bs ≡ (out ++ (0 ∷ [])) ++ more → Scans (stepped p) (length (out ++ (0 ∷ []))) sc
          → 1 ≤ p.steps → (f_l f_s f_t : ℕ) → length bs ≤ length out + f_l → length bs ≤ length out + f_s → length bs ≤ length out + f_t
          → bare (in_scan f_l f_s f_t p.time p.id (length out)) ≡ bare (say step_end j sc)
      unfolding bare bare_act and_then
      ends_step more e c z f_l f_s f_t hL hS hT = go f_l hL
        where
          here : Stands bs (length out) (0 ∷ []) more
          here = stands_here out (0 ∷ []) more e

          long : length out + 1 ≤ length bs
          long = stands_inside (0 ∷ []) here (omega arith)

          c' : Scans (stepped p) (length out + 1) sc
          c' = subst (λ (k : ℕ). Scans (stepped p) k sc) (length-append out (0 ∷ [])) c

          go : (f : ℕ) → length bs ≤ length out + f → bare (in_scan f f_s f_t p.time p.id (length out)) ≡ bare (say step_end j sc)
          go zero l = absurd (omega (arith, long))
          go (suc f) l =
              ap (λ x. bare (and_then (and_then x (λ j. say step_end j (one_step t how bs (next_time bs p.time j) (λ u' e. steps t how bs f_s u' e)))) (λ k. sections t how bs f_t k)))
              (list_ends t flag bs f p.id (length out) here)
              ∙ ap (say step_end 0) (c'.between refl z f_s f_t (omega arith) (omega arith))

    -- ---- the end

    module _ (j : ℕ) (e : bs ≡ out ++ closing p) where
      ends_first : p.steps ≡ 0 → length out ≡ 0 → bare (sections t how bs (length bs) 0) ≡ done 0
      unfolding closing cycle_end bare
      ends_first z l = go (length bs) refl
        where
          wrote_so : closing p ≡ tai ++ replicate 8 0
          wrote_so = rw z

          here : Stands bs 0 (tai ++ replicate 8 0) []
          here = subst (λ (k : ℕ). Stands bs k (tai ++ replicate 8 0) []) l (stands_here out (tai ++ replicate 8 0) [] (e ∙ (ap (λ (x : List ℕ). out ++ x) wrote_so ∙ sym (append-nil _))))

          long : 12 ≤ length bs
          long = stands_inside (tai ++ replicate 8 0) here (omega arith)

          go : (m : ℕ) → length bs ≡ m → bare (sections t how bs m 0) ≡ done 0
          go zero q = absurd (omega (arith, long))
          go (suc g) q = ap bare (tailer_ends t flag bs 0 g here)

      ends_later : 1 ≤ p.steps → (f_s f_t : ℕ) → length bs ≤ length out + f_s → length bs ≤ length out + f_t → bare (between_scan f_s f_t p.time (length out)) ≡ done 0
      unfolding closing cycle_end bare and_then groups fits rest
      ends_later z f_s f_t hS hT =
          ap (λ x. bare (and_then x (λ k. sections t how bs f_t k))) (cycle_ends t flag bs (length out) p.time (λ u' e. steps t how bs f_s u' e) (stands_first ending tail here)) ∙ go f_t hT
        where
          ending : List ℕ
          ending = signed_bytes (2 ^ 64 - 1) ++ ecy

          tail : List ℕ
          tail = tai ++ replicate 8 0

          wrote_so : closing p ≡ (signed_bytes (2 ^ 64 - 1) ++ ecy) ++ (tai ++ replicate 8 0)
          wrote_so = rw (ne_eqb p.steps 0 (λ w. omega arith))

          here : Stands bs (length out) ((signed_bytes (2 ^ 64 - 1) ++ ecy) ++ (tai ++ replicate 8 0)) []
          here = stands_here out ((signed_bytes (2 ^ 64 - 1) ++ ecy) ++ (tai ++ replicate 8 0)) [] (e ∙ (ap (λ (x : List ℕ). out ++ x) wrote_so ∙ sym (append-nil _)))

          next : Stands bs (length out + 1 + 4) (tai ++ replicate 8 0) []
          next = subst (λ (k : ℕ). Stands bs k (tai ++ replicate 8 0) []) (sym (add_assoc (length out) 1 4)) (stands_next (signed_bytes (2 ^ 64 - 1) ++ ecy) (tai ++ replicate 8 0) here)

          long : length out + 1 + 4 + 12 ≤ length bs
          long = stands_inside (tai ++ replicate 8 0) next (omega arith)

          go : (f : ℕ) → length bs ≤ length out + f → bare (sections t how bs f (length out + 1 + 4)) ≡ done 0
          go zero l = absurd (omega (arith, long))
          go (suc f) l = ap bare (tailer_ends t flag bs (length out + 1 + 4) f next)

  -- ---- one record

  module _ (p : Pen) (u : ℕ) (g : time_good p u ≡ true) (z : 1 ≤ p.steps) where
    good_both : (p.time ≤ u) × (u - p.time < 2 ^ 63)
    unfolding time_good
    good_both = by (leb p.time u) (leb (u - p.time) (2 ^ 63 - 1)) refl refl (rw (ne_eqb p.steps 0 (λ w. omega arith)) at g)
      where
        by : (a b : Bool) → leb p.time u ≡ a → leb (u - p.time) (2 ^ 63 - 1) ≡ b → a && b ≡ true → (p.time ≤ u) × (u - p.time < 2 ^ 63)
        by true true e f q = (leb-true _ _ e, omega (arith, leb-true (u - p.time) (2 ^ 63 - 1) f))
        by true false e f q = absurd (opposite refl (sym q))
        by false b e f q = absurd (opposite refl (sym q))

  module _ (p : Pen) (out : List ℕ) (i : ℕ) (more : Pen → List ℕ → ℕ → Ended) (more' : Bool → ℕ → Scan) (later : Later i more more') where
    turn : (c : ChangeFound) → Found t s i c → Known t s p.inside c → one t flag s room p out (given t flag s p i c) more ≡ wrote read bs n → Holds p out (one_record t s c i more')
    unfolding given given_time given_write one_record bare
    turn (change.Time u j) f k =
        cond_ind (time_good p u) _ _ (λ g. one t flag s room p out g more ≡ wrote read bs n → Holds p out (say (time u) j (more' true j)))
        (λ g e.
        let l = later (timed p u) (out ++ time_bytes flag p u) j f.0 f.1 (put p out (goes (time_bytes flag p u) (timed p u) j) more e) in (
          time_bytes flag p u ++ l.0,
          l.1 ∙ append_assoc out (time_bytes flag p u) l.0,
          record {
            first = λ o z a. opens_first p out u k.1 o (more' true j) j l.0 l.1 l.2 z a;
            between = λ o z. let b = good_both p u g z in opens_later p out u k.1 o (more' true j) j l.0 l.1 l.2 z b.0 b.1;
            within = λ o z. absurd (opposite o k.0);
          },
        ))
        (λ g e. absurd (put p out (stops 23 i) more e))
    turn (change.Write id v j) f k =
        cond_ind (ltb p.id id) _ _ (λ g. one t flag s room p out g more ≡ wrote read bs n → Holds p out (say (write id v i) j (more' true j)))
        (λ g e.
        let b = write_bytes p (nth t.kinds id) id v s j in
        let l = later (wrote_to p id) (out ++ b) j f.0 f.1 (put p out (goes b (wrote_to p id) j) more e) in (
          b ++ l.0,
          l.1 ∙ append_assoc out b l.0,
          record {
            first = λ o z a. absurd (opposite k.0 o);
            between = λ o z. absurd (opposite k.0 o);
            within = λ o z. writes_on p out id v (ltb-true _ _ g) k.1 f.3 i j k.2 (more' true j) l.0 l.1 l.2 z;
          },
        ))
        (λ g e. absurd (put p out (stops 22 i) more e))
    turn (change.StepEnd j) f k = λ e.
        let l = later (stepped p) (out ++ (0 ∷ [])) j f.0 f.1 (put p out (goes (0 ∷ []) (stepped p) j) more e) in (
          (0 ∷ []) ++ l.0,
          l.1 ∙ append_assoc out (0 ∷ []) l.0,
          record {
            first = λ o z a. absurd (opposite k o);
            between = λ o z. absurd (opposite k o);
            within = λ o z. ends_step p out j (more' false j) l.0 l.1 l.2 z;
          },
        )
    turn (change.End j) f k = λ e.
        let q = put p out (ends (closing p) j) more e in (
          closing p,
          q,
          record {
            first = λ o z a. ends_first p out j q z a;
            between = λ o z. ends_later p out j q z;
            within = λ o z. absurd (opposite o k);
          },
        )
    turn (change.Bad a b) f k = λ e. absurd (put p out (stops a b) more e)

  -- ---- all records

  module _ (b : Bytes s) where
    all : (fuel : ℕ) (p : Pen) (out : List ℕ) (i : ℕ) → length s ≤ i + fuel → writing t flag s room fuel p out i ≡ wrote read bs n → Holds p out (changes t s fuel p.inside i)
    unfolding writing changes
    all zero p out i h e =
        turn p out i (λ q o j. wrote j o q.steps) (λ b j. done j) (λ q o j x y w. absurd (omega arith)) (next_change t s p.inside i)
        (change_found t s i p.inside refl refl) (next_known t s b p.inside i) e
    all (suc fuel) p out i h e =
        turn p out i (λ q o j. writing t flag s room fuel q o j) (λ b j. changes t s fuel b j) (λ q o j x y w. all fuel q o j (omega arith) w) (next_change t s p.inside i)
        (change_found t s i p.inside refl refl) (next_known t s b p.inside i) e

    -- where change records are written, section reading of the bytes scans their acts and ends as they do
    pub reread : write_sections t flag s room ≡ wrote read bs n → bare (scan_sections t (ordinary flag) bs) ≡ bare (scan_changes t s)
    unfolding write_sections scan_sections scan_changes
    reread e = (all (length s) begin [] 0 (omega arith) e).2.first refl refl refl
