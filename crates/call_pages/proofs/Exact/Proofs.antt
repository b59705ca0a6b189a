-- A call that fills its room with its course has just this page, and no other answer meets it.
-- Assumes nothing.
use Rattle.std.specs.Prelude.{ℕ, zero, suc, ◌+◌, ◌-◌, ◌≤◌, ◌≢◌, ◌⊎◌}
use Rattle.std.proofs.Math.Path.{◌≡◌, refl, sym, ap}
use Rattle.std.proofs.Common.{◌∙◌, arith, take-append-drop, length-take-le}
use Rattle.std.proofs.Math.Logic.{inl, inr}
use mathlib.Core.List.{List, []}
use Rattle.std.proofs.Math.ListN.{length}
use Rattle.tables.specs.Check.{Check, Passed, Refused}
use Rattle.number_writer.specs.Ended.{Ended, wrote}
use Rattle.number_writer.specs.Ended as ended
use Rattle.answers.specs.Outcome.{Outcome, accepted, refused, answer, event_bytes, value_bytes, padded, LeftKept, leaves_kept}
use Rattle.answers.specs.Outcome.Laws.{padded_front, padded_nothing, answer_events, refusal_is}
use Rattle.answers.specs.Filled.{filled}
use Rattle.entries.specs.Entries.{checked}
use Rattle.entries.specs.Demands.{Answers, Output}
use Rattle.courses.specs.Course.{Course, bytes_of, Ends, Faults, Told, Overflows, fill}
use Rattle.courses.proofs.Course.Laws.{fill_ends, fill_faults, fill_over, filled_so, refused_so}
use Rattle.call_pages.specs.Exact.{reported, Why, Exact}
use Rattle.call_pages.specs.Exact.Proofs.{calls}

-- an answer and its output, field by field
abbrev given : (number place read events values steps : ℕ) (kept : List ℕ) → LeftKept
given n p i e v s l =
    record { answer = record { number = n; place = p; read = i; events = e; values = v; steps = s }; kept = l }

given_same : {n n' p p' e e' v v' : ℕ} {l l' : List ℕ} (i s : ℕ) → n ≡ n' → p ≡ p' → e ≡ e' → v ≡ v' → l ≡ l'
    → given n p i e v s l ≡ given n' p' i e' v' s l'
given_same i s a b c d f = rw (a, b, c, d, f)

given_none : {i i' e e' v v' s s' : ℕ} {l l' : List ℕ} (n p : ℕ) → i ≡ i' → e ≡ e' → v ≡ v' → s ≡ s' → l ≡ l'
    → given n p i e v s l ≡ given n p i' e' v' s' l'
given_none n p a b c d f = rw (a, b, c, d, f)

module _ (k : Check) (ends : ℕ → Type 0) (faults : ℕ → ℕ → Type 0) (room : ℕ) (c : Course) (told : Told ends faults c)
  where
    abbrev result : Outcome
    result = calls k room c

    -- ---- from the course to the answer

    came : (i n : ℕ) → Ends i n c → length (bytes_of c) ≤ room → k ≡ Passed → result ≡ accepted i (bytes_of c) [] n
    unfolding checked filled
    came i n e h q = rw (q, fill_ends room c [] i n e (omega arith))

    stopped : (n p : ℕ) → Why k ends faults room c n p → result ≡ refused n p
    unfolding checked filled
    stopped n p (inl q) = rw q
    stopped n p (inr (q, inl (f, h))) = rw (q, fill_faults room c [] n p (told.faulted n p f) (omega arith))
    stopped n p (inr (q, inr (e, o))) = rw (q, fill_over room c [] p o, e)

    -- ---- and back

    abbrev Accepted : (i : ℕ) (es vs : List ℕ) (n : ℕ) → Type 0
    Accepted i es vs n = (k ≡ Passed) × Ends i n c × (es ≡ bytes_of c) × (length es ≤ room) × (vs ≡ [])

    accepted_so : (i : ℕ) (es vs : List ℕ) (n : ℕ) → result ≡ accepted i es vs n → Accepted i es vs n
    unfolding checked filled
    accepted_so i es vs n = by k refl (fill room c []) refl
      where
        by : (x : Check) → k ≡ x → (y : Ended) → fill room c [] ≡ y → checked x (filled y) ≡ accepted i es vs n
            → Accepted i es vs n
        by Passed q (wrote j bs m) f e =
            let a : j ≡ i = cc in
            let b : bs ≡ es = cc in
            let d : m ≡ n = cc in
            let r = filled_so room c [] j bs m (omega arith) f in
            (q, rw (← a, ← d) r.ended, sym b ∙ r.bytes, rw (← b) r.fits, (cc))
        by Passed q (ended.refused m p) f e = let z : ◌≡◌ {A = ℕ} 0 1 = cc in absurd (omega arith)
        by (Refused m p) q y f e = let z : ◌≡◌ {A = ℕ} 0 1 = cc in absurd (omega arith)

    refused_why : (n p : ℕ) → result ≡ refused n p → Why k ends faults room c n p
    unfolding checked filled
    refused_why n p = by k refl (fill room c []) refl
      where
        on : (m q : ℕ) → k ≡ Passed → fill room c [] ≡ ended.refused m q → m ≡ n → q ≡ p → Why k ends faults room c n p
        on m q h f a b = inr (h, which (refused_so room c [] n p (omega arith) (f ∙ rw (a, b))))
          where
            which : (Faults n p c × (0 + length (bytes_of c) ≤ room)) ⊎ ((n ≡ 16) × Overflows room 0 c p)
                → (faults n p × (length (bytes_of c) ≤ room)) ⊎ ((n ≡ 16) × Overflows room 0 c p)
            which (inl (g, l)) = inl (told.faults n p g, omega arith)
            which (inr o) = inr o

        by : (x : Check) → k ≡ x → (y : Ended) → fill room c [] ≡ y → checked x (filled y) ≡ refused n p
            → Why k ends faults room c n p
        by Passed q (wrote j bs m) f e = let z : ◌≡◌ {A = ℕ} 0 1 = cc in absurd (omega arith)
        by Passed q (ended.refused m r) f e = on m r q f (cc) (cc)
        by (Refused m r) q y f e = let a : m ≡ n = cc in let b : r ≡ p = cc in inl (q ∙ rw (a, b))

    -- ---- the page; the numbers of refusals are not 0

    module _ (low : (n p : ℕ) → k ≡ Refused n p → 1 ≤ n) (some : (n p : ℕ) → fill room c [] ≡ ended.refused n p → 1 ≤ n)
      where
        why_some : (n p : ℕ) → Why k ends faults room c n p → 1 ≤ n
        why_some n p (inl q) = low n p q
        why_some n p (inr (q, inl (f, h))) = some n p (fill_faults room c [] n p (told.faulted n p f) (omega arith))
        why_some n p (inr (q, inr (e, o))) = omega arith

        is_accepted : (answer result).number ≡ 0
            → Accepted (answer result).read (event_bytes result) (value_bytes result) (answer result).steps
        unfolding answer event_bytes value_bytes
        is_accepted = by result refl
          where
            by : (o : Outcome) → result ≡ o → (answer o).number ≡ 0
                → Accepted (answer o).read (event_bytes o) (value_bytes o) (answer o).steps
            by (accepted i es vs n) e h = accepted_so i es vs n e
            by (refused n p) e h = absurd (omega (arith, why_some n p (refused_why n p e)))

        pub exact : Exact k ends faults room c (leaves_kept room result)
        unfolding leaves_kept answer
        exact = record {
          accepts = λ q i e h. let (n, f) = told.ended i e in ap (λ o. (answer o).number) (came i n f h q);
          passed = λ h. (is_accepted h).0;
          read = λ h. told.ends _ _ (is_accepted h).1;
          steps = λ h. (is_accepted h).1;
          bytes = λ h. padded_front room (event_bytes result) (answer result).events (answer_events result)
              ∙ (is_accepted h).2;
          refuses = λ h. refused_why _ _ (refusal_is result h);
        }

    -- ---- nothing else meets it

    module _ (most input : ℕ) (x : LeftKept) (a : Answers most input x.answer)
        (o : Output x.answer x.answer.events room x.kept) (none : x.answer.values ≡ 0)
        (e : Exact k ends faults room c x) where
      reported_long : length (reported x) ≡ x.answer.events
      reported_long = length-take-le x.answer.events x.kept (omega (arith, o.long, o.within))

      -- the whole buffer, from the bytes that are reported
      whole : (bs : List ℕ) → reported x ≡ bs → x.kept ≡ padded room bs
      unfolding padded
      whole bs q =
          let n : x.answer.events ≡ length bs = sym reported_long ∙ ap length q in
          sym (take-append-drop x.answer.events x.kept) ∙ rw (q, o.past, n)

      accepted_is : x.answer.number ≡ 0 → x ≡ leaves_kept room result
      unfolding leaves_kept answer event_bytes
      accepted_is h =
          let q = e.bytes h in
          let n : x.answer.events ≡ length (bytes_of c) = sym reported_long ∙ ap length q in
          let f : length (bytes_of c) ≤ room = omega (arith, o.within) in
          rw (came x.answer.read x.answer.steps (e.steps h) f (e.passed h))
          (given_same x.answer.read x.answer.steps h (a.acceptance h) n none (whole (bytes_of c) q))

      refused_is : x.answer.number ≢ 0 → x ≡ leaves_kept room result
      unfolding leaves_kept answer event_bytes
      refused_is h =
          let r = a.refusal h in
          rw (stopped x.answer.number x.answer.place (e.refuses h))
          (given_none x.answer.number x.answer.place r.0 r.1 r.2 r.3
          (o.zeroed h ∙ sym (padded_nothing room [] refl)))

      -- two answers with this page are equal: both are what the call gives
      pub only : x ≡ leaves_kept room result
      only = by x.answer.number refl
        where
          by : (n : ℕ) → x.answer.number ≡ n → x ≡ leaves_kept room result
          by zero h = accepted_is h
          by (suc n) h = refused_is (λ z. omega arith)
