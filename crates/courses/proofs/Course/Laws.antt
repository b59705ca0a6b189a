-- A course fills a room with its bytes where they fit, and is refused for just the reasons that are named.
-- Assumes nothing.
use Rattle.std.specs.Prelude.{ℕ, ◌+◌, ◌≤◌, ◌<◌, ◌⊎◌, leb}
use Rattle.std.proofs.Math.Path.{◌≡◌, sym}
use Rattle.std.proofs.Common.{◌∙◌, arith}
use Rattle.std.proofs.Math.Logic.{inl, inr}
use mathlib.Core.List.{List, ◌++◌, append_assoc, append-nil}
use borrow.Author.Tests.{leb-true, leb-false, le-leb, lt-leb}
use Rattle.std.proofs.Math.ListN.{length, length-append}
use Rattle.slices.specs.Choice.{cond_ind}
use Rattle.number_writer.specs.Ended.{wrote, refused}
use Rattle.courses.specs.Course.{Course, adds, done, fault, bytes_of, Ends, Faults, Overflows, fill}

module _ (room : ℕ) where
  -- ---- each reason has its end

  pub fill_ends : (c : Course) (out : List ℕ) (i n : ℕ) → Ends i n c → length out + length (bytes_of c) ≤ room
      → fill room c out ≡ wrote i (out ++ bytes_of c) n
  unfolding fill Ends bytes_of
  fill_ends (adds bs next rest) out i n e h =
      let k : length (bs ++ bytes_of rest) ≡ length bs + length (bytes_of rest) = length-append bs (bytes_of rest) in
      let m : length (out ++ bs) ≡ length out + length bs = length-append out bs in
      rw (le-leb (length out + length bs) room (omega arith))
      (fill_ends rest (out ++ bs) i n e (omega arith) ∙ rw (append_assoc out bs (bytes_of rest)))
  fill_ends (done j m) out i n e h = rw (e.0, e.1, append-nil out)
  fill_ends (fault m p) out i n e h = absurd e

  pub fill_faults : (c : Course) (out : List ℕ) (n p : ℕ) → Faults n p c → length out + length (bytes_of c) ≤ room
      → fill room c out ≡ refused n p
  unfolding fill Faults bytes_of
  fill_faults (adds bs next rest) out n p e h =
      let k : length (bs ++ bytes_of rest) ≡ length bs + length (bytes_of rest) = length-append bs (bytes_of rest) in
      let m : length (out ++ bs) ≡ length out + length bs = length-append out bs in
      rw (le-leb (length out + length bs) room (omega arith)) (fill_faults rest (out ++ bs) n p e (omega arith))
  fill_faults (done i m) out n p e h = absurd e
  fill_faults (fault m q) out n p e h = rw (e.0, e.1)

  pub fill_over : (c : Course) (out : List ℕ) (p : ℕ) → Overflows room (length out) c p → fill room c out ≡ refused 16 p
  unfolding fill Overflows
  fill_over (adds bs next rest) out p (inl (h, e)) = rw (lt-leb (length out + length bs) room h, e)
  fill_over (adds bs next rest) out p (inr (h, o)) =
      rw (le-leb (length out + length bs) room h) (fill_over rest (out ++ bs) p (rw (length-append out bs) o))
  fill_over (done i m) out p o = absurd o
  fill_over (fault m q) out p o = absurd o

  -- ---- and each end its reason

  pub record Filled (c : Course) (out : List ℕ) (i : ℕ) (bs : List ℕ) (n : ℕ) : Type 0 where
    pub ended : Ends i n c
    pub bytes : bs ≡ out ++ bytes_of c
    pub fits : length bs ≤ room

  abbrev pub RefusedFrom : Course → (m n p : ℕ) → Type 0
  RefusedFrom c m n p = (Faults n p c × (m + length (bytes_of c) ≤ room)) ⊎ ((n ≡ 16) × Overflows room m c p)

  pub filled_so : (c : Course) (out : List ℕ) (i : ℕ) (bs : List ℕ) (n : ℕ) → length out ≤ room
      → fill room c out ≡ wrote i bs n
      → Filled c out i bs n
  unfolding fill Ends bytes_of
  filled_so (adds xs next rest) out i bs n l =
      cond_ind (leb (length out + length xs) room) _ _ (λ e. e ≡ wrote i bs n → Filled (adds xs next rest) out i bs n)
      (λ h e.
      let r = filled_so rest (out ++ xs) i bs n (rw length-append (leb-true _ _ h)) e in
      record { ended = r.ended; bytes = r.bytes ∙ append_assoc out xs (bytes_of rest); fits = r.fits })
      (λ h e. let z : ◌≡◌ {A = ℕ} 0 1 = cc in absurd (omega arith))
  filled_so (done j m) out i bs n l = λ e.
      let a : out ≡ bs = cc in
      record { ended = ((cc), (cc)); bytes = sym a ∙ sym (append-nil out); fits = rw (← a) l }
  filled_so (fault m p) out i bs n l = λ e. let z : ◌≡◌ {A = ℕ} 0 1 = cc in absurd (omega arith)

  from_next : (bs : List ℕ) (next : ℕ) (rest : Course) (m n p : ℕ) → m + length bs ≤ room
      → RefusedFrom rest (m + length bs) n p
      → RefusedFrom (adds bs next rest) m n p
  unfolding Faults Overflows bytes_of
  from_next bs next rest m n p h (inl (f, l)) = inl (f, omega (arith, length-append bs (bytes_of rest)))
  from_next bs next rest m n p h (inr (e, o)) = inr (e, inr (h, o))

  pub refused_so : (c : Course) (out : List ℕ) (n p : ℕ) → length out ≤ room → fill room c out ≡ refused n p
      → RefusedFrom c (length out) n p
  unfolding fill Faults bytes_of Overflows
  refused_so (adds xs next rest) out n p l =
      cond_ind (leb (length out + length xs) room)
      _ _ (λ e. e ≡ refused n p → RefusedFrom (adds xs next rest) (length out) n p)
      (λ h e.
      let k : length out + length xs ≤ room = leb-true _ _ h in
      from_next xs next rest (length out) n p k
      (rw (length-append out xs) at (refused_so rest (out ++ xs) n p (rw (length-append out xs) k) e)))
      (λ h e. inr ((cc), inl (leb-false _ _ h, (cc))))
  refused_so (done i m) out n p l = λ e. let z : ◌≡◌ {A = ℕ} 0 1 = cc in absurd (omega arith)
  refused_so (fault m q) out n p l = λ e. inl (((cc), (cc)), omega arith)

  -- where all its bytes fit there is no 16
  pub over_more : (c : Course) (m p : ℕ) → Overflows room m c p → room < m + length (bytes_of c)
  unfolding Overflows bytes_of
  over_more (adds bs next rest) m p (inl (h, e)) = omega (arith, length-append bs (bytes_of rest))
  over_more (adds bs next rest) m p (inr (h, o)) =
      omega (arith, length-append bs (bytes_of rest), over_more rest (m + length bs) p o)
  over_more (done i n) m p o = absurd o
  over_more (fault n q) m p o = absurd o
