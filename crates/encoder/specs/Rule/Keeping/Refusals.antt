-- The time rule refuses a stream only at a bad record, or because what it keeps does not fit.
-- Assumes nothing.
use Prim.Native.Nat.{ℕ, zero, suc, ◌+◌, ◌-◌, ◌≤◌, ◌<◌}
use Rattle.std.proofs.Math.Path.{◌≡◌, refl, ap}
use Rattle.std.proofs.Common.{subst, leb-false}
use Rattle.std.proofs.Math.Logic.{inl, inr}
use Rattle.std.specs.Prelude.{true, false, get_or, leb}
use mathlib.Core.List.{List, [], ◌∷◌, ◌++◌, append-nil}
use native.Mathlib.Omega.{arith}
use Rattle.std.proofs.Math.ListN.{length, length-append}
use Rattle.slices.specs.Choice.{cond_ind}
use Rattle.slices.specs.Splice.{part}
use Rattle.slices.specs.Splice.Laws.{length_part}
use Rattle.event_streams.specs.Next.{Event}
use Rattle.event_streams.specs.Stream.{event_length, record_at, next_event}
use Rattle.encoder.specs.declared.Clock.{Clock}
use Rattle.encoder.specs.Rule.{keeps, ticks, times, Kept, refused, one, rule, time_rule}
use Rattle.encoder.specs.Rule.Keeping.{Piece, piece_at, records_from, records, bytes_of, kept_of, unset, nothing, BadRecord, RefusedFrom, Refusal}
use Rattle.encoder.specs.Rule.Keeping.Laws.{next_is, first_record}

module _ (s : List ℕ) (values room : ℕ) where
  abbrev From : List Piece → Clock → Kept → (i n p : ℕ) → Type 0
  From = RefusedFrom s values room

  -- one record: it does not fit, or the rest is refused
  module _ (ps : List Piece) (q : Piece) (c : Clock) (k : Kept) (i n p : ℕ) where
    over_here : keeps c q.says ≡ true → room < length k.events + length q.bytes → n ≡ 16 → p ≡ i + length q.bytes → From (q ∷ ps) c k i n p
    unfolding bytes_of kept_of
    over_here t f e g = inr (e, record { before = []; piece = q; behind = ps; split = refl; full = rw (t, append-nil) f; next = rw append-nil g })

    over_kept : keeps c q.says ≡ true → (k₁ : Kept) → length k₁.events ≡ length k.events + length q.bytes → From ps (ticks c q.says) k₁ (i + length q.bytes) n p → From (q ∷ ps) c k i n p
    unfolding bytes_of kept_of
    over_kept t k₁ w (inl o) = inl o
    over_kept t k₁ w (inr (e, o)) = inr (
      e,
      record {
        before = q ∷ o.before;
        piece = o.piece;
        behind = o.behind;
        split = ap (λ l. q ∷ l) o.split;
        full = rw (t, length-append) (omega (arith, o.full));
        next = rw length-append (omega (arith, o.next));
      },
    )

    over_dropped : keeps c q.says ≡ false → From ps (ticks c q.says) k (i + length q.bytes) n p → From (q ∷ ps) c k i n p
    unfolding bytes_of kept_of
    over_dropped t (inl o) = inl o
    over_dropped t (inr (e, o)) = inr (
      e,
      record {
        before = q ∷ o.before;
        piece = o.piece;
        behind = o.behind;
        split = ap (λ l. q ∷ l) o.split;
        full = rw t o.full;
        next = rw length-append (omega (arith, o.next));
      },
    )

  module _ (fuel : ℕ) (c : Clock) (k : Kept) (i m p : ℕ) where
    abbrev n : ℕ
    n = event_length (get_or s i 0)

    abbrev ps : List Piece
    ps = records_from s fuel (i + n)

    over_at : i + n ≤ length s → ((c₁ : Clock) (k₁ : Kept) → rule s values room fuel c₁ k₁ (i + n) ≡ refused m p → From ps c₁ k₁ (i + n) m p)
        → one s values room c k i (Event (record_at s i) (i + n)) (λ c₁ k₁ j. rule s values room fuel c₁ k₁ j) ≡ refused m p → From (piece_at s i ∷ ps) c k i m p
    unfolding one piece_at
    over_at h rec =
        let long : i + n - i ≡ n = omega arith in
        let size : length (part s i n) ≡ n = length_part s i n h in
        let k₁ : Kept = record { events = k.events ++ part s i (i + n - i); steps = k.steps + times (record_at s i) } in
        cond_ind (keeps c (record_at s i)) _ _ (λ y. y ≡ refused m p → From (piece_at s i ∷ ps) c k i m p)
        (λ t. cond_ind (leb (length k.events + (i + n - i)) room) _ _ (λ y. y ≡ refused m p → From (piece_at s i ∷ ps) c k i m p)
        (λ f e. over_kept ps (piece_at s i) c k i m p t k₁ (rw (length-append, long)) (rw size (rec _ k₁ e)))
        (λ f e. over_here ps (piece_at s i) c k i m p t (rw (size, ← long) (leb-false _ _ f)) (cc) (let g : p ≡ i + n = cc in rw size g)))
        (λ t e. over_dropped ps (piece_at s i) c k i m p t (rw size (rec _ k e)))

    bad_here : (j q : ℕ) → BadRecord s values room j q → refused j q ≡ refused m p → BadRecord s values room m p
    bad_here j q b e =
        let f : j ≡ m = cc in
        let g : q ≡ p = cc in
        subst (λ x. BadRecord s values room m x) g (subst (λ x. BadRecord s values room x q) f b)

  refusing : (fuel : ℕ) (c : Clock) (k : Kept) (i m p : ℕ) → length s ≤ i + fuel → rule s values room fuel c k i ≡ refused m p → From (records_from s fuel i) c k i m p
  unfolding rule one
  refusing zero c k i m p h = λ e. let z : ◌≡◌ {A = ℕ} 0 1 = cc in absurd (omega arith)
  refusing (suc fuel) c k i m p h =
      next_is s values
      (λ x. next_event s values c.begun i ≡ x → one s values room c k i x (λ c₁ k₁ j. rule s values room fuel c₁ k₁ j) ≡ refused m p → From (records_from s (suc fuel) i) c k i m p) c.begun i
      (λ a q e. let z : ◌≡◌ {A = ℕ} 0 1 = cc in absurd (omega arith))
      (λ a b d q. rw (first_record s fuel i a) (over_at fuel c k i m p d (λ c₁ k₁. refusing fuel c₁ k₁ (i + event_length (get_or s i 0)) m p (omega (arith, b)))))
      (λ n o q e. inl (bad_here fuel c k i m p n i (record { number = o; begun = c.begun; bad = q }) e)) refl

  pub rule_refuses : (n p : ℕ) → time_rule s values room ≡ refused n p → Refusal s values room n p
  unfolding time_rule records
  rule_refuses n p e = refusing (length s) unset nothing 0 n p (omega arith) e
