-- A change record that was read is spelled by its act: what stands there is the act's record.
-- Assumes nothing.
use Rattle.written_scans.specs.Reread.Same.{same_value, same_next}
use Rattle.std.specs.Prelude.{◌≡◌, ℕ, suc, ◌+◌, ◌-◌, ◌≤◌, ◌<◌, Bool, ◌&&◌, List, [], ◌∷◌, ◌++◌, ◌⊎◌, length, eqb}
use Rattle.std.proofs.Math.Path.{refl, sym, ap}
use Rattle.std.proofs.Common.{◌∙◌, append_assoc, ⊎_elim, add-one, take-append-drop, drop-cons, drop-drop}
use Rattle.std.proofs.Math.Bool.{true, false, cond}
use native.Mathlib.Omega.{arith}
use borrow.Author.Tests.{le-leb, lt-leb, leb-true, leb-false, eqb-true, eqb-false}
use Rattle.std.proofs.Math.ListN.{get_or, take, drop, drop_of_length-le}
use Rattle.std.proofs.Math.Dec.{leb}
use Rattle.slices.specs.Choice.{cond_ind, tri, apart}
use Rattle.slices.specs.Splice.{part}
use Rattle.slices.specs.Splice.Laws.{length_part}
use Rattle.numbers.specs.Fixed.{big, big_bytes}
use Rattle.numbers.specs.Fixed.Laws.{Bytes, big_bytes_back, part_bytes}
use Rattle.states.specs.Letters.{mapped, unmapped}
use Rattle.states.specs.Letters.Laws.{unmapped_back}
use Rattle.tables.specs.Lists.{Lists, nth, signals}
use Rattle.values.specs.Read.{Read}
use Rattle.values.specs.Read as read
use Rattle.values.specs.Value.{on_read, byte_up_to, narrow}
use Rattle.rules.specs.Gather.{time, write, step_end}
use Rattle.changes.specs.Change.{ChangeFound, Time, Write, StepEnd, End, Bad}
use Rattle.changes.specs.Changes.{record_length, written, write_record, in_order, change_record, next_change}
use Rattle.changes.specs.Changes.Whole.{Whole, Writes, whole_time, whole_write, length_none}
use Rattle.read_back.specs.ReadBack.{byte_of, write_of, record_of}

abbrev pub Spelled : Lists → List ℕ → ℕ → ChangeFound → Type 0
Spelled t s i (Time u j) = drop i s ≡ record_of t (time u) ++ drop j s
Spelled t s i (Write id v j) = drop i s ≡ record_of t (write id v i) ++ drop j s
Spelled t s i (StepEnd j) = drop i s ≡ record_of t step_end ++ drop j s
Spelled t s i (End j) = drop i s ≡ []
Spelled t s i (Bad n p) = Unit {0}

-- ---- the byte of a value

not_value : {n p v j : ℕ} → read.Bad n p ≡ read.Value v j → ⊥
not_value e = let z : ◌≡◌ {A = ℕ} 0 1 = cc in omega arith

module _ (s : List ℕ) (a v j : ℕ) where
  byte_value : (most : ℕ) (map : ℕ → ℕ) → byte_up_to most map s a ≡ read.Value v j → (get_or s a 0 ≤ most) × (map (get_or s a 0) ≡ v) × (j ≡ a + 1)
  unfolding byte_up_to
  byte_value most map =
      cond_ind (leb (a + 1) (length s)) _ _ (λ r. r ≡ read.Value v j → (get_or s a 0 ≤ most) × (map (get_or s a 0) ≡ v) × (j ≡ a + 1))
      (λ t. cond_ind (leb (get_or s a 0) most) _ _ (λ r. r ≡ read.Value v j → (get_or s a 0 ≤ most) × (map (get_or s a 0) ≡ v) × (j ≡ a + 1))
      (λ u w. (leb-true _ _ u, same_value w, sym (same_next w))) (λ u w. absurd (not_value w)))
      (λ t w. absurd (not_value w))

  -- a byte write's value is that of its byte
  pub byte_back : (kind : ℕ) → narrow kind s a ≡ read.Value v j → (byte_of kind v ≡ get_or s a 0) × (j ≡ a + 1)
  unfolding narrow byte_of
  byte_back kind e = by (leb kind 1) (leb kind 3) e
    where
      by : (x y : Bool)
          → cond x (byte_up_to 8 mapped s a) (cond y (byte_up_to 1 (λ b. b) s a) (byte_up_to 255 (λ b. b) s a)) ≡ read.Value v j
          → (cond x (unmapped v) v ≡ get_or s a 0) × (j ≡ a + 1)
      by true y e = let r = byte_value 8 mapped e in (ap unmapped (sym r.1) ∙ unmapped_back (get_or s a 0) r.0, r.2)
      by false true e = let r = byte_value 1 (λ b. b) e in (sym r.1, r.2)
      by false false e = let r = byte_value 255 (λ b. b) e in (sym r.1, r.2)

module _ (t : Lists) (s : List ℕ) (b : Bytes s) where
  -- the bytes of a number that is read
  number_there : (at n : ℕ) → at + n ≤ length s → drop at s ≡ big_bytes n (big (part s at n)) ++ drop (at + n) s
  unfolding part
  number_there at n h =
      let e : big_bytes n (big (part s at n)) ≡ part s at n = big_bytes_back (part s at n) n (part_bytes s at n b) (length_part s at n h) in
      sym (take-append-drop n (drop at s)) ∙ (ap (λ x. take n (drop at s) ++ x) (drop-drop n at s) ∙ ap (λ x. x ++ drop (at + n) s) (sym e))

  kind_there : (i k : ℕ) → i < length s → get_or s i 0 ≡ k → drop i s ≡ k ∷ drop (i + 1) s
  kind_there i k h e = drop-cons s i 0 h ∙ (ap (λ x. x ∷ drop (suc i) s) e ∙ ap (λ n. k ∷ drop n s) (sym (add-one i)))

  module _ (i : ℕ) where
    module _ (id : ℕ) (q : id ≡ big (part s (i + 1) 4)) (h : i < length s) where
      -- the kind and the id of a write
      id_there : (k : ℕ) → get_or s i 0 ≡ k → i + 1 + 4 ≤ length s → drop i s ≡ (k ∷ big_bytes 4 id) ++ drop (i + 5) s
      id_there k e l =
          let r : i + 1 + 4 ≡ i + 5 = omega arith in
          kind_there i k h e ∙ ap (λ x. k ∷ x) (number_there (i + 1) 4 l ∙ (ap (λ x. big_bytes 4 x ++ drop (i + 1 + 4) s) (sym q) ∙ ap (λ n. big_bytes 4 id ++ drop n s) r))

      byte_spelled : get_or s i 0 ≡ 2 → i + 6 ≤ length s → (kind : ℕ) → kind ≤ 4 → (v j : ℕ) → narrow kind s (i + 5) ≡ read.Value v j → drop i s ≡ write_of kind id v ++ drop j s
      unfolding write_of
      byte_spelled e l kind g v j w =
          let r = byte_back s (i + 5) v j kind w in
          let c : drop (i + 5) s ≡ byte_of kind v ∷ drop j s = kind_there (i + 5) (byte_of kind v) (omega arith) (sym r.0) ∙ ap (λ n. byte_of kind v ∷ drop n s) (sym r.1) in
          id_there 2 e (omega arith)
          ∙ (ap (λ x. (2 ∷ big_bytes 4 id) ++ x) c ∙ (sym (append_assoc (2 ∷ big_bytes 4 id) (byte_of kind v ∷ []) (drop j s)) ∙ rw (le-leb kind 4 g)))

      wide_spelled : get_or s i 0 ≡ 3 → i + 13 ≤ length s → (kind : ℕ) → 5 ≤ kind → drop i s ≡ write_of kind id (big (part s (i + 5) 8)) ++ drop (i + 13) s
      unfolding write_of
      wide_spelled e l kind g =
          let r : i + 5 + 8 ≡ i + 13 = omega arith in
          let c : drop (i + 5) s ≡ big_bytes 8 (big (part s (i + 5) 8)) ++ drop (i + 13) s = number_there (i + 5) 8 (omega arith) ∙ ap (λ n. big_bytes 8 (big (part s (i + 5) 8)) ++ drop n s) r in
          id_there 3 e (omega arith)
          ∙ (ap (λ x. (3 ∷ big_bytes 4 id) ++ x) c ∙ (sym (append_assoc (3 ∷ big_bytes 4 id) (big_bytes 8 (big (part s (i + 5) 8))) (drop (i + 13) s)) ∙ rw (lt-leb kind 4 (omega arith))))

      written_spelled : (k : ℕ) → get_or s i 0 ≡ k → Writes s k i → ((k ≡ 2 → ⊥) → k ≡ 3) → Spelled t s i (written t s k id i)
      unfolding written record_of on_read
      written_spelled k e w third =
          cond_ind (eqb k 2) _ _ (Spelled t s i)
          (λ g. cond_ind (leb (nth t.kinds id) 4) _ _ (Spelled t s i)
          (λ f. byte (eqb-true k 2 g) (leb-true _ _ f) (narrow (nth t.kinds id) s (i + 5)) refl) (λ f. tt))
          (λ g. cond_ind (leb 5 (nth t.kinds id)) _ _ (Spelled t s i)
          (λ f. wide_spelled (e ∙ third (eqb-false k 2 g)) (w.wide (eqb-false k 2 g)) (nth t.kinds id) (leb-true _ _ f)) (λ f. tt))
        where
          byte : k ≡ 2 → nth t.kinds id ≤ 4 → (r : Read) → narrow (nth t.kinds id) s (i + 5) ≡ r → Spelled t s i (on_read r Bad (λ v j. Write id v j))
          byte g f (read.Value v j) q = byte_spelled (e ∙ g) (w.byte g) (nth t.kinds id) f v j q
          byte g f (read.Bad n p) q = tt

    write_spelled : (k : ℕ) → get_or s i 0 ≡ k → i < length s → Writes s k i → ((k ≡ 2 → ⊥) → k ≡ 3) → Spelled t s i (write_record t s k (big (part s (i + 1) 4)) i)
    unfolding write_record
    write_spelled k e h w third =
        cond_ind (leb 1 (big (part s (i + 1) 4)) && leb (big (part s (i + 1) 4)) (signals t)) _ _ (Spelled t s i)
        (λ g. written_spelled (big (part s (i + 1) 4)) refl h k e w third) (λ g. tt)

    -- a write's kind is 2 or 3
    third_kind : (k : ℕ) → (record_length k ≡ 0 → ⊥) → (k ≡ 1 → ⊥) → (k ≡ 4 → ⊥) → (k ≡ 2 → ⊥) → k ≡ 3
    third_kind k known n₁ n₄ n₂ = ⊎_elim (λ e. e) (λ o. absurd (known (sym (length_none k n₁ n₂ (apart o) n₄)))) (tri k 3)

    order_spelled : (inside : Bool) (k : ℕ) → get_or s i 0 ≡ k → Whole s k i → Spelled t s i (in_order t s inside k i)
    unfolding in_order record_of
    order_spelled inside k e w =
        cond_ind (eqb k 1) _ _ (Spelled t s i)
        (λ g. cond_ind inside _ _ (Spelled t s i) (λ o. tt) (λ o. time_there (eqb-true k 1 g)))
        (λ g. cond_ind inside _ _ (Spelled t s i)
        (λ o. cond_ind (eqb k 4) _ _ (Spelled t s i) (λ f. kind_there i 4 w.begins (e ∙ eqb-true k 4 f))
        (λ f. write_spelled k e w.begins (whole_write w (eqb-false k 1 g) (eqb-false k 4 f)) (third_kind k w.known (eqb-false k 1 g) (eqb-false k 4 f))))
        (λ o. tt))
      where
        time_there : k ≡ 1 → drop i s ≡ (1 ∷ big_bytes 8 (big (part s (i + 1) 8))) ++ drop (i + 9) s
        time_there g =
            let r : i + 1 + 8 ≡ i + 9 = omega arith in
            kind_there i 1 w.begins (e ∙ g) ∙ ap (λ x. 1 ∷ x) (number_there (i + 1) 8 (whole_time w g) ∙ ap (λ n. big_bytes 8 (big (part s (i + 1) 8)) ++ drop n s) r)

    pub next_spelled : (inside : Bool) → Spelled t s i (next_change t s inside i)
    unfolding next_change change_record
    next_spelled inside =
        cond_ind (leb (length s) i) _ _ (Spelled t s i)
        (λ e. cond_ind inside _ _ (Spelled t s i) (λ o. tt) (λ o. drop_of_length-le s (leb-true _ _ e)))
        (λ e. cond_ind (eqb (record_length (get_or s i 0)) 0) _ _ (Spelled t s i) (λ f. tt)
        (λ f. cond_ind (leb (i + record_length (get_or s i 0)) (length s)) _ _ (Spelled t s i)
        (λ g. order_spelled inside (get_or s i 0) refl (record { known = eqb-false _ _ f; begins = leb-false _ _ e; ends = leb-true _ _ g }))
        (λ g. tt)))
