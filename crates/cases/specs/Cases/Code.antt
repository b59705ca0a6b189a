-- How far the loops have come, and what the proofs search.
-- Assumes nothing.
use Rattle.std.specs.Prelude.{◌≡◌, refl, ℕ, zero, suc, ◌+◌, ◌-◌, ◌*◌, ◌/◌, ◌%◌, ◌<◌, ◌≤◌, Bool, true, false, eqb, ◌==◌, List, [], ◌∷◌, length, take, drop, set, min, Option, Some, None, ltb}
use Rattle.std.specs.List.{position, position_or_len, slice_split, onto_first, slice_get, fold}
use Rattle.std.specs.Option.{unwrap_or, option_map}
use denote.Ref.{Bor}
use Rattle.std.proofs.Common.{sym, ap, ◌∙◌, lt-ltb, le-ltb, get_or-set_same, take_all, drop_of_length-le, length-drop, eqb-true}
use Rattle.std.proofs.lemmas.Bool.{ltb-false, eqb-false}
use Rattle.std.proofs.lemmas.List.{drop-drop}
use Rattle.std.proofs.lemmas.Option.{unwrap_or-slice_get}
use native.Mathlib.Omega.{arith}
use borrow.Author.Count.{below_more}
use Rattle.std.proofs.Math.ListN.{get_or, length-set}
use Rattle.std.proofs.Math.Seq.{get_or-set_other}
use Rattle.slices.specs.Choice.{cond_ind}
use Rattle.cases.specs.Cases.{before, after, part, parts, digit, spelled, pair_at, Listed, Unhexed}
use Rattle.cases.specs.Cases.Laws.{before_is, after_is, part_first, part_next, parts_on, parts_end}

-- ---- before a byte, and after it

module _ (b : ℕ) (l : List ℕ) where
  first : ℕ
  first = position_or_len (λ x. x == b) l

  some_first : (i : ℕ) → position (λ x. x == b) l ≡ Some i → first ≡ i
  unfolding first
  some_first i =
      cond_ind (ltb first (length l)) (Some first) None (λ (o : Option ℕ). o ≡ Some i → first ≡ i) (λ h e. cc) (λ h e. absurd (cc))

  none_first : position (λ x. x == b) l ≡ None → length l ≤ first
  unfolding first
  none_first =
      cond_ind (ltb first (length l)) (Some first) None (λ (o : Option ℕ). o ≡ None → length l ≤ first) (λ h e. absurd (cc)) (λ h e. ltb-false first (length l) h)

  module _ {i : ℕ} (e : position (λ x. x == b) l ≡ Some i) where
    pub cut_before : take i l ≡ before b l
    unfolding first
    cut_before = ap (λ n. take n l) (sym (some_first i e)) ∙ sym (before_is b l)

    pub some_after : drop (i + 1) l ≡ after b l
    unfolding first
    some_after = ap (λ n. drop (n + 1) l) (sym (some_first i e)) ∙ sym (after_is b l)

    pub cut_after : take (length l - (i + 1)) (drop (i + 1) l) ≡ after b l
    cut_after = take_all (length l - (i + 1)) (drop (i + 1) l) (omega (arith, length-drop (i + 1) l)) ∙ some_after

  module _ (e : position (λ x. x == b) l ≡ None) where
    pub all_before : l ≡ before b l
    unfolding first
    all_before = sym (take_all first l (none_first e)) ∙ sym (before_is b l)

    pub none_after : [] ≡ after b l
    unfolding first
    none_after =
        let end : length l ≤ first + 1 = omega (arith, none_first e) in
        sym (drop_of_length-le l {i = first + 1} end) ∙ sym (after_is b l)

pub ruleset cut_laws = (cut_before, cut_after, all_before, none_after)

module _ (b at : ℕ) (s : List ℕ) {l : List ℕ} (p : l ≡ drop at s) where
  pub place_some : (i : ℕ) → position (λ x. x == b) l ≡ Some i → drop (at + i + 1) s ≡ after b (drop at s)
  place_some i e =
      let one : at + (i + 1) ≡ at + i + 1 = omega arith in
      ap (λ n. drop n s) (sym one) ∙ (sym (drop-drop (i + 1) at s) ∙ (ap (drop (i + 1)) (sym p) ∙ (some_after b l e ∙ ap (after b) p)))

  pub place_none : (o : Option ℕ) → o ≡ position (λ x. x == b) l → o ≡ None → {n : ℕ} → length s ≤ n → drop n s ≡ after b (drop at s)
  place_none o q f {n} h =
      let e = sym q ∙ f in
      drop_of_length-le s {i = n} h ∙ (none_after b l e ∙ ap (after b) p)

pub ruleset place_laws = (place_some, place_none)

-- ---- parts

abbrev is : ℕ → ℕ → Bool
is b x = x == b

on_first : (x : ℕ) (q : List (List ℕ)) → get_or (onto_first x q) 0 [] ≡ x ∷ get_or q 0 []
on_first x [] = refl
on_first x (p ∷ q) = refl

on_later : (x : ℕ) (q : List (List ℕ)) (k : ℕ) → get_or (onto_first x q) (suc k) [] ≡ get_or q (suc k) []
on_later x [] k = refl
on_later x (p ∷ q) k = refl

first_part : (b : ℕ) (l : List ℕ) → get_or (slice_split (is b) l) 0 [] ≡ before b l
unfolding before
first_part b [] = refl
first_part b (x ∷ l) =
    cond_ind (eqb x b) ([] ∷ slice_split (is b) l) (onto_first x (slice_split (is b) l)) (λ q. get_or q 0 [] ≡ before b (x ∷ l))
    (λ e. rw e refl)
    (λ e. rw e (on_first x (slice_split (is b) l) ∙ ap (λ m. x ∷ m) (first_part b l)))

later_part : (b : ℕ) (l : List ℕ) (k : ℕ) → get_or (slice_split (is b) l) (suc k) [] ≡ get_or (slice_split (is b) (after b l)) k []
unfolding after
later_part b [] zero = refl
later_part b [] (suc k) = refl
later_part b (x ∷ l) k =
    cond_ind (eqb x b) ([] ∷ slice_split (is b) l) (onto_first x (slice_split (is b) l)) (λ q. get_or q (suc k) [] ≡ get_or (slice_split (is b) (after b (x ∷ l))) k [])
    (λ e. rw e refl)
    (λ e. rw e (on_later x (slice_split (is b) l) k ∙ later_part b l k))

part_split : (b k : ℕ) (l : List ℕ) → get_or (slice_split (λ x. x == b) l) k [] ≡ part b k l
unfolding part
part_split b zero l = first_part b l
part_split b (suc k) l = later_part b l k ∙ part_split b k (after b l)

now_or : (o : Option (Bor (List ℕ))) (d : Bor (List ℕ)) → d.now ≡ [] → (unwrap_or o d).now ≡ unwrap_or (option_map (λ x. x.now) o) []
now_or None d e = e
now_or (Some x) d e = refl

pub piece_is : (b k : ℕ) (l : List ℕ) (o : Option (Bor (List ℕ))) (d : Bor (List ℕ)) → option_map (λ x. x.now) o ≡ slice_get (slice_split (λ x. x == b) l) k → d.now ≡ [] → (unwrap_or o d).now ≡ part b k l
piece_is b k l o d e n =
    now_or o d n ∙ (ap (λ q. unwrap_or q []) e ∙ (unwrap_or-slice_get (slice_split (is b) l) k [] ∙ part_split b k l))

-- ---- digits

module _ (c : ℕ) {r : ℕ} where
  pub digit_ten : r ≡ c - 48 → c ≤ 57 → r ≡ digit c
  unfolding digit
  digit_ten e h =
      let l : c < 58 = omega arith in
      rw (lt-ltb c 58 l) e

  pub digit_letter : r ≡ c - 87 → 58 ≤ c → r % 16 ≡ digit c
  unfolding digit
  digit_letter e h = rw (le-ltb c 58 h, e) refl

pub ruleset digit_laws = (digit_ten, digit_letter)

-- ---- a number

spelled_fold : (v : ℕ) (l : List ℕ) → fold (λ v c. v % 1152921504606846976 * 10 + digit c) v l ≡ spelled v l
unfolding spelled
spelled_fold v [] = refl
spelled_fold v (c ∷ l) = spelled_fold (v % 1152921504606846976 * 10 + digit c) l

pub spelled_is : (l : List ℕ) {r : ℕ} → r ≡ fold (λ v c. v % 1152921504606846976 * 10 + digit c) 0 l → r ≡ spelled 0 l
spelled_is l e = e ∙ spelled_fold 0 l

-- ---- a list of numbers

pub record Lists (s : List ℕ) (room : ℕ) (out left : List ℕ) (i : ℕ) : Type 0 where
  pub kept : length out ≡ room
  pub rest : (k : ℕ) → part 32 k left ≡ part 32 (i + k) s
  pub more : i + parts 32 left ≡ parts 32 s
  pub each : (k : ℕ) → k < i → get_or out k 0 ≡ spelled 0 (part 32 k s) % 4294967296

pub list_none : (s out : List ℕ) → Lists s (length out) out s 0
list_none s out =
    record {
      kept = refl;
      rest =
          λ k.
          let e : 0 + k ≡ k = omega arith in
          ap (λ (j : ℕ). part 32 j s) (sym e);
      more = omega arith;
      each = λ k h. absurd (omega arith);
    }

module _ (s : List ℕ) (room : ℕ) (out left : List ℕ) (i : ℕ) (p : Lists s room out left i) where
  -- what is left begins with the part `i`
  part_here : before 32 left ≡ part 32 i s
  part_here =
      let e : i + 0 ≡ i = omega arith in
      part_first 32 left ∙ (p.rest 0 ∙ ap (λ (j : ℕ). part 32 j s) e)

  pub list_on : i < room → {t : Bool} → t ≡ (length left == 0) → t ≡ false → (w next : List ℕ) → w ≡ before 32 left → next ≡ after 32 left → (x : ℕ) → x ≡ spelled 0 w → Lists s room (set out i (x % 4294967296)) next (i + 1)
  list_on h a a' w next f n x d =
      let l : i < length out = omega (arith, p.kept) in
      let b : 0 < length left = omega (arith, eqb-false (length left) 0 (sym a ∙ a')) in
      record {
        kept = rw length-set p.kept;
        rest =
            λ k.
            let z : (k + 1) - 1 ≡ k = omega arith in
            let y : i + (k + 1) ≡ i + 1 + k = omega arith in
            let q : 0 < k + 1 = omega arith in
            ap (part 32 k) n
            ∙ (ap (λ (j : ℕ). part 32 j (after 32 left)) (sym z)
            ∙ (sym (part_next 32 left (k + 1) q) ∙ (p.rest (k + 1) ∙ ap (λ (j : ℕ). part 32 j s) y)));
        more = omega (arith, p.more, parts_on 32 left b, ap (parts 32) n);
        each =
            below_more (λ (k : ℕ). get_or (set out i (x % 4294967296)) k 0 ≡ spelled 0 (part 32 k s) % 4294967296) i
            (λ k o. get_or-set_other out i k (x % 4294967296) 0 (λ (q : k ≡ i). omega arith) ∙ p.each k o)
            (get_or-set_same out i (x % 4294967296) 0 l ∙ ap (λ (v : ℕ). v % 4294967296) (d ∙ ap (spelled 0) (f ∙ part_here)));
      }

  pub list_short : i < room → {t : Bool} → t ≡ (length left == 0) → t ≡ true → Listed s out i
  list_short h e e' = record { many = omega (arith, p.kept, p.more, parts_end 32 left (eqb-true (length left) 0 (sym e ∙ e'))); each = p.each }

  pub list_full : room ≡ i → Listed s out i
  list_full h = record { many = omega (arith, p.kept, p.more); each = p.each }

pub ruleset list_laws = (list_none, list_on, list_short, list_full)

-- ---- bytes in hex

pub record Pairs (s : List ℕ) (room : ℕ) (out : List ℕ) (i : ℕ) : Type 0 where
  pub kept : length out ≡ room
  pub each : (k : ℕ) → k < i → get_or out k 0 ≡ pair_at s k

pub pairs_none : (s out : List ℕ) → Pairs s (length out) out 0
pairs_none s out = record { kept = refl; each = λ k h. absurd (omega arith) }

module _ (s : List ℕ) (room : ℕ) (out : List ℕ) (i : ℕ) (p : Pairs s room out i) where
  pub pairs_on : i < length out → (a b : ℕ) → a ≡ digit (get_or s (2 * i) 0) → b ≡ digit (get_or s (2 * i + 1) 0) → Pairs s room (set out i (a * 16 + b)) (i + 1)
  unfolding pair_at
  pairs_on h a b e f =
      record {
        kept = rw length-set p.kept;
        each =
            below_more (λ (k : ℕ). get_or (set out i (a * 16 + b)) k 0 ≡ pair_at s k) i
            (λ k l. get_or-set_other out i k (a * 16 + b) 0 (λ (q : k ≡ i). omega arith) ∙ p.each k l)
            (get_or-set_same out i (a * 16 + b) 0 h ∙ rw (e, f));
      }

  pub pairs_all : i ≡ min room (length s / 2) → Unhexed s out i
  pairs_all h = record { many = rw p.kept h; each = p.each }

pub ruleset pair_laws = (pairs_none, pairs_on, pairs_all)
