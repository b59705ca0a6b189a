-- Laws of `splice` and `part`.
use Rattle.std.specs.Prelude.{ℕ, suc, ◌+◌, ◌-◌, ◌<◌, ◌≤◌, ◌≡◌, refl, take, set}
use Rattle.std.proofs.Common.{sym, ◌∙◌, add-zero, add-one, length-append, length-take, length-drop, take-append-drop, drop_of_length-le, take-add, take_all, take-suc, drop-cons, take_at, drop_at, drop-drop, get_or-drop, get_or-append-add}
use Rattle.std.proofs.Math.Path.{ap}
use mathlib.Core.List.{List, [], ◌∷◌, ◌++◌, append_assoc, append-nil}
use native.Mathlib.Omega.{arith}
use Rattle.std.proofs.lemmas.List.{set_at}
use Rattle.std.proofs.Math.ListN.{length, drop, get_or, get_or-append}
use Rattle.std.proofs.Math.Seq.{get_or-take, length-take-le, take-append_seam, append_snoc}
use Rattle.slices.specs.Splice.{splice, part}

pub splice_nil : (l : List ℕ) (at : ℕ) → l ≡ splice l at []
unfolding splice
splice_nil l at = rw (add-zero at, take-append-drop at l)

pub length_splice : (l : List ℕ) (at : ℕ) (bs : List ℕ) → at + length bs ≤ length l → length (splice l at bs) ≡ length l
unfolding splice
length_splice l at bs h = simp (length-append, length-take, length-drop) (omega arith)

pub splice_snoc : (l : List ℕ) (at : ℕ) (bs : List ℕ) (v : ℕ) → at + length bs < length l → set (splice l at bs) (at + length bs) v ≡ splice l at (bs ++ (v ∷ []))
unfolding splice
splice_snoc l at bs v h =
    let e : length (take at l ++ bs) ≡ at + length bs = simp (length-append, length-take) (omega arith) in
    let f : at + length (bs ++ (v ∷ [])) ≡ suc (at + length bs) = simp length-append (omega arith) in
    rw (f, drop-cons l (at + length bs) 0 h, append_snoc bs v, ← append_assoc (take at l) bs (get_or l (at + length bs) 0 ∷ drop (suc (at + length bs)) l), set_at (take at l ++ bs) _ _ v (at + length bs) e, append_assoc (take at l) bs)

pub splice_splice : (l : List ℕ) (at : ℕ) (a b : List ℕ) → at + length a ≤ length l → splice (splice l at a) (at + length a) b ≡ splice l at (a ++ b)
unfolding splice
splice_splice l at a b h =
    let e : length (take at l ++ a) ≡ at + length a = simp (length-append, length-take) (omega arith) in
    let f : at + length (a ++ b) ≡ at + length a + length b = simp length-append (omega arith) in
    let g : drop (at + length a + length b) (take at l ++ a ++ drop (at + length a) l) ≡ drop (at + length a + length b) l =
    rw (← drop-drop (length b) (at + length a) (take at l ++ a ++ drop (at + length a) l), drop_at (take at l ++ a) _ _ e, drop-drop) in
    rw (← append_assoc (take at l) a (drop (at + length a) l), take_at (take at l ++ a) _ (at + length a) e, f, append_assoc (take at l) a, append_assoc a b, g)

pub part_snoc : (s : List ℕ) (from i : ℕ) → from + i < length s → part s from (i + 1) ≡ part s from i ++ (get_or s (from + i) 0 ∷ [])
unfolding part
part_snoc s from i h = rw (add-one i, take-suc (drop from s) i 0 (simp length-drop (omega arith)), get_or-drop from s i 0)

pub length_part : (s : List ℕ) (from n : ℕ) → from + n ≤ length s → length (part s from n) ≡ n
unfolding part
length_part s from n h = simp (length-take, length-drop) (omega arith)

pub part_zero : (s : List ℕ) (from : ℕ) → part s from 0 ≡ []
unfolding part
part_zero s from = refl

-- all of a list is a part of it
pub part_all : (s : List ℕ) → part s 0 (length s) ≡ s
unfolding part
part_all s = take_all (length s) s (omega arith)

-- what reaches the end of a list
pub splice_end : (l : List ℕ) (at : ℕ) (bs : List ℕ) → at + length bs ≡ length l → splice l at bs ≡ take at l ++ bs
unfolding splice
splice_end l at bs h = rw (drop_of_length-le l {i = at + length bs} (omega arith), append-nil bs)

-- a whole list in place of another
pub splice_all : (l bs : List ℕ) → length bs ≡ length l → splice l 0 bs ≡ bs
splice_all l bs h = splice_end l 0 bs (omega arith)

-- what stands where
module _ (l : List ℕ) (at : ℕ) (bs : List ℕ) (h : at + length bs ≤ length l) where
  pub get_d_before : (i : ℕ) → i < at → get_or (splice l at bs) i 0 ≡ get_or l i 0
  unfolding splice
  get_d_before i o = get_or-append (take at l) _ 0 i (rw (length-take-le at l (omega arith)) o) ∙ get_or-take at l i 0 o

  pub get_d_within : (i : ℕ) → i < length bs → get_or (splice l at bs) (at + i) 0 ≡ get_or bs i 0
  unfolding splice
  get_d_within i o =
      let e : length (take at l) ≡ at = length-take-le at l (omega arith) in
      ap (λ (k : ℕ). get_or (take at l ++ (bs ++ drop (at + length bs) l)) (k + i) 0) (sym e) ∙ (get_or-append-add (take at l) (bs ++ drop (at + length bs) l) i 0 ∙ get_or-append bs _ 0 i o)

  pub get_d_behind : (i : ℕ) → at + length bs ≤ i → get_or (splice l at bs) i 0 ≡ get_or l i 0
  unfolding splice
  get_d_behind i o =
      let e : length (take at l ++ bs) ≡ at + length bs = simp (length-append, length-take) (omega arith) in
      let f : length (take at l ++ bs) + (i - (at + length bs)) ≡ i = omega arith in
      let g : at + length bs + (i - (at + length bs)) ≡ i = omega arith in
      ap (λ (k : ℕ). get_or (take at l ++ (bs ++ drop (at + length bs) l)) k 0) (sym f)
      ∙ (rw (← append_assoc (take at l) bs (drop (at + length bs) l)) (get_or-append-add (take at l ++ bs) (drop (at + length bs) l) (i - (at + length bs)) 0)
      ∙ (get_or-drop (at + length bs) l (i - (at + length bs)) 0 ∙ ap (λ (k : ℕ). get_or l k 0) g))

-- a part, in two parts
pub part_join : (s : List ℕ) (at m n : ℕ) → part s at m ++ part s (at + m) n ≡ part s at (m + n)
unfolding part
part_join s at m n = rw (take-add m n (drop at s), drop-drop m at s)

-- what was written is read back
pub part_splice : (l : List ℕ) (at : ℕ) (bs : List ℕ) → at ≤ length l → part (splice l at bs) at (length bs) ≡ bs
unfolding part splice
part_splice l at bs h = rw (drop_at (take at l) (bs ++ drop (at + length bs) l) at (length-take-le at l h), take-append_seam)

-- what is written at the end of some bytes
pub take_splice : (l : List ℕ) (at : ℕ) (bs : List ℕ) → at ≤ length l → take (at + length bs) (splice l at bs) ≡ take at l ++ bs
unfolding splice
take_splice l at bs h =
    let e : length (take at l ++ bs) ≡ at + length bs = length-append (take at l) bs ∙ ap (λ (k : ℕ). k + length bs) (length-take-le at l h) in
    rw (← append_assoc (take at l) bs (drop (at + length bs) l)) (take_at (take at l ++ bs) (drop (at + length bs) l) (at + length bs) e)

-- a part from the front
pub part_front : (l : List ℕ) (n : ℕ) → part l 0 n ≡ take n l
unfolding part
part_front l n = refl

-- one byte in place of another
pub set_splice : (l : List ℕ) (at v : ℕ) → at < length l → set l at v ≡ splice l at (v ∷ [])
set_splice l at v h = go (splice_snoc l at [] v (omega arith))
  where
    e : at + length {A = ℕ} [] ≡ at
    e = omega arith

    go : set (splice l at []) (at + length {A = ℕ} []) v ≡ splice l at (v ∷ []) → set l at v ≡ splice l at (v ∷ [])
    go p = rw (← splice_nil l at, e) at p

pub get_d_part : (l : List ℕ) (at n j : ℕ) → j < n → get_or (part l at n) j 0 ≡ get_or l (at + j) 0
unfolding part
get_d_part l at n j h = rw (get_or-take, get_or-drop)

-- a turn of a loop that copies
pub copy_more : (d : List ℕ) (at : ℕ) (s : List ℕ) (from i : ℕ) → at + i < length d → from + i < length s → set (splice d at (part s from i)) (at + i) (get_or s (from + i) 0) ≡ splice d at (part s from (i + 1))
copy_more d at s from i hd hs =
    let n : length (part s from i) ≡ i = length_part s from i (omega arith) in
    let h : at + length (part s from i) < length d = rw n hd in
    rw (part_snoc s from i hs) (rw n at (splice_snoc d at (part s from i) (get_or s (from + i) 0) h))
