-- Laws of text in a room, and what the proofs of `text` search.
-- Assumes nothing.
use Rattle.std.specs.Prelude.{◌≡◌, refl, drop, get_or}
use Rattle.std.proofs.Common.{sym, ◌∙◌, ⊎_elim, zero-add, add-one, lt-ltb, le-ltb, drop_of_length-le, length-take-le, drop-cons}
use Rattle.std.proofs.Math.Path.{ap}
use Prim.Native.Nat.{ℕ, ◌+◌, ◌-◌, ◌/◌, ◌%◌, ◌^◌, ◌≤◌, ◌<◌, min}
use mathlib.Core.List.{List, [], ◌∷◌, ◌++◌, append_assoc, append-nil}
use native.Mathlib.Omega.{arith}
use Rattle.std.proofs.Math.ListN.{length, take, length-append, length-take}
use Rattle.std.proofs.Math.Seq.{take_all, take-nil, take-append-add}
use Rattle.std.proofs.lemmas.List.{take-append-le}
use Rattle.std.specs.Fmt as Fmt
use Rattle.std.proofs.lemmas.Fmt.{AppendsLastDigit, decimal_from_appends, length-decimal-le}
use Rattle.slices.specs.Choice.{le_or_lt}
use Rattle.slices.specs.Splice.{splice, part}
use Rattle.slices.specs.Splice.Laws.{splice_nil, splice_splice, length_splice}
use Rattle.plain_text.specs.Text.{digit, decimal_of, decimal, hex, Holds, Prints}

-- ---- a room

pub length_holds : {room l t : List ℕ} {n : ℕ} → Holds room l t n → length t ≡ length room
length_holds {room} {l} h = ap length h.text ∙ length_splice room 0 (take (length room) l) (simp length-take (omega arith))

module _ {room l t : List ℕ} {n : ℕ} (h : Holds room l t n) where
  pub holds_fits : n ≤ length t
  holds_fits = omega (arith, h.count, length-take (length room) l, length_holds h)

  pub holds_front : n ≡ length (take n t)
  holds_front = sym (length-take-le n t holds_fits)

  -- where the room is large enough
  pub holds_all : length l ≤ length room → Prints room l t n
  holds_all o =
      let e : take (length room) l ≡ l = take_all (length room) l o in
      record { text = rw e at h.text; count = rw e at h.count }

pub holds_none : (t : List ℕ) → Holds t [] t 0
holds_none t = record { text = rw (take-nil {A = ℕ} (length t)) (splice_nil t 0); count = rw (take-nil {A = ℕ} (length t)) }

-- what is written after anything
pub record Adds (t : List ℕ) (at : ℕ) (bs t' : List ℕ) (at' : ℕ) : Type 0 where
  pub adds : (room l : List ℕ) → Holds room l t at → Holds room (l ++ bs) t' at'
  pub long : length t' ≡ length t

pub adds_alone : {t bs t' : List ℕ} {n : ℕ} → Adds t 0 bs t' n → Holds t bs t' n
adds_alone {t} a = a.adds t [] (holds_none t)

pub adds_none : (t : List ℕ) (at : ℕ) → Adds t at [] t at
adds_none t at = record { adds = λ room l h. rw (append-nil l) h; long = refl }

pub adds_then : {t t₁ t₂ a b : List ℕ} {at i j : ℕ} → Adds t at a t₁ i → Adds t₁ i b t₂ j → Adds t at (a ++ b) t₂ j
adds_then {a = a} {b = b} p q = record { adds = λ room l h. rw (append_assoc l a b) at (q.adds room (l ++ a) (p.adds room l h)); long = q.long ∙ p.long }

-- ---- as much as fits

pub take_min : (n : ℕ) (bs : List ℕ) → take (min (length bs) n) bs ≡ take n bs
take_min n bs =
    ⊎_elim (λ (h : length bs ≤ n). take_all (min (length bs) n) bs (omega arith) ∙ sym (take_all n bs h))
    (λ (h : n < length bs). let e : min (length bs) n ≡ n = omega arith in ap (λ (k : ℕ). take k bs) e) (le_or_lt (length bs) n)

module _ (t bs : List ℕ) (at : ℕ) where
  pub put_full : length t ≤ at → Adds t at bs t at
  put_full h =
      record {
        adds =
            λ room l w.
            let long : length t ≡ length room = length_holds w in
            let over : length room ≤ length l = omega (arith, w.count, length-take (length room) l) in
            let same : take (length room) (l ++ bs) ≡ take (length room) l = take-append-le (length room) l bs over in
            record { text = rw same w.text; count = rw same w.count };
        long = refl;
      }

  module _ {n : ℕ} (e : n ≡ min (length bs) (length t - at)) where
    pub put_from : 0 + n ≤ length bs
    put_from = omega arith

    pub put_to : at < length t → at + n ≤ length t
    put_to h = omega arith

    pub put_some : at < length t → {t' : List ℕ} → t' ≡ splice t at (part bs 0 n) → Adds t at bs t' (at + n)
    unfolding part
    put_some h {t'} d =
        record {
          adds =
              λ room l w.
              let long : length t ≡ length room = length_holds w in
              let under : length l < length room = omega (arith, w.count, length-take (length room) l) in
              let whole : take (length room) l ≡ l = take_all (length room) l (omega arith) in
              let at_end : at ≡ length l = w.count ∙ ap length whole in
              let first : t ≡ splice room 0 l = rw whole at w.text in
              let split : length l + (length room - length l) ≡ length room = omega arith in
              let least : min (length bs) (length room - length l) ≡ n = omega arith in
              let start : splice (splice room 0 l) (length l) (take n bs) ≡ splice room 0 (l ++ take n bs) = rw (zero-add (length l)) at (splice_splice room 0 l (take n bs) (omega arith)) in
              let more : take (length room) (l ++ bs) ≡ l ++ take n bs =
              rw split at (take-append-add l bs (length room - length l)) ∙ ap (λ (x : List ℕ). l ++ x) (sym (take_min (length room - length l) bs) ∙ ap (λ (k : ℕ). take k bs) least) in
              record {
                text = d ∙ rw (more, at_end, first) start;
                count = rw more (omega (arith, length-append l (take n bs), length-take n bs));
              };
          long = ap length d ∙ length_splice t at (take n bs) (omega (arith, length-take n bs));
        }

-- ---- digits

by_tens : AppendsLastDigit decimal_of
unfolding digit decimal_of
by_tens = record { one = λ m n h. rw (lt-ltb n 10 h); more = λ m n h. rw (le-ltb n 10 h, lt-ltb (n % 10) 10 (omega arith)) }

-- what the library's text of a number is
pub adds_number : {t w x t' : List ℕ} {at at' : ℕ} (n : ℕ) → Adds t at w t' at' → w ≡ x → x ≡ Fmt.decimal n → n < 2 ^ 64 → Adds t at (decimal n) t' at'
unfolding decimal
adds_number n a p q h = rw (decimal_from_appends decimal_of by_tens 20 n h (length-decimal-le 20 n (omega arith) (omega arith) h), ← q, ← p) a

-- ---- bytes in hex

-- so many bytes have been spelt
pub record Spelt (bs t : List ℕ) (at i : ℕ) (t' : List ℕ) (at' : ℕ) : Type 0 where
  pub so : List ℕ
  pub adds : Adds t at so t' at'
  pub left : so ++ hex (drop i bs) ≡ hex bs
  pub long : length t' ≡ length t

pub spelt_none : (bs t : List ℕ) (at : ℕ) → Spelt bs t at 0 t at
spelt_none bs t at = record { so = []; adds = adds_none t at; left = refl; long = refl }

module _ {bs t t₁ : List ℕ} {at i end : ℕ} (c : Spelt bs t at i t₁ end) where
  pub spelt_on : i < length bs → {t₂ : List ℕ} {end' : ℕ} → Adds t₁ end (digit (get_or bs i 0 / 16) ∷ digit (get_or bs i 0 % 16) ∷ []) t₂ end' → Spelt bs t at (i + 1) t₂ end'
  unfolding hex
  spelt_on h a =
      record {
        so = c.so ++ (digit (get_or bs i 0 / 16) ∷ digit (get_or bs i 0 % 16) ∷ []);
        adds = adds_then c.adds a;
        left = append_assoc c.so _ _ ∙ rw (add-one i) (rw (drop-cons bs i 0 h) at c.left);
        long = a.long ∙ c.long;
      }

  pub spelt_all : length bs ≤ i → Adds t at (hex bs) t₁ end
  unfolding hex
  spelt_all h =
      let e : c.so ≡ hex bs = rw (drop_of_length-le bs {i = i} h, append-nil c.so) at c.left in
      rw (← e) c.adds

-- ---- for the code

pub digit_low : {d : ℕ} → d < 10 → 48 + d ≡ digit d
unfolding digit
digit_low {d} h = rw (lt-ltb d 10 h)

pub digit_high : {d : ℕ} → 10 ≤ d → 87 + d ≡ digit d
unfolding digit
digit_high {d} h = rw (le-ltb d 10 h)

module _ {t t' : List ℕ} {at at' x y : ℕ} (b : ℕ) where
  pub adds_pair : Adds t at (x ∷ y ∷ []) t' at' → x ≡ digit (b / 16) → y ≡ digit (b % 16) → Adds t at (digit (b / 16) ∷ digit (b % 16) ∷ []) t' at'
  adds_pair a p q = rw (← p, ← q) a

pub ruleset digit_laws = (digit_low, digit_high)

pub ruleset number_laws = (adds_number)

pub ruleset byte_laws = (adds_pair)

pub ruleset put_laws = (put_full, put_from, put_to, put_some)

pub ruleset hex_laws = (spelt_none, spelt_on, spelt_all)
