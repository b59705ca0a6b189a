-- What the operations on the room leave of its bytes, and of the zeros past what is needed.
-- Assumes nothing.
use Rattle.std.specs.Prelude.{◌≡◌, refl, ◌⊎◌, length, get_or, set, replicate}
use Rattle.std.proofs.Math.Path.{sym, ap, subst}
use Rattle.std.proofs.Common.{◌∙◌, ⊎_elim, arith, lit<, get_or-set_same, get_or-set_other}
use Prim.Native.Nat.{ℕ, suc, ◌+◌, ◌-◌, ◌/◌, ◌%◌, ◌^◌, ◌<◌, ◌≤◌}
use mathlib.Core.List.{List}
use Rattle.std.proofs.Math.Dec.{eqb}
use Rattle.std.proofs.lemmas.List.{length-replicate, get_or-replicate}
use Rattle.std.proofs.Math.Seq.{set_out}
use Rattle.slices.specs.Choice.{cond_ind, tri, apart, le_or_lt}
use Rattle.slices.specs.Splice.{splice}
use Rattle.slices.specs.Splice.Laws.{get_d_before, get_d_within, get_d_behind}
use Rattle.states.specs.declared.States.TheVariants.{Two}
use Rattle.states.specs.Kind.{bits}
use Rattle.states.specs.Field.Laws.{set_byte}
use Rattle.states.specs.Packed.{set_at, value_place}
use Rattle.states.specs.Packed.Laws.{value_byte, value_in, bit_fits, bits_some}
use Rattle.tables.specs.Layout.{Layout, start, total_bytes}
use Rattle.rules.specs.Gather.{State}
use Rattle.vecmarks.specs.declared.VecBufferInfo.{VecBufferInfo}
use Rattle.vecmarks.specs.Info.{info_at, with_value, mark_place, with_mark, is_marked, without_marks, mask_bytes_of, Inside, end_of, Apart, first, HasMark}
use Rattle.vecmarks.proofs.Info.Laws.{ask_value}
use Rattle.vecmarks.proofs.Info.Keeps.{length_cleared, inside_as, mark_value_apart, mark_mark_apart}
use Rattle.vecstarts.specs.Numbers.{listing}
use Rattle.tables.specs.Layout.Laws.{start_le}
use Rattle.vecbuffer.specs.Changes.{Lent, mk, marked, updated, taken}
use Rattle.vecbuffer.proofs.Changes.Laws.{none_small, one_small, after_value, after_mark, has_value, has_mark}
use Rattle.vecbuffer.specs.Stands.{flags_at, Stands}
use Rattle.vecbuffer.proofs.Stands.Fields.{before_flags}
use Rattle.vecbuffer.proofs.Stands.Order.{listed_room}
use Rattle.vecbuffer.proofs.Stands.Laws.{asks_flags, asks_vector, asks_known, marked_is}
use Rattle.gather.specs.Memory.{Clean}

-- one of a list replaced
module _ (P : ℕ → ℕ → Type 0) (l : List ℕ) (at x : ℕ) (all : (i : ℕ) → P i (get_or l i 0)) (one : P at x) where
  pub set_keeps : (i : ℕ) → P i (get_or (set l at x) i 0)
  set_keeps i =
      ⊎_elim (λ (e : i ≡ at). ⊎_elim (λ (o : length l ≤ at). rw (set_out l at x o) (all i)) (λ (o : at < length l). rw (e, get_or-set_same l at x 0 o) one) (le_or_lt (length l) at))
      (λ (o : (i < at) ⊎ (at < i)). rw (get_or-set_other l at i x 0 (apart o)) (all i))
      (tri i at)

-- ---- the room

-- the bytes of a room of which n are needed
pub record Tidy (n : ℕ) (room : List ℕ) : Type 0 where
  pub byte : (i : ℕ) → get_or room i 0 < 256
  pub past : (i : ℕ) → n ≤ i → get_or room i 0 ≡ 0

module _ {n : ℕ} {room : List ℕ} (h : Tidy n room) where
  tidy_field : (b p x : ℕ) → p % 8 + b ≤ 8 → p / 8 < n → x < 2 ^ b → Tidy n (set_at b p room x)
  unfolding set_at
  tidy_field b p x o k s =
      record {
        byte = set_keeps (λ i y. y < 256) room (p / 8) _ h.byte (set_byte b (p % 8) (get_or room (p / 8) 0) x (omega arith) (h.byte (p / 8)) s);
        past = set_keeps (λ i y. n ≤ i → y ≡ 0) room (p / 8) _ h.past (λ z. absurd (omega arith));
      }

  module _ {i : VecBufferInfo} (w : Inside room i) (k : end_of i ≤ n) where
    module _ {b x : ℕ} (o : b < i.width) where
      tidy_value : x < 2 ^ bits i.states → Tidy n (with_value i b x room)
      unfolding with_value
      tidy_value s =
          tidy_field (bits i.states) (value_place i.states i.start i.bytes b) x (value_byte i.states i.start i.bytes b)
          (omega (arith, value_in i.states i.start i.bytes b (ask_value w o), bits_some i.states)) s

      tidy_mark : x < 2 → Tidy n (with_mark i b x room)
      unfolding with_mark
      tidy_mark s = tidy_field 1 (mark_place i b) x (omega arith) (omega (arith, bit_fits Two i.width b o)) s

    tidy_clear : Tidy n (without_marks i room)
    unfolding without_marks
    tidy_clear =
        record {
          byte = λ j. by (λ j y. y < 256) j (h.byte j) (lit< tt);
          past = λ j o. by (λ j y. n ≤ j → y ≡ 0) j (h.past j) (λ _. refl) o;
        }
      where
        a : ℕ
        a = i.start + i.bytes

        zeros : List ℕ
        zeros = replicate (mask_bytes_of i) 0

        fit : a + length zeros ≤ length room
        fit = rw length-replicate w.fits

        by : (P : ℕ → ℕ → Type 0) (j : ℕ) → P j (get_or room j 0) → P j 0 → P j (get_or (splice room a zeros) j 0)
        by P j x y =
            ⊎_elim (λ (l : a ≤ j).
            ⊎_elim (λ (o : a + length zeros ≤ j). rw (get_d_behind room a zeros fit j o) x)
            (λ (o : j < a + length zeros).
            let e : a + (j - a) ≡ j = omega arith in
            let d : j - a < mask_bytes_of i = omega (arith, length-replicate {A = ℕ} (mask_bytes_of i) 0) in
            let z : get_or (splice room a zeros) j 0 ≡ 0 = rw e at (get_d_within room a zeros fit (j - a) (rw length-replicate d) ∙ get_or-replicate {A = ℕ} (mask_bytes_of i) (j - a) 0 0 d) in
            rw z y)
            (le_or_lt (a + length zeros) j))
            (λ (l : j < a). rw (get_d_before room a zeros fit j l) x)
            (le_or_lt a j)

-- ---- the operations

module _ {t : Layout} {room nums : List ℕ} (h : Clean t room nums) where
  tidy : Tidy (total_bytes t) room
  tidy = record { byte = h.byte; past = h.room_past }

  clean_room : {room' : List ℕ} → Tidy (total_bytes t) room' → Clean t room' nums
  clean_room d = record { byte = d.byte; room_past = d.past; list_past = h.list_past }

  clean_list : (k v : ℕ) → k < t.count → Clean t room (listing nums k v)
  unfolding listing
  clean_list k v o =
      record {
        byte = h.byte;
        room_past = h.room_past;
        list_past = set_keeps (λ i y. t.count ≤ i → y ≡ 0) nums k _ h.list_past (λ z. absurd (omega arith));
      }

-- where a vector, and where the flags end
ends_in : (t : Layout) (v : ℕ) → v ≤ t.count → end_of (info_at t v) ≤ total_bytes t
unfolding start
ends_in t v o = omega (arith, start_le t (suc v) (suc t.count) (omega arith))

module _ {t : Layout} {room nums : List ℕ} {i k : ℕ} {g : State} (s : Stands t room nums i k g) (h : Clean t room nums) {v : ℕ} (known : v < t.count) where
  -- `get_full_value_and_clear_changes`
  pub clean_taken : (values : List ℕ) (at : ℕ) {room' values' : List ℕ} → (room', values') ≡ taken (info_at t v) (flags_at t) v at room values → Clean t room' nums
  unfolding taken
  clean_taken values at e =
      rw (ap (λ (p : List ℕ × List ℕ). p.0) e)
      (clean_room h
      (tidy_value (tidy_clear (tidy h) (asks_vector s known) (ends_in t v (omega arith))) (inside_as (length_cleared (asks_vector s known)) (asks_flags s)) (ends_in t t.count (omega arith)) (asks_known s known)
      (none_small (t.state t.count))))

  -- `unlist`
  pub clean_unlisted : Clean t (with_mark (flags_at t) v 0 room) nums
  clean_unlisted = clean_room h (tidy_mark (tidy h) (asks_flags s) (ends_in t t.count (omega arith)) (asks_known s known) (lit< tt))

-- `update_value`
module _ {t : Layout} {room nums : List ℕ} {k : ℕ} {g : State} (s : Stands t room nums 0 k g) (h : Clean t room nums) {v : ℕ} (known : v < t.count) {b x : ℕ} (inside : b < t.width v) (small : x < 2 ^ bits (t.state v)) where
  abbrev i : VecBufferInfo
  i = info_at t v

  abbrev f : VecBufferInfo
  f = flags_at t

  abbrev room₁ : List ℕ
  room₁ = with_value i b x room

  abbrev room₂ : List ℕ
  room₂ = with_mark i b 1 room₁

  all_in : end_of f ≤ total_bytes t
  all_in = ends_in t t.count (omega arith)

  tidy₂ : Tidy (total_bytes t) room₂
  tidy₂ = tidy_mark (tidy_value (tidy h) (asks_vector s known) (ends_in t v (omega arith)) inside small) (after_value (asks_vector s known) i b x refl) (ends_in t v (omega arith)) inside (lit< tt)

  -- a bit stored and marked, and nothing else
  pub clean_stored : Clean t room₂ nums
  clean_stored = clean_room h tidy₂

  flags₂ : Inside room₂ f
  flags₂ = after_mark (after_value (asks_flags s) i b x refl) i b 1 refl

  one : 1 < 2 ^ bits f.states
  one = one_small (t.state t.count)

  same : is_marked f v room₂ ≡ is_marked f v room
  unfolding is_marked
  same =
      let a : Apart i f = first (before_flags t known) in
      let m : HasMark f v = has_mark (asks_known s known) in
      ap (λ (y : ℕ). eqb y 1)
      (mark_mark_apart (after_value (asks_vector s known) i b x refl) (has_mark inside) (lit< tt) a m ∙ mark_value_apart (asks_vector s known) (has_value (asks_vector s known) inside) small a m)

  abbrev CleanIn : Lent → Type 0
  CleanIn (mk room' nums' k') = Clean t room' nums'

  pub clean_updated : {room' nums' : List ℕ} {k' : ℕ} → mk room' nums' k' ≡ updated i f v k b x room nums → Clean t room' nums'
  unfolding updated marked
  clean_updated e =
      subst CleanIn (sym e)
      (cond_ind (is_marked f v room₂) _ _ CleanIn
      (λ _. clean_room h (tidy_value tidy₂ flags₂ all_in (asks_known s known) one))
      (λ new.
      let d : k < t.count = listed_room s.listed known (sym (marked_is s known) ∙ sym same ∙ new) in
      clean_list (clean_room h (tidy_value (tidy_mark tidy₂ flags₂ all_in (asks_known s known) (lit< tt)) (after_mark flags₂ f v 1 refl) all_in (asks_known s known) one)) k v d))
