-- Each operation's bytes stand for the gatherer's step on its vector; what the room tests is what the rules test; the value bytes are the values, packed.
-- Assumes nothing.
use Rattle.std.specs.Prelude.{◌≡◌, Bool, not, ◌&&◌, ◌||◌}
use Rattle.std.proofs.Math.Path.{refl, sym, ap}
use Rattle.std.proofs.Common.{◌∙◌, subst, true≢false, add-zero, lit<}
use Prim.Native.Nat.{ℕ, ◌+◌, ◌*◌, ◌/◌, ◌%◌, ◌^◌, ◌<◌, ◌≤◌}
use Rattle.std.proofs.Math.Bool.{true, false, cond}
use mathlib.Core.List.{List, ◌∷◌}
use native.Mathlib.Omega.{arith}
use borrow.Author.Tests.{eqb-true, eq-eqb, ne_eqb}
use Rattle.std.proofs.Math.Dec.{eqb}
use Rattle.std.proofs.Math.ListN.{length, get_or}
use Rattle.slices.specs.Choice.{cond_ind}
use Rattle.slices.specs.Splice.{splice, part}
use Rattle.slices.specs.Splice.Laws.{length_part, get_d_part}
use Rattle.states.specs.declared.States.TheVariants.{Two}
use Rattle.states.specs.Kind.{bits, bytes_required}
use Rattle.states.specs.Field.{field_get}
use Rattle.states.specs.Packed.{packed, bytes, field_at}
use Rattle.states.specs.Packed.Bytes.{fields_packed, length_packed}
use Rattle.rules.specs.Vector.{Write, Vec, all, any, stored, clashes, acts_early}
use Rattle.rules.specs.Gather.{State, with, elem, list}
use Rattle.tables.specs.Layout.{Layout, value_bytes}
use Rattle.vecmarks.specs.declared.VecBufferInfo.{VecBufferInfo}
use Rattle.vecmarks.specs.Info.{num, info_at, value_of, with_value, mark_of, with_mark, is_marked, is_second, has_marks, is_quiet, values_of, marks_of, without_marks, Inside}
use Rattle.vecstarts.specs.Numbers.{listed_in, listing}
use Rattle.vecmarks.specs.Full.{full_in}
use Rattle.vecmarks.proofs.Full.Marks.{full_marks}
use Rattle.vecbuffer.specs.Changes.{mk, marked, Marks, updated, Updates, taken, Takes}
use Rattle.vecbuffer.proofs.Changes.Laws.{one_small, none_small, has_value, has_mark}
use Rattle.vecbuffer.specs.Stands.{flags_at, Cells, Listed, Stands, StandsIn, storing, clearing}
use Rattle.vecbuffer.specs.Stands.Fields.{put, puts}
use Rattle.vecbuffer.proofs.Stands.Fields.{inside_at, before_flags, cells_as, cells_value, cells_mark, cells_clear, cells_has, cells_seen}
use Rattle.vecbuffer.proofs.Stands.Order.{elem_last, listed_room, listed_last, first_known, first_new, listed_next, some_listed, none_listed, listed_none}
use Rattle.vecbuffer.proofs.Stands.Vectors.{num_one, num_cond, with_ind, stored_value, stored_mark, stored_any, stored_vals, stored_marks, cleared_vals, cleared_mark, cleared_any, cleared_marks}

-- ---- the same state, said in another way

pub stands_as : {t : Layout} {room nums : List ℕ} {i k : ℕ} {g : State} (g' : State) → Stands t room nums i k g → ((w : ℕ) → g.vecs w ≡ g'.vecs w) → g.listed ≡ g'.listed → Stands t room nums i k g'
stands_as {t} {nums = nums} {i} {k} {g} g' s e l =
    record {
      laid = s.laid;
      holds =
          cells_as s.holds (λ v b o. ap (λ (y : Vec). get_or y.vals b 0) (e v)) (λ v b o. ap (λ (y : Vec). num (get_or y.marks b false)) (e v))
          (λ v o. ap (λ (y : Vec). num (any y.marks)) (e v)) (λ v o. ap (λ (us : List ℕ). num (elem v us)) l);
      listed = rw (← l) s.listed;
      vals_wide = λ v o. rw (← e v) (s.vals_wide v o);
      marks_wide = λ v o. rw (← e v) (s.marks_wide v o);
    }

-- ---- where the vectors lie, and what the tests say

module _ {t : Layout} {room nums : List ℕ} {i k : ℕ} {g : State} (s : Stands t room nums i k g) where
  -- what the functions over the flags ask
  pub asks_flags : Inside room (flags_at t)
  asks_flags = inside_at s.laid s.holds.roomy (omega arith)

  module _ {v : ℕ} (known : v < t.count) where
    -- what the functions over one vector ask
    pub asks_vector : Inside room (info_at t v)
    asks_vector = inside_at s.laid s.holds.roomy (omega arith)

    pub asks_known : v < (flags_at t).width
    asks_known = rw s.laid.flags known

    -- whether a vector is listed
    pub marked_is : is_marked (flags_at t) v room ≡ elem v g.listed
    unfolding is_marked
    marked_is = rw (s.holds.seeing v known) (num_one (elem v g.listed))

    -- a step's end: "each vector with marks"
    pub has_is : has_marks (flags_at t) v room ≡ any (g.vecs v).marks
    unfolding has_marks
    has_is = rw (s.holds.having v known) (num_one (any (g.vecs v).marks))

    -- rule (a)'s test
    pub second_is : (x : Write) → x.bit < t.width v → is_second (info_at t v) x.bit x.value room ≡ clashes (g.vecs v) x
    unfolding is_second is_marked clashes
    second_is x o =
        rw (s.holds.marks v x.bit known (has_mark o), s.holds.values v x.bit known (has_value asks_vector o), num_one (get_or (g.vecs v).marks x.bit false))

    module _ (byte : (j : ℕ) → get_or room j 0 < 256) where
      -- rule (c)'s test
      pub full_is : full_in (t.width v) (marks_of (info_at t v) room) ≡ (acts_early (t.width v) && all (g.vecs v).marks)
      unfolding mark_of field_at
      full_is = full_marks (t.width v) (marks_of (info_at t v) room) (g.vecs v).marks long (s.marks_wide v known) small held
        where
          a : ℕ
          a = (info_at t v).start + (info_at t v).bytes

          n : ℕ
          n = bytes_required Two (t.width v)

          long : length (part room a n) ≡ n
          long = length_part room a n asks_vector.fits

          small : (j : ℕ) → j < length (part room a n) → get_or (part room a n) j 0 < 256
          small j o = rw (get_d_part room a n j (rw long at o)) (byte (a + j))

          held : (j c : ℕ) → j < length (part room a n) → c < 8 → field_get 1 c (get_or (part room a n) j 0) ≡ num (get_or (g.vecs v).marks (8 * j + c) false)
          held j c o u =
              let d : (8 * a + (8 * j + c)) / 8 ≡ a + j = omega arith in
              let r : (8 * a + (8 * j + c)) % 8 ≡ c = omega arith in
              let m : 8 * j + c < 8 * n = omega (arith, rw long at o) in
              rw (get_d_part room a n j (rw long at o)) (rw (d, r) at (s.holds.marks v (8 * j + c) known (record { within = m })))

      -- the value bytes that an event copies
      pub values_are : values_of (info_at t v) room ≡ packed (t.state v) (g.vecs v).vals
      unfolding packed value_of
      values_are =
          rw (s.vals_wide v known)
          (fields_packed (t.state v) room (info_at t v).start (value_bytes t v) (g.vecs v).vals byte (omega (arith, asks_vector.fits))
          (λ b o. s.holds.values v b known (record { within = o })))

    pub values_long : length (packed (t.state v) (g.vecs v).vals) ≡ value_bytes t v
    values_long = length_packed (t.state v) (g.vecs v).vals ∙ rw (s.vals_wide v known)

-- ---- rule (b)

all_three : (a b c : Bool) → (a && (b && not c)) ≡ true → (a ≡ true) × (b ≡ true) × (c ≡ false)
all_three true true false e = (refl, refl, refl)
all_three true true true e = absurd (true≢false (sym e))
all_three true false c e = absurd (true≢false (sym e))
all_three false b c e = absurd (true≢false (sym e))

unmarked : (m : Bool) → num m ≡ 0 → m ≡ false
unmarked true e = absurd (omega arith)
unmarked false e = refl

module _ {t : Layout} {room nums : List ℕ} {k : ℕ} {g : State} (s : Stands t room nums 0 k g) {v : ℕ} (known : v < t.count) where
  pub asks_marks : Marks room nums (flags_at t) v k
  asks_marks =
      record {
        flags = asks_flags s;
        known = asks_known s known;
        few = omega (arith, s.laid.few);
        short = omega (arith, s.laid.few, s.listed.most);
        list = λ e. omega (arith, listed_room s.listed known (sym (marked_is s known) ∙ e), s.listed.started.long);
      }

  pub asks_update : {b x : ℕ} → b < t.width v → x < 2 ^ bits (t.state v) → Updates room nums (info_at t v) (flags_at t) v k b x
  asks_update o u = record { marks = asks_marks; vector = asks_vector s known; inside = o; small = u; before = before_flags t known }

module _ {t : Layout} {room nums : List ℕ} {k : ℕ} {g : State} (s : Stands t room nums 0 k g) {v : ℕ} (known : v < t.count) (x : Write) (inside : x.bit < t.width v) (small : x.value < 2 ^ bits (t.state v)) where
  abbrev i : VecBufferInfo
  i = info_at t v

  abbrev f : VecBufferInfo
  f = flags_at t

  -- the bit stored and marked
  abbrev room₂ : List ℕ
  room₂ = with_mark i x.bit 1 (with_value i x.bit x.value room)

  vals_in : x.bit < length (g.vecs v).vals
  vals_in = rw (s.vals_wide v known) inside

  marks_in : x.bit < length (g.vecs v).marks
  marks_in = rw (s.marks_wide v known) inside

  abbrev vecs : ℕ → Vec
  vecs = with g.vecs v (stored (g.vecs v) x)

  bit_stored :
      Cells t room₂ (put v x.bit x.value (λ w b. get_or (g.vecs w).vals b 0)) (put v x.bit 1 (λ w b. num (get_or (g.vecs w).marks b false)))
      (λ w. num (any (g.vecs w).marks)) (λ w. num (elem w g.listed))
  bit_stored = cells_mark s.laid (cells_value s.laid s.holds known (has_value (asks_vector s known) inside) small) known (has_mark inside) (lit< tt)

  listed_is : is_marked f v room₂ ≡ elem v g.listed
  unfolding is_marked
  listed_is = rw (bit_stored.seeing v known) (num_one (elem v g.listed))

  -- the fields as the new vectors have them; h is what the listed flags say
  holds_stored : {room' : List ℕ} {h h' : ℕ → ℕ}
      → Cells t room' (put v x.bit x.value (λ w b. get_or (g.vecs w).vals b 0)) (put v x.bit 1 (λ w b. num (get_or (g.vecs w).marks b false)))
      (puts v 1 (λ w. num (any (g.vecs w).marks))) h
      → ((w : ℕ) → w < t.count → h w ≡ h' w)
      → Cells t room' (λ w b. get_or (vecs w).vals b 0) (λ w b. num (get_or (vecs w).marks b false)) (λ w. num (any (vecs w).marks)) h'
  holds_stored c e =
      cells_as c
      (λ w b o. with_ind g.vecs v _ (λ w m y. cond m (cond (eqb b x.bit) x.value (get_or (g.vecs w).vals b 0)) (get_or (g.vecs w).vals b 0) ≡ get_or y.vals b 0) (stored_value (g.vecs v) x vals_in b) (λ w. refl) w)
      (λ w b o. with_ind g.vecs v _ (λ w m y. cond m (cond (eqb b x.bit) 1 (num (get_or (g.vecs w).marks b false))) (num (get_or (g.vecs w).marks b false)) ≡ num (get_or y.marks b false)) (stored_mark (g.vecs v) x marks_in b) (λ w. refl) w)
      (λ w o. with_ind g.vecs v _ (λ w m y. cond m 1 (num (any (g.vecs w).marks)) ≡ num (any y.marks)) (rw (stored_any (g.vecs v) x marks_in)) (λ w. refl) w)
      e

  vals_long : (w : ℕ) → w < t.count → length (vecs w).vals ≡ t.width w
  vals_long w o = with_ind g.vecs v _ (λ w m y. w < t.count → length y.vals ≡ t.width w) (λ o. stored_vals (g.vecs v) x ∙ s.vals_wide v o) (λ w. s.vals_wide w) w o

  marks_long : (w : ℕ) → w < t.count → length (vecs w).marks ≡ t.width w
  marks_long w o = with_ind g.vecs v _ (λ w m y. w < t.count → length y.marks ≡ t.width w) (λ o. stored_marks (g.vecs v) x ∙ s.marks_wide v o) (λ w. s.marks_wide w) w o

  -- the vector is listed already
  stays : elem v g.listed ≡ true → Stands t (with_value f v 1 room₂) nums 0 k (storing g v x)
  unfolding storing list
  stays e =
      rw e
      (record {
        laid = s.laid;
        holds = holds_stored (cells_has s.laid bit_stored known (one_small (t.state t.count))) (λ w o. refl);
        listed = s.listed;
        vals_wide = vals_long;
        marks_wide = marks_long;
      })

  -- and has marks: then the flags stay as they are
  keeps : elem v g.listed ≡ true → any (g.vecs v).marks ≡ true → Stands t room₂ nums 0 k (storing g v x)
  unfolding storing list
  keeps e h =
      rw e
      (record {
        laid = s.laid;
        holds = holds_stored (cells_as bit_stored (λ w b o. refl) (λ w b o. refl) (λ w o. same w (eqb w v) refl) (λ w o. refl)) (λ w o. refl);
        listed = s.listed;
        vals_wide = vals_long;
        marks_wide = marks_long;
      })
    where
      same : (w : ℕ) (m : Bool) → eqb w v ≡ m → num (any (g.vecs w).marks) ≡ cond m 1 (num (any (g.vecs w).marks))
      same w true d = rw (eqb-true w v d, h)
      same w false d = refl

  module _ (new : elem v g.listed ≡ false) where
    -- or it is now
    added : Stands t (with_value f v 1 (with_mark f v 1 room₂)) (listing nums k v) 0 (k + 1) (storing g v x)
    unfolding storing list
    added =
        rw new
        (record {
          laid = s.laid;
          holds =
              holds_stored (cells_has s.laid (cells_seen s.laid bit_stored known (lit< tt)) known (one_small (t.state t.count)))
              (λ w o. rw (elem_last w v g.listed) (num_cond (eqb w v) (elem w g.listed)));
          listed = listed_last s.listed known new;
          vals_wide = vals_long;
          marks_wide = marks_long;
        })

  -- what `update_value` leaves stands for rule (b)'s store and mark
  pub stands_updated : StandsIn t (storing g v x) (updated i f v k x.bit x.value room nums)
  unfolding updated marked
  stands_updated = cond_ind (is_marked f v room₂) _ _ (StandsIn t (storing g v x)) (λ e. stays (sym listed_is ∙ e)) (λ e. added (sym listed_is ∙ e))

  pub stands_update : {room' nums' : List ℕ} {k' : ℕ} → mk room' nums' k' ≡ updated i f v k x.bit x.value room nums → Stands t room' nums' 0 k' (storing g v x)
  stands_update e = subst (StandsIn t (storing g v x)) (sym e) stands_updated

  -- a write that makes no event and lists nothing
  module _ (quiet : is_quiet i f v room ≡ true) where
    facts : (has_marks f v room ≡ true) × (is_marked f v room ≡ true) × (is_marked i 0 room ≡ false)
    unfolding is_quiet
    facts = all_three (has_marks f v room) (is_marked f v room) (is_marked i 0 room) quiet

    pub stands_quiet : Stands t room₂ nums 0 k (storing g v x)
    stands_quiet = keeps (sym (marked_is s known) ∙ facts.1) (sym (has_is s known) ∙ facts.0)

    module _ (some : 0 < x.bit) where
      -- the next one is so too
      pub stays_quiet : is_quiet i f v room₂ ≡ true
      unfolding is_quiet has_marks is_marked
      stays_quiet =
          let a : value_of f v room₂ ≡ value_of f v room = bit_stored.having v known ∙ sym (s.holds.having v known) in
          let b : mark_of f v room₂ ≡ mark_of f v room = bit_stored.seeing v known ∙ sym (s.holds.seeing v known) in
          let z : 0 ≡ x.bit → ⊥ = λ e. omega arith in
          let d : mark_of i 0 room₂ ≡ mark_of i 0 room =
          bit_stored.marks v 0 known (has_mark (omega arith)) ∙ rw (eq-eqb v v refl, ne_eqb 0 x.bit z) (sym (s.holds.marks v 0 known (has_mark (omega arith)))) in
          rw (a, b, d) quiet

      -- bit 0 is not marked afterwards either
      pub quiet_bit : get_or (stored (g.vecs v) x).marks 0 false ≡ false
      unfolding is_marked
      quiet_bit =
          let z : 0 ≡ x.bit → ⊥ = λ e. omega arith in
          let d : eqb (mark_of i 0 room) 1 ≡ false = facts.2 in
          let e : get_or (g.vecs v).marks 0 false ≡ false = sym (num_one (get_or (g.vecs v).marks 0 false)) ∙ (rw (s.holds.marks v 0 known (has_mark (omega arith))) at d) in
          unmarked (get_or (stored (g.vecs v) x).marks 0 false) (sym (stored_mark (g.vecs v) x marks_in 0) ∙ rw (ne_eqb 0 x.bit z, e))

-- ---- an event of a vector, and a step's end

module _ {t : Layout} {room nums : List ℕ} {i k : ℕ} {g : State} (s : Stands t room nums i k g) where
  module _ {v : ℕ} (known : v < t.count) where
    pub asks_take : {values : List ℕ} {at : ℕ} → at + value_bytes t v ≤ length values → Takes room (info_at t v) (flags_at t) v values at
    asks_take o = record { vector = asks_vector s known; flags = asks_flags s; known = asks_known s known; space = o }

    -- the marks and the flag cleared stand for the gatherer's clearing
    pub stands_cleared : Stands t (with_value (flags_at t) v 0 (without_marks (info_at t v) room)) nums i k (clearing g v)
    unfolding clearing
    stands_cleared =
        record {
          laid = s.laid;
          holds =
              cells_as (cells_has s.laid (cells_clear s.laid s.holds known) known (none_small (t.state t.count)))
              (λ w b o. with_ind g.vecs v _ (λ w m y. get_or (g.vecs w).vals b 0 ≡ get_or y.vals b 0) (rw (cleared_vals (g.vecs v))) (λ w. refl) w)
              (λ w b o. with_ind g.vecs v _ (λ w m y. cond m 0 (num (get_or (g.vecs w).marks b false)) ≡ num (get_or y.marks b false)) (rw (cleared_mark (g.vecs v) b)) (λ w. refl) w)
              (λ w o. with_ind g.vecs v _ (λ w m y. cond m 0 (num (any (g.vecs w).marks)) ≡ num (any y.marks)) (rw (cleared_any (g.vecs v))) (λ w. refl) w)
              (λ w o. refl);
          listed = s.listed;
          vals_wide = λ w o. with_ind g.vecs v _ (λ w m y. w < t.count → length y.vals ≡ t.width w) (λ o. rw (cleared_vals (g.vecs v)) (s.vals_wide v o)) (λ w. s.vals_wide w) w o;
          marks_wide = λ w o. with_ind g.vecs v _ (λ w m y. w < t.count → length y.marks ≡ t.width w) (λ o. cleared_marks (g.vecs v) ∙ s.marks_wide v o) (λ w. s.marks_wide w) w o;
        }

    -- what `get_full_value_and_clear_changes` leaves
    module _ (values : List ℕ) (at : ℕ) {room' values' : List ℕ} (e : (room', values') ≡ taken (info_at t v) (flags_at t) v at room values) where
      pub stands_taken : Stands t room' nums i k (clearing g v)
      unfolding taken
      stands_taken = rw (ap (λ (p : List ℕ × List ℕ). p.0) e) stands_cleared

      pub values_taken : ((j : ℕ) → get_or room j 0 < 256) → values' ≡ splice values at (packed (t.state v) (g.vecs v).vals)
      unfolding taken
      values_taken byte = ap (λ (p : List ℕ × List ℕ). p.1) e ∙ rw (values_are s known byte)

-- the next vector of a step's end
module _ {t : Layout} {room nums : List ℕ} {i k : ℕ} {g : State} (s : Stands t room nums i k g) (o : i < k) where
  pub asks_listed : i < length nums
  asks_listed = omega (arith, s.listed.most, s.listed.started.long)

  pub listed_at : (us : List ℕ) × (g.listed ≡ listed_in nums i ∷ us)
  listed_at = some_listed s.listed o

  pub listed_known : listed_in nums i < t.count
  listed_known = let e : listed_in nums i ≡ get_or g.listed 0 0 = rw add-zero at (s.listed.order 0 some) in rw e (s.listed.known 0 some)
    where
      some : 0 < length g.listed
      some = omega (arith, s.listed.many)

-- what `unlist` leaves of the first vector that is listed
module _ {t : Layout} {room nums : List ℕ} {i k : ℕ} {g : State} (s : Stands t room nums i k g) {v : ℕ} {us : List ℕ} (e : g.listed ≡ v ∷ us) where
  first : Listed t nums i k (v ∷ us)
  first = rw e at s.listed

  not_listed : (w : ℕ) (m : Bool) → eqb w v ≡ m → cond m 0 (num (m || elem w us)) ≡ num (elem w us)
  not_listed w true d = rw (eqb-true w v d, first_new first)
  not_listed w false d = refl

  pub stands_unlisted : Stands t (with_mark (flags_at t) v 0 room) nums (i + 1) k (record { vecs = g.vecs; listed = us })
  unfolding elem
  stands_unlisted =
      record {
        laid = s.laid;
        holds = cells_as (cells_seen s.laid s.holds (first_known first) (lit< tt)) (λ w b o. refl) (λ w b o. refl) (λ w o. refl) (λ w o. rw e (not_listed w (eqb w v) refl));
        listed = listed_next first;
        vals_wide = s.vals_wide;
        marks_wide = s.marks_wide;
      }

-- a step's end is over
pub stands_over : {t : Layout} {room nums : List ℕ} {i k : ℕ} {g : State} → Stands t room nums i k g → k ≤ i → Stands t room nums 0 0 g
stands_over s o =
    record {
      laid = s.laid;
      holds = s.holds;
      listed = rw (none_listed s.listed o) (listed_none s.listed.started);
      vals_wide = s.vals_wide;
      marks_wide = s.marks_wide;
    }
