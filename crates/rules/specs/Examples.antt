-- Document 01's examples of gathering, by computation, and rows that its named mistakes fail. Histories that are wrong stand in Owned.Mistakes.
-- Assumes nothing.
use Rattle.std.specs.Prelude.{◌≡◌, refl, ◌≢◌, Bool, true, cond, ◌&&◌, ℕ, suc, ◌+◌, ◌-◌, ◌*◌, ◌/◌, length, leb}
use Rattle.std.proofs.Common.{ap, arith}
use mathlib.Core.List.{List, [], ◌∷◌, ◌++◌, head-eq_of_cons-eq}
use Rattle.states.specs.declared.States.TheVariants.{Two}
use Rattle.states.specs.Kind.{bytes_required}
use Rattle.states.specs.Packed.{digits, bytes, packed}
use Rattle.rules.specs.Vector.{began, wrote, shown, over, all, any, fresh, cleared, fires, clashes, stored, acts_early, act}
use Rattle.rules.specs.Gather.{Tables, width, Act, time, write, step_end, Happening, at, single, of, ends, begin, with, elem, list, end_all, bit_write, to_vector, toward, does, happens}
use Rattle.rules.specs.Gather.Order.{labels, named, written}

-- the value bytes of each two-state event, with the index of its vector
unfoldable pub values : List Happening → List (ℕ × List ℕ)
values [] = []
values (at u ∷ h) = values h
values (single i x p ∷ h) = values h
values (of v (began u) ∷ h) = values h
values (of v (wrote x) ∷ h) = values h
values (of v (shown c l) ∷ h) = (v, packed Two l) ∷ values h
values (of v over ∷ h) = values h
values (ends ∷ h) = values h

-- one step, from zero
unfoldable pub one_step : (ℕ → Bool) → Tables → List Act → List Happening
one_step early t ws = happens early t (begin t) (time 0 ∷ (ws ++ step_end ∷ []))

-- "ids 2, 3 .. vector 1 (min 2, max 3, two-state)"
unfoldable pub example : Tables
example = record { vector = λ i. cond (leb 2 i && leb i 3) 1 0; min = λ v. 2; max = λ v. 3 }

-- "on ids 2, 3 above, each in one step from zero, writes 3=1, 3=0 give 01, 00; 3=1, 3=1 give one 01; 3=1, 2=1, 2=1 give 03, 03"
pub record GatheringRows : Type 0 where
  pub rewrite : values (one_step acts_early example (write 3 1 0 ∷ write 3 0 1 ∷ [])) ≡ (0, 0x01 ∷ []) ∷ (0, 0x00 ∷ []) ∷ []
  pub repeat : values (one_step acts_early example (write 3 1 0 ∷ write 3 1 1 ∷ [])) ≡ (0, 0x01 ∷ []) ∷ []
  pub full : values (one_step acts_early example (write 3 1 0 ∷ write 2 1 1 ∷ write 2 1 2 ∷ [])) ≡ (0, 0x03 ∷ []) ∷ (0, 0x03 ∷ []) ∷ []

-- ---- rows beyond 01's own

-- ids from `first` on in vectors of width w
unfoldable pub vectors_from : (first w : ℕ) → Tables
vectors_from first w = record { vector = λ i. cond (leb first i) (suc ((i - first) / w)) 0; min = λ v. first + v * w; max = λ v. first + v * w + w - 1 }

-- ids 2, 3 and ids 4, 5
unfoldable pub pairs : Tables
pairs = vectors_from 2 2

-- ids 1 to 9
unfoldable pub nine : Tables
nine = vectors_from 1 9

-- every bit of the nine is written
unfoldable pub all_nine : List Act
all_nine = write 1 1 0 ∷ write 2 1 1 ∷ write 3 1 2 ∷ write 4 1 3 ∷ write 5 1 4 ∷ write 6 1 5 ∷ write 7 1 6 ∷ write 8 1 7 ∷ write 9 1 8 ∷ []

-- the first vector is written first and last
unfoldable pub around : List Act
around = write 3 1 0 ∷ write 5 1 1 ∷ write 3 1 2 ∷ []

-- each number once, where it stands last: the mistaken order
unfoldable pub lasts : List ℕ → List ℕ
lasts [] = []
lasts (v ∷ vs) = cond (elem v vs) (lasts vs) (v ∷ lasts vs)

pub record Rows : Type 0 where
  -- "in order of its first write in the step", not of its latest
  pub order : labels (one_step acts_early pairs around) ≡ 0 ∷ 1 ∷ []
  pub not_by_latest : labels (one_step acts_early pairs around) ≢ lasts (written pairs around)
  -- "early events notwithstanding": an event by rule (a), and one by rule (c), of the vector written first
  pub order_after_a : values (one_step acts_early pairs (write 3 1 0 ∷ write 5 1 1 ∷ write 3 0 2 ∷ [])) ≡ (0, 0x01 ∷ []) ∷ (0, 0x00 ∷ []) ∷ (1, 0x01 ∷ []) ∷ []
  pub order_after_c : values (one_step acts_early pairs (write 3 1 0 ∷ write 5 1 1 ∷ write 2 1 2 ∷ write 2 1 3 ∷ [])) ≡ (0, 0x03 ∷ []) ∷ (0, 0x03 ∷ []) ∷ (1, 0x01 ∷ []) ∷ []
  -- "Rule (c) never acts on widths such as 9 or 12": no event before the end, and a mended rule makes one
  pub nine_waits : labels (happens acts_early nine (begin nine) (time 0 ∷ all_nine)) ≡ []
  pub nine_ends : values (one_step acts_early nine all_nine) ≡ (0, 0x01 ∷ 0xff ∷ []) ∷ []
  pub not_mended : labels (happens acts_early nine (begin nine) (time 0 ∷ all_nine)) ≢ labels (happens (λ w. true) nine (begin nine) (time 0 ∷ all_nine))
  -- "Bit number is max id minus id", so the min id has the highest bit
  pub max_id : values (one_step acts_early example (write 3 1 0 ∷ [])) ≡ (0, 0x01 ∷ []) ∷ []
  pub min_id : values (one_step acts_early example (write 2 1 0 ∷ [])) ≡ (0, 0x02 ∷ []) ∷ []
  -- a single bit makes an event with each write, by rule (c)
  pub one_bit : values (one_step acts_early (vectors_from 1 1) (write 1 1 0 ∷ write 1 1 1 ∷ write 1 0 2 ∷ [])) ≡ (0, 0x01 ∷ []) ∷ (0, 0x01 ∷ []) ∷ (0, 0x00 ∷ []) ∷ []

-- everything that the rows compute with
opened : ℕ
unfolding values one_step example vectors_from pairs nine all_nine around lasts all any fresh cleared fires clashes stored acts_early act width begin with elem list end_all bit_write to_vector toward does happens labels named written bytes_required digits bytes packed
opened = 0

pub gathering_rows : GatheringRows
unfolding opened
gathering_rows = record { rewrite = refl; repeat = refl; full = refl }

pub rows : Rows
unfolding opened
rows = record {
  order = refl;
  not_by_latest = λ e. let z : ◌≡◌ {A = ℕ} 0 1 = head-eq_of_cons-eq e in omega arith;
  order_after_a = refl;
  order_after_c = refl;
  nine_waits = refl;
  nine_ends = refl;
  not_mended = λ e. let z : ◌≡◌ {A = ℕ} 0 1 = ap length e in omega arith;
  max_id = refl;
  min_id = refl;
  one_bit = refl;
}
