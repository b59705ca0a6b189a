-- The working room that the listing lends always suffices: section reading never refuses with 6 there.
-- Assumes nothing.
use Rattle.std.proofs.Math.Path.{◌≡◌, refl, subst}
use Prim.Native.Nat.{ℕ, zero, suc, ◌+◌, ◌*◌, ◌≤◌}
use Rattle.std.specs.Prelude.{Bool, cond, ◌≢◌, List, [], ◌∷◌, ◌++◌, length, drop}
use Rattle.std.proofs.Math.Bool.{true, false}
use Rattle.std.proofs.Math.Logic.{inl, inr}
use native.Mathlib.Omega.{arith}
use borrow.Author.Tests.{le-leb, ltb-true}
use Rattle.std.proofs.Math.Dec.{ltb}
use Rattle.std.proofs.Math.ListN.{length-append}
use Rattle.slices.specs.Choice.{cond_ind}
use Rattle.states.specs.Kind.{bytes_required}
use Rattle.states.specs.declared.States.{States}
use Rattle.states.specs.declared.States.TheVariants.{Two, Nine}
use Rattle.tables.specs.Lists.{Lists, lists, signals, vectors}
use Rattle.tables.specs.Layout.{Layout, layout_of, start, widths, total_bytes}
use Rattle.tables.specs.Layout.Laws.{total_is}
use Rattle.tables.specs.Good.{Sized, Ranged}
use Rattle.tables.specs.Good.Laws.{sized, ranged, named}
use Rattle.tables.specs.Checks.{unless, lowest, and_then, check1, check2, check3, check4, check5, check6, checks}
use Rattle.tables.specs.Check.{Check}
use Rattle.tables.specs.Check as checking
use Rattle.values.specs.Value.{ordinary}
use Rattle.section_scan.specs.Sections.{scan_sections}
use Rattle.entries.specs.Entries.{read_sections}
use Rattle.entries.specs.Entries.Reads.{Why}
use Rattle.entries.specs.Entries.Scanned.{sections_scanned}
use Rattle.entries.specs.Demands.{sections_2}
use Rattle.preamble.specs.Item.{ItemFound, Signal, Vector, Sections, Refused}
use Rattle.preamble.specs.Preamble.{item_at, Opening, opens, refused, one_item, opening, preamble}
use Rattle.listing_text.specs.Listing.{lends}

-- ---- what 256 signals and 64 vectors need

chunk_most : (s : States) (w : ℕ) → 8 * (bytes_required s w + bytes_required Two w) ≤ 5 * w + 11
unfolding bytes_required
chunk_most Two w = omega arith
chunk_most Nine w = omega arith

start_most : (t : Layout) (v : ℕ) → 8 * start t v ≤ 5 * widths t v + 11 * v
unfolding start widths
start_most t zero = omega arith
start_most t (suc v) = omega (arith, start_most t v, chunk_most (t.state v) (t.width v))

flags_most : (v : ℕ) → v ≤ 64 → bytes_required Two v ≤ 8
unfolding bytes_required
flags_most v h = omega arith

-- at most as many as the preamble lets pass
pub record Few (t : Lists) : Type 0 where
  pub signals : length t.kinds ≤ 256
  pub vectors : length t.mins ≤ 64

-- ---- the checks

Early : Check → Type 0
Early checking.Passed = Unit {0}
Early (checking.Refused n p) = n ≤ 5

unless_early : (good : Bool) (n : ℕ) → n ≤ 5 → Early (unless good n)
unfolding unless Early
unless_early good n h = cond_ind good _ _ Early (λ e. tt) (λ e. h)

lowest_early : (n : ℕ) (good : ℕ → Bool) (count i : ℕ) → n ≤ 5 → Early (lowest n good count i)
unfolding lowest Early
lowest_early n good zero i h = tt
lowest_early n good (suc count) i h = cond_ind (good i) _ _ Early (λ e. lowest_early n good count (suc i) h) (λ e. h)

then_early : (c d : Check) → Early c → (c ≡ checking.Passed → Early d) → Early (and_then c d)
unfolding and_then Early
then_early checking.Passed d a f = f refl
then_early (checking.Refused n p) d a f = a

module _ (t : Lists) (few : Few t) where
  six_passes : Sized t → Ranged t → check5 t ≡ checking.Passed → Early (check6 t 264 64)
  unfolding check6 unless Early vectors
  six_passes z r e =
      let n = named t z r e in
      let bytes : total_bytes (layout_of t) ≤ 264 = omega (arith, total_is t, start_most (layout_of t) (length t.mins), flags_most (length t.mins) few.vectors, n.narrow, few.signals, few.vectors) in
      rw (le-leb (total_bytes (layout_of t)) 264 bytes, le-leb (length t.mins) 64 few.vectors) tt

  checks_early : (input events values : ℕ) → Early (checks t input events values 264 64)
  unfolding checks check1 check2 check3 check4 check5
  checks_early input events values =
      then_early (check1 input events values 264 64) _ (unless_early _ 1 (omega arith))
      (λ _. then_early (check2 t) _ (unless_early _ 2 (omega arith))
      (λ e₂. then_early (check3 t) _ (lowest_early 3 _ _ 1 (omega arith))
      (λ e₃. then_early (check4 t) _ (lowest_early 4 _ _ 1 (omega arith))
      (λ _. then_early (check5 t) _ (lowest_early 5 _ _ 1 (omega arith)) (λ e₅. six_passes (sized t e₂) (ranged t e₃) e₅)))))

  -- so section reading refuses with 6 nowhere
  pub reading_six : (flag : Bool) (s : List ℕ) → (read_sections t (ordinary flag) s lends).answer.number ≢ 6
  unfolding Early
  reading_six flag s e = go ((sections_2 t (ordinary flag) s lends).refuses (λ z. omega (arith, e, z)))
    where
      go : Why t (length s) lends (scan_sections t (ordinary flag) s) (read_sections t (ordinary flag) s lends).answer.number (read_sections t (ordinary flag) s lends).answer.place → ⊥
      go (inl c) = let h : (read_sections t (ordinary flag) s lends).answer.number ≤ 5 = subst Early c (checks_early (length s) 16384 8192) in omega (arith, e)
      go (inr (c, inl (f, o))) = let h = (sections_scanned t (ordinary flag) s).number _ _ f in omega (arith, e, h.0)
      go (inr (c, inr (x, o))) = omega (arith, e, x)

-- ---- the preamble

module _ (s : List ℕ) (t' : Lists) (flag : Bool) (at : ℕ) where
  abbrev Opens : Opening → Type 0
  Opens o = o ≡ opens t' flag at

  one_few : (t : Lists) (i : ℕ) (n : ItemFound) (more : Lists → ℕ → Opening) → ((u : Lists) (j : ℕ) → Opens (more u j) → Few u → Few t') → Opens (one_item t i n more) → Few t → Few t'
  unfolding one_item signals vectors
  one_few t i (Signal k r v j) more f e h = by (ltb (length t.kinds) 256) refl e
    where
      by : (b : Bool) → ltb (length t.kinds) 256 ≡ b → Opens (cond b (more (lists (t.kinds ++ (k ∷ [])) (t.refs ++ (r ∷ [])) (t.vecs ++ (v ∷ [])) t.mins t.maxs t.states t.vec_refs) j) (refused 2 i)) → Few t'
      by true b e = f _ _ e (record { signals = rw length-append (omega (arith, ltb-true (length t.kinds) 256 b)); vectors = h.vectors })
      by false b e = let z : ◌≡◌ {A = ℕ} 0 1 = cc in absurd (omega arith)
  one_few t i (Vector a b c r j) more f e h = by (ltb (length t.mins) 64) refl e
    where
      by : (d : Bool) → ltb (length t.mins) 64 ≡ d → Opens (cond d (more (lists t.kinds t.refs t.vecs (t.mins ++ (a ∷ [])) (t.maxs ++ (b ∷ [])) (t.states ++ (c ∷ [])) (t.vec_refs ++ (r ∷ []))) j) (refused 2 i)) → Few t'
      by true d e = f _ _ e (record { signals = h.signals; vectors = rw length-append (omega (arith, ltb-true (length t.mins) 64 d)) })
      by false d e = let z : ◌≡◌ {A = ℕ} 0 1 = cc in absurd (omega arith)
  one_few t i (Sections g j) more f e h = let q : t ≡ t' = cc in subst Few q h
  one_few t i (Refused n p) more f e h = let z : ◌≡◌ {A = ℕ} 0 1 = cc in absurd (omega arith)

  few_opening : (fuel : ℕ) (t : Lists) (i : ℕ) → Opens (opening s fuel t i) → Few t → Few t'
  unfolding opening
  few_opening zero t i e h = let z : ◌≡◌ {A = ℕ} 0 1 = cc in absurd (omega arith)
  few_opening (suc fuel) t i e h = one_few t i (item_at s i) (λ u j. opening s fuel u j) (λ u j d g. few_opening fuel u j d g) e h

  pub few_tables : Opens (preamble s) → Few t'
  unfolding preamble
  few_tables e = few_opening (length s) _ 0 e (record { signals = omega arith; vectors = omega arith })

  -- the listing never prints 6 for its sections
  pub never_six : Opens (preamble s) → (read_sections t' (ordinary flag) (drop at s) lends).answer.number ≢ 6
  never_six e = reading_six t' (few_tables e) flag (drop at s)
