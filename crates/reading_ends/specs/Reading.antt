-- How a reading begins and ends, and what the proofs of the functions that begin and end it search.
-- Assumes nothing.
use Rattle.std.specs.Prelude.{◌≡◌, ℕ, ◌≤◌, List, length, take, replicate}
use Rattle.std.proofs.Common.{subst, ◌∙◌}
use Rattle.std.proofs.lemmas.List.{length-replicate}
use Rattle.vecstarts.specs.Numbers.{Shapes, layout_from, filled}
use Rattle.gather.specs.declared.Gathered.{Gathered}
use Rattle.gather.specs.declared.Part.{Part}
use Rattle.gather.specs.declared.Part.TheVariants.{Went, Out}
use Rattle.answers.specs.Outcome.{Outcome, accepted, refused, Left, Lent, leaves}
use Rattle.left_buffers.specs.Left.{Used, used_whole, Ready}

-- the numbers after `fill_starts`
module _ (list : List ℕ) {list₁ : List ℕ} (z : list₁ ≡ replicate (length list) 0) where
  pub started : (mins maxs states : List ℕ) {list' : List ℕ} → list' ≡ filled (layout_from mins maxs states) list₁ (length mins)
      → list' ≡ filled (layout_from mins maxs states) (replicate (length list) 0) (length mins)
  started mins maxs states e = e ∙ rw z

  pub ask_fill : {mins maxs states : List ℕ} → Shapes mins maxs states → length mins ≤ length list → Shapes mins maxs states × (length mins ≤ length list₁)
  ask_fill s h = (s, rw (z, length-replicate) h)

pub ruleset start_laws = (used_whole, started, ask_fill)

-- ---- the end of a reading

-- how the code ended: the first bytes of the two rooms are reported
unfoldable pub ended_at : (events values : List ℕ) → Part → Outcome
ended_at events values (Went i c) = accepted i (take c.counts.events events) (take c.counts.values values) c.counts.steps
ended_at events values (Out n p) = refused n p

-- what was written lies within the two rooms
abbrev pub Within : (events values : List ℕ) → Part → Type 0
Within events values (Went i c) = (c.counts.events ≤ length events) × (c.counts.values ≤ length values)
Within events values (Out number place) = Unit {0}

pub record Finish (n v : ℕ) (room list events values : List ℕ) (x : Part) : Type 0 where
  pub used : Used n v room list
  pub within : Within events values x

module _ {n v : ℕ} {room list events values : List ℕ} {x : Part} (f : Finish n v room list events values x) where
  pub finish_ready : {i : ℕ} {c : Gathered} → x ≡ Went i c → Ready n v room list events values c.counts
  finish_ready e = let w = subst (Within events values) e f.within in record { used = f.used; in_events = w.0; in_values = w.1 }

module _ (events values : List ℕ) (l : Lent) {x : Part} {y : Left} where
  pub finish_went : {i : ℕ} {c : Gathered} → x ≡ Went i c → y ≡ leaves l (accepted i (take c.counts.events events) (take c.counts.values values) c.counts.steps) → y ≡ leaves l (ended_at events values x)
  unfolding ended_at
  finish_went e h = rw e h

  pub finish_out : {n p : ℕ} → x ≡ Out n p → {q : ℕ} → q ≡ p → y ≡ leaves l (refused n q) → y ≡ leaves l (ended_at events values x)
  unfolding ended_at
  finish_out e q h = rw e (rw q at h)

pub ruleset finish_laws = (finish_ready, finish_went, finish_out)

-- what a reading leaves that used the first n bytes and the first v numbers
pub record Ended (n v : ℕ) (room list events values : List ℕ) (x : Part) (o : Outcome) : Type 0 where
  pub finish : Finish n v room list events values x
  pub is : ended_at events values x ≡ o
